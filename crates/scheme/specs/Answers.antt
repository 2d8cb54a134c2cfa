-- A signer's answers: which refusal is given when, and its number.
use Rattle.std.specs.Prelude.{ℕ, cond, Option, Some, None, nat_le, nat_lt}
use Rattle.scheme.specs.declared.refusal.SignRefusal.{SignRefusal}
use Rattle.scheme.specs.declared.refusal.SignRefusal.TheVariants.{ShortBuffer, UsedUp}

abbrev pub sign_number : SignRefusal → ℕ
sign_number ShortBuffer = 1
sign_number UsedUp = 31

-- the refusal of a signature of `size` bytes into a buffer of `space`, with a leaf of a key that has `capacity` of
-- them; none where it is given
abbrev pub sign_refusal : ℕ → ℕ → ℕ → ℕ → Option SignRefusal
sign_refusal space size leaf capacity = cond (nat_le size space) (cond (nat_lt leaf capacity) None (Some UsedUp)) (Some ShortBuffer)
