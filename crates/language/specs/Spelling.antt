-- The bytes that a word stands for.
use Rattle.std.specs.Prelude.{◌≡◌, ℕ, Bool, cond, ◌&&◌, List, length, drop, Some, None, Ok, Err, vec_items, Option, Result, Vec, ◌==◌, nat_le, slice_index}
use Rattle.octets.specs.Hex.{is_hex, unhex}
use Rattle.language.specs.declared.mistake.Mistake.TheVariants.{NotHexadecimal}
use Rattle.language.specs.declared.mistake.Trouble.{Trouble}
use Rattle.language.specs.declared.mistake.Trouble.TheVariants.{Script, Memory}

-- it begins with x:
abbrev pub is_coded : List ℕ → Bool
is_coded w = nat_le 2 (length w) && (slice_index w 0 == 0x78 && slice_index w 1 == 0x3a)

-- the bytes whose hexadecimal the digits are, if they are any's
abbrev pub coded_by : List ℕ → Option (List ℕ)
coded_by s = cond (is_hex s) (Some (unhex s)) None

-- its own bytes, or those that it gives in hexadecimal behind x:
abbrev pub meant : List ℕ → Option (List ℕ)
meant w = cond (is_coded w) (coded_by (drop 2 w)) (Some w)

-- the bytes that were given are those that are meant, or there are none for want of hexadecimal or of memory
abbrev pub Gives : {A : Type 0} → Option (List ℕ) → Result (Vec ℕ A) Trouble → Type 0
Gives bytes (Ok v) = bytes ≡ Some (vec_items v)
Gives bytes (Err (Script m)) = (m ≡ NotHexadecimal) × (bytes ≡ None)
Gives bytes (Err (Memory e)) = Unit {0}

-- the bytes that a word stands for
abbrev pub IsSpelling : {A : Type 0} → List ℕ → Result (Vec ℕ A) Trouble → Type 0
IsSpelling w r = Gives (meant w) r
