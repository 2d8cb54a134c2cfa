-- What was written of an answer.
use Rattle.std.specs.Prelude.{◌≡◌, ℕ, Bool, false, List, ◌++◌, Ok, Err, Result}
use Rattle.std.specs.declared.alloc.AllocError.{AllocError}

-- the bytes, and whether none is missing for want of memory
pub record Written : Type 0 where
  pub text : List ℕ
  pub whole : Bool

-- the bytes stand behind those that were there, or memory ran out, and the answer is not whole from then on
abbrev pub Writes : Written → Written → List ℕ → Result (Unit {0}) AllocError → Type 0
Writes old new bytes (Ok u) = (new.whole ≡ old.whole) × (new.text ≡ old.text ++ bytes)
Writes old new bytes (Err e) = new.whole ≡ false
