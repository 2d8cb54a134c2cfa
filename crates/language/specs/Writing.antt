-- What a call writes behind an answer.
use Rattle.std.specs.Prelude.{◌≡◌, ℕ, Bool, false, cond, List, [], ◌∷◌, ◌++◌, codes, decimal, Result, IsErrOf}
use Rattle.std.specs.declared.alloc.AllocError.{AllocError}
use Rattle.octets.specs.Hex.{hex}
use Rattle.language.specs.Messages.{message_of}
use Rattle.language.specs.Written.{Written, Writes}
use Rattle.language.specs.declared.mistake.Trouble.{Trouble}
use Rattle.language.specs.declared.mistake.Trouble.TheVariants.{Script, Memory}

-- a text, and a line feed
abbrev pub line_of : List ℕ → List ℕ
line_of t = t ++ 0x0a ∷ []

abbrev pub yes_or_no : Bool → List ℕ
yes_or_no b = line_of (cond b (codes "yes") (codes "no"))

abbrev pub refusal : ℕ → List ℕ
refusal n = codes "refused " ++ line_of (decimal n)

abbrev pub coded : List ℕ → List ℕ
coded bytes = codes "x:" ++ line_of (hex bytes)

-- a mistake is told with the number of its line and its message; want of memory is handed on, and leaves nothing whole
abbrev pub Tells : Written → Written → ℕ → Trouble → Result (Unit {0}) AllocError → Type 0
Tells old new number (Script m) r = Writes old new (codes "line " ++ (decimal number ++ (codes ": " ++ line_of (message_of m)))) r
Tells old new number (Memory e) r = (new.whole ≡ false) × IsErrOf r e
