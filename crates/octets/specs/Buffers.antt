-- Buffers, and what is written into them.
use Rattle.std.specs.Prelude.{ℕ, Bool, true, ◌&&◌, List, [], ◌∷◌, ◌++◌, length, drop, nat_lt}

-- the buffer once `part` is written at its start: what lies behind stays
abbrev pub over : List ℕ → List ℕ → List ℕ
over part buffer = part ++ drop (length part) buffer

-- each number is a byte
abbrev pub are_bytes : List ℕ → Bool
are_bytes [] = true
are_bytes (x ∷ xs) = nat_lt x 256 && are_bytes xs
