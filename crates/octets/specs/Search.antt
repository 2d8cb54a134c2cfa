-- Looking for a byte.
use Rattle.std.specs.Prelude.{ℕ, suc, cond, List, [], ◌∷◌, ◌==◌}

-- how many bytes come before the first c
abbrev pub up_to : ℕ → List ℕ → ℕ
up_to c [] = 0
up_to c (x ∷ xs) = cond (x == c) 0 (suc (up_to c xs))
