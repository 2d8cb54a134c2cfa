-- Several hashes at once: a vector holds one word of each.
use Rattle.std.specs.Prelude.{ℕ, List, map}

-- the words of the hash j, where `at` tells the words in a vector
abbrev pub lane : {W : Type 0} → (W → ℕ → ℕ) → ℕ → List W → List ℕ
lane at j vs = map (λ v. at v j) vs
