-- Vectors of four lanes, and the words of each lane.
use Rattle.std.proofs.Common.{◌≡◌, ℕ, zero, suc, ◌<◌, List, [], ◌∷◌, length, get_or, refl, arith}
use Rattle.std.proofs.lemmas.List.FromFn.{fill_by_all}

-- what holds at the four lanes
pub below4 : (P : ℕ → Type 0) → P 0 → P 1 → P 2 → P 3 → (j : ℕ) → j < 4 → P j
below4 P a b d e zero h = a
below4 P a b d e (suc zero) h = b
below4 P a b d e (suc (suc zero)) h = d
below4 P a b d e (suc (suc (suc zero))) h = e
below4 P a b d e (suc (suc (suc (suc j)))) h = absurd (omega arith)

-- a vector, lane by lane
pub listed4 : (xs : List ℕ) → length xs ≡ 4 → xs ≡ get_or xs 0 0 ∷ get_or xs 1 0 ∷ get_or xs 2 0 ∷ get_or xs 3 0 ∷ []
listed4 xs h = fill_by_all (λ k. get_or xs k 0) xs 4 0 h (λ k l. refl)
