-- A step that the code takes, and the steps that are left.
use Rattle.std.proofs.Common.{◌≡◌, ℕ, zero, suc, ◌+◌, ◌-◌, ◌*◌, ◌/◌, ◌%◌, ◌<◌, ◌≤◌, List, [], ◌∷◌, ◌++◌, ap, ◌∙◌, arith}
use Rattle.octets.specs.Numbers.{u8, u16, u32}
use Rattle.lmots.specs.LmOts.{step, steps}

-- where n steps are wanted and k are taken: none is left, or one more can be taken
pub none : (H : List ℕ → List ℕ) (I : List ℕ) (q i n k j : ℕ) (t : List ℕ) → n ≤ k → steps H I q i (n - k) j t ≡ t
unfolding steps
none H I q i n k j t h = let e : n - k ≡ zero = omega arith in ap (λ m. steps H I q i m j t) e

pub first : (H : List ℕ → List ℕ) (I : List ℕ) (q i n k j : ℕ) (t : List ℕ) → k < n → steps H I q i (n - k) j t ≡ steps H I q i (n - (k + 1)) (j + 1) (step H I q i j t)
unfolding steps
first H I q i n k j t h = let e : n - k ≡ suc (n - (k + 1)) = omega arith in ap (λ m. steps H I q i m j t) e

tag : (i j x : ℕ) → i < 65536 → j < 256 → x ≡ i * 256 + j → (x / 65536 % 256) ∷ (x / 256 % 256) ∷ (x % 256) ∷ [] ≡ u16 i ++ u8 j
tag i j x hi hj e =
    let a : x / 65536 % 256 ≡ i / 256 % 256 = omega arith in
    let b : x / 256 % 256 ≡ i % 256 = omega arith in
    let c : x % 256 ≡ j % 256 = omega arith in
    cc

-- what the code hashes is a step
pub is_step : (H : List ℕ → List ℕ) (I : List ℕ) (q i j x : ℕ) (r t : List ℕ) → i < 65536 → j < 256 → x ≡ i * 256 + j
    → r ≡ H (I ++ (u32 q ++ ((x / 65536 % 256) ∷ (x / 256 % 256) ∷ (x % 256) ∷ t))) → r ≡ step H I q i j t
unfolding step
is_step H I q i j x r t hi hj e h = h ∙ ap (λ xs. H (I ++ (u32 q ++ (xs ++ t)))) (tag i j x hi hj e)
