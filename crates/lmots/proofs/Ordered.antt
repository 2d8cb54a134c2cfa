-- Runs put down one after another, and then in another order.
use Rattle.std.proofs.Common.{◌≡◌, ℕ, ◌+◌, ◌<◌, ◌≢◌, List, length, get_or, set, sym, ap, ◌∙◌, subst, arith, get_or-set_other, get_or-set_same, below_more}
use Rattle.std.specs.List.Sorted.{IsPermutation}
use Rattle.std.specs.List.{ContainsAt as Has}
use Rattle.std.proofs.ByRecursion.{All-get_or, All-from_get_or, has_get_or, all_shuffled, has_shuffled}
use Rattle.std.proofs.lemmas.List.Sorted.{length_permutation}

-- one more is put down at its place
pub set_more : {X : Type 0} (Q : X → ℕ → Type 0) (xs : List X) (i : ℕ) (x d : X) → i < length xs → ((k : ℕ) → k < i → Q (get_or xs k d) k) → Q x i
    → (k : ℕ) → k < i + 1 → Q (get_or (set xs i x) k d) k
set_more Q xs i x d l below here =
    below_more (λ k. Q (get_or (set xs i x) k d) k) i
    (λ k h. let ne : k ≢ i = omega arith in subst (λ y. Q y k) (sym (get_or-set_other xs i k x d ne)) (below k h))
    (subst (λ y. Q y i) (sym (get_or-set_same xs i x d l)) here)

-- what holds of each holds of each in any order
pub each_shuffled : {X : Type 0} (P : X → Type 0) (xs ys : List X) (d : X) (n : ℕ) → length xs ≡ n → IsPermutation xs ys → ((k : ℕ) → k < n → P (get_or xs k d))
    → (p : ℕ) → p < n → P (get_or ys p d)
each_shuffled P xs ys d n e sh h p l =
    let s = length_permutation xs ys sh in
    All-get_or P ys p d (omega arith) (all_shuffled P xs ys sh (All-from_get_or P xs d (λ k m. h k (omega arith))))

-- each stands somewhere in any order
pub found_shuffled : {X : Type 0} (f : X → ℕ) (xs ys : List X) (d : X) (n : ℕ) → length xs ≡ n → IsPermutation xs ys → ((k : ℕ) → k < n → f (get_or xs k d) ≡ k)
    → (i : ℕ) → i < n → (p : ℕ) × (p < n) × (f (get_or ys p d) ≡ i)
found_shuffled f xs ys d n e sh h i l =
    let s = length_permutation xs ys sh in
    let found : Has ys (get_or xs i d) = has_shuffled xs ys (get_or xs i d) sh (has_get_or xs i d (omega arith)) in
    let lt : found.0 < length ys = found.1 in
    (found.0, omega arith, ap f (found.2 d) ∙ h i l)
