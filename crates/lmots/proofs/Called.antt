-- Arrays that a closure makes number by number, where each call leaves the closure as it was.
use Rattle.std.proofs.Common.{◌≡◌, ℕ, zero, suc, ◌+◌, ◌<◌, ◌≤◌, List, length, get_or, sym, subst, ⊎_elim, arith}
use Rattle.std.proofs.lemmas.Bool.{cases_lt}
use Rattle.std.specs.Array.{IsFromFnResult, IsFromFnResultFrom}
use Rattle.std.specs.Fn.{Called}
use denote.Param.Members.{Mut}
use Rattle.sha256.specs.Lane.{lane}
use Rattle.sha256.proofs.Rounds.{lane_is}

-- what each call gives at its number stands at that place
pub each_called : {F B : Type 0} (g : Mut F (ℕ × Unit {0}) B) (P : ℕ → B → Type 0) (f : F) (ys : List B) (d : B) (n : ℕ)
    → ((i : ℕ) (y : B) (q : F) → i < n → Called g f (i, tt) y q → (q ≡ f) × P i y) → IsFromFnResult g f ys n
    → (i : ℕ) → i < n → P i (get_or ys i d)
each_called {F} {B} g P f ys d n h made i l = walk n 0 (omega arith) made.each i (omega arith) l
  where
    walk : (m j : ℕ) → j + m ≡ n → IsFromFnResultFrom g f ys j m → (k : ℕ) → j ≤ k → k < n → P k (get_or ys k d)
    walk zero j e calls k lo hi = absurd (omega arith)
    walk (suc m) j e (q, y, at, call, rest) k lo hi =
        let now = h j y q (omega arith) call in
        ⊎_elim
        (λ (a : j < k). walk m (j + 1) (omega arith) (subst (λ v. IsFromFnResultFrom g v ys (j + 1) m) now.0 rest) k (omega arith) hi)
        (λ (a : k ≤ j). let same : j ≡ k = omega arith in subst (λ v. P v (get_or ys v d)) same (subst (P j) (sym (at.1 d)) now.1))
        (cases_lt j k)

-- a lane of eight words, from what each call gives
pub lane_called : {F W : Type 0} (g : Mut F (ℕ × Unit {0}) W) (at : W → ℕ → ℕ) (j : ℕ) (f : F) (vs : List W) (xs : List ℕ) → length xs ≡ 8
    → ((i : ℕ) (v : W) (q : F) → i < 8 → Called g f (i, tt) v q → (q ≡ f) × (at v j ≡ get_or xs i 0)) → IsFromFnResult g f vs 8
    → lane at j vs ≡ xs
lane_called g at j f vs xs h made calls =
    let hv : length vs ≡ 8 = calls.long in
    lane_is at j vs xs (omega (arith, hv, h)) (λ i d l. each_called g (λ n v. at v j ≡ get_or xs n 0) f vs d 8 made calls i (omega (arith, h, l)))
