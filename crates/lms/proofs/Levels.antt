-- A level that is climbed, and the levels that are left.
use Rattle.std.proofs.Common.{◌≡◌, ℕ, suc, ◌+◌, ◌-◌, ◌*◌, ◌/◌, ◌<◌, List, drop, ap, ◌∙◌, arith}
use Rattle.std.proofs.lemmas.List.{drop-drop}
use Rattle.octets.specs.Parts.{cut}
use Rattle.lms.specs.Lms as Lms

pub climb_none : (H : List ℕ → List ℕ) (I : List ℕ) (n r : ℕ) (t path : List ℕ) → n ≡ 0 → Lms.climb H I n r t path ≡ t
unfolding Lms.climb
climb_none H I n r t path e = ap (λ k. Lms.climb H I k r t path) e

pub climb_more : (H : List ℕ → List ℕ) (I : List ℕ) (n k r : ℕ) (t path : List ℕ) → k < n
    → Lms.climb H I (n - k) r t (drop (32 * k) path) ≡ Lms.climb H I (n - (k + 1)) (r / 2) (Lms.above H I r t (cut (32 * k) 32 path)) (drop (32 * (k + 1)) path)
unfolding Lms.climb
climb_more H I n k r t path l =
    let e : n - k ≡ suc (n - (k + 1)) = omega arith in
    let f : 32 * k + 32 ≡ 32 * (k + 1) = omega arith in
    ap (λ v. Lms.climb H I v r t (drop (32 * k) path)) e
    ∙ ap (Lms.climb H I (n - (k + 1)) (r / 2) (Lms.above H I r t (cut (32 * k) 32 path))) (drop-drop 32 (32 * k) path ∙ ap (λ v. drop v path) f)
