-- Node 1, as the code works it out.
use Rattle.std.proofs.Common.{◌≡◌, ℕ, ◌+◌, ◌^◌, List, ap, ◌∙◌}
use Rattle.lmots.specs.LmOts.{yielded}
use Rattle.lms.specs.Lms.{leaf, root, climb}

-- node 1, step by step
pub rooted : (H : List ℕ → List ℕ) (I J k b top m parts path path' : List ℕ) (h h' q r : ℕ) → J ≡ I → k ≡ yielded H J q m parts → r ≡ 2 ^ h + q → h' ≡ h → path' ≡ path
    → b ≡ leaf H J r k → top ≡ climb H J h' r b path' → top ≡ root H h I q m parts path
unfolding root
rooted H I J k b top m parts path path' h h' q r eI ek er eh ep eb et =
    et ∙ ap (λ v. climb H J v r b path') eh ∙ ap (climb H J h r b) ep ∙ ap (λ v. climb H J h r v path) (eb ∙ ap (leaf H J r) ek)
    ∙ ap (λ v. climb H J h v (leaf H J v (yielded H J q m parts)) path) er
    ∙ ap (λ v. climb H v h (2 ^ h + q) (leaf H v (2 ^ h + q) (yielded H v q m parts)) path) eI
