-- Steps of a chain, one after another.
use Rattle.std.specs.Prelude.{◌≡◌, ℕ, zero, suc, ◌+◌, ◌-◌, ◌≤◌, List}
use Rattle.std.proofs.Common.{sym, ap, ◌∙◌, arith}
use Rattle.lmots.specs.LmOts.{step, steps, through}

-- m steps and then n steps
pub joined : (H : List ℕ → List ℕ) (I : List ℕ) (q i m n j : ℕ) (t : List ℕ) → steps H I q i (m + n) j t ≡ steps H I q i n (j + m) (steps H I q i m j t)
unfolding steps
joined H I q i zero n j t =
    let e : zero + n ≡ n = omega arith in
    let f : j ≡ j + zero = omega arith in
    ap (λ k. steps H I q i k j t) e ∙ ap (λ k. steps H I q i n k t) f
joined H I q i (suc m) n j t =
    let e : suc m + n ≡ suc (m + n) = omega arith in
    let f : j + 1 + m ≡ j + suc m = omega arith in
    ap (λ k. steps H I q i k j t) e ∙ joined H I q i m n (j + 1) (step H I q i j t)
    ∙ ap (λ k. steps H I q i n k (steps H I q i m (j + 1) (step H I q i j t))) f

-- steps 0 to a - 1 and then a to b - 1 are steps 0 to b - 1
pub onward : (H : List ℕ → List ℕ) (I : List ℕ) (q i a b : ℕ) (t : List ℕ) → a ≤ b → through H I q i a b (through H I q i 0 a t) ≡ through H I q i 0 b t
onward H I q i a b t h =
    let e : a + (b - a) ≡ b - 0 = omega arith in
    let f : 0 + a ≡ a = omega arith in
    let g : a - 0 ≡ a = omega arith in
    ap (λ k. steps H I q i (b - a) a (steps H I q i k 0 t)) g
    ∙ ap (λ k. steps H I q i (b - a) k (steps H I q i a 0 t)) (sym f)
    ∙ sym (joined H I q i a (b - a) 0 t) ∙ ap (λ k. steps H I q i k 0 t) e
