-- Chains in lanes: what a lane takes up, and how it goes on.
use Rattle.std.proofs.Common.{◌≡◌, ℕ, ◌+◌, ◌-◌, ◌*◌, ◌/◌, ◌%◌, ◌^◌, ◌<◌, ◌≤◌, cond, ltb, List, ◌∷◌, ◌++◌, sym, ap, ◌∙◌, ⊎_elim, arith}
use lib.Lanes.{top}
use Rattle.std.proofs.lemmas.Bool.{cases_lt, lt-ltb, le-ltb}
use Rattle.octets.specs.Numbers.{u32}
use Rattle.lmots.specs.LmOts.{step, steps}
use Rattle.lmots.proofs.Stepping.{none, first, is_step}

-- a lane is taken where k is below s, and kept elsewhere
pub taken : (k s new old : ℕ) → k < s → cond (top 31 (cond (ltb k s) 4294967295 0)) new old ≡ new
taken k s new old h = ap (λ b. cond (top 31 (cond b 4294967295 0)) new old) (lt-ltb k s h)

pub left : (k s new old : ℕ) → s ≤ k → cond (top 31 (cond (ltb k s) 4294967295 0)) new old ≡ old
left k s new old h = ap (λ b. cond (top 31 (cond b 4294967295 0)) new old) (le-ltb k s h)

-- a lane that has k of its n steps behind it takes one more, or keeps its value where none is left
pub lane_on : (H : List ℕ → List ℕ) (I : List ℕ) (q i a n k tags tag : ℕ) (t next now s : List ℕ) → i < 65536 → a + n ≤ 255 → tags ≡ i * 256 + a → tag ≡ (tags + k) % 2 ^ 32
    → next ≡ H (I ++ (u32 q ++ ((tag / 65536 % 256) ∷ (tag / 256 % 256) ∷ (tag % 256) ∷ t))) → (k < n → now ≡ next) → (n ≤ k → now ≡ t)
    → steps H I q i (n - k) (a + k) t ≡ s → steps H I q i (n - (k + 1)) (a + (k + 1)) now ≡ s
lane_on H I q i a n k tags tag t next now s hi hn ht hk hx going done inv =
    ⊎_elim
    (λ (l : k < n).
    let e : tag ≡ i * 256 + (a + k) = omega arith in
    let f : a + (k + 1) ≡ a + k + 1 = omega arith in
    let moved : now ≡ step H I q i (a + k) t = going l ∙ is_step H I q i (a + k) tag next t hi (omega arith) e hx in
    ap (λ j. steps H I q i (n - (k + 1)) j now) f ∙ ap (steps H I q i (n - (k + 1)) (a + k + 1)) moved
    ∙ sym (first H I q i n k (a + k) t l) ∙ inv)
    (λ (l : n ≤ k).
    none H I q i n (k + 1) (a + (k + 1)) now (omega arith) ∙ done l ∙ sym (none H I q i n k (a + k) t l) ∙ inv)
    (cases_lt k n)
