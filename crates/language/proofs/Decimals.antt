-- Reading a number, one digit on.
use Rattle.std.proofs.Common.{◌≡◌, ℕ, ◌+◌, ◌-◌, ◌*◌, ◌^◌, ◌<◌, ◌≤◌, Bool, true, false, cond, ◌&&◌, ltb, List, [], ◌∷◌, Some, None, refl, ap, ◌∙◌, ⊎_elim, arith}
use Rattle.std.proofs.lemmas.Bool.{cases_Bool, cases_lt, lt-ltb, le-ltb}
use Rattle.language.specs.Numbers.{is_digit, are_digits, value_from, number_from}

-- a number grows by its digits
value_grows : (n : ℕ) (w : List ℕ) → n ≤ value_from n w
value_grows n [] = omega arith
value_grows n (c ∷ w) = omega (arith, value_grows (n * 10 + (c - 48)) w)

pub number_end : (n : ℕ) → n < 2 ^ 64 → number_from n [] ≡ Some n
number_end n h = ap (λ b. cond b (Some n) None) (lt-ltb n (2 ^ 64) h)

pub number_on : (n c : ℕ) (w : List ℕ) → is_digit c ≡ true → number_from n (c ∷ w) ≡ number_from (n * 10 + (c - 48)) w
number_on n c w d =
    let m = n * 10 + (c - 48) in
    ap (λ b. cond ((b && are_digits w) && ltb (value_from m w) (2 ^ 64)) (Some (value_from m w)) None) d

no_digit : (n c : ℕ) (w : List ℕ) → is_digit c ≡ false → number_from n (c ∷ w) ≡ None
no_digit n c w d =
    let m = n * 10 + (c - 48) in
    ap (λ b. cond ((b && are_digits w) && ltb (value_from m w) (2 ^ 64)) (Some (value_from m w)) None) d

too_large : (n : ℕ) (w : List ℕ) → 2 ^ 64 ≤ n → number_from n w ≡ None
too_large n w h =
    let g = value_grows n w in
    let l : 2 ^ 64 ≤ value_from n w = omega arith in
    ap (λ b. cond (are_digits w && b) (Some (value_from n w)) None) (le-ltb (value_from n w) (2 ^ 64) l)
    ∙ go (are_digits w)
  where
    go : (b : Bool) → cond (b && false) (Some (value_from n w)) None ≡ None
    go true = refl
    go false = refl

pub number_stops : (n c : ℕ) (w : List ℕ) → ((is_digit c ≡ true) × (n * 10 + (c - 48) < 2 ^ 64) → ⊥) → number_from n (c ∷ w) ≡ None
number_stops n c w h = ⊎_elim
    (λ d. ⊎_elim (λ l. absurd (h (d, l))) (λ g. number_on n c w d ∙ too_large (n * 10 + (c - 48)) w g) (cases_lt (n * 10 + (c - 48)) (2 ^ 64)))
    (λ d. no_digit n c w d)
    (cases_Bool (is_digit c))
