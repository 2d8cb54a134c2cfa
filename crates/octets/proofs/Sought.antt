-- A search for a byte.
use Rattle.std.proofs.Common.{◌≡◌, ℕ, zero, suc, get_or, Option, ◌+◌, ◌<◌, ◌≤◌, Bool, true, false, not, cond, ltb, List, [], ◌∷◌, ◌++◌, length, Some, None, is_some, unwrap_or, ◌==◌, sym, refl, ap, ◌∙◌, ⊎_elim, arith}
use Rattle.std.specs.List.{position, position_or_len}
use Rattle.std.proofs.lemmas.List.{length-append}
use Rattle.std.proofs.lemmas.Bool.{eq-eqb, eqb-true, ne_eqb, cases_lt, lt-ltb, le-ltb, both_ways}
use Rattle.memchr.specs.Find.{IsFirstByte, is_byte}
use Rattle.octets.specs.Search.{up_to}

pub up_to_here : (c x : ℕ) (xs : List ℕ) → x ≡ c → up_to c (x ∷ xs) ≡ 0
up_to_here c x xs e = ap (λ z. cond z 0 (suc (up_to c xs))) (eq-eqb x c e)

pub up_to_on : (c x : ℕ) (xs : List ℕ) → (x ≡ c → ⊥) → up_to c (x ∷ xs) ≡ suc (up_to c xs)
up_to_on c x xs n = ap (λ z. cond z 0 (suc (up_to c xs))) (ne_eqb x c n)

up_to_is : (c : ℕ) (xs : List ℕ) → up_to c xs ≡ position_or_len (λ x. x == c) xs
up_to_is c [] = refl
up_to_is c (x ∷ xs) = turn (x == c) _ _ (up_to_is c xs)
  where
    turn : (b : Bool) (m n : ℕ) → m ≡ n → cond b 0 (suc m) ≡ cond (not b) (1 + n) 0
    turn true m n e = refl
    turn false m n e = let r : suc m ≡ 1 + n = omega arith in r

up_to_le : (c : ℕ) (xs : List ℕ) → up_to c xs ≤ length xs
up_to_le c [] = omega arith
up_to_le c (x ∷ xs) = turn (x == c) _ _ (up_to_le c xs)
  where
    turn : (b : Bool) (m n : ℕ) → m ≤ n → cond b 0 (suc m) ≤ suc n
    turn true m n l = omega arith
    turn false m n l = omega arith

-- the place of the first c is how many bytes come before it, unless those are all
position_is : (c : ℕ) (xs : List ℕ) → position (λ x. x == c) xs ≡ cond (ltb (up_to c xs) (length xs)) (Some (up_to c xs)) None
position_is c xs = ap (λ k. cond (ltb k (length xs)) (Some k) None) (sym (up_to_is c xs))

module _ (c : ℕ) (xs : List ℕ) where
  there : up_to c xs < length xs → position (λ x. x == c) xs ≡ Some (up_to c xs)
  there l = position_is c xs ∙ ap (λ b. cond b (Some (up_to c xs)) None) (lt-ltb (up_to c xs) (length xs) l)

  absent : length xs ≤ up_to c xs → position (λ x. x == c) xs ≡ None
  absent l = position_is c xs ∙ ap (λ b. cond b (Some (up_to c xs)) None) (le-ltb (up_to c xs) (length xs) l)

  pub found_at : (i : ℕ) → Some i ≡ position (λ x. x == c) xs → (up_to c xs ≡ i) × (i < length xs)
  found_at i e = ⊎_elim
      (λ (l : up_to c xs < length xs). let s : up_to c xs ≡ i = ap (λ r. unwrap_or r 0) (sym (e ∙ there l)) in (s, omega arith))
      (λ (l : length xs ≤ up_to c xs). absurd (both_ways true (ap is_some (e ∙ absent l)) refl))
      (cases_lt (up_to c xs) (length xs))

  pub found_none : None ≡ position (λ x. x == c) xs → up_to c xs ≡ length xs
  found_none e = ⊎_elim
      (λ (l : up_to c xs < length xs). absurd (both_ways false refl (ap is_some (e ∙ there l))))
      (λ (l : length xs ≤ up_to c xs). omega (arith, up_to_le c xs))
      (cases_lt (up_to c xs) (length xs))

-- the first place that holds a c, and where no place does
up_to_at : (c : ℕ) (xs : List ℕ) (k : ℕ) → k < length xs → (get_or xs k 0 == c) ≡ true → ((j : ℕ) → j < k → (get_or xs j 0 == c) ≡ true → ⊥) → up_to c xs ≡ k
up_to_at c [] k h e n = absurd (omega arith)
up_to_at c (x ∷ xs) zero h e n = up_to_here c x xs (eqb-true x c e)
up_to_at c (x ∷ xs) (suc k) h e n = up_to_on c x xs (λ z. n 0 (omega arith) (eq-eqb x c z)) ∙ ap suc (up_to_at c xs k (omega arith) e (λ j l z. n (suc j) (omega arith) z))

up_to_end : (c : ℕ) (xs : List ℕ) → ((j : ℕ) → j < length xs → (get_or xs j 0 == c) ≡ true → ⊥) → up_to c xs ≡ length xs
up_to_end c [] n = refl
up_to_end c (x ∷ xs) n = up_to_on c x xs (λ z. n 0 (omega arith) (eq-eqb x c z)) ∙ ap suc (up_to_end c xs (λ j l z. n (suc j) (omega arith) z))

pub first_byte : (c : ℕ) (xs : List ℕ) (r : Option ℕ) → IsFirstByte (is_byte c) xs r → r ≡ position (λ x. x == c) xs
first_byte c xs None n = sym (absent c xs (omega (arith, up_to_end c xs (λ j l z. n j (omega arith) l z))))
first_byte c xs (Some k) h =
    let u = up_to_at c xs k h.0.high h.1 (λ j l z. h.0.before j (omega arith) l z) in
    ap Some (sym u) ∙ sym (there c xs (omega (arith, u, h.0.high)))

-- the first c of two lists joined
up_to_front : (c : ℕ) (xs ys : List ℕ) → up_to c xs < length xs → up_to c (xs ++ ys) ≡ up_to c xs
up_to_front c [] ys l = absurd (omega arith)
up_to_front c (x ∷ xs) ys l = turn (x == c) _ _ _ (up_to_front c xs ys) l
  where
    turn : (b : Bool) (m n k : ℕ) → (n < k → m ≡ n) → cond b 0 (suc n) < suc k → cond b 0 (suc m) ≡ cond b 0 (suc n)
    turn true m n k f l = refl
    turn false m n k f l = ap suc (f (omega arith))

up_to_back : (c : ℕ) (xs ys : List ℕ) → up_to c xs ≡ length xs → up_to c (xs ++ ys) ≡ length xs + up_to c ys
up_to_back c [] ys e = omega arith
up_to_back c (x ∷ xs) ys e = turn (x == c) _ _ _ _ (up_to_back c xs ys) e
  where
    turn : (b : Bool) (m n k j : ℕ) → (n ≡ k → m ≡ k + j) → cond b 0 (suc n) ≡ suc k → cond b 0 (suc m) ≡ suc k + j
    turn true m n k j f e = absurd (omega arith)
    turn false m n k j f e = omega (arith, f (omega arith))

module _ (c : ℕ) (xs ys : List ℕ) where
  pub first_in_front : (i : ℕ) → Some i ≡ position (λ x. x == c) xs → Some i ≡ position (λ x. x == c) (xs ++ ys)
  first_in_front i e =
      let f = found_at c xs i e in
      let u : up_to c (xs ++ ys) ≡ i = up_to_front c xs ys (omega arith) ∙ f.0 in
      sym (there c (xs ++ ys) (omega (arith, length-append xs ys)) ∙ ap Some u)

  module _ (e : None ≡ position (λ x. x == c) xs) where
    behind : up_to c (xs ++ ys) ≡ length xs + up_to c ys
    behind = up_to_back c xs ys (found_none c xs e)

    pub first_in_back : (i : ℕ) → Some i ≡ position (λ x. x == c) ys → Some (length xs + i) ≡ position (λ x. x == c) (xs ++ ys)
    first_in_back i g =
        let f = found_at c ys i g in
        let u : up_to c (xs ++ ys) ≡ length xs + i = omega (arith, behind, f.0) in
        sym (there c (xs ++ ys) (omega (arith, length-append xs ys, f.1)) ∙ ap Some u)

    pub first_in_none : None ≡ position (λ x. x == c) ys → None ≡ position (λ x. x == c) (xs ++ ys)
    first_in_none g = sym (absent c (xs ++ ys) (omega (arith, behind, found_none c ys g, length-append xs ys)))
