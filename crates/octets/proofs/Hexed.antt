-- Laws of hexadecimal text: its length, and that digits and bytes give each other back.
use Rattle.std.proofs.Common.{◌≡◌, ℕ, suc, ◌+◌, ◌*◌, ◌/◌, ◌%◌, ◌<◌, ◌≤◌, true, false, ◌&&◌, ltb, List, [], ◌∷◌, ◌++◌, length, get_or, take, sym, refl, ap, ◌∙◌, arith}
use Rattle.std.proofs.lemmas.Bool.Decides.{nat_tests}
use Rattle.std.proofs.lemmas.Bool.{and_parts, and_from, ltb-true, lt-ltb, both_ways}
use Rattle.std.proofs.lemmas.List.{take_all}
use Rattle.octets.specs.Buffers.{are_bytes, over}
use Rattle.octets.proofs.Overs.{over_all}
use Rattle.octets.specs.Hex.{hex_digit, hex, is_hex_digit, is_hex, hex_value, unhex}

pub digit_big : (d : ℕ) → 48 ≤ hex_digit d
digit_big d = grind (arith, nat_tests)

digit_one : (a b : ℕ) → hex_digit a ≡ hex_digit b → a ≡ b
digit_one a b e = grind (arith, nat_tests)

whole : (x y : ℕ) → x / 16 ≡ y / 16 → x % 16 ≡ y % 16 → x ≡ y
whole x y p q = omega arith

pub length-hex : (xs : List ℕ) → length (hex xs) ≡ 2 * length xs
length-hex [] = refl
length-hex (x ∷ xs) = omega (arith, length-hex xs)

-- digits end where a byte below the digits stands
pub hex_cancel : (c : ℕ) → c < 48 → (a b x y : List ℕ) → hex a ++ c ∷ x ≡ hex b ++ c ∷ y → (a ≡ b) × (x ≡ y)
hex_cancel c l [] [] x y e = (refl, (cc))
hex_cancel c l [] (k ∷ b) x y e = let z : c ≡ hex_digit (k / 16) = cc in absurd (omega (arith, digit_big (k / 16)))
hex_cancel c l (h ∷ a) [] x y e = let z : hex_digit (h / 16) ≡ c = cc in absurd (omega (arith, digit_big (h / 16)))
hex_cancel c l (h ∷ a) (k ∷ b) x y e =
    let p : hex_digit (h / 16) ≡ hex_digit (k / 16) = cc in
    let q : hex_digit (h % 16) ≡ hex_digit (k % 16) = cc in
    let r : hex a ++ c ∷ x ≡ hex b ++ c ∷ y = cc in
    let m = hex_cancel c l a b x y r in
    let s : h ≡ k = whole h k (digit_one (h / 16) (k / 16) p) (digit_one (h % 16) (k % 16) q) in
    (ap (λ z. z ∷ a) s ∙ ap (λ z. k ∷ z) m.0, m.1)

pub hex_one : (a b : List ℕ) → hex a ≡ hex b → a ≡ b
hex_one a b e = (hex_cancel 0 (omega arith) a b [] [] (ap (λ z. z ++ 0 ∷ []) e)).0

value_digit : (d : ℕ) → d < 16 → hex_value (hex_digit d) ≡ d
value_digit d h = grind (arith, nat_tests)

digit-digit : (d : ℕ) → d < 16 → is_hex_digit (hex_digit d) ≡ true
digit-digit d h = grind (arith, nat_tests)

digit_value : (c : ℕ) → is_hex_digit c ≡ true → hex_digit (hex_value c) ≡ c
digit_value c h = grind (arith, nat_tests)

value_small : (c : ℕ) → hex_value c < 16
value_small c = grind (arith, nat_tests)

pub is_hex-hex : (xs : List ℕ) → are_bytes xs ≡ true → is_hex (hex xs) ≡ true
is_hex-hex [] b = refl
is_hex-hex (x ∷ xs) b =
    let a = and_parts (ltb x 256) (are_bytes xs) b in
    let k : x < 256 = ltb-true _ _ a.0 in
    and_from _ _ (and_from _ _ (digit-digit (x / 16) (omega arith)) (digit-digit (x % 16) (omega arith))) (is_hex-hex xs a.1)

pub unhex-hex : (xs : List ℕ) → are_bytes xs ≡ true → unhex (hex xs) ≡ xs
unhex-hex [] b = refl
unhex-hex (x ∷ xs) b =
    let a = and_parts (ltb x 256) (are_bytes xs) b in
    let k : x < 256 = ltb-true _ _ a.0 in
    let p = value_digit (x / 16) (omega arith) in
    let q = value_digit (x % 16) (omega arith) in
    let v : 16 * hex_value (hex_digit (x / 16)) + hex_value (hex_digit (x % 16)) ≡ x = omega (arith, p, q) in
    ap (λ z. z ∷ unhex (hex xs)) v ∙ ap (λ z. x ∷ z) (unhex-hex xs a.1)

-- the bytes that digits stand for are written with just these digits
pub record Spells (s : List ℕ) : Type 0 where
  pub back : hex (unhex s) ≡ s
  pub small : are_bytes (unhex s) ≡ true

pub spells : (s : List ℕ) → is_hex s ≡ true → Spells s
spells [] e = record { back = refl; small = refl }
spells (x ∷ []) e = absurd (both_ways false refl e)
spells (x ∷ y ∷ s) e =
    let b = and_parts (is_hex_digit x && is_hex_digit y) (is_hex s) e in
    let a = and_parts (is_hex_digit x) (is_hex_digit y) b.0 in
    let r = spells s b.1 in
    let p = value_small x in
    let q = value_small y in
    let v = 16 * hex_value x + hex_value y in
    let d : v / 16 ≡ hex_value x = omega arith in
    let m : v % 16 ≡ hex_value y = omega arith in
    record {
      back = ap (λ z. hex_digit z ∷ hex_digit (v % 16) ∷ hex (unhex s)) d ∙ ap (λ z. hex_digit (hex_value x) ∷ hex_digit z ∷ hex (unhex s)) m
          ∙ ap (λ z. z ∷ hex_digit (hex_value y) ∷ hex (unhex s)) (digit_value x a.0) ∙ ap (λ z. x ∷ z ∷ hex (unhex s)) (digit_value y a.1) ∙ ap (λ z. x ∷ y ∷ z) r.back;
      small = and_from _ _ (lt-ltb _ _ (omega arith)) r.small;
    }

-- digits are twice as many as the bytes that they stand for
pub hex_long : (s : List ℕ) → is_hex s ≡ true → length s ≡ 2 * length (unhex s)
hex_long s e = ap length (sym (spells s e).back) ∙ length-hex (unhex s)

pub length-unhex : (s : List ℕ) → length (unhex s) ≡ length s / 2
length-unhex [] = refl
length-unhex (x ∷ []) = refl
length-unhex (x ∷ y ∷ s) = omega (arith, length-unhex s)

pub hex_push : (xs : List ℕ) (x : ℕ) → hex (xs ++ x ∷ []) ≡ hex xs ++ hex_digit (x / 16) ∷ hex_digit (x % 16) ∷ []
hex_push [] x = refl
hex_push (y ∷ xs) x = ap (λ z. hex_digit (y / 16) ∷ hex_digit (y % 16) ∷ z) (hex_push xs x)

pub bytes_from : (xs : List ℕ) → ((i : ℕ) → get_or xs i 0 < 256) → are_bytes xs ≡ true
bytes_from [] h = refl
bytes_from (x ∷ xs) h = and_from _ _ (lt-ltb _ _ (h 0)) (bytes_from xs (λ i. h (suc i)))

-- digits that fill a buffer, and bytes that do
pub hex_fills : (out bs : List ℕ) → length out ≡ 2 * length bs → over (hex (take (length out / 2) bs)) out ≡ hex bs
hex_fills out bs h =
    let e : take (length out / 2) bs ≡ bs = take_all (length out / 2) bs (omega arith) in
    ap (λ z. over (hex z) out) e ∙ over_all (hex bs) out (omega (arith, length-hex bs))

pub unhex_fills : (out s : List ℕ) → length s ≡ 2 * length out → over (take (length out) (unhex s)) out ≡ unhex s
unhex_fills out s h =
    let n = length-unhex s in
    let e : take (length out) (unhex s) ≡ unhex s = take_all (length out) (unhex s) (omega arith) in
    ap (λ z. over z out) e ∙ over_all (unhex s) out (omega arith)
