-- One turn of the loops over hexadecimal text, and their ends.
use Rattle.std.proofs.Common.{◌≡◌, ℕ, suc, ◌+◌, ◌*◌, ◌/◌, ◌%◌, ◌<◌, ◌≤◌, min, Bool, true, false, ◌&&◌, leb, List, [], ◌∷◌, ◌++◌, length, map, get_or, take, drop, set, sym, refl, ap, ◌∙◌, ⊎_elim, arith}
use Rattle.std.specs.List.{list_all}
use Rattle.std.specs.Simd.{first_chunks}
use Rattle.std.proofs.Math.ListN.{get_or-map}
use Rattle.std.proofs.lemmas.Bool.{cases_Bool, leb-true, leb-false}
use Rattle.std.proofs.lemmas.List.{append_assoc, length-append, length-take-le, get_or-take, set_at, drop_more, take_all, take_more}
use Rattle.octets.specs.Buffers.{over}
use Rattle.octets.specs.Hex.{hex_digit, hex, is_hex_digit, is_hex, hex_value, unhex}
use Rattle.octets.proofs.Hexed.{length-hex, hex_push, length-unhex}

and_false : (b : Bool) → (b && false) ≡ false
and_false true = refl
and_false false = refl

two_on : (s : List ℕ) (k : ℕ) → k + 1 < length s → drop k s ≡ get_or s k 0 ∷ get_or s (k + 1) 0 ∷ drop (k + 1 + 1) s
two_on s k h = drop_more s k 0 (omega arith) ∙ ap (λ z. get_or s k 0 ∷ z) (drop_more s (k + 1) 0 h)

-- a list is the same up to its end, whichever bound at or past the end cuts it
pub take_min : (bs : List ℕ) (i n : ℕ) → i ≡ min (length bs) n → take i bs ≡ take n bs
take_min bs i n e = ⊎_elim
    (λ t. let h = leb-true _ _ t in take_all i bs (omega arith) ∙ sym (take_all n bs h))
    (λ f. let h = leb-false _ _ f in ap (λ z. take z bs) (omega arith))
    (cases_Bool (leb (length bs) n))

-- two bytes more are written behind those that were
put_two : (done old : List ℕ) (k x y : ℕ) → length done ≡ k → k + 1 < length old → set (set (done ++ drop k old) k x) (k + 1) y ≡ (done ++ x ∷ y ∷ []) ++ drop (k + 1 + 1) old
put_two done old k x y l h =
    let rest = drop (k + 1 + 1) old in
    let b = get_or old (k + 1) 0 in
    ap (λ z. set (set (done ++ z) k x) (k + 1) y) (two_on old k h)
    ∙ ap (λ z. set z (k + 1) y) (set_at done (get_or old k 0) (b ∷ rest) x k l ∙ sym (append_assoc done (x ∷ []) (b ∷ rest)))
    ∙ set_at (done ++ x ∷ []) b rest y (k + 1) (length-append done (x ∷ []) ∙ (omega arith))
    ∙ append_assoc done (x ∷ []) (y ∷ rest) ∙ sym (append_assoc done (x ∷ y ∷ []) rest)

module _ (out old bs : List ℕ) (i : ℕ) (inv : out ≡ hex (take i bs) ++ drop (2 * i) old) where
  pub write_more : (k x y : ℕ) → i < length bs → 2 * i + 1 < length old → k ≡ 2 * i → x ≡ hex_digit (get_or bs i 0 / 16) → y ≡ hex_digit (get_or bs i 0 % 16)
      → set (set out k x) (k + 1) y ≡ hex (take (i + 1) bs) ++ drop (2 * (i + 1)) old
  write_more k x y h l ek ex ey =
      let long : length (hex (take i bs)) ≡ k = length-hex (take i bs) ∙ ap (λ z. 2 * z) (length-take-le i bs (omega arith)) ∙ sym ek in
      let b = get_or bs i 0 in
      ap (λ z. set (set z k x) (k + 1) y) (inv ∙ ap (λ z. hex (take i bs) ++ drop z old) (sym ek))
      ∙ put_two (hex (take i bs)) old k x y long (omega arith)
      ∙ ap (λ z. (hex (take i bs) ++ z ∷ y ∷ []) ++ drop (k + 1 + 1) old) ex ∙ ap (λ z. (hex (take i bs) ++ hex_digit (b / 16) ∷ z ∷ []) ++ drop (k + 1 + 1) old) ey
      ∙ ap (λ z. z ++ drop (k + 1 + 1) old) (sym (hex_push (take i bs) b) ∙ ap hex (sym (take_more bs i 0 h)))
      ∙ ap (λ z. hex (take (i + 1) bs) ++ drop z old) (omega arith)

  pub write_all : i ≡ length bs → out ≡ over (hex bs) old
  write_all e =
      let long : 2 * i ≡ length (hex bs) = ap (λ z. 2 * z) e ∙ sym (length-hex bs) in
      inv ∙ ap (λ z. hex z ++ drop (2 * i) old) (take_all i bs (omega arith)) ∙ ap (λ z. hex bs ++ drop z old) long

-- the pairs of digits of a text
abbrev pub pairs : List ℕ → List (List ℕ)
pairs s = first_chunks 2 (length s / 2) s

pairs_more : (x y : ℕ) (s : List ℕ) → pairs (x ∷ y ∷ s) ≡ (x ∷ y ∷ []) ∷ pairs s
pairs_more x y s =
    let e : length (x ∷ y ∷ s) / 2 ≡ suc (length s / 2) = omega arith in
    ap (λ k. first_chunks 2 k (x ∷ y ∷ s)) e

-- the byte that a pair stands for, and whether it stands for one
abbrev pub pair_value : List ℕ → ℕ
pair_value p = 16 * hex_value (get_or p 0 0) + hex_value (get_or p 1 0)

abbrev pub is_pair : List ℕ → Bool
is_pair p = is_hex_digit (get_or p 0 0) && is_hex_digit (get_or p 1 0)

unhex_pairs : (s : List ℕ) → unhex s ≡ map pair_value (pairs s)
unhex_pairs [] = refl
unhex_pairs (x ∷ []) = refl
unhex_pairs (x ∷ y ∷ s) = ap (λ z. (16 * hex_value x + hex_value y) ∷ z) (unhex_pairs s) ∙ sym (ap (map pair_value) (pairs_more x y s))

pub is_hex_even : (s : List ℕ) → length s % 2 ≡ 0 → is_hex s ≡ list_all is_pair (pairs s)
is_hex_even [] e = refl
is_hex_even (x ∷ []) e = absurd (omega arith)
is_hex_even (x ∷ y ∷ s) e = ap (λ z. (is_hex_digit x && is_hex_digit y) && z) (is_hex_even s (omega arith)) ∙ sym (ap (list_all is_pair) (pairs_more x y s))

pub is_hex_odd : (s : List ℕ) → 0 < length s % 2 → is_hex s ≡ false
is_hex_odd [] l = absurd (omega arith)
is_hex_odd (x ∷ []) l = refl
is_hex_odd (x ∷ y ∷ s) l = ap (λ z. (is_hex_digit x && is_hex_digit y) && z) (is_hex_odd s (omega arith)) ∙ and_false _

module _ (out old s : List ℕ) (i : ℕ) (inv : out ≡ take i (unhex s) ++ drop i old) where
  pub read_more : (n v : ℕ) → i < n → n ≤ length s / 2 → i < length old → v ≡ pair_value (get_or (take n (pairs s)) i []) → set out i v ≡ take (i + 1) (unhex s) ++ drop (i + 1) old
  read_more n v h m l ev =
      let len = length-unhex s in
      let long : length (take i (unhex s)) ≡ i = length-take-le i (unhex s) (omega arith) in
      let byte : v ≡ get_or (unhex s) i 0 = ev ∙ ap pair_value (get_or-take n (pairs s) i [] h) ∙ sym (get_or-map pair_value (pairs s) i []) ∙ sym (ap (λ z. get_or z i 0) (unhex_pairs s)) in
      ap (λ z. set z i v) (inv ∙ ap (λ z. take i (unhex s) ++ z) (drop_more old i 0 l))
      ∙ set_at (take i (unhex s)) (get_or old i 0) (drop (i + 1) old) v i long
      ∙ ap (λ z. take i (unhex s) ++ z ∷ drop (i + 1) old) byte
      ∙ sym (ap (λ z. z ++ drop (i + 1) old) (take_more (unhex s) i 0 (omega arith)) ∙ append_assoc (take i (unhex s)) (get_or (unhex s) i 0 ∷ []) (drop (i + 1) old))

  pub read_all : i ≡ min (length old) (length s / 2) → out ≡ over (take (length old) (unhex s)) old
  read_all e =
      let n = length-unhex s in
      let long : i ≡ length (take i (unhex s)) = sym (length-take-le i (unhex s) (omega arith)) in
      let m : i ≡ min (length (unhex s)) (length old) = omega arith in
      inv ∙ ap (λ z. take i (unhex s) ++ drop z old) long ∙ ap (λ z. over z old) (take_min (unhex s) i (length old) m)
