-- Texts, and the entries that they are of.
use Rattle.std.proofs.Common.{◌≡◌, ℕ, ◌+◌, ◌/◌, ◌%◌, true, cond, not, ◌&&◌, List, [], ◌∷◌, ◌++◌, map, length, take, drop, is_some, sym, refl, ap, ◌∙◌, arith}
use Rattle.std.proofs.lemmas.List.{append_assoc, append-nil, take_at, drop_at, drop-drop}
use Rattle.std.proofs.lemmas.Bool.{and_parts, and_from, ne_eqb}
use Rattle.std.proofs.lemmas.Slice.Eq.{bytes_eq-Decides}
use Rattle.std.specs.Str.{bytes_eq}
use Rattle.octets.specs.Buffers.{are_bytes}
use Rattle.octets.specs.Hex.{hex_digit, hex, unhex}
use Rattle.octets.proofs.Hexed.{digit_big, unhex-hex}
use Rattle.store.specs.Meanings.{is_name, is_body}
use Rattle.store.specs.Entries.{Entry, is_entry, look_up, sound}
use Rattle.store.proofs.Looking.{name_bytes}
use Rattle.octets.specs.Search.{up_to}
use Rattle.line_store.specs.Texts.{line_then, text_of, onto, lines_of, entry_of, entries_of, is_text}
use Rattle.line_store.proofs.Cutting.{up_to-hex}

pub line_append : (p : Entry) (x y : List ℕ) → line_then p x ++ y ≡ line_then p (x ++ y)
line_append p x y =
    append_assoc (hex p.0) (0x20 ∷ (hex p.1 ++ 0x0a ∷ x)) y
    ∙ ap (λ z. hex p.0 ++ 0x20 ∷ z) (append_assoc (hex p.1) (0x0a ∷ x) y)

pub text_append : (ps qs : List Entry) → text_of (ps ++ qs) ≡ text_of ps ++ text_of qs
text_append [] qs = refl
text_append (p ∷ ps) qs = ap (line_then p) (text_append ps qs) ∙ sym (line_append p (text_of ps) (text_of qs))

-- the first line of a text, where no line feed stands in it
lines_on : (x : ℕ) (xs : List ℕ) → (x ≡ 10 → ⊥) → lines_of (x ∷ xs) ≡ onto x (lines_of xs)
lines_on x xs n = ap (λ z. cond z ([] ∷ lines_of xs) (onto x (lines_of xs))) (ne_eqb x 10 n)

lines-hex : (a t l : List ℕ) (ls : List (List ℕ)) → lines_of t ≡ l ∷ ls → lines_of (hex a ++ t) ≡ (hex a ++ l) ∷ ls
lines-hex [] t l ls e = e
lines-hex (x ∷ a) t l ls e =
    lines_on (hex_digit (x / 16)) (hex_digit (x % 16) ∷ (hex a ++ t)) (λ z. omega (arith, digit_big (x / 16)))
    ∙ ap (onto (hex_digit (x / 16))) (lines_on (hex_digit (x % 16)) (hex a ++ t) (λ z. omega (arith, digit_big (x % 16))) ∙ ap (onto (hex_digit (x % 16))) (lines-hex a t l ls e))

lines_line : (p : Entry) (r : List ℕ) → lines_of (line_then p r) ≡ (hex p.0 ++ 0x20 ∷ hex p.1) ∷ lines_of r
lines_line p r =
    lines-hex p.0 (0x20 ∷ (hex p.1 ++ 0x0a ∷ r)) (0x20 ∷ hex p.1) (lines_of r)
    (ap (onto 32) (lines-hex p.1 (0x0a ∷ r) [] (lines_of r) refl ∙ ap (λ z. z ∷ lines_of r) (append-nil (hex p.1))))

entry_line : (p : Entry) → is_entry p ≡ true → entry_of (hex p.0 ++ 0x20 ∷ hex p.1) ≡ p
entry_line p v =
    let a = and_parts (is_name p.0) (is_body p.1 && are_bytes p.1) v in
    let b = and_parts (is_body p.1) (are_bytes p.1) a.1 in
    let n = hex p.0 in
    let l = n ++ 0x20 ∷ hex p.1 in
    let u : up_to 0x20 l ≡ length n = up_to-hex 32 (omega arith) p.0 (hex p.1) in
    let f : take (up_to 0x20 l) l ≡ n = ap (λ z. take z l) u ∙ take_at n (0x20 ∷ hex p.1) (length n) refl in
    let s : drop (up_to 0x20 l + 1) l ≡ hex p.1 = ap (λ z. drop (z + 1) l) u ∙ sym (drop-drop 1 (length n) l) ∙ ap (drop 1) (drop_at n (0x20 ∷ hex p.1) (length n) refl) in
    ap (λ z. (unhex z, unhex (drop (up_to 0x20 l + 1) l))) f ∙ ap (λ z. (unhex n, unhex z)) s
    ∙ ap (λ z. (z, unhex (hex p.1))) (unhex-hex p.0 (name_bytes p.0 a.0)) ∙ ap (λ z. (p.0, z)) (unhex-hex p.1 b.1)

pub entries_text : (ps : List Entry) → sound ps ≡ true → entries_of (text_of ps) ≡ ps
entries_text [] s = refl
entries_text (p ∷ ps) s =
    let a = and_parts (is_entry p) (not (is_some (look_up ps p.0)) && sound ps) s in
    let b = and_parts (not (is_some (look_up ps p.0))) (sound ps) a.1 in
    ap (map entry_of) (lines_line p (text_of ps)) ∙ ap (λ z. z ∷ entries_of (text_of ps)) (entry_line p a.0) ∙ ap (λ z. p ∷ z) (entries_text ps b.1)

pub told_entries : (t : List ℕ) (ps : List Entry) → text_of ps ≡ t → sound ps ≡ true → entries_of t ≡ ps
told_entries t ps e s = ap entries_of (sym e) ∙ entries_text ps s

pub told_is_text : (t : List ℕ) (ps : List Entry) → text_of ps ≡ t → sound ps ≡ true → is_text t ≡ true
told_is_text t ps e s =
    let k = told_entries t ps e s in
    and_from _ _ ((bytes_eq-Decides _ _).1 (ap text_of k ∙ e)) (ap sound k ∙ s)

pub is_text_entries : (t : List ℕ) → is_text t ≡ true → (text_of (entries_of t) ≡ t) × (sound (entries_of t) ≡ true)
is_text_entries t r = let a = and_parts (bytes_eq (text_of (entries_of t)) t) (sound (entries_of t)) r in ((bytes_eq-Decides _ _).0 a.0, a.1)
