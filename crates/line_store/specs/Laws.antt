-- What the text of sound entries means is lawful, and it tells its entries.
use Rattle.std.proofs.Common.{◌≡◌, ℕ, true, List, [], ◌∷◌, ◌++◌, length, refl, ap, ◌∙◌, arith}
use Rattle.std.proofs.lemmas.Bool.{and_parts}
use Rattle.std.proofs.lemmas.List.{length-append}
use Rattle.std.specs.Str.{bytes_eq}
use Rattle.octets.specs.Hex.{hex}
use Rattle.octets.proofs.Hexed.{hex_cancel}
use Rattle.store.specs.Meanings.{Lawful}
use Rattle.store.specs.Entries.{Entry, look_up, sound}
use Rattle.store.proofs.Looking.{lawful}
use Rattle.line_store.specs.Texts.{line_then, text_of, entries_of, is_text}

pub told_lawful : (t : List ℕ) → is_text t ≡ true → Lawful (look_up (entries_of t))
told_lawful t told = lawful (entries_of t) (and_parts (bytes_eq (text_of (entries_of t)) t) (sound (entries_of t)) told).1

pub line_cancel : (p q : Entry) (x y : List ℕ) → line_then p x ≡ line_then q y → (p ≡ q) × (x ≡ y)
line_cancel p q x y e =
    let a = hex_cancel 32 (omega arith) p.0 q.0 (hex p.1 ++ 0x0a ∷ x) (hex q.1 ++ 0x0a ∷ y) e in
    let b = hex_cancel 10 (omega arith) p.1 q.1 x y a.1 in
    (ap (λ z. (z, p.1)) a.0 ∙ ap (λ z. (q.0, z)) b.0, b.1)

-- two lists of entries with the same text are the same list
pub text_one : (ps qs : List Entry) → text_of ps ≡ text_of qs → ps ≡ qs
text_one [] [] e = refl
text_one [] (q ∷ qs) e = absurd (omega (arith, ap length e, length-append (hex q.0) (0x20 ∷ (hex q.1 ++ 0x0a ∷ text_of qs))))
text_one (p ∷ ps) [] e = absurd (omega (arith, ap length e, length-append (hex p.0) (0x20 ∷ (hex p.1 ++ 0x0a ∷ text_of ps))))
text_one (p ∷ ps) (q ∷ qs) e =
    let m = line_cancel p q (text_of ps) (text_of qs) e in
    ap (λ z. z ∷ ps) m.0 ∙ ap (λ z. q ∷ z) (text_one ps qs m.1)
