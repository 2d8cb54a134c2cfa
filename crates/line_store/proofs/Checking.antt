-- A text, checked line by line from its start.
use Rattle.std.proofs.Common.{◌≡◌, ℕ, ◌-◌, ◌<◌, ◌≤◌, Bool, true, false, ◌&&◌, leb, List, [], ◌∷◌, ◌++◌, length, take, is_some, ◌==◌, sym, refl, ap, ◌∙◌, ⊎_elim, arith}
use Rattle.std.proofs.lemmas.List.{length-append, take_at, append_assoc, append-nil}
use Rattle.std.proofs.lemmas.Bool.{cases_Bool, and_parts, and_from, and_left, and_right, le-leb, leb-true, leb-false, lt-leb, eqb-true, eq-eqb, both_ways}
use Rattle.std.specs.List.{list_all}
use Rattle.octets.specs.Buffers.{are_bytes}
use Rattle.octets.specs.Hex.{hex, is_hex, unhex}
use Rattle.octets.proofs.Hexed.{spells, is_hex-hex, unhex-hex, hex_long}
use Rattle.store.specs.Meanings.{is_visible, is_name, is_body}
use Rattle.store.specs.Entries.{Entry, is_entry, look_up, sound}
use Rattle.store.proofs.Looking.{name_bytes, sound_push, Within, sound-within}
use Rattle.line_store.specs.Texts.{line_then, text_of, Told}
use Rattle.line_store.specs.Laws.{line_cancel}
use Rattle.line_store.proofs.Telling.{line_append, text_append}
use Rattle.line_store.proofs.Cutting.{Reads, NoLine}
use Rattle.line_store.proofs.Finding.{First, first, none_first}

pub name_long : (s : List ℕ) → is_hex s ≡ true → 192 < length s → is_name (unhex s) ≡ false
name_long s e h =
    let l = hex_long s e in
    and_left _ (list_all is_visible (unhex s)) (and_right (leb 1 (length (unhex s))) _ (lt-leb _ _ (omega arith)))

pub body_short : (s : List ℕ) → is_hex s ≡ true → leb (length s) 65536 ≡ is_body (unhex s)
body_short s e =
    let l = hex_long s e in
    ⊎_elim
    (λ t. let k = leb-true _ _ t in t ∙ sym (le-leb _ _ (omega arith)))
    (λ f. f ∙ sym (lt-leb _ _ (let k = leb-false _ _ f in omega arith)))
    (cases_Bool (leb (length s) 65536))

-- digits of a name, and of a body
abbrev pub spell_entry : List ℕ → List ℕ → Bool
spell_entry name body = (is_hex name && is_name (unhex name)) && (is_hex body && is_body (unhex body))

-- the digits of an entry are such
entry_spelt : (e : Entry) → is_entry e ≡ true → spell_entry (hex e.0) (hex e.1) ≡ true
entry_spelt e v =
    let a = and_parts (is_name e.0) (is_body e.1 && are_bytes e.1) v in
    let b = and_parts (is_body e.1) (are_bytes e.1) a.1 in
    let n = name_bytes e.0 a.0 in
    and_from _ _ (and_from _ _ (is_hex-hex e.0 n) (ap is_name (unhex-hex e.0 n) ∙ a.0)) (and_from _ _ (is_hex-hex e.1 b.1) (ap is_body (unhex-hex e.1 b.1) ∙ b.0))

-- entries whose text begins another's, and the entries behind them
record GoesOn (ps qs : List Entry) (rest : List ℕ) : Type 0 where
  pub others : List Entry
  pub whole : qs ≡ ps ++ others
  pub says : text_of others ≡ rest

goes_on : (ps qs : List Entry) (rest : List ℕ) → text_of ps ++ rest ≡ text_of qs → GoesOn ps qs rest
goes_on [] qs rest e = record { others = qs; whole = refl; says = sym e }
goes_on (p ∷ ps) [] rest e = absurd (omega (arith, ap length e, length-append (text_of (p ∷ ps)) rest, length-append (hex p.0) (0x20 ∷ (hex p.1 ++ 0x0a ∷ text_of ps))))
goes_on (p ∷ ps) (q ∷ qs) rest e =
    let m = line_cancel p q (text_of ps ++ rest) (text_of qs) (sym (line_append p (text_of ps) rest) ∙ e) in
    let g = goes_on ps qs rest m.1 in
    record { others = g.others; whole = ap (λ z. z ∷ qs) (sym m.0) ∙ ap (λ z. p ∷ z) g.whole; says = g.says }

-- a text is read as far as what is left of it: what stands before is that of sound entries
pub record Read (text rest : List ℕ) : Type 0 where
  pub front : List ℕ
  pub is : text ≡ front ++ rest
  pub told : Told front

module _ (text rest : List ℕ) (r : Read text rest) where
  pub rest_within : length rest ≤ length text
  rest_within = omega (arith, ap length r.is, length-append r.front rest)

  pub before_is : take (length text - length rest) text ≡ r.front
  before_is = ap (take (length text - length rest)) r.is ∙ take_at r.front rest (length text - length rest) (omega (arith, ap length r.is, length-append r.front rest))

  -- the entries that are left where the text is that of sound entries
  left : (t : Told text) → GoesOn r.told.0 t.0 rest
  left t = goes_on r.told.0 t.0 rest (ap (λ z. z ++ rest) r.told.1.0 ∙ sym r.is ∙ sym t.1.0)

  module _ (name body after : List ℕ) (cut : rest ≡ name ++ 0x20 ∷ (body ++ 0x0a ∷ after)) (reads : Reads rest name body after) where
    next : (t : Told text) → First (left t).others name body after
    next t = first (left t).others rest name body after cut reads (left t).says

    -- the next of the entries is one, and none before has its name
    within : (t : Told text) → Within r.told.0 (next t).entry
    within t = sound-within r.told.0 (next t).entry (next t).others (ap sound (sym ((left t).whole ∙ ap (λ z. r.told.0 ++ z) (next t).is)) ∙ t.1.1)

    pub not_spelt : spell_entry name body ≡ false → Told text → ⊥
    not_spelt n t =
        let f = next t in
        both_ways _ n (ap (λ z. spell_entry z body) f.name_is ∙ ap (spell_entry (hex f.entry.0)) f.body_is ∙ entry_spelt f.entry (within t).ok)

    module _ (found : Bool) (looks : (es : List Entry) (n : List ℕ) → text_of es ≡ take (length text - length rest) text → hex n ≡ name → found ≡ is_some (look_up es n)) where
      pub not_twice : found ≡ true → Told text → ⊥
      not_twice twice t = both_ways _ (within t).fresh (sym (looks r.told.0 (next t).entry.0 (r.told.1.0 ∙ sym before_is) (sym (next t).name_is)) ∙ twice)

      pub read_more : spell_entry name body ≡ true → found ≡ false → Read text after
      read_more spelt new =
          let s = and_parts (is_hex name && is_name (unhex name)) (is_hex body && is_body (unhex body)) spelt in
          let n = and_parts (is_hex name) (is_name (unhex name)) s.0 in
          let b = and_parts (is_hex body) (is_body (unhex body)) s.1 in
          let hn = spells name n.0 in
          let hb = spells body b.0 in
          let e : Entry = (unhex name, unhex body) in
          let line : line_then e after ≡ rest =
          ap (λ z. z ++ 0x20 ∷ (hex (unhex body) ++ 0x0a ∷ after)) hn.back ∙ ap (λ z. name ++ 0x20 ∷ (z ++ 0x0a ∷ after)) hb.back ∙ sym cut in
          let fresh = sym (looks r.told.0 (unhex name) (r.told.1.0 ∙ sym before_is) hn.back) ∙ new in
          record {
            front = r.front ++ line_then e [];
            is = r.is ∙ ap (λ z. r.front ++ z) (sym line ∙ sym (line_append e [] after)) ∙ sym (append_assoc r.front (line_then e []) after);
            told = (r.told.0 ++ e ∷ [], (text_append r.told.0 (e ∷ []) ∙ ap (λ z. z ++ line_then e []) r.told.1.0, sound_push r.told.0 e r.told.1.1 (and_from _ _ n.1 (and_from _ _ b.1 hb.small)) fresh));
          }

  -- where no line is left, the text is that of sound entries exactly where nothing is left
  module _ (none : NoLine rest) (b : Bool) (e : b ≡ (length rest == 0)) where
    pub told_whole : b ≡ true → Told text
    told_whole t = (r.told.0, (r.told.1.0 ∙ sym (append-nil r.front) ∙ ap (λ z. r.front ++ z) (sym (empty rest (eqb-true _ _ (sym e ∙ t)))) ∙ sym r.is, r.told.1.1))
      where
        empty : (xs : List ℕ) → length xs ≡ 0 → xs ≡ []
        empty [] h = refl
        empty (x ∷ xs) h = absurd (omega arith)

    pub nothing_left : Told text → b ≡ true
    nothing_left t =
        let g = left t in
        e ∙ eq-eqb _ _ (ap length (sym g.says ∙ ap text_of (none_first g.others rest none g.says)))
