-- Where the space and the line feed of a line stand.
use Rattle.std.proofs.Common.{◌≡◌, ℕ, suc, ◌+◌, ◌/◌, ◌%◌, ◌<◌, Bool, true, false, cond, eqb, List, [], ◌∷◌, ◌++◌, length, take, drop, sym, refl, ap, ◌∙◌, subst, arith}
use Rattle.std.proofs.lemmas.Bool.{eqb-true}
use Rattle.std.proofs.lemmas.List.{drop-drop, drop_at, take_at, length-append}
use Rattle.octets.specs.Search.{up_to}
use Rattle.octets.specs.Hex.{hex_digit, hex}
use Rattle.octets.proofs.Sought.{up_to_here, up_to_on}
use Rattle.octets.proofs.Hexed.{digit_big}
use Rattle.store.specs.Entries.{Entry}
use Rattle.line_store.specs.Texts.{line_then}

pub up_to-hex : (c : ℕ) → c < 48 → (a x : List ℕ) → up_to c (hex a ++ c ∷ x) ≡ length (hex a)
up_to-hex c l [] x = up_to_here c c x refl
up_to-hex c l (h ∷ a) x =
    up_to_on c (hex_digit (h / 16)) (hex_digit (h % 16) ∷ (hex a ++ c ∷ x)) (λ e. omega (arith, digit_big (h / 16)))
    ∙ ap suc (up_to_on c (hex_digit (h % 16)) (hex a ++ c ∷ x) (λ e. omega (arith, digit_big (h % 16))) ∙ ap suc (up_to-hex c l a x))
    ∙ (omega arith)

-- digits before a c, and what comes after it
pub record Split (c : ℕ) (text a x : List ℕ) : Type 0 where
  pub within : up_to c text < length text
  pub front : take (up_to c text) text ≡ hex a
  pub back : drop (up_to c text + 1) text ≡ x

pub hex_split : (c : ℕ) → c < 48 → (text a x : List ℕ) → text ≡ hex a ++ c ∷ x → Split c text a x
hex_split c l text a x e =
    let u : up_to c text ≡ length (hex a) = ap (up_to c) e ∙ up_to-hex c l a x in
    record {
      within = omega (arith, ap length e, length-append (hex a) (c ∷ x));
      front = ap (λ z. take z text) u ∙ ap (take (length (hex a))) e ∙ take_at (hex a) (c ∷ x) (length (hex a)) refl;
      back = ap (λ z. drop (z + 1) text) u ∙ ap (drop (length (hex a) + 1)) e ∙ sym (drop-drop 1 (length (hex a)) (hex a ++ c ∷ x)) ∙ ap (drop 1) (drop_at (hex a) (c ∷ x) (length (hex a)) refl);
    }

-- a list, cut at its first c
abbrev Cut : ℕ → List ℕ → ℕ → Type 0
Cut c xs u = xs ≡ take u xs ++ c ∷ drop (suc u) xs

up_to_split : (c : ℕ) (xs : List ℕ) → up_to c xs < length xs → xs ≡ take (up_to c xs) xs ++ c ∷ drop (suc (up_to c xs)) xs
up_to_split c [] h = absurd (omega arith)
up_to_split c (x ∷ xs) h = go (λ k. up_to_split c xs k) (eqb x c) refl h
  where
    go : (up_to c xs < length xs → xs ≡ take (up_to c xs) xs ++ c ∷ drop (suc (up_to c xs)) xs) → (t : Bool) → eqb x c ≡ t → up_to c (x ∷ xs) < length (x ∷ xs) → Cut c (x ∷ xs) (up_to c (x ∷ xs))
    go rec true e h = subst (Cut c (x ∷ xs)) (sym (ap (λ z. cond z 0 (suc (up_to c xs))) e)) (ap (λ z. z ∷ xs) (eqb-true x c e))
    go rec false e h =
        let k : up_to c (x ∷ xs) ≡ suc (up_to c xs) = ap (λ z. cond z 0 (suc (up_to c xs))) e in
        subst (Cut c (x ∷ xs)) (sym k) (ap (λ z. x ∷ z) (rec (omega arith)))

-- what is cut from a text is a line of an entry where the text begins with one
abbrev pub Reads : List ℕ → List ℕ → List ℕ → List ℕ → Type 0
Reads text name body rest = (e : Entry) (r : List ℕ) → text ≡ line_then e r → (name ≡ hex e.0) × (body ≡ hex e.1) × (rest ≡ r)

-- no line of an entry begins a text
abbrev pub NoLine : List ℕ → Type 0
NoLine text = (e : Entry) (r : List ℕ) → text ≡ line_then e r → ⊥

pub no_space : (text : List ℕ) → up_to 0x20 text ≡ length text → NoLine text
no_space text u e r l = let s = hex_split 0x20 (omega arith) text e.0 (hex e.1 ++ 0x0a ∷ r) l in omega (arith, s.within)

pub no_feed : (text after : List ℕ) → after ≡ drop (up_to 0x20 text + 1) text → up_to 0x0a after ≡ length after → NoLine text
no_feed text after ea u e r l =
    let s = hex_split 0x20 (omega arith) text e.0 (hex e.1 ++ 0x0a ∷ r) l in
    let f = hex_split 0x0a (omega arith) after e.1 r (ea ∙ s.back) in
    omega (arith, f.within)

module _ (text name after body rest : List ℕ) (hs : up_to 0x20 text < length text) (en : name ≡ take (up_to 0x20 text) text) (ea : after ≡ drop (up_to 0x20 text + 1) text)
    (hf : up_to 0x0a after < length after) (eb : body ≡ take (up_to 0x0a after) after) (er : rest ≡ drop (up_to 0x0a after + 1) after) where
  pub line_cut : text ≡ name ++ 0x20 ∷ (body ++ 0x0a ∷ rest)
  line_cut =
      let us : suc (up_to 0x20 text) ≡ up_to 0x20 text + 1 = omega arith in
      let uf : suc (up_to 0x0a after) ≡ up_to 0x0a after + 1 = omega arith in
      let u : drop (suc (up_to 0x20 text)) text ≡ after = ap (λ z. drop z text) us ∙ sym ea in
      let v : drop (suc (up_to 0x0a after)) after ≡ rest = ap (λ z. drop z after) uf ∙ sym er in
      up_to_split 0x20 text hs ∙ ap (λ z. z ++ 0x20 ∷ drop (suc (up_to 0x20 text)) text) (sym en) ∙ ap (λ z. name ++ 0x20 ∷ z) (u ∙ up_to_split 0x0a after hf)
      ∙ ap (λ z. name ++ 0x20 ∷ (z ++ 0x0a ∷ drop (suc (up_to 0x0a after)) after)) (sym eb) ∙ ap (λ z. name ++ 0x20 ∷ (body ++ 0x0a ∷ z)) v

  pub line_reads : Reads text name body rest
  line_reads e r l =
      let s = hex_split 0x20 (omega arith) text e.0 (hex e.1 ++ 0x0a ∷ r) l in
      let f = hex_split 0x0a (omega arith) after e.1 r (ea ∙ s.back) in
      (en ∙ s.front, eb ∙ f.front, er ∙ f.back)
