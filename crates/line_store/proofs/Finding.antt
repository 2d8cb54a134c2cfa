-- A look for a name, line by line.
use Rattle.std.proofs.Common.{◌≡◌, ℕ, cond, List, [], ◌∷◌, ◌++◌, length, is_some, Some, None, Option, Bor, sym, refl, ap, ◌∙◌, ⊎_elim, arith}
use Rattle.std.proofs.lemmas.List.{length-append}
use Rattle.std.proofs.lemmas.Bool.{cases_Bool}
use Rattle.std.proofs.lemmas.Slice.Eq.{bytes_eq-Decides}
use Rattle.std.specs.Str.{bytes_eq}
use Rattle.std.specs.Option.{option_copied, option_map}
use Rattle.octets.specs.Hex.{hex}
use Rattle.octets.proofs.Hexed.{hex_one}
use Rattle.store.specs.Entries.{Entry, look_up}
use Rattle.line_store.specs.Texts.{text_of}
use Rattle.line_store.proofs.Cutting.{Reads, NoLine}

-- the first of the entries that a text is of, by the line that is cut from it
pub record First (ds : List Entry) (name body after : List ℕ) : Type 0 where
  pub entry : Entry
  pub others : List Entry
  pub is : ds ≡ entry ∷ others
  pub name_is : name ≡ hex entry.0
  pub body_is : body ≡ hex entry.1
  pub after_is : text_of others ≡ after

pub first : (ds : List Entry) (rest name body after : List ℕ) → rest ≡ name ++ 0x20 ∷ (body ++ 0x0a ∷ after) → Reads rest name body after → text_of ds ≡ rest → First ds name body after
first [] rest name body after cut reads e = absurd (omega (arith, ap length (e ∙ cut), length-append name (0x20 ∷ (body ++ 0x0a ∷ after))))
first (d ∷ ds) rest name body after cut reads e =
    let m = reads d (text_of ds) (sym e) in
    record { entry = d; others = ds; is = refl; name_is = m.0; body_is = m.1; after_is = sym m.2 }

pub none_first : (ds : List Entry) (rest : List ℕ) → NoLine rest → text_of ds ≡ rest → ds ≡ []
none_first [] rest none e = refl
none_first (d ∷ ds) rest none e = absurd (none d (text_of ds) (sym e))

-- entries of what is left of a text, which look up the names of a key as those of the whole
pub record LeftOf (es : List Entry) (key rest : List ℕ) : Type 0 where
  pub left : List Entry
  pub says : text_of left ≡ rest
  pub looks : (n : List ℕ) → hex n ≡ key → look_up left n ≡ look_up es n

pub record Left (text key rest : List ℕ) : Type 0 where
  pub of : (es : List Entry) → text_of es ≡ text → LeftOf es key rest

module _ (text key rest name body after : List ℕ) (l : Left text key rest) (cut : rest ≡ name ++ 0x20 ∷ (body ++ 0x0a ∷ after)) (reads : Reads rest name body after) where
  pub found : name ≡ key → (es : List Entry) (n : List ℕ) → text_of es ≡ text → hex n ≡ key → Some body ≡ option_map hex (look_up es n)
  found same es n e h =
      let r = l.of es e in
      let f = first r.left rest name body after cut reads r.says in
      let m : f.entry.0 ≡ n = hex_one f.entry.0 n (sym f.name_is ∙ same ∙ sym h) in
      let k : look_up es n ≡ Some f.entry.1 =
      sym (r.looks n h) ∙ ap (λ z. look_up z n) f.is ∙ ap (λ z. cond z (Some f.entry.1) (look_up f.others n)) ((bytes_eq-Decides f.entry.0 n).1 m) in
      ap Some f.body_is ∙ sym (ap (option_map hex) k)

  pub passed : (name ≡ key → ⊥) → Left text key after
  passed other = record {
    of = λ es e.
        let r = l.of es e in
        let f = first r.left rest name body after cut reads r.says in
        record {
          left = f.others;
          says = f.after_is;
          looks = λ n h. ⊎_elim
              (λ t. absurd (other (f.name_is ∙ ap hex ((bytes_eq-Decides f.entry.0 n).0 t) ∙ h)))
              (λ t. sym (ap (λ z. look_up z n) f.is ∙ ap (λ z. cond z (Some f.entry.1) (look_up f.others n)) t) ∙ r.looks n h)
              (cases_Bool (bytes_eq f.entry.0 n));
        };
  }

pub left_all : (text key rest : List ℕ) → Left text key rest → NoLine rest → (es : List Entry) (n : List ℕ) → text_of es ≡ text → hex n ≡ key → None ≡ option_map hex (look_up es n)
left_all text key rest l none es n e h =
    let r = l.of es e in
    ap (option_map hex) (sym (ap (λ z. look_up z n) (none_first r.left rest none r.says)) ∙ r.looks n h)

pub some_copied : (r : Option (Bor (List ℕ))) (o : Option (List ℕ)) → option_copied r ≡ option_map hex o → is_some r ≡ is_some o
some_copied None None e = refl
some_copied None (Some b) e = ap is_some e
some_copied (Some x) None e = ap is_some e
some_copied (Some x) (Some b) e = refl
