-- Lines, one after the other.
use Rattle.std.proofs.Common.{◌≡◌, ℕ, ◌+◌, ◌<◌, ◌≤◌, List, [], ◌∷◌, ◌++◌, length, get_or, take, drop, sym, refl, ap, ◌∙◌, arith}
use Rattle.std.proofs.lemmas.List.{length-append, length-drop, drop_more}
use Rattle.octets.specs.Search.{up_to}
use Rattle.octets.specs.Hex.{hex}
use Rattle.store.specs.Entries.{Entry}
use Rattle.line_store.specs.Texts.{text_of}
use Rattle.line_store.proofs.Cutting.{Reads, NoLine, hex_split}
use Rattle.line_store.proofs.Finding.{none_first}

-- what is left of a text is that of its entries from `i` on
pub record Starts (text : List ℕ) (i : ℕ) (rest : List ℕ) : Type 0 where
  pub says : (es : List Entry) → text_of es ≡ text → text_of (drop i es) ≡ rest

module _ (text rest : List ℕ) (i : ℕ) (s : Starts text i rest) (es : List Entry) (e : text_of es ≡ text) where
  pub no_more : NoLine rest → length es ≤ i
  no_more none = omega (arith, ap length (none_first (drop i es) rest none (s.says es e)), length-drop i es)

  module _ (name body after : List ℕ) (cut : rest ≡ name ++ 0x20 ∷ (body ++ 0x0a ∷ after)) (reads : Reads rest name body after) where
    pub there : i < length es
    there = go (drop i es) refl (s.says es e)
      where
        go : (ds : List Entry) → drop i es ≡ ds → text_of ds ≡ rest → i < length es
        go [] d t = absurd (omega (arith, ap length (t ∙ cut), length-append name (0x20 ∷ (body ++ 0x0a ∷ after))))
        go (d ∷ ds) k t = omega (arith, ap length k, length-drop i es)

    line : (name ≡ hex (get_or es i ([], [])).0) × (body ≡ hex (get_or es i ([], [])).1) × (after ≡ text_of (drop (i + 1) es))
    line = reads (get_or es i ([], [])) (text_of (drop (i + 1) es)) (sym (s.says es e) ∙ ap text_of (drop_more es i ([], []) there))

    pub more_there : text_of (drop (i + 1) es) ≡ after
    more_there = sym line.2

-- the name of the line that is left first, where there is a space at all
module _ (text rest : List ℕ) (i : ℕ) (s : Starts text i rest) (es : List Entry) (e : text_of es ≡ text) (l : up_to 0x20 rest < length rest) where
  pub there_is : i < length es
  there_is = go (drop i es) refl (s.says es e)
    where
      go : (ds : List Entry) → drop i es ≡ ds → text_of ds ≡ rest → i < length es
      go [] d t = absurd (omega (arith, ap length t))
      go (d ∷ ds) k t = omega (arith, ap length k, length-drop i es)

  pub name_cut : take (up_to 0x20 rest) rest ≡ hex (get_or es i ([], [])).0
  name_cut =
      let d = get_or es i ([], []) in
      (hex_split 0x20 (omega arith) rest d.0 (hex d.1 ++ 0x0a ∷ text_of (drop (i + 1) es)) (sym (s.says es e) ∙ ap text_of (drop_more es i ([], []) there_is))).front

pub starts_more : (text rest name body after : List ℕ) (i : ℕ) → Starts text i rest → rest ≡ name ++ 0x20 ∷ (body ++ 0x0a ∷ after) → Reads rest name body after → Starts text (i + 1) after
starts_more text rest name body after i s cut reads = record { says = λ es e. more_there text rest i s es e name body after cut reads }
