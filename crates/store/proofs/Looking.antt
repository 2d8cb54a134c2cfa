-- Laws of lists of entries and of the look-up in them.
use Rattle.std.proofs.Common.{◌≡◌, ℕ, zero, suc, ◌<◌, ◌≤◌, Bool, true, false, cond, not, ◌&&◌, leb, List, [], ◌∷◌, ◌++◌, length, get_or, is_some, Some, None, Option, sym, refl, ap, ◌∙◌, ⊎_elim, arith}
use mathlib.Core.Path.{fun_ext}
use Rattle.std.proofs.lemmas.Bool.{and_parts, and_from, lt-ltb, leb-true, not-true, not_from_false, both_ways, cases_Bool}
use Rattle.std.proofs.lemmas.Slice.Eq.{bytes_eq-Decides}
use Rattle.std.proofs.lemmas.Bool.Decides.{same_from_decides}
use Rattle.std.specs.List.{list_all}
use Rattle.std.specs.Str.{bytes_eq}
use Rattle.octets.specs.Buffers.{are_bytes}
use Rattle.store.specs.Meanings.{Lawful, allowed, is_visible, is_name, is_body, with, body_of}
use Rattle.store.specs.Entries.{Entry, is_entry, look_up, sound, name_at}

visible_bytes : (xs : List ℕ) → list_all is_visible xs ≡ true → are_bytes xs ≡ true
visible_bytes [] v = refl
visible_bytes (x ∷ xs) v =
    let a = and_parts (is_visible x) (list_all is_visible xs) v in
    let b = leb-true _ _ (and_parts (leb 0x21 x) (leb x 0x7e) a.0).1 in
    and_from _ _ (lt-ltb _ _ (omega arith)) (visible_bytes xs a.1)

pub name_bytes : (n : List ℕ) → is_name n ≡ true → are_bytes n ≡ true
name_bytes n h = visible_bytes n (and_parts (leb 1 (length n) && leb (length n) 96) (list_all is_visible n) h).1

pub name_short : (n : List ℕ) → is_name n ≡ true → length n ≤ 96
name_short n h = leb-true _ _ (and_parts (leb 1 (length n)) (leb (length n) 96) (and_parts (leb 1 (length n) && leb (length n) 96) (list_all is_visible n) h).0).1

same_sym : (xs ys : List ℕ) → bytes_eq xs ys ≡ bytes_eq ys xs
same_sym xs ys = same_from_decides _ _ (bytes_eq-Decides xs ys) ((λ e. sym ((bytes_eq-Decides ys xs).0 e)), (λ e. (bytes_eq-Decides ys xs).1 (sym e)))

none_from : (o : Option (List ℕ)) → is_some o ≡ false → o ≡ None
none_from None e = refl
none_from (Some b) e = absurd (both_ways true e refl)

-- what is not in the first part is looked up in the second
pub look_append : (ds es : List Entry) (n : List ℕ) → is_some (look_up ds n) ≡ false → look_up (ds ++ es) n ≡ look_up es n
look_append [] es n h = refl
look_append (d ∷ ds) es n h =
    elim (bytes_eq d.0 n) as (λ t. is_some (cond t (Some d.1) (look_up ds n)) ≡ false → cond t (Some d.1) (look_up (ds ++ es) n) ≡ look_up es n)
    [ true ↦ λ k. absurd (both_ways true k refl) | false ↦ λ k. look_append ds es n k ] h

-- what is in the first part is found there
look_front : (ds es : List Entry) (n : List ℕ) → is_some (look_up ds n) ≡ true → look_up (ds ++ es) n ≡ look_up ds n
look_front [] es n h = absurd (both_ways false refl h)
look_front (d ∷ ds) es n h =
    elim (bytes_eq d.0 n) as (λ t. is_some (cond t (Some d.1) (look_up ds n)) ≡ true → cond t (Some d.1) (look_up (ds ++ es) n) ≡ cond t (Some d.1) (look_up ds n))
    [ true ↦ λ k. refl | false ↦ λ k. look_front ds es n k ] h

-- one entry more, of a new name
pub look_push : (es : List Entry) (n b : List ℕ) → is_some (look_up es n) ≡ false → look_up (es ++ (n, b) ∷ []) ≡ with (look_up es) n b
look_push es n b h = fun_ext (λ q. ⊎_elim
    (λ t. let e : n ≡ q = (bytes_eq-Decides n q).0 t in
    look_append es ((n, b) ∷ []) q (ap (λ z. is_some (look_up es z)) (sym e) ∙ h) ∙ ap (λ z. cond z (Some b) None) t ∙ sym (ap (λ z. cond z (Some b) (look_up es q)) t))
    (λ f. other q (is_some (look_up es q)) refl f ∙ sym (ap (λ z. cond z (Some b) (look_up es q)) f))
    (cases_Bool (bytes_eq n q)))
  where
    other : (q : List ℕ) (t : Bool) → is_some (look_up es q) ≡ t → bytes_eq n q ≡ false → look_up (es ++ (n, b) ∷ []) q ≡ look_up es q
    other q true e f = look_front es ((n, b) ∷ []) q e
    other q false e f = look_append es ((n, b) ∷ []) q e ∙ ap (λ z. cond z (Some b) None) f ∙ sym (none_from (look_up es q) e)

-- a name that is not in a list is in no part of it
absent_parts : (ds es : List Entry) (n : List ℕ) → is_some (look_up (ds ++ es) n) ≡ false → (is_some (look_up ds n) ≡ false) × (is_some (look_up es n) ≡ false)
absent_parts ds es n h = parts (is_some (look_up ds n)) refl
  where
    parts : (t : Bool) → is_some (look_up ds n) ≡ t → (is_some (look_up ds n) ≡ false) × (is_some (look_up es n) ≡ false)
    parts true e = absurd (both_ways (is_some (look_up ds n)) (ap is_some (sym (look_front ds es n e)) ∙ h) e)
    parts false e = (e, ap is_some (sym (look_append ds es n e)) ∙ h)

absent_one : (e : Entry) (n : List ℕ) → is_some (look_up (e ∷ []) n) ≡ false → bytes_eq e.0 n ≡ false
absent_one e n h =
    elim (bytes_eq e.0 n) as (λ t. is_some (cond t (Some e.1) None) ≡ false → t ≡ false) [ true ↦ λ k. k | false ↦ λ k. refl ] h

pub sound_push : (es : List Entry) (e : Entry) → sound es ≡ true → is_entry e ≡ true → is_some (look_up es e.0) ≡ false → sound (es ++ e ∷ []) ≡ true
sound_push [] e s v h = and_from _ _ v refl
sound_push (d ∷ es) e s v h =
    let a = and_parts (is_entry d) (not (is_some (look_up es d.0)) && sound es) s in
    let b = and_parts (not (is_some (look_up es d.0))) (sound es) a.1 in
    let k = absent_parts (d ∷ []) es e.0 h in
    let f : bytes_eq e.0 d.0 ≡ false = same_sym e.0 d.0 ∙ absent_one d e.0 k.0 in
    let n : is_some (look_up (es ++ e ∷ []) d.0) ≡ false = ap is_some (look_append es (e ∷ []) d.0 (not-true _ b.0) ∙ ap (λ z. cond z (Some e.1) None) f) in
    and_from _ _ a.0 (and_from _ _ (not_from_false _ n) (sound_push es e b.1 v k.1))

-- an entry within a sound list, with those before it
pub record Within (ds : List Entry) (e : Entry) : Type 0 where
  pub ok : is_entry e ≡ true
  pub fresh : is_some (look_up ds e.0) ≡ false

pub sound-within : (ds : List Entry) (e : Entry) (es : List Entry) → sound (ds ++ e ∷ es) ≡ true → Within ds e
sound-within [] e es s = record { ok = (and_parts (is_entry e) _ s).0; fresh = refl }
sound-within (d ∷ ds) e es s =
    let a = and_parts (is_entry d) (not (is_some (look_up (ds ++ e ∷ es) d.0)) && sound (ds ++ e ∷ es)) s in
    let b = and_parts (not (is_some (look_up (ds ++ e ∷ es) d.0))) (sound (ds ++ e ∷ es)) a.1 in
    let m = sound-within ds e es b.1 in
    let k = absent_parts ds (e ∷ es) d.0 (not-true _ b.0) in
    let f : bytes_eq d.0 e.0 ≡ false = same_sym d.0 e.0 ∙ absent_one e d.0 (absent_parts (e ∷ []) es d.0 k.1).0 in
    record { ok = m.ok; fresh = ap (λ z. is_some (cond z (Some d.1) (look_up ds e.0))) f ∙ m.fresh }

-- what a look-up finds is an entry
look_entry : (es : List Entry) (n b : List ℕ) → sound es ≡ true → look_up es n ≡ Some b → is_entry (n, b) ≡ true
look_entry [] n b s e = let z : ◌≡◌ {A = ℕ} 0 1 = cc in absurd (omega arith)
look_entry (d ∷ es) n b s e = here (λ u v. look_entry es n b u v) (bytes_eq d.0 n) refl
  where
    a : (is_entry d ≡ true) × ((not (is_some (look_up es d.0)) && sound es) ≡ true)
    a = and_parts (is_entry d) (not (is_some (look_up es d.0)) && sound es) s

    here : (sound es ≡ true → look_up es n ≡ Some b → is_entry (n, b) ≡ true) → (t : Bool) → bytes_eq d.0 n ≡ t → is_entry (n, b) ≡ true
    here rec true t =
        let k : Some d.1 ≡ Some b = sym (ap (λ z. cond z (Some d.1) (look_up es n)) t) ∙ e in
        let l : d.1 ≡ b = cc in
        ap (λ z. is_entry (z, b)) (sym ((bytes_eq-Decides d.0 n).0 t)) ∙ ap (λ z. is_entry (d.0, z)) (sym l) ∙ a.0
    here rec false t = rec (and_parts (not (is_some (look_up es d.0))) (sound es) a.1).1 (sym (ap (λ z. cond z (Some d.1) (look_up es n)) t) ∙ e)

module _ (es : List Entry) (s : sound es ≡ true) where
  pub lawful : Lawful (look_up es)
  lawful n = go (look_up es n) refl
    where
      go : (o : Option (List ℕ)) → look_up es n ≡ o → allowed n o ≡ true
      go None e = refl
      go (Some b) e =
          let a = and_parts (is_name n) (is_body b && are_bytes b) (look_entry es n b s e) in
          and_from _ _ a.0 (and_parts (is_body b) (are_bytes b) a.1).0

  -- what is no name is not there
  pub no_name : (n : List ℕ) → is_name n ≡ false → look_up es n ≡ None
  no_name n f = go (look_up es n) refl
    where
      go : (o : Option (List ℕ)) → look_up es n ≡ o → o ≡ None
      go None e = refl
      go (Some b) e = absurd (both_ways (is_name n) f (and_parts (is_name n) (is_body b && are_bytes b) (look_entry es n b s e)).0)

  -- what is there is a body, of bytes
  pub body_is : (n : List ℕ) → is_some (look_up es n) ≡ true → (length (body_of (look_up es n)) ≤ 32768) × (are_bytes (body_of (look_up es n)) ≡ true)
  body_is n h = go (look_up es n) refl h
    where
      go : (o : Option (List ℕ)) → look_up es n ≡ o → is_some o ≡ true → (length (body_of o) ≤ 32768) × (are_bytes (body_of o) ≡ true)
      go None e i = absurd (both_ways false refl i)
      go (Some b) e i =
          let v = and_parts (is_body b) (are_bytes b) (and_parts (is_name n) (is_body b && are_bytes b) (look_entry es n b s e)).1 in
          (leb-true _ _ v.0, v.1)

-- the entry at an index of a sound list is one
pub sound_at : (es : List Entry) (i : ℕ) → sound es ≡ true → i < length es → is_entry (get_or es i ([], [])) ≡ true
sound_at [] i s h = absurd (omega arith)
sound_at (e ∷ es) zero s h = (and_parts (is_entry e) _ s).0
sound_at (e ∷ es) (suc i) s h =
    let a = and_parts (is_entry e) (not (is_some (look_up es e.0)) && sound es) s in
    sound_at es i (and_parts (not (is_some (look_up es e.0))) (sound es) a.1).1 (omega arith)

pub name_at_short : (es : List Entry) (i : ℕ) → sound es ≡ true → i < length es → (length (name_at es i) ≤ 96) × (are_bytes (name_at es i) ≡ true)
name_at_short es i s h =
    let e = get_or es i ([], []) in
    let n = (and_parts (is_name e.0) (is_body e.1 && are_bytes e.1) (sound_at es i s h)).0 in
    (name_short e.0 n, name_bytes e.0 n)
