-- When a signature holds, by the tests that the code makes.
use Rattle.std.proofs.Common.{◌≡◌, ℕ, ◌+◌, ◌*◌, ◌^◌, ◌<◌, ◌≤◌, Bool, true, false, ◌&&◌, eqb, ltb, List, length, drop, sym, refl, ap, ◌∙◌, subst, arith, length-drop}
use Rattle.std.specs.Str.{bytes_eq}
use Rattle.std.proofs.lemmas.List.{drop-drop}
use Rattle.std.proofs.lemmas.Bool.{and_from, and_parts, eq-eqb, eqb-true, lt-ltb, ltb-true}
use Rattle.octets.specs.Numbers.{number}
use Rattle.octets.specs.Parts.{cut}
use Rattle.lms.specs.Lms.{known, height, suitable, signature_size, holds, root}

none : (a b c d e f g t : Bool) → ((a ≡ true) × (b ≡ true) × (c ≡ true) × (d ≡ true) × (e ≡ true) × (f ≡ true) × (g ≡ true) → ⊥) → false ≡ ((a && (b && c)) && (d && (e && (f && (g && t)))))
none false b c d e f g t h = refl
none true false c d e f g t h = refl
none true true false d e f g t h = refl
none true true true false e f g t h = refl
none true true true true false f g t h = refl
none true true true true true false g t h = refl
none true true true true true true false t h = refl
none true true true true true true true t h = absurd (h (refl, refl, refl, refl, refl, refl, refl))

all : (a b c d e f g t r : Bool) → a ≡ true → b ≡ true → c ≡ true → d ≡ true → e ≡ true → f ≡ true → g ≡ true → r ≡ t → r ≡ ((a && (b && c)) && (d && (e && (f && (g && t)))))
all a b c d e f g t r ha hb hc hd he hf hg h = rw (ha, hb, hc, hd, he, hf, hg) h

-- what a key and a signature have to be like
pub record Fit (key sig : List ℕ) : Type 0 where
  pub kind : known (number key) ≡ true
  pub under : number (drop 4 key) ≡ 4
  pub long : length key ≡ 56
  pub made : number (drop 4 sig) ≡ number (drop 4 key)
  pub again : number (drop 1128 sig) ≡ number key
  pub below : number sig < 2 ^ height (number key)
  pub whole : length sig ≡ signature_size key

pub refused : (H : List ℕ → List ℕ) (key m sig : List ℕ) → (Fit key sig → ⊥) → false ≡ holds H key m sig
unfolding holds
refused H key m sig h =
    none _ _ _ _ _ _ _ _ (λ t. h (record { kind = t.0; under = eqb-true _ _ t.1; long = eqb-true _ _ t.2; made = eqb-true _ _ t.3; again = eqb-true _ _ t.4; below = ltb-true _ _ t.5; whole = eqb-true _ _ t.6 }))

-- of a type T and a leaf q, as the code has them
pub accepted : (H : List ℕ → List ℕ) (key m sig : List ℕ) (T q : ℕ) (r : Bool) → Fit key sig → T ≡ number key → q ≡ number sig
    → r ≡ bytes_eq (root H (height T) (cut 8 16 key) q m (cut 8 1120 sig) (drop 1132 sig)) (drop 24 key) → r ≡ holds H key m sig
unfolding holds
accepted H key m sig T q r f eT eq e =
    let g : r ≡ bytes_eq (root H (height (number key)) (cut 8 16 key) (number sig) m (cut 8 1120 sig) (drop 1132 sig)) (drop 24 key) =
    e ∙ ap (λ v. bytes_eq (root H (height v) (cut 8 16 key) q m (cut 8 1120 sig) (drop 1132 sig)) (drop 24 key)) eT
    ∙ ap (λ v. bytes_eq (root H (height (number key)) (cut 8 16 key) v m (cut 8 1120 sig) (drop 1132 sig)) (drop 24 key)) eq in
    all _ _ _ _ _ _ _ _ r f.kind (eq-eqb _ _ f.under) (eq-eqb _ _ f.long) (eq-eqb _ _ f.made) (eq-eqb _ _ f.again) (lt-ltb _ _ f.below) (eq-eqb _ _ f.whole) g

module _ (key sig parts : List ℕ) (T q o : ℕ) (eT : T ≡ number key) (eq : q ≡ number sig) (eo : o ≡ number (drop 4 sig)) (ep : parts ≡ drop 8 sig) (long : 8 ≤ length sig) where
  again_is : number (drop 1120 parts) ≡ number (drop 1128 sig)
  again_is = ap number (ap (drop 1120) ep ∙ drop-drop 1120 8 sig)

  sized : length sig ≡ length parts + 8
  sized = omega (arith, ap length ep, length-drop 8 sig)

  -- a signature that fits its key suits the key's type
  pub fit_suits : Fit key sig → suitable T q o parts ≡ true
  fit_suits f =
      let w : length sig ≡ 1132 + 32 * height T = f.whole ∙ ap (λ v. 1132 + 32 * height v) (sym eT) in
      let s = sized in
      let b : number sig < 2 ^ height T = subst (λ v. number sig < 2 ^ height v) (sym eT) f.below in
      and_from _ _ (eq-eqb _ _ (eo ∙ f.made ∙ f.under))
      (and_from _ _ (eq-eqb _ _ (again_is ∙ f.again ∙ sym eT))
      (and_from _ _ (lt-ltb _ _ (subst (λ v. v < 2 ^ height T) (sym eq) b)) (eq-eqb _ _ (omega arith))))

  -- and the other way round
  pub suits_fit : known T ≡ true → number (drop 4 key) ≡ 4 → length key ≡ 56 → suitable T q o parts ≡ true → Fit key sig
  suits_fit hk hu hl h =
      let a = and_parts (eqb o 4) (eqb (number (drop 1120 parts)) T && (ltb q (2 ^ height T) && eqb (length parts) (1124 + 32 * height T))) h in
      let b = and_parts (eqb (number (drop 1120 parts)) T) (ltb q (2 ^ height T) && eqb (length parts) (1124 + 32 * height T)) a.1 in
      let d = and_parts (ltb q (2 ^ height T)) (eqb (length parts) (1124 + 32 * height T)) b.1 in
      let n : length parts ≡ 1124 + 32 * height T = eqb-true _ _ d.1 in
      let s = sized in
      let l : length sig ≡ 1132 + 32 * height T = omega arith in
      record {
        kind = ap known (sym eT) ∙ hk;
        under = hu;
        long = hl;
        made = sym eo ∙ eqb-true _ _ a.0 ∙ sym hu;
        again = sym again_is ∙ eqb-true _ _ b.0 ∙ eT;
        below = subst (λ v. v < 2 ^ height (number key)) eq (subst (λ v. q < 2 ^ height v) eT (ltb-true _ _ d.0));
        whole = l ∙ ap (λ v. 1132 + 32 * height v) eT;
      }

-- what a signature that suits has
pub suits_parts : (T q o : ℕ) (parts : List ℕ) → suitable T q o parts ≡ true → (q < 2 ^ height T) × (length parts ≡ 1124 + 32 * height T)
suits_parts T q o parts h =
    let a = and_parts (eqb o 4) (eqb (number (drop 1120 parts)) T && (ltb q (2 ^ height T) && eqb (length parts) (1124 + 32 * height T))) h in
    let b = and_parts (eqb (number (drop 1120 parts)) T) (ltb q (2 ^ height T) && eqb (length parts) (1124 + 32 * height T)) a.1 in
    let d = and_parts (ltb q (2 ^ height T)) (eqb (length parts) (1124 + 32 * height T)) b.1 in
    (ltb-true _ _ d.0, eqb-true _ _ d.1)
