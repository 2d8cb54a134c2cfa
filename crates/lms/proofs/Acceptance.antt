-- A signature holds exactly when it is accepted by the climb of the standard.
use Rattle.std.proofs.Common.{◌≡◌, ℕ, zero, suc, ◌+◌, ◌*◌, ◌/◌, ◌%◌, ◌^◌, ◌<◌, ◌≤◌, Bool, true, false, cond, ◌&&◌, eqb, ltb, List, [], ◌++◌, length, take, drop, Decides, sym, refl, ap, ◌∙◌, subst, ⊎_elim, pow-suc, arith, length-drop, pow_pos}
use Rattle.std.specs.Str.{bytes_eq}
use Rattle.std.proofs.lemmas.Slice.Eq.{bytes_eq-Decides}
use Rattle.std.proofs.lemmas.List.{take-append-drop, take_at, drop_at, length-take-le, nil_from_length}
use Rattle.std.proofs.lemmas.Bool.{cases_lt, and_from, and_parts, eq-eqb, eqb-true, ne_eqb, lt-ltb, ltb-true}
use Rattle.octets.specs.Numbers.{number}
use Rattle.octets.specs.Parts.{cut}
use Rattle.lmots.specs.LmOts as LmOts
use Rattle.lms.specs.Lms as Lms
use Rattle.lms.specs.Lms.{well_formed, height, signature_size, half}
use Rattle.lms.specs.Accepted.{Climbs, arrived, odd, even, Accepted}

module _ (H : List ℕ → List ℕ) (I : List ℕ) where
  odd_above : (r : ℕ) (t s : List ℕ) → r % 2 ≡ 1 → Lms.above H I r t s ≡ Lms.inner H I (r / 2) s t
  odd_above r t s e =
      let c : eqb (r % 2) 1 ≡ true = eq-eqb _ _ e in
      ap (λ v. Lms.inner H I (r / 2) (cond v s t) (cond v t s)) c

  even_above : (r : ℕ) (t s : List ℕ) → r % 2 ≡ 0 → Lms.above H I r t s ≡ Lms.inner H I (r / 2) t s
  even_above r t s e =
      let c : eqb (r % 2) 1 ≡ false = ne_eqb _ _ (λ f. omega arith) in
      ap (λ v. Lms.inner H I (r / 2) (cond v s t) (cond v t s)) c

  -- what the function climbs to, is climbed to
  pub climbs : (n r : ℕ) (t path : List ℕ) → 2 ^ n ≤ r → r < 2 * 2 ^ n → length path ≡ 32 * n → Climbs H I r t path (Lms.climb H I n r t path)
  unfolding Lms.climb
  climbs zero r t path lo hi l =
      let e : r ≡ 1 = omega arith in
      let p : path ≡ [] = nil_from_length path (omega arith) in
      arrived e p refl
  climbs (suc n) r t path lo hi l =
      let w : 2 ^ suc n ≡ 2 * 2 ^ n = omega (arith, pow-suc 2 n) in
      let p : 0 < 2 ^ n = pow_pos n in
      let s = take 32 path in
      let rest = drop 32 path in
      let ls : length s ≡ 32 = length-take-le 32 path (omega arith) in
      let lr : length rest ≡ 32 * n = omega (arith, length-drop 32 path) in
      let join : path ≡ s ++ rest = sym (take-append-drop 32 path) in
      let up = climbs n (r / 2) (Lms.above H I r t s) rest (omega arith) (omega arith) lr in
      let top = Lms.climb H I n (r / 2) (Lms.above H I r t s) rest in
      ⊎_elim
      (λ (e : r % 2 < 1). even s rest (omega arith) (omega arith) ls join (subst (λ v. Climbs H I (r / 2) v rest top) (even_above r t s (omega arith)) up))
      (λ (e : 1 ≤ r % 2). odd s rest (omega arith) (omega arith) ls join (subst (λ v. Climbs H I (r / 2) v rest top) (odd_above r t s (omega arith)) up))
      (cases_lt (r % 2) 1)

  -- one level up, by the first sibling of the path
  step : (n r : ℕ) (t path s rest : List ℕ) → length s ≡ 32 → path ≡ s ++ rest
      → Lms.climb H I n (r / 2) (Lms.above H I r t (take 32 path)) (drop 32 path) ≡ Lms.climb H I n (r / 2) (Lms.above H I r t s) rest
  step n r t path s rest ls j =
      ap (λ v. Lms.climb H I n (r / 2) (Lms.above H I r t (take 32 v)) (drop 32 v)) j
      ∙ ap (λ v. Lms.climb H I n (r / 2) (Lms.above H I r t v) (drop 32 (s ++ rest))) (take_at s rest 32 ls)
      ∙ ap (Lms.climb H I n (r / 2) (Lms.above H I r t s)) (drop_at s rest 32 ls)

  -- and nothing else is
  pub climbed : (n r : ℕ) (t path top : List ℕ) → 2 ^ n ≤ r → r < 2 * 2 ^ n → Climbs H I r t path top → Lms.climb H I n r t path ≡ top
  unfolding Lms.climb
  climbed zero r t path top lo hi (arrived e p q) = sym q
  climbed zero r t path top lo hi (odd s rest big e ls j up) = absurd (omega arith)
  climbed zero r t path top lo hi (even s rest big e ls j up) = absurd (omega arith)
  climbed (suc n) r t path top lo hi (arrived e p q) =
      let w : 2 ^ suc n ≡ 2 * 2 ^ n = omega (arith, pow-suc 2 n) in
      let z : 0 < 2 ^ n = pow_pos n in
      absurd (omega arith)
  climbed (suc n) r t path top lo hi (odd s rest big e ls j up) =
      let w : 2 ^ suc n ≡ 2 * 2 ^ n = omega (arith, pow-suc 2 n) in
      step n r t path s rest ls j ∙ ap (λ v. Lms.climb H I n (r / 2) v rest) (odd_above r t s e)
      ∙ climbed n (r / 2) (Lms.inner H I (r / 2) s t) rest top (omega arith) (omega arith) up
  climbed (suc n) r t path top lo hi (even s rest big e ls j up) =
      let w : 2 ^ suc n ≡ 2 * 2 ^ n = omega (arith, pow-suc 2 n) in
      step n r t path s rest ls j ∙ ap (λ v. Lms.climb H I n (r / 2) v rest) (even_above r t s e)
      ∙ climbed n (r / 2) (Lms.inner H I (r / 2) t s) rest top (omega arith) (omega arith) up

-- holding and being accepted are the same
module _ (H : List ℕ → List ℕ) (key m sig : List ℕ) where
  abbrev h : ℕ
  h = height (number key)

  abbrev r : ℕ
  r = 2 ^ h + number sig

  abbrev bottom : List ℕ
  bottom = Lms.leaf H (cut 8 16 key) r (LmOts.yielded H (cut 8 16 key) (number sig) m (cut 8 1120 sig))

  abbrev top : List ℕ
  top = Lms.climb H (cut 8 16 key) h r bottom (drop 1132 sig)

  path_long : length sig ≡ signature_size key → length (drop 1132 sig) ≡ 32 * h
  path_long l = omega (arith, length-drop 1132 sig)

  pub held_accepted : Lms.holds H key m sig ≡ true → Accepted H key m sig
  unfolding Lms.holds Lms.root
  held_accepted e =
      let a = and_parts (well_formed key) (eqb (number (drop 4 sig)) (number (drop 4 key)) && (eqb (number (drop 1128 sig)) (number key) && (ltb (number sig) (2 ^ h) && (eqb (length sig) (signature_size key) && bytes_eq top (drop 24 key))))) e in
      let b = and_parts (eqb (number (drop 4 sig)) (number (drop 4 key))) (eqb (number (drop 1128 sig)) (number key) && (ltb (number sig) (2 ^ h) && (eqb (length sig) (signature_size key) && bytes_eq top (drop 24 key)))) a.1 in
      let c = and_parts (eqb (number (drop 1128 sig)) (number key)) (ltb (number sig) (2 ^ h) && (eqb (length sig) (signature_size key) && bytes_eq top (drop 24 key))) b.1 in
      let d = and_parts (ltb (number sig) (2 ^ h)) (eqb (length sig) (signature_size key) && bytes_eq top (drop 24 key)) c.1 in
      let f = and_parts (eqb (length sig) (signature_size key)) (bytes_eq top (drop 24 key)) d.1 in
      let below : number sig < 2 ^ h = ltb-true _ _ d.0 in
      let long : length sig ≡ signature_size key = eqb-true _ _ f.0 in
      let same : top ≡ drop 24 key = (bytes_eq-Decides top (drop 24 key)).0 f.1 in
      record {
        formed = a.0;
        one_time = eqb-true _ _ b.0;
        type = eqb-true _ _ c.0;
        below = below;
        long = long;
        climbs = subst (λ v. Climbs H (cut 8 16 key) r bottom (drop 1132 sig) v) same (climbs H (cut 8 16 key) h r bottom (drop 1132 sig) (omega arith) (omega arith) (path_long long));
      }

  pub accepted_held : Accepted H key m sig → Lms.holds H key m sig ≡ true
  unfolding Lms.holds Lms.root
  accepted_held a =
      let below = a.below in
      let same : top ≡ drop 24 key = climbed H (cut 8 16 key) h r bottom (drop 1132 sig) (drop 24 key) (omega arith) (omega arith) a.climbs in
      and_from _ _ a.formed (and_from _ _ (eq-eqb _ _ a.one_time) (and_from _ _ (eq-eqb _ _ a.type) (and_from _ _ (lt-ltb _ _ a.below) (and_from _ _ (eq-eqb _ _ a.long) ((bytes_eq-Decides top (drop 24 key)).1 same)))))

  -- an answer that says whether a signature holds decides whether it is accepted
  pub decides : (t : Bool) → t ≡ Lms.holds H key m sig → Decides t (Accepted H key m sig)
  decides t e = (λ s. held_accepted (sym e ∙ s), λ a. e ∙ accepted_held a)
