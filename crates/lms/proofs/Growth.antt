-- The nodes of a tree, from the last to the first.
use Rattle.std.proofs.Common.{◌≡◌, ◌≢◌, ℕ, zero, suc, ◌+◌, ◌-◌, ◌*◌, ◌/◌, ◌%◌, ◌^◌, ◌<◌, ◌≤◌, eqb, List, [], ◌++◌, length, get_or, set, sym, refl, ap, ◌∙◌, subst, ⊎_elim, append_assoc, pow-suc, arith, pow_pos, pow_mono, get_or-set_other, get_or-set_same}
use Rattle.std.proofs.lemmas.Bool.{cases_lt, cond_both, eqb-true, eqb-false}
use Rattle.lmots.specs.LmOts as LmOts
use Rattle.lms.specs.Lms as Lms
use Rattle.lms.specs.Lms.{beside}

module _ (H : List ℕ → List ℕ) (h : ℕ) (I SEED : List ℕ) where
  -- the node that was worked out, by its level
  level : (xs : List (List ℕ)) (n : List ℕ) (p d : ℕ) → 1 ≤ p → d ≤ h → 2 ^ (h - d) ≤ p → p < 2 * 2 ^ (h - d)
      → (2 ^ h ≤ p → n ≡ Lms.leaf H I p (LmOts.K H I (p - 2 ^ h) SEED)) → (p < 2 ^ h → n ≡ Lms.inner H I p (get_or xs (2 * p) []) (get_or xs (2 * p + 1) []))
      → Lms.Grown H h I SEED (p + 1) xs → n ≡ Lms.node H h I SEED d p
  unfolding Lms.node
  level xs n p zero hp hd lo hi bottom up inv =
      let e : h - zero ≡ h = omega arith in
      bottom (subst (λ v. 2 ^ v ≤ p) e lo)
  level xs n p (suc d) hp hd lo hi bottom up inv =
      let e : h - d ≡ suc (h - suc d) = omega arith in
      let w : 2 ^ (h - d) ≡ 2 ^ (h - suc d) * 2 = ap (λ v. 2 ^ v) e ∙ pow-suc 2 (h - suc d) in
      let m : 2 ^ (h - d) ≤ 2 ^ h = pow_mono {i = h - d} {j = h} (omega arith) in
      up (omega arith)
      ∙ ap (λ v. Lms.inner H I p v (get_or xs (2 * p + 1) [])) (inv (d, 2 * p, omega arith, omega arith, omega arith, omega arith))
      ∙ ap (Lms.inner H I p (Lms.node H h I SEED d (2 * p))) (inv (d, 2 * p + 1, omega arith, omega arith, omega arith, omega arith))

  pub grown_more : (xs : List (List ℕ)) (n : List ℕ) (p : ℕ) → 1 ≤ p → p < length xs
      → (2 ^ h ≤ p → n ≡ Lms.leaf H I p (LmOts.K H I (p - 2 ^ h) SEED)) → (p < 2 ^ h → n ≡ Lms.inner H I p (get_or xs (2 * p) []) (get_or xs (2 * p + 1) []))
      → Lms.Grown H h I SEED (p + 1) xs → Lms.Grown H h I SEED p (set xs p n)
  grown_more xs n p hp lx bottom up inv t =
      let d = t.0 in
      let r = t.1 in
      let hd = t.2 in
      let lo = t.3 in
      let hi = t.4 in
      let le = t.5 in
      ⊎_elim
      (λ (m : p < r). let ne : r ≢ p = omega arith in get_or-set_other xs p r n [] ne ∙ inv (d, r, hd, lo, hi, omega arith))
      (λ (m : r ≤ p).
      let e : p ≡ r = omega arith in
      ap (λ v. get_or (set xs p n) v []) (sym e) ∙ get_or-set_same xs p n [] lx
      ∙ level xs n p d hp hd (subst (λ v. 2 ^ (h - d) ≤ v) (sym e) lo) (subst (λ v. v < 2 * 2 ^ (h - d)) (sym e) hi) bottom up inv
      ∙ ap (Lms.node H h I SEED d) e)
      (cases_lt p r)

  -- nothing stands from the end on
  pub grown_none : (xs : List (List ℕ)) (p : ℕ) → p ≡ 2 * 2 ^ h → Lms.Grown H h I SEED p xs
  grown_none xs p e t =
      let m : 2 ^ (h - t.0) ≤ 2 ^ h = pow_mono {i = h - t.0} {j = h} (omega arith) in
      absurd (omega arith)

  -- the siblings in a row of all nodes
  pub picked_is : (nodes : List (List ℕ)) (n d r : ℕ) → d + n ≡ h → 2 ^ n ≤ r → r < 2 * 2 ^ n → Lms.Grown H h I SEED 1 nodes → Lms.picked nodes n r ≡ Lms.siblings H h I SEED n d r
  unfolding Lms.picked Lms.siblings
  picked_is nodes zero d r e lo hi g = refl
  picked_is nodes (suc n) d r e lo hi g =
      let w : 2 ^ suc n ≡ 2 ^ n * 2 = pow-suc 2 n in
      let p : 0 < 2 ^ n = pow_pos n in
      let f : h - d ≡ suc n = omega arith in
      let x : 2 ^ (h - d) ≡ 2 ^ suc n = ap (λ v. 2 ^ v) f in
      let t : (2 ^ suc n ≤ beside r) × (beside r < 2 * 2 ^ suc n) =
      cond_both (eqb (r % 2) 1) (r - 1) (r + 1) (λ b. (2 ^ suc n ≤ b) × (b < 2 * 2 ^ suc n))
      (λ o. let f = eqb-true _ _ o in (omega arith, omega arith))
      (λ o. let f = eqb-false _ _ o in (omega arith, omega arith)) in
      let t0 = t.0 in
      let t1 = t.1 in
      let u : get_or nodes (beside r) [] ≡ Lms.node H h I SEED d (beside r) = g (d, beside r, omega arith, omega arith, omega arith, omega arith) in
      let v = picked_is nodes n (suc d) (r / 2) (omega arith) (omega arith) (omega arith) g in
      ap (λ c. c ++ Lms.picked nodes n (r / 2)) u ∙ ap (λ c. Lms.node H h I SEED d (beside r) ++ c) v

pub picked_none : (nodes : List (List ℕ)) (n r : ℕ) → n ≡ 0 → Lms.picked nodes n r ≡ []
unfolding Lms.picked
picked_none nodes n r e = ap (λ k. Lms.picked nodes k r) e

-- one more sibling
pub picked_more : (nodes : List (List ℕ)) (whole P : List ℕ) (h k r : ℕ) → k < h → P ++ Lms.picked nodes (h - k) r ≡ whole
    → (P ++ get_or nodes (beside r) []) ++ Lms.picked nodes (h - (k + 1)) (r / 2) ≡ whole
unfolding Lms.picked
picked_more nodes whole P h k r l inv =
    let m : suc (h - (k + 1)) ≡ h - k = omega arith in
    append_assoc P (get_or nodes (beside r) []) (Lms.picked nodes (h - (k + 1)) (r / 2)) ∙ ap (λ v. P ++ Lms.picked nodes v r) m ∙ inv
