-- Climbing from a leaf by its siblings gives node 1, so a signature that is made holds.
use Rattle.std.specs.Prelude.{◌≡◌, ℕ, zero, suc, ◌+◌, ◌-◌, ◌*◌, ◌/◌, ◌%◌, ◌^◌, ◌<◌, ◌≤◌, true, false, cond, List, ◌++◌, length, drop, nat_eq, nat_lt, slice_index}
use Rattle.std.proofs.Math.Path.{refl, sym, ap}
use Rattle.std.proofs.Common.{◌∙◌}
use Rattle.std.proofs.Math.Logic.{⊎_elim}
use Rattle.std.proofs.Math.Nat.{pow-suc}
use native.Mathlib.Omega.{arith}
use Rattle.std.proofs.Math.ListN.{length-append}
use Rattle.std.specs.Str.{bytes_eq}
use Rattle.std.proofs.lemmas.List.{take_at, drop_at, drop-drop}
use Rattle.std.proofs.lemmas.Bool.{cases_lt, and_from, eq-eqb, lt-ltb, ne_eqb}
use Rattle.octets.specs.Numbers.{u32, number}
use Rattle.octets.specs.Parts.{cut, row}
use Rattle.lmots.specs.LmOts as LmOts
use Rattle.lmots.specs.Law as Law
use Rattle.lmots.specs.Law.{same_self}
use Rattle.octets.proofs.Numbered.{number-u32}
use Rattle.octets.proofs.Rows.{length-row}
use Rattle.lms.specs.Lms as Lms
use Rattle.lms.specs.Lms.{known, height, well_formed, beside}

module _ (H : List ℕ → List ℕ) (sized : (bs : List ℕ) → length (H bs) ≡ 32) (small : (bs : List ℕ) (i : ℕ) → slice_index (H bs) i < 256) where
  pub length-node : (h : ℕ) (I SEED : List ℕ) (d r : ℕ) → length (Lms.node H h I SEED d r) ≡ 32
  unfolding Lms.node Lms.leaf Lms.inner
  length-node h I SEED zero r = sized _
  length-node h I SEED (suc d) r = sized _

  pub length-siblings : (h : ℕ) (I SEED : List ℕ) (n d r : ℕ) → length (Lms.siblings H h I SEED n d r) ≡ 32 * n
  unfolding Lms.siblings
  length-siblings h I SEED zero d r = refl
  length-siblings h I SEED (suc n) d r =
      omega (arith, length-append (Lms.node H h I SEED d (beside r)) (Lms.siblings H h I SEED n (suc d) (r / 2)), length-node h I SEED d (beside r), length-siblings h I SEED n (suc d) (r / 2))

  -- a node and the one beside it make the node above
  pub parent : (h : ℕ) (I SEED : List ℕ) (d r : ℕ) → Lms.above H I r (Lms.node H h I SEED d r) (Lms.node H h I SEED d (beside r)) ≡ Lms.node H h I SEED (suc d) (r / 2)
  unfolding Lms.node
  parent h I SEED d r =
      let N : ℕ → List ℕ = Lms.node H h I SEED d in
      ⊎_elim
      (λ (l : r % 2 < 1).
      let e : nat_eq (r % 2) 1 ≡ false = ne_eqb _ _ (λ f. omega arith) in
      let a : r ≡ 2 * (r / 2) = omega arith in
      let b : r + 1 ≡ 2 * (r / 2) + 1 = omega arith in
      ap (λ v. Lms.inner H I (r / 2) (cond v (N (cond v (r - 1) (r + 1))) (N r)) (cond v (N r) (N (cond v (r - 1) (r + 1))))) e
      ∙ ap (λ v. Lms.inner H I (r / 2) (N v) (N (r + 1))) a ∙ ap (λ v. Lms.inner H I (r / 2) (N (2 * (r / 2))) (N v)) b)
      (λ (l : 1 ≤ r % 2).
      let e : nat_eq (r % 2) 1 ≡ true = eq-eqb _ _ (omega arith) in
      let a : r - 1 ≡ 2 * (r / 2) = omega arith in
      let b : r ≡ 2 * (r / 2) + 1 = omega arith in
      ap (λ v. Lms.inner H I (r / 2) (cond v (N (cond v (r - 1) (r + 1))) (N r)) (cond v (N r) (N (cond v (r - 1) (r + 1))))) e
      ∙ ap (λ v. Lms.inner H I (r / 2) (N v) (N r)) a ∙ ap (λ v. Lms.inner H I (r / 2) (N (2 * (r / 2))) (N v)) b)
      (cases_lt (r % 2) 1)

  pub climbs : (h : ℕ) (I SEED : List ℕ) (n d r : ℕ) → 2 ^ n ≤ r → r < 2 * 2 ^ n → Lms.climb H I n r (Lms.node H h I SEED d r) (Lms.siblings H h I SEED n d r) ≡ Lms.node H h I SEED (d + n) 1
  unfolding Lms.climb Lms.siblings
  climbs h I SEED zero d r lo hi =
      let e : r ≡ 1 = omega arith in
      let f : d ≡ d + zero = omega arith in
      ap (Lms.node H h I SEED d) e ∙ ap (λ k. Lms.node H h I SEED k 1) f
  climbs h I SEED (suc n) d r lo hi =
      let s = Lms.node H h I SEED d (beside r) in
      let S = Lms.siblings H h I SEED n (suc d) (r / 2) in
      let p : 2 ^ suc n ≡ 2 * 2 ^ n = omega (arith, pow-suc 2 n) in
      let f : suc d + n ≡ d + suc n = omega arith in
      ap (λ v. Lms.climb H I n (r / 2) (Lms.above H I r (Lms.node H h I SEED d r) v) (drop 32 (s ++ S))) (take_at s S 32 (length-node h I SEED d (beside r)))
      ∙ ap (Lms.climb H I n (r / 2) (Lms.above H I r (Lms.node H h I SEED d r) s)) (drop_at s S 32 (length-node h I SEED d (beside r)))
      ∙ ap (λ v. Lms.climb H I n (r / 2) v S) (parent h I SEED d r)
      ∙ climbs h I SEED n (suc d) (r / 2) (omega arith) (omega arith)
      ∙ ap (λ k. Lms.node H h I SEED k 1) f

  pub length-signature : (T : ℕ) (I SEED : List ℕ) (q : ℕ) (m : List ℕ) → length (Lms.signature H T I SEED q m) ≡ 1132 + 32 * height T
  unfolding Lms.signature
  length-signature T I SEED q m =
      let S = Lms.siblings H (height T) I SEED (height T) 0 (2 ^ height T + q) in
      omega (arith, length-append (LmOts.signature H I q SEED m) (u32 T ++ S), Law.length-signature H sized small I q SEED m, length-siblings (height T) I SEED (height T) 0 (2 ^ height T + q))

  pub length-key : (T : ℕ) (I SEED : List ℕ) → length I ≡ 16 → length (Lms.public_key H T I SEED) ≡ 56
  unfolding Lms.public_key
  length-key T I SEED h = omega (arith, length-append I (Lms.node H (height T) I SEED (height T) 1), length-node (height T) I SEED (height T) 1, h)

  -- a signature's path and parts lead to node 1
  pub leads : (h : ℕ) (I SEED : List ℕ) (q : ℕ) (m : List ℕ) → q < 2 ^ h
      → Lms.root H h I q m (LmOts.C H I q SEED ++ row 34 (LmOts.z H I q SEED m)) (Lms.siblings H h I SEED h 0 (2 ^ h + q)) ≡ Lms.node H h I SEED h 1
  unfolding Lms.root Lms.node
  leads h I SEED q m l =
      let r = 2 ^ h + q in
      let S = Lms.siblings H h I SEED h 0 r in
      let e : q ≡ r - 2 ^ h = omega arith in
      let f : 0 + h ≡ h = omega arith in
      ap (λ v. Lms.climb H I h r (Lms.leaf H I r v) S) (Law.yields H sized small I q SEED m ∙ ap (λ v. LmOts.K H I v SEED) e)
      ∙ climbs h I SEED h 0 r (omega arith) (omega arith)
      ∙ ap (λ k. Lms.node H h I SEED k 1) f

  pub complete : (T : ℕ) (I SEED : List ℕ) (q : ℕ) (m : List ℕ) → known T ≡ true → T < 2 ^ 32 → 2 ^ height T ≤ 2 ^ 32 → length I ≡ 16 → q < 2 ^ height T
      → Lms.holds H (Lms.public_key H T I SEED) m (Lms.signature H T I SEED q m) ≡ true
  unfolding Lms.holds Lms.public_key Lms.signature LmOts.signature
  complete T I SEED q m hk hT hh hI hq =
      let top : List ℕ = Lms.node H (height T) I SEED (height T) 1 in
      let S : List ℕ = Lms.siblings H (height T) I SEED (height T) 0 (2 ^ height T + q) in
      let P : List ℕ = LmOts.C H I q SEED ++ row 34 (LmOts.z H I q SEED m) in
      let key : List ℕ = u32 T ++ (u32 4 ++ (I ++ top)) in
      let sig : List ℕ = u32 q ++ (u32 4 ++ (P ++ (u32 T ++ S))) in
      let eT : number (u32 T) ≡ T = number-u32 T hT in
      let eq : number (u32 q) ≡ q = number-u32 q (omega arith) in
      let lP : length P ≡ 1120 = omega (arith, length-append (LmOts.C H I q SEED) (row 34 (LmOts.z H I q SEED m)), Law.length-x H sized small I q SEED 0xFFFD, length-row (LmOts.z H I q SEED m) 34 (λ k _. Law.length_z H sized small I q SEED m k)) in
      let d : drop 1120 (P ++ (u32 T ++ S)) ≡ u32 T ++ S = drop_at P (u32 T ++ S) 1120 lP in
      let d4 : drop 1132 sig ≡ S = sym (drop-drop 4 1128 sig) ∙ ap (drop 4) d in
      let e : Lms.root H (height (number (u32 T))) (cut 8 16 key) (number (u32 q)) m (cut 8 1120 sig) (drop 1132 sig) ≡ top =
      ap (λ v. Lms.root H (height v) (cut 8 16 key) (number (u32 q)) m (cut 8 1120 sig) (drop 1132 sig)) eT
      ∙ ap (λ v. Lms.root H (height T) v (number (u32 q)) m (cut 8 1120 sig) (drop 1132 sig)) (take_at I top 16 hI)
      ∙ ap (λ v. Lms.root H (height T) I v m (cut 8 1120 sig) (drop 1132 sig)) eq
      ∙ ap (λ v. Lms.root H (height T) I q m v (drop 1132 sig)) (take_at P (u32 T ++ S) 1120 lP)
      ∙ ap (Lms.root H (height T) I q m P) d4
      ∙ leads (height T) I SEED q m hq in
      let f : bytes_eq (Lms.root H (height (number (u32 T))) (cut 8 16 key) (number (u32 q)) m (cut 8 1120 sig) (drop 1132 sig)) (drop 24 key) ≡ true =
      ap (λ v. bytes_eq v (drop 24 key)) e ∙ ap (bytes_eq top) (drop_at I top 16 hI) ∙ same_self top in
      and_from _ _
      (and_from _ _ (ap known eT ∙ hk) (eq-eqb _ _ (length-key T I SEED hI)))
      (and_from _ _ (eq-eqb _ _ (ap number d))
      (and_from _ _ (ap (λ v. nat_lt v (2 ^ height (number (u32 T)))) eq ∙ ap (λ v. nat_lt q (2 ^ height v)) eT ∙ lt-ltb _ _ hq)
      (and_from _ _ (eq-eqb _ _ (length-signature T I SEED q m ∙ ap (λ v. 1132 + 32 * height v) (sym eT))) f)))
