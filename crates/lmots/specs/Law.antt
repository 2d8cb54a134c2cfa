-- A signature that is made holds, over any hash whose values are 32 bytes.
use Rattle.std.specs.Prelude.{◌≡◌, ℕ, zero, suc, ◌+◌, ◌-◌, ◌^◌, ◌<◌, ◌≤◌, true, List, ◌∷◌, ◌++◌, length, drop, slice_index, refl}
use Rattle.std.proofs.Math.Path.{sym, ap}
use Rattle.std.proofs.Common.{◌∙◌, ⊎_elim, arith}
use Rattle.std.proofs.Math.ListN.{length-append}
use Rattle.std.specs.Str.{bytes_eq}
use Rattle.std.proofs.lemmas.Slice.Eq.{bytes_eq-Decides}
use Rattle.std.proofs.lemmas.List.{take_at, drop_at, drop-drop, get_or_append_left, get_or-append_right}
use Rattle.std.proofs.lemmas.Bool.{cases_lt, and_from, eq-eqb}
use Rattle.octets.specs.Numbers.{u16, u32, number}
use Rattle.octets.specs.Parts.{row}
use Rattle.lmots.specs.LmOts as LmOts
use Rattle.lmots.specs.LmOts.{checksum, digit, well_formed}
use Rattle.lmots.specs.Chains.{onward}
use Rattle.octets.proofs.Rows.{row_same, length-row, row_at}
use Rattle.octets.proofs.Numbered.{number-u32}

pub same_self : (xs : List ℕ) → bytes_eq xs xs ≡ true
same_self xs = (bytes_eq-Decides xs xs).1 refl

pub digit_small : (Q : List ℕ) → ((i : ℕ) → slice_index Q i < 256) → (i : ℕ) → digit Q i ≤ 255
unfolding digit
digit_small Q h i =
    ⊎_elim
    (λ (l : i < length Q). omega (arith, get_or_append_left Q (u16 (checksum Q)) 0 i l, h i))
    (λ (l : length Q ≤ i). omega (arith, get_or-append_right Q (u16 (checksum Q)) (length Q) i 0 refl l, two (checksum Q) (i - length Q)))
    (cases_lt i (length Q))
  where
    two : (n k : ℕ) → slice_index (u16 n) k < 256
    two n zero = omega arith
    two n (suc zero) = omega arith
    two n (suc (suc k)) = omega arith

module _ (H : List ℕ → List ℕ) (sized : (bs : List ℕ) → length (H bs) ≡ 32) (small : (bs : List ℕ) (i : ℕ) → slice_index (H bs) i < 256) where
  pub length-x : (I : List ℕ) (q : ℕ) (SEED : List ℕ) (i : ℕ) → length (LmOts.x H I q SEED i) ≡ 32
  unfolding LmOts.x
  length-x I q SEED i = sized _

  pub length-steps : (I : List ℕ) (q i n j : ℕ) (t : List ℕ) → length t ≡ 32 → length (LmOts.steps H I q i n j t) ≡ 32
  unfolding LmOts.steps LmOts.step
  length-steps I q i zero j t h = h
  length-steps I q i (suc n) j t h = length-steps I q i n (j + 1) (LmOts.step H I q i j t) (sized _)

  pub length_z : (I : List ℕ) (q : ℕ) (SEED m : List ℕ) (i : ℕ) → length (LmOts.z H I q SEED m i) ≡ 32
  length_z I q SEED m i = length-steps I q i _ _ _ (length-x I q SEED i)

  pub length-K : (I : List ℕ) (q : ℕ) (SEED : List ℕ) → length (LmOts.K H I q SEED) ≡ 32
  unfolding LmOts.gathered
  length-K I q SEED = sized _

  Q_small : (I : List ℕ) (q : ℕ) (c m : List ℕ) (i : ℕ) → slice_index (LmOts.Q H I q c m) i < 256
  unfolding LmOts.Q
  Q_small I q c m i = small _ i

  -- the parts of a signature that is made yield K
  pub yields : (I : List ℕ) (q : ℕ) (SEED m : List ℕ) → LmOts.yielded H I q m (LmOts.C H I q SEED ++ row 34 (LmOts.z H I q SEED m)) ≡ LmOts.K H I q SEED
  unfolding LmOts.candidate LmOts.gathered
  yields I q SEED m =
      let c = LmOts.C H I q SEED in
      let zs = row 34 (LmOts.z H I q SEED m) in
      let lc : length c ≡ 32 = length-x I q SEED 0xFFFD in
      ap (λ v. LmOts.candidate H I q m v (drop 32 (c ++ zs))) (take_at c zs 32 lc)
      ∙ ap (LmOts.candidate H I q m c) (drop_at c zs 32 lc)
      ∙ ap (λ ends. H (I ++ (u32 q ++ (0x80 ∷ 0x80 ∷ ends))))
      (row_same _ (LmOts.y H I q SEED) 34 (λ i l.
      ap (LmOts.through H I q i (digit (LmOts.Q H I q c m) i) 255) (row_at (LmOts.z H I q SEED m) 34 i (λ k _. length_z I q SEED m k) l)
      ∙ onward H I q i (digit (LmOts.Q H I q c m) i) 255 (LmOts.x H I q SEED i) (digit_small (LmOts.Q H I q c m) (Q_small I q c m) i)))

  pub length-signature : (I : List ℕ) (q : ℕ) (SEED m : List ℕ) → length (LmOts.signature H I q SEED m) ≡ 1124
  unfolding LmOts.signature
  length-signature I q SEED m =
      omega (arith, length-append (LmOts.C H I q SEED) (row 34 (LmOts.z H I q SEED m)), length-x I q SEED 0xFFFD, length-row (LmOts.z H I q SEED m) 34 (λ k _. length_z I q SEED m k))

  pub length-key : (I : List ℕ) (q : ℕ) (SEED : List ℕ) → length I ≡ 16 → length (LmOts.public_key H I q SEED) ≡ 56
  unfolding LmOts.public_key
  length-key I q SEED h = omega (arith, length-append I (u32 q ++ LmOts.K H I q SEED), length-K I q SEED, h)

  pub complete : (I : List ℕ) (q : ℕ) (SEED m : List ℕ) → length I ≡ 16 → q < 2 ^ 32 → LmOts.holds H (LmOts.public_key H I q SEED) m (LmOts.signature H I q SEED m) ≡ true
  unfolding LmOts.holds LmOts.public_key LmOts.signature
  complete I q SEED m hI hq =
      let rest : List ℕ = I ++ (u32 q ++ LmOts.K H I q SEED) in
      let parts : List ℕ = LmOts.C H I q SEED ++ row 34 (LmOts.z H I q SEED m) in
      let d16 : drop 16 rest ≡ u32 q ++ LmOts.K H I q SEED = drop_at I _ 16 hI in
      let d20 : drop 20 rest ≡ LmOts.K H I q SEED = sym (drop-drop 4 16 rest) ∙ ap (drop 4) d16 in
      let e : LmOts.agrees H rest m parts ≡ true =
      ap (λ v. bytes_eq (LmOts.yielded H v (number (drop 16 rest)) m parts) (drop 20 rest)) (take_at I _ 16 hI)
      ∙ ap (λ v. bytes_eq (LmOts.yielded H I (number v) m parts) (drop 20 rest)) d16
      ∙ ap (λ v. bytes_eq (LmOts.yielded H I v m parts) (drop 20 rest)) (number-u32 q hq)
      ∙ ap (λ v. bytes_eq v (drop 20 rest)) (yields I q SEED m)
      ∙ ap (bytes_eq (LmOts.K H I q SEED)) d20
      ∙ same_self (LmOts.K H I q SEED) in
      and_from _ _ (eq-eqb _ _ (length-key I q SEED hI)) (and_from _ _ (eq-eqb _ _ (length-signature I q SEED m)) e)
