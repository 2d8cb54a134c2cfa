-- The values of a leaf's chains, taken on from their beginnings or to their ends.
use Rattle.std.proofs.Common.{◌≡◌, ℕ, ◌*◌, ◌<◌, List, [], ◌++◌, get_or, replicate, ap, ◌∙◌}
use Rattle.std.proofs.lemmas.List.{get_or-replicate}
use Rattle.octets.specs.Numbers.{u16}
use Rattle.octets.specs.Parts.{cut}
use Rattle.lmots.specs.LmOts as LmOts

module _ (H : List ℕ → List ℕ) (I : List ℕ) (q : ℕ) where
  -- ended has each value of begun after the steps from its digit in `from` up to that in `to`
  abbrev pub Advanced : (from to : List ℕ) (begun ended : List (List ℕ)) → Type 0
  Advanced from to begun ended = (i : ℕ) → i < 34 → get_or ended i [] ≡ LmOts.through H I q i (get_or from i 0) (get_or to i 0) (get_or begun i [])

  -- each value is that of f
  abbrev pub Valued : (ℕ → List ℕ) → List (List ℕ) → Type 0
  Valued f values = (i : ℕ) → i < 34 → get_or values i [] ≡ f i

  -- the whole chains
  pub whole : (SEED : List ℕ) (begun ended : List (List ℕ)) → Valued (LmOts.x H I q SEED) begun → Advanced (replicate 34 0) (replicate 34 255) begun ended → Valued (LmOts.y H I q SEED) ended
  whole SEED begun ended b e i l =
      e i l ∙ ap (λ k. LmOts.through H I q i k (get_or (replicate 34 255) i 0) (get_or begun i [])) (get_or-replicate 34 i 0 0 l)
      ∙ ap (λ k. LmOts.through H I q i 0 k (get_or begun i [])) (get_or-replicate 34 i 255 0 l)
      ∙ ap (LmOts.through H I q i 0 255) (b i l)

  -- the values of a signature
  pub signed : (SEED m c hash a : List ℕ) (begun ended : List (List ℕ)) → c ≡ LmOts.C H I q SEED → hash ≡ LmOts.Q H I q c m → a ≡ hash ++ u16 (LmOts.checksum hash)
      → Valued (LmOts.x H I q SEED) begun → Advanced (replicate 34 0) a begun ended → Valued (LmOts.z H I q SEED m) ended
  unfolding LmOts.digit
  signed SEED m c hash a begun ended ec eh ea b e i l =
      let h : hash ≡ LmOts.Q H I q (LmOts.C H I q SEED) m = eh ∙ ap (λ v. LmOts.Q H I q v m) ec in
      e i l ∙ ap (λ k. LmOts.through H I q i k (get_or a i 0) (get_or begun i [])) (get_or-replicate 34 i 0 0 l)
      ∙ ap (LmOts.through H I q i 0 (get_or a i 0)) (b i l)
      ∙ ap (λ v. LmOts.through H I q i 0 (get_or v i 0) (LmOts.x H I q SEED i)) (ea ∙ ap (λ v. v ++ u16 (LmOts.checksum v)) h)

  -- the ends of the chains, from the values of a signature on
  pub checked : (m c zs hash a : List ℕ) (begun ended : List (List ℕ)) → hash ≡ LmOts.Q H I q c m → a ≡ hash ++ u16 (LmOts.checksum hash)
      → Valued (λ i. cut (32 * i) 32 zs) begun → Advanced a (replicate 34 255) begun ended
      → Valued (λ i. LmOts.through H I q i (LmOts.digit (LmOts.Q H I q c m) i) 255 (cut (32 * i) 32 zs)) ended
  unfolding LmOts.digit
  checked m c zs hash a begun ended eh ea b e i l =
      e i l ∙ ap (λ k. LmOts.through H I q i (get_or a i 0) k (get_or begun i [])) (get_or-replicate 34 i 255 0 l)
      ∙ ap (LmOts.through H I q i (get_or a i 0) 255) (b i l)
      ∙ ap (λ v. LmOts.through H I q i (get_or v i 0) 255 (cut (32 * i) 32 zs)) (ea ∙ ap (λ v. v ++ u16 (LmOts.checksum v)) eh)
