-- Chains that come to their ends one by one.
use Rattle.std.proofs.Common.{◌≡◌, ℕ, ◌+◌, ◌-◌, ◌*◌, ◌<◌, ◌≤◌, List, [], length, get_or, set, drop, sym, ap, ◌∙◌, ⊎_elim, arith, get_or-set_other, get_or-set_same}
use Rattle.std.specs.Simd.{first_chunks}
use Rattle.std.proofs.lemmas.Bool.{cases_eq}
use Rattle.std.proofs.lemmas.List.{get_or-drop, get_or-take}
use Rattle.lmots.specs.declared.run.Run.{Run}
use Rattle.lmots.specs.LmOts.{steps, through}
use Rattle.lmots.specs.Runs.{blank, Runs, Ended}
use Rattle.lmots.proofs.Valued.{chunk_of_4}

-- where a run takes a chain
pub run_end : (H : List ℕ → List ℕ) (I : List ℕ) (q : ℕ) (from to : List ℕ) (run : Run) (t : List ℕ) → Runs from to run
    → steps H I q run.chain run.steps run.first t ≡ through H I q run.chain (get_or from run.chain 0) (get_or to run.chain 0) t
run_end H I q from to run t h = ap (λ n. steps H I q run.chain n run.first t) h.counted ∙ ap (λ a. steps H I q run.chain (get_or to run.chain 0 - get_or from run.chain 0) a t) h.begun

-- a run ends with the chain
pub run_short : (from to : List ℕ) (run : Run) → ((i : ℕ) → get_or from i 0 < 256) → ((i : ℕ) → get_or to i 0 < 256) → Runs from to run → run.first + run.steps ≤ 255
run_short from to run hf ht h = omega (arith, h.begun, h.counted, hf run.chain, ht run.chain)

-- the end of a chain is written: it stands there, and what stood elsewhere stays
pub put_here : (end : ℕ → List ℕ) (values : List (List ℕ)) (i : ℕ) (v : List ℕ) → i < length values → v ≡ end i → Ended end (set values i v) i
put_here end values i v l h = get_or-set_same values i v [] l ∙ h

pub put_still : (end : ℕ → List ℕ) (values : List (List ℕ)) (i k : ℕ) (v : List ℕ) → i < length values → v ≡ end i → Ended end values k → Ended end (set values i v) k
put_still end values i k v l h before =
    ⊎_elim
    (λ (e : k ≡ i). ap (λ n. get_or (set values i v) n []) e ∙ put_here end values i v l h ∙ ap end (sym e))
    (λ ne. get_or-set_other values i k v [] ne ∙ before)
    (cases_eq k i)

-- run j of the group g of four, behind the first two
pub of_four : (runs : List Run) (g j : ℕ) → g < 8 → j < 4 → get_or (get_or (first_chunks 4 8 (drop 2 runs)) g []) j blank ≡ get_or runs (2 + 4 * g + j) blank
of_four runs g j l m =
    let e : 2 + (4 * g + j) ≡ 2 + 4 * g + j = omega arith in
    ap (λ v. get_or v j blank) (chunk_of_4 8 g (drop 2 runs) l) ∙ get_or-take 4 (drop (4 * g) (drop 2 runs)) j blank m
    ∙ get_or-drop (4 * g) (drop 2 runs) j blank ∙ get_or-drop 2 runs (4 * g + j) blank ∙ ap (λ n. get_or runs n blank) e
