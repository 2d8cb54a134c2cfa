use Rattle.std.proofs.Common.{◌≡◌, ℕ, ◌+◌, ◌-◌, ◌*◌, ◌/◌, ◌%◌, ◌<◌, ◌≤◌, List, [], ◌∷◌, length, get_or, take, drop, sym, ap, ◌∙◌, subst, ⊎_elim, arith, length-drop, lit<}
use Rattle.std.specs.Simd.{first_chunks}
use Rattle.std.proofs.lemmas.Bool.{cases_lt}
use Rattle.std.proofs.lemmas.List.{take_all}
use Rattle.sha256.specs.Sha256.{bytes, sha256}
use Rattle.sha256_lanes.proofs.Four.{below4}
use Rattle.lmots.specs.declared.run.Run.{Run}
use Rattle.lmots.specs.LmOts.{steps, through}
use Rattle.lmots.specs.Runs.{Ended, Runs, blank}
use Rattle.lmots.proofs.Ended.{run_end, run_short, of_four}
use Rattle.lmots.proofs.leaf.Leaf.advance.Goals as goal

-- there are eight groups of four, which are the runs behind the first two
eight : (runs : List Run) → length runs ≡ 34 → length (take 32 (drop 2 runs)) / 4 ≡ 8
eight runs n =
    let rest : length (drop 2 runs) ≡ 32 = omega (arith, length-drop 2 runs) in
    let all : take 32 (drop 2 runs) ≡ drop 2 runs = take_all 32 (drop 2 runs) (omega arith) in
    ap (λ v. length v / 4) all ∙ (omega arith)

grouped : (runs : List Run) (groups : List (List Run)) → length runs ≡ 34 → groups ≡ first_chunks 4 (length (take 32 (drop 2 runs)) / 4) (take 32 (drop 2 runs))
    → (g j : ℕ) → g < 8 → j < 4 → get_or (get_or groups g []) j blank ≡ get_or runs (2 + 4 * g + j) blank
grouped runs groups n e g j l m =
    let all : take 32 (drop 2 runs) ≡ drop 2 runs = take_all 32 (drop 2 runs) (omega (arith, length-drop 2 runs)) in
    ap (λ v. get_or (get_or v g []) j blank) (e ∙ ap (λ k. first_chunks 4 k (take 32 (drop 2 runs))) (eight runs n) ∙ ap (first_chunks 4 8) all)
    ∙ of_four runs g j l m

pub finish-requires-in-loop-four-clause-chained : goal.finish-requires-in-loop-four-clause-chained
finish-requires-in-loop-four-clause-chained c j l =
    let n : length c.shortest_first-runs.result ≡ 34 = grind arith in
    let groups : length c.as_chunks.result.0.now ≡ 8 = c.as_chunks.ensures.front_len ∙ eight c.shortest_first-runs.result n in
    let g = c.loop-four.four-index in
    let lt : g < 8 = omega (arith, c.loop-four-test.true) in
    let e = grouped c.shortest_first-runs.result c.as_chunks.result.0.now n c.as_chunks.ensures.front g j lt l in
    (subst (Runs c.args.from.now c.args.to.now) (sym e) (c.shortest_first-runs.ensures.each (2 + 4 * g + j) (omega arith))).chained

pub finish-requires-in-loop-four-clause-short : goal.finish-requires-in-loop-four-clause-short
finish-requires-in-loop-four-clause-short c j l =
    let n : length c.shortest_first-runs.result ≡ 34 = grind arith in
    let groups : length c.as_chunks.result.0.now ≡ 8 = c.as_chunks.ensures.front_len ∙ eight c.shortest_first-runs.result n in
    let g = c.loop-four.four-index in
    let lt : g < 8 = omega (arith, c.loop-four-test.true) in
    let e = grouped c.shortest_first-runs.result c.as_chunks.result.0.now n c.as_chunks.ensures.front g j lt l in
    run_short c.args.from.now c.args.to.now _ c.fits-from c.fits-to (subst (Runs c.args.from.now c.args.to.now) (sym e) (c.shortest_first-runs.ensures.each (2 + 4 * g + j) (omega arith)))

pub loop-four-preserved : goal.loop-four-preserved
loop-four-preserved c =
    let I = bytes c.args.self.id in
    let q = c.args.self.number in
    let from = c.args.from.now in
    let to = c.args.to.now in
    let end : ℕ → List ℕ = λ i. through sha256 I q i (get_or from i 0) (get_or to i 0) (get_or c.args.values.now i []) in
    let n : length c.shortest_first-runs.result ≡ 34 = grind arith in
    let count : length c.as_chunks.result.0.now ≡ 8 = c.as_chunks.ensures.front_len ∙ eight c.shortest_first-runs.result n in
    let g = c.loop-four.four-index in
    let lt : g < 8 = omega (arith, c.loop-four-test.true) in
    let groups = c.as_chunks.result.0.now in
    let inv = c.loop-four.invariant in
    let run : (h j : ℕ) → h < 8 → j < 4 → Runs from to (get_or (get_or groups h []) j blank) =
    λ h j l m. subst (Runs from to) (sym (grouped c.shortest_first-runs.result groups n c.as_chunks.ensures.front h j l m)) (c.shortest_first-runs.ensures.each (2 + 4 * h + j) (omega arith)) in
    let told : (j : ℕ) → j < 4 → steps sha256 I q (get_or (get_or groups g []) j blank).chain (get_or (get_or groups g []) j blank).steps (get_or (get_or groups g []) j blank).first (get_or c.args.values.now (get_or (get_or groups g []) j blank).chain []) ≡ end (get_or (get_or groups g []) j blank).chain =
    λ j l. run_end sha256 I q from to (get_or (get_or groups g []) j blank) _ (run g j lt l) in
    let still = c.finish-in-loop-four.ensures.still end told in
    let here = c.finish-in-loop-four.ensures.here end told in (
      λ k l before. still k l (inv.0 k l before),
      λ h j l m.
          ⊎_elim
          (λ (a : h < g). still _ (run h j (omega arith) m).chained (inv.1 h j a m))
          (λ (a : g ≤ h). let e : g ≡ h = omega arith in subst (λ v. Ended end c.finish-in-loop-four.new.ended (get_or (get_or groups v []) j blank).chain) e (here j m))
          (cases_lt h g),
    )

pub returns : goal.returns
returns c i l =
    let I = bytes c.args.self.id in
    let q = c.args.self.number in
    let from = c.args.from.now in
    let to = c.args.to.now in
    let end : ℕ → List ℕ = λ i. through sha256 I q i (get_or from i 0) (get_or to i 0) (get_or c.args.values.now i []) in
    let runs = c.shortest_first-runs.result in
    let each = c.shortest_first-runs.ensures.each in
    let n : length runs ≡ 34 = grind arith in
    let count : length c.as_chunks.result.0.now ≡ 8 = c.as_chunks.ensures.front_len ∙ eight runs n in
    let all : 8 ≤ c.loop-four.four-index = omega (arith, c.loop-four-test.false) in
    let four : List Run = get_or runs 0 blank ∷ get_or runs 0 blank ∷ get_or runs 1 blank ∷ get_or runs 1 blank ∷ [] in
    let Told : Run → Type 0 = λ run. steps sha256 I q run.chain run.steps run.first (get_or c.args.values.now run.chain []) ≡ end run.chain in
    let ended : (p : ℕ) → p < 34 → Told (get_or runs p blank) = λ p m. run_end sha256 I q from to (get_or runs p blank) _ (each p m) in
    let here = c.finish.ensures.here end (below4 (λ j. Told (get_or four j blank)) (ended 0 (lit< tt)) (ended 0 (lit< tt)) (ended 1 (lit< tt)) (ended 1 (lit< tt))) in
    let found = c.shortest_first-runs.ensures.all i l in
    let At : ℕ → Type 0 = λ p. Ended end c.loop-four.ended (get_or runs p blank).chain in
    let at : At found.0 =
    ⊎_elim
    (λ (a : found.0 < 1). let e : 0 ≡ found.0 = omega arith in subst At e (c.loop-four.invariant.0 _ (each 0 (lit< tt)).chained (here 0 (lit< tt))))
    (λ (a : 1 ≤ found.0).
    ⊎_elim
    (λ (b : found.0 < 2). let e : 1 ≡ found.0 = omega arith in subst At e (c.loop-four.invariant.0 _ (each 1 (lit< tt)).chained (here 2 (lit< tt))))
    (λ (b : 2 ≤ found.0).
    let g = (found.0 - 2) / 4 in
    let j = (found.0 - 2) % 4 in
    let lt = found.1 in
    let low : g < 8 = omega arith in
    let four : j < 4 = omega arith in
    let e : 2 + 4 * g + j ≡ found.0 = omega arith in
    subst At e (subst (λ run. Ended end c.loop-four.ended run.chain) (grouped runs c.as_chunks.result.0.now n c.as_chunks.ensures.front g j low four) (c.loop-four.invariant.1 g j (omega arith) four)))
    (cases_lt found.0 2))
    (cases_lt found.0 1) in
    subst (λ k. get_or c.loop-four.ended k [] ≡ end k) found.2 at
