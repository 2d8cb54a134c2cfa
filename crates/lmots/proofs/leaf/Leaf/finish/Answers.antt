use Rattle.std.proofs.Common.{◌≡◌, ℕ, ◌<◌, List, [], length, get_or, set, sym, ap, ◌∙◌, subst, arith, below_more, length-set}
use Rattle.sha256.specs.Sha256.{bytes, sha256}
use Rattle.sha256_lanes.specs.Lane.{lane}
use Rattle.sha256_lanes.proofs.Four.{below4}
use Rattle.lmots.specs.declared.run.Run.{Run}
use Rattle.lmots.specs.LmOts.{steps}
use Rattle.lmots.specs.Runs.{Ended, blank}
use Rattle.lmots.proofs.Ended.{put_here, put_still}
use Rattle.lmots.proofs.leaf.Leaf.finish.Goals as goal

pub loop-j-preserved : goal.loop-j-preserved
loop-j-preserved c =
    let j = c.loop-j.j in
    let run : ℕ → Run = λ k. get_or c.args.runs k blank in
    let four : j < 4 = grind arith in
    let in' : (run j).chain < 34 = c.requires.chained j four in
    let same : c.from.result ≡ (run j).chain = c.from.ensures in
    let long : length c.loop-j.ended ≡ 34 = c.loop-j.invariant.0 in
    let l : c.from.result < length c.loop-j.ended = omega arith in
    let new : List (List ℕ) = set c.loop-j.ended c.from.result c.state_bytes.result in (
      length-set c.loop-j.ended c.from.result _ ∙ long,
      (λ end told.
          let inv = c.loop-j.invariant.1 end told in
          let v : c.state_bytes.result ≡ end c.from.result = c.state_bytes.ensures ∙ ap bytes c.lane_of.ensures ∙ told j four ∙ ap end (sym same) in (
            λ k m before. put_still end c.loop-j.ended c.from.result k c.state_bytes.result l v (inv.0 k m before),
            below_more (λ k. Ended end new (run k).chain) j
                (λ k m. put_still end c.loop-j.ended c.from.result (run k).chain c.state_bytes.result l v (inv.1 k m))
                (subst (Ended end new) same (put_here end c.loop-j.ended c.from.result c.state_bytes.result l v)),
          )),
    )

pub returns-clause-still : goal.returns-clause-still
returns-clause-still c end told =
    let run : ℕ → Run = λ j. get_or c.args.runs j blank in
    let begun : (j : ℕ) → j < 4 → bytes (lane j c.beside-begun.result) ≡ get_or c.args.values.now (run j).chain [] =
    below4 _ (ap bytes c.beside-begun.ensures.0 ∙ c.value_of.ensures) (ap bytes c.beside-begun.ensures.1 ∙ c.value_of-2.ensures)
    (ap bytes c.beside-begun.ensures.2 ∙ c.value_of-3.ensures) (ap bytes c.beside-begun.ensures.3 ∙ c.value_of-4.ensures) in
    (c.loop-j.invariant.1 end (λ j l. c.four_chains-all.ensures j l (c.requires.short j l) ∙ ap (steps sha256 (bytes c.args.self.id) c.args.self.number (run j).chain (run j).steps (run j).first) (begun j l) ∙ told j l)).0

pub returns-clause-here : goal.returns-clause-here
returns-clause-here c end told j l =
    let run : ℕ → Run = λ k. get_or c.args.runs k blank in
    let begun : (k : ℕ) → k < 4 → bytes (lane k c.beside-begun.result) ≡ get_or c.args.values.now (run k).chain [] =
    below4 _ (ap bytes c.beside-begun.ensures.0 ∙ c.value_of.ensures) (ap bytes c.beside-begun.ensures.1 ∙ c.value_of-2.ensures)
    (ap bytes c.beside-begun.ensures.2 ∙ c.value_of-3.ensures) (ap bytes c.beside-begun.ensures.3 ∙ c.value_of-4.ensures) in
    let all : j < c.loop-j.j = grind arith in
    (c.loop-j.invariant.1 end (λ k m. c.four_chains-all.ensures k m (c.requires.short k m) ∙ ap (steps sha256 (bytes c.args.self.id) c.args.self.number (run k).chain (run k).steps (run k).first) (begun k m) ∙ told k m)).1 j all
