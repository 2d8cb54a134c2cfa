-- The rounds that are left, from the working words that there are.
use Rattle.std.proofs.Common.{◌≡◌, ℕ, ◌<◌}
use Rattle.sha256.specs.Sha256.{rounds}
use Rattle.sha256.specs.Lane.{lane}
use Rattle.sha256.proofs.block.some_rounds.Given as goal

abbrev pub invariant-loop-k : goal.invariant-loop-k
invariant-loop-k g l =
    (j : ℕ) → j < g.W.Word.lanes → rounds (lane g.W.Word.at j l.s) l.k-iterator.a.rest.now (lane g.W.Word.at j l.k-iterator.b.rest.now) ≡ rounds (lane g.W.Word.at j l.fn.s) l.k (lane g.W.Word.at j l.w)
