-- The rounds that are left, from the working words that there are.
use Rattle.std.proofs.Common.{◌≡◌, ℕ, ◌%◌, ◌<◌, length}
use Rattle.sha256.specs.Sha256.{rounds, K}
use Rattle.sha256.specs.Lane.{lane}
use Rattle.sha256.proofs.block.rounds.Given as goal

abbrev pub invariant-loop-k : goal.invariant-loop-k
invariant-loop-k g l =
    (l.k-iterator.a.size ≡ 4) × (l.k-iterator.b.size ≡ 4) × (length l.k-iterator.a.rest.now ≡ length l.k-iterator.b.rest.now)
    × (length l.k-iterator.a.rest.now % 4 ≡ 0)
    × ((j : ℕ) → j < g.W.Word.lanes → rounds (lane g.W.Word.at j l.s) l.k-iterator.a.rest.now (lane g.W.Word.at j l.k-iterator.b.rest.now) ≡ rounds (lane g.W.Word.at j l.fn.s) K (lane g.W.Word.at j l.w))
