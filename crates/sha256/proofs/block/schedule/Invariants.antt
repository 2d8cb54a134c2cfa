-- The words so far are the beginning of the schedule.
use Rattle.std.proofs.Common.{◌≡◌, ℕ, ◌<◌, length, take}
use Rattle.sha256.specs.Sha256.{schedule}
use Rattle.sha256.specs.Lane.{lane}
use Rattle.sha256.proofs.block.schedule.Given as goal

abbrev pub invariant-loop-t : goal.invariant-loop-t
invariant-loop-t g l =
    (length l.w ≡ 64) × ((j : ℕ) → j < g.W.Word.lanes → lane g.W.Word.at j (take l.t l.w) ≡ take l.t (schedule (lane g.W.Word.at j l.m)))
