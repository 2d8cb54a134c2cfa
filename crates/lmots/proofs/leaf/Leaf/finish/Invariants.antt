use Rattle.std.proofs.Common.{◌≡◌, ℕ, ◌<◌, List, length, get_or}
use Rattle.sha256.specs.Sha256.{bytes}
use Rattle.sha256_lanes.specs.Lane.{lane}
use Rattle.lmots.specs.Runs.{Ended, blank}
use Rattle.lmots.proofs.leaf.Leaf.finish.Given as goal

-- where each lane has its chain's end: the ends of the runs so far are written, and what stood there stays
abbrev pub invariant-loop-j : goal.invariant-loop-j
invariant-loop-j l =
    (length l.ended ≡ 34)
    × ((end : ℕ → List ℕ) → ((j : ℕ) → j < 4 → bytes (lane j l.all) ≡ end (get_or l.fn.runs j blank).chain)
    → ((k : ℕ) → k < 34 → Ended end l.initial.ended k → Ended end l.ended k) × ((j : ℕ) → j < l.j → Ended end l.ended (get_or l.fn.runs j blank).chain))
