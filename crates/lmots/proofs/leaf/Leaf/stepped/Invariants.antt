use Rattle.std.proofs.Common.{◌≡◌, ℕ, ◌+◌, ◌-◌, ◌*◌, ◌<◌, ◌≤◌, get_or}
use Rattle.sha256.specs.Sha256.{bytes, sha256}
use Rattle.sha256_lanes.specs.Lane.{lane}
use Rattle.lmots.specs.LmOts.{steps}
use Rattle.lmots.proofs.leaf.Leaf.stepped.Given as goal

-- in each lane, the steps that are left take t to where all steps take it from the beginning
abbrev pub invariant-loop-k : goal.invariant-loop-k
invariant-loop-k l =
    (j i a n : ℕ) → j < 4 → i < 65536 → a + n ≤ 255 → get_or l.tags.0 j 0 ≡ i * 256 + a → get_or l.steps j 0 ≡ n
    → steps sha256 (bytes l.self.id) l.self.number i (n - l.k) (a + l.k) (bytes (lane j l.t))
    ≡ steps sha256 (bytes l.self.id) l.self.number i n a (bytes (lane j l.initial.t))
