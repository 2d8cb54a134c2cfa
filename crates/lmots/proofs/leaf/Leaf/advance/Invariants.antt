use Rattle.std.proofs.Common.{ℕ, ◌<◌, [], get_or}
use Rattle.sha256.specs.Sha256.{bytes, sha256}
use Rattle.lmots.specs.LmOts.{through}
use Rattle.lmots.specs.Runs.{Ended, blank}
use Rattle.lmots.proofs.leaf.Leaf.advance.Given as goal

-- the chains of the groups so far have their ends, and so have those that had them before
abbrev pub invariant-loop-four : goal.invariant-loop-four
invariant-loop-four l =
    ((k : ℕ) → k < 34
    → Ended (λ i. through sha256 (bytes l.self.id) l.self.number i (get_or l.from i 0) (get_or l.to i 0) (get_or l.values i [])) l.initial.ended k
    → Ended (λ i. through sha256 (bytes l.self.id) l.self.number i (get_or l.from i 0) (get_or l.to i 0) (get_or l.values i [])) l.ended k)
    × ((g j : ℕ) → g < l.four-index → j < 4
    → Ended (λ i. through sha256 (bytes l.self.id) l.self.number i (get_or l.from i 0) (get_or l.to i 0) (get_or l.values i [])) l.ended (get_or (get_or l.four-items g []) j blank).chain)
