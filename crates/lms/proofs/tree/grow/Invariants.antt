use Rattle.std.proofs.Common.{◌≡◌, ℕ, ◌^◌, length}
use Rattle.sha256.specs.Sha256.{bytes, sha256}
use Rattle.lms.specs.Lms.{Grown}
use Rattle.lms.proofs.tree.grow.Given as goal

-- the nodes from r on are there, whatever height makes that many leaves
abbrev pub invariant-loop-r : goal.invariant-loop-r
invariant-loop-r l = (length l.nodes ≡ 2048) × ((h : ℕ) → l.leaves ≡ 2 ^ h → Grown sha256 h (bytes l.material.id) (bytes l.material.seed) l.r l.nodes)
