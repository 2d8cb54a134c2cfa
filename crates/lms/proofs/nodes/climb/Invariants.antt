use Rattle.std.proofs.Common.{◌≡◌, ◌-◌, ◌*◌, ◌/◌, length, drop}
use Rattle.sha256.specs.Sha256.{bytes, sha256}
use Rattle.lms.specs.Lms.{climb}
use Rattle.lms.proofs.nodes.climb.Given as goal

abbrev pub invariant-loop-sibling : goal.invariant-loop-sibling
invariant-loop-sibling l =
    climb sha256 (bytes l.id) (length l.fn.path / 32 - l.sibling-index) l.place l.node (drop (32 * l.sibling-index) l.fn.path) ≡ climb sha256 (bytes l.id) (length l.fn.path / 32) l.initial.place l.initial.node l.fn.path
