use Rattle.std.proofs.Common.{◌≡◌, ◌+◌, ◌*◌, ◌≤◌, drop}
use Rattle.lmots.specs.LmOts.{checksum}
use Rattle.lmots.proofs.digits.checksum.Given as goal

abbrev pub invariant-loop-b : goal.invariant-loop-b
invariant-loop-b l = (l.sum + checksum (drop l.b-index l.hash) ≡ checksum l.hash) × (l.sum ≤ 255 * l.b-index)
