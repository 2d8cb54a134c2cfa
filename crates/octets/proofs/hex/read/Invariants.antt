use Rattle.std.proofs.Common.{◌≡◌, ◌++◌, take, drop}
use Rattle.octets.specs.Hex.{unhex}
use Rattle.octets.proofs.hex.read.Given as goal

abbrev pub invariant-loop-i : goal.invariant-loop-i
invariant-loop-i l = l.out ≡ take l.i (unhex l.text) ++ drop l.i l.initial.out
