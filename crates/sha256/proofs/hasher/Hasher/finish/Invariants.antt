use Rattle.std.proofs.Common.{ℕ, List, ◌++◌, replicate}
use Rattle.sha256.specs.Hashed.{Holds}
use Rattle.sha256.proofs.hasher.Hasher.finish.Given as goal

abbrev pub invariant-loop-z : goal.invariant-loop-z
invariant-loop-z l = (bs : List ℕ) → Holds l.initial.h.state l.initial.h.block l.initial.h.filled l.initial.h.total bs → Holds l.h.state l.h.block l.h.filled l.h.total (bs ++ replicate l._z 0)
