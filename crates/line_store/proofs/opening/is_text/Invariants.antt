use Rattle.std.proofs.Common.{length}
use Rattle.line_store.proofs.Checking.{Read}
use Rattle.line_store.proofs.opening.is_text.Given as goal

abbrev pub invariant-loop-line : goal.invariant-loop-line
invariant-loop-line l = Read l.text l.rest

abbrev pub decreases-loop-line : goal.decreases-loop-line
decreases-loop-line l = length l.rest
