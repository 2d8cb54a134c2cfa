use Rattle.std.proofs.Common.{length}
use Rattle.line_store.proofs.Finding.{Left}
use Rattle.line_store.proofs.lines.find.Given as goal

abbrev pub invariant-loop-line : goal.invariant-loop-line
invariant-loop-line l = Left l.text l.key l.rest

abbrev pub decreases-loop-line : goal.decreases-loop-line
decreases-loop-line l = length l.rest
