use Rattle.line_store.proofs.Listing.{Starts}
use Rattle.line_store.proofs.lines.name_at.Given as goal

abbrev pub invariant-loop : goal.invariant-loop
invariant-loop l = Starts l.text l.counter l.rest
