use Rattle.table_store.proofs.Laying.{Left}
use Rattle.table_store.proofs.entries.find.Given as goal

abbrev pub invariant-loop-row : goal.invariant-loop-row
invariant-loop-row l = Left l.rows l.block l.name l.rest l.row-index
