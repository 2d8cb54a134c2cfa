use Rattle.std.proofs.Common.{◌≡◌, take, drop}
use Rattle.table_store.specs.Blocks.{size}
use Rattle.table_store.proofs.entries.name_at.Given as goal

abbrev pub invariant-loop-before : goal.invariant-loop-before
invariant-loop-before l = l.rest ≡ drop (size (take l.before-index l.fn.rows)) l.fn.block
