-- What a table over a block means, and what fits into it.
use Rattle.std.specs.Prelude.{◌≡◌, ℕ, ◌+◌, Bool, ◌&&◌, List, ◌++◌, length, take, nat_le, nat_lt, slice_set}
use Rattle.octets.specs.Buffers.{over}
use Rattle.store.specs.Meanings.{Meaning}
use Rattle.store.specs.Entries.{Entry, look_up}
use Rattle.table_store.specs.Blocks.{entries_in}
use Rattle.table_store.specs.declared.table.Row.{Row}
use Rattle.table_store.specs.declared.TableStore.{TableStore}

-- the rows in use
abbrev pub rows_of : TableStore → List Row
rows_of t = take t.count t.rows.now

abbrev pub entries_of : TableStore → List Entry
entries_of t = entries_in (rows_of t) t.block.now

abbrev pub meaning_of : TableStore → Meaning
meaning_of t = look_up (entries_of t)

-- one row is left, and as many bytes of the block as name and body have
abbrev pub room_in : TableStore → ℕ → ℕ → Bool
room_in t n b = nat_lt t.count (length t.rows.now) && nat_le (t.filled + (n + b)) (length t.block.now)

-- an entry is put behind the others, in the block and in the rows; all past it stays
pub record Added (before after : TableStore) (e : Entry) : Type 0 where
  pub count_is : after.count ≡ before.count + 1
  pub filled_is : after.filled ≡ before.filled + (length e.0 + length e.1)
  pub rows_are : after.rows.now ≡ slice_set before.rows.now before.count (record { name = length e.0; body = length e.1 })
  pub block_is : after.block.now ≡ over ((take before.filled before.block.now ++ e.0) ++ e.1) before.block.now
