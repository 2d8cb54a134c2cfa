-- The entries that rows tell of in a block: names and bodies lie one behind the other, and each row has their lengths.
use Rattle.std.specs.Prelude.{ℕ, ◌+◌, List, [], ◌∷◌, take, drop}
use Rattle.store.specs.Entries.{Entry}
use Rattle.table_store.specs.declared.table.Row.{Row}

abbrev pub entries_in : List Row → List ℕ → List Entry
entries_in [] block = []
entries_in (r ∷ rs) block = (take r.name block, take r.body (drop r.name block)) ∷ entries_in rs (drop (r.name + r.body) block)

-- the bytes of the block that rows take up
abbrev pub size : List Row → ℕ
size [] = 0
size (r ∷ rs) = (r.name + r.body) + size rs
