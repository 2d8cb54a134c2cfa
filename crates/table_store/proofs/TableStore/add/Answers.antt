use Rattle.std.proofs.Common.{◌≡◌, ◌+◌, ◌<◌, ◌≤◌, ltb, List, ℕ, [], ◌∷◌, ◌++◌, length, take, set, is_some, refl, ap, ◌∙◌, arith, append_assoc}
use Rattle.std.proofs.lemmas.Bool.{and_parts, and_from, le-leb, ltb-true}
use Rattle.std.proofs.lemmas.List.{take_more_set}
use Rattle.octets.specs.Buffers.{over}
use Rattle.octets.proofs.Hexed.{bytes_from}
use Rattle.store.specs.Entries.{look_up, sound}
use Rattle.store.proofs.Looking.{sound_push, look_push}
use Rattle.table_store.specs.Blocks.{entries_in, size}
use Rattle.table_store.specs.Held.{rows_of, entries_of}
use Rattle.table_store.specs.declared.table.Row.{Row}
use Rattle.table_store.proofs.Laying.{entries_push, entries_kept, size-append}
use Rattle.table_store.proofs.TableStore.add.Goals as goal

pub invariant_of-self-clause-told : goal.invariant_of-self-clause-told
invariant_of-self-clause-told c =
    let t = c.args.self.now in
    let part = c.args.name.now ++ c.args.body.now in
    ap sound (ap (entries_in (rows_of t)) (c.put_entry.ensures ∙ ap (λ z. over z t.block.now) (append_assoc (take t.filled t.block.now) c.args.name.now c.args.body.now))
    ∙ entries_kept (rows_of t) t.block.now part t.filled (omega (arith, t.sized)) t.within) ∙ t.told

-- the rows and the entries once one is added
module _ (rows : List Row) (block new name body : List ℕ) (count filled : ℕ) (free : count < length rows) (sized : filled ≡ size (take count rows)) (within : filled ≤ length block)
    (e : new ≡ over ((take filled block ++ name) ++ body) block) where
  abbrev row : Row
  row = record { name = length name; body = length body }

  more : take (count + 1) (set rows count row) ≡ take count rows ++ row ∷ []
  more = take_more_set rows count row free

  longer : filled + (length name + length body) ≡ size (take (count + 1) (set rows count row))
  longer = omega (arith, sized, size-append (take count rows) (row ∷ []), ap size more)

  pushed : entries_in (take (count + 1) (set rows count row)) new ≡ entries_in (take count rows) block ++ (name, body) ∷ []
  pushed = ap (λ z. entries_in z new) more ∙ ap (entries_in (take count rows ++ row ∷ [])) e ∙ entries_push (take count rows) row block name body filled sized within refl refl

pub invariant_of-self-2-clause-sized : goal.invariant_of-self-2-clause-sized
invariant_of-self-2-clause-sized c =
    let t = c.args.self.now in
    let free : t.count < length t.rows.now = ltb-true _ _ (and_parts (ltb t.count (length t.rows.now)) _ c.requires.room_left).0 in
    longer t.rows.now t.block.now c.put_entry.new.block c.args.name.now c.args.body.now t.count t.filled free t.sized t.within c.put_entry.ensures

pub invariant_of-self-2-clause-told : goal.invariant_of-self-2-clause-told
invariant_of-self-2-clause-told c =
    let t = c.args.self.now in
    let name = c.args.name.now in
    let body = c.args.body.now in
    let free : t.count < length t.rows.now = ltb-true _ _ (and_parts (ltb t.count (length t.rows.now)) _ c.requires.room_left).0 in
    let bytes = bytes_from body (λ i. omega (arith, c.type_inv.body i)) in
    ap sound (pushed t.rows.now t.block.now c.put_entry.new.block name body t.count t.filled free t.sized t.within c.put_entry.ensures)
    ∙ sound_push (entries_of t) (name, body) t.told (and_from _ _ c.requires.entry_formed.0 (and_from _ _ (le-leb _ _ c.requires.entry_formed.1) bytes)) (ap is_some c.requires.name_free)

pub returns-clause-meaning : goal.returns-clause-meaning
returns-clause-meaning c =
    let t = c.args.self.now in
    let free : t.count < length t.rows.now = ltb-true _ _ (and_parts (ltb t.count (length t.rows.now)) _ c.requires.room_left).0 in
    ap look_up (pushed t.rows.now t.block.now c.put_entry.new.block c.args.name.now c.args.body.now t.count t.filled free t.sized t.within c.put_entry.ensures)
    ∙ look_push (entries_of t) c.args.name.now c.args.body.now (ap is_some c.requires.name_free)
