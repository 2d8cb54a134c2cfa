use Rattle.std.proofs.Common.{◌≡◌, ◌≤◌, length, get_or, rules, ap, ◌∙◌, sym, arith}
use Rattle.std.proofs.lemmas.List.{length-take-le}
use Rattle.store.specs.Entries.{name_at}
use Rattle.table_store.specs.Blocks.{entries_in}
use Rattle.table_store.proofs.Laying.{blank, entry_within, entry_name, before_within, before_fits, before_past, length-entries}
use Rattle.table_store.proofs.entries.name_at.Goals as goal

pub returns-in_err-row : goal.returns-in_err-row
returns-in_err-row c =
    let past = c.in_err-row.ensures.lookup.3 in
    let n : length (entries_in c.args.rows.now c.args.block.now) ≤ c.args.index = omega (arith, length-entries c.args.rows.now c.args.block.now) in
    search rules

pub overflow_add-before : goal.overflow_add-before
overflow_add-before c =
    let w = before_fits c.args.rows.now c.args.block.now c.loop-before.rest.now c.args.index c.loop-before.before-index c.requires c.loop-before.invariant c.in_ok-row.ensures.lookup.3.0 c.loop-before-test.true in
    search rules

pub split_at-requires : goal.split_at-requires
split_at-requires c =
    before_within c.args.rows.now c.args.block.now c.loop-before.rest.now c.args.index c.loop-before.before-index c.requires c.loop-before.invariant c.in_ok-row.ensures.lookup.3.0 c.loop-before-test.true

pub loop-before-preserved : goal.loop-before-preserved
loop-before-preserved c =
    c.split_at.ensures.back
    ∙ before_past c.args.rows.now c.args.block.now c.loop-before.rest.now c.args.index c.loop-before.before-index c.requires c.loop-before.invariant c.in_ok-row.ensures.lookup.3.0 c.loop-before-test.true

pub slice_bounds-result-end : goal.slice_bounds-result-end
slice_bounds-result-end c =
    let rows = c.args.rows.now in
    let there = c.in_ok-row.ensures.lookup.3 in
    let end : c.loop-before.before-index ≡ c.args.index = omega (arith, length-take-le c.args.index rows (omega arith)) in
    let w = entry_within rows c.args.block.now c.loop-before.rest.now c.loop-before.before-index _ c.requires c.loop-before.invariant (omega arith) (there.1 blank ∙ ap (λ z. get_or rows z blank) (sym end)) in
    search rules

pub returns : goal.returns
returns c =
    let rows = c.args.rows.now in
    let block = c.args.block.now in
    let there = c.in_ok-row.ensures.lookup.3 in
    let end : c.loop-before.before-index ≡ c.args.index = omega (arith, length-take-le c.args.index rows (omega arith)) in (
      omega (arith, length-entries rows block),
      entry_name rows block c.loop-before.rest.now c.loop-before.before-index _ c.requires c.loop-before.invariant (omega arith) (there.1 blank ∙ ap (λ z. get_or rows z blank) (sym end))
          ∙ ap (name_at (entries_in rows block)) end,
    )
