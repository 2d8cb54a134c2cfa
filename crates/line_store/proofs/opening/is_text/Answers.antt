use Rattle.std.proofs.Common.{false, is_some, sym, refl, rules}
use Rattle.std.proofs.lemmas.Bool.{both_ways}
use Rattle.store.specs.Entries.{look_up}
use Rattle.line_store.proofs.Finding.{some_copied}
use Rattle.line_store.proofs.Checking.{not_spelt, not_twice, read_more, told_whole, nothing_left}
use Rattle.line_store.proofs.opening.is_text.Goals.{then-not-is_entry-via-then-not-is_entry, then-not-is_entry-via-else-not-is_entry+then-is_some}
use Rattle.line_store.proofs.opening.is_text.Goals as goal

pub returns-then-not-is_entry : goal.returns-then-not-is_entry
returns-then-not-is_entry c =
    let l = c.in-Some.ensures in
    let text = c.args.text.now in
    let rest = c.loop-line.rest.now in
    let name = c.in-Some.line.name.now in
    let body = c.in-Some.line.body.now in
    let after = c.in-Some.after.now in (
      (λ z. absurd (both_ways false refl z)),
      λ t. absurd (elim c.then-not-is_entry.branch [
        | then-not-is_entry-via-then-not-is_entry w ↦ not_spelt text rest c.loop-line.invariant name body after l.cut l.reads (sym w.if-not-is_entry.ensures) t
        | then-not-is_entry-via-else-not-is_entry+then-is_some w ↦
            not_twice text rest c.loop-line.invariant name body after l.cut l.reads (is_some w.find.result) (λ es n e h. some_copied w.find.result (look_up es n) (w.find.ensures es n e h)) (sym w.if-is_some.ensures) t
      ]),
    )

pub loop-line-preserved : goal.loop-line-preserved
loop-line-preserved c =
    let l = c.in-Some.ensures in
    read_more c.args.text.now c.loop-line.rest.now c.loop-line.invariant c.in-Some.line.name.now c.in-Some.line.body.now c.in-Some.after.now l.cut l.reads
    (is_some c.find.result) (λ es n e h. some_copied c.find.result (look_up es n) (c.find.ensures es n e h)) (sym c.if-not-is_entry.ensures) (sym c.if-is_some.ensures)

pub returns : goal.returns
returns c =
    let r = c.loop-line.invariant in
    let none = c.in_default.ensures.reads in
    (told_whole c.args.text.now c.loop-line.rest.now r none _ (search rules), nothing_left c.args.text.now c.loop-line.rest.now r none _ (search rules))
