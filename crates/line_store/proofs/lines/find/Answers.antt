use Rattle.std.proofs.lemmas.Slice.Eq.{slice_eq-Decides}
use Rattle.std.proofs.lemmas.Bool.Decides.{not_from_Decides, Decides-eqb}
use Rattle.line_store.proofs.Finding.{found, passed, left_all}
use Rattle.line_store.proofs.lines.find.Goals as goal

pub returns-then-eq : goal.returns-then-eq
returns-then-eq c =
    let l = c.in-Some.ensures in
    found c.args.text.now c.args.key.now c.loop-line.rest.now c.in-Some.line.name.now c.in-Some.line.body.now c.in-Some.after.now c.loop-line.invariant l.cut l.reads
    ((slice_eq-Decides Decides-eqb _ _ _ c.eq.ensures).0 c.if-eq.true)

pub loop-line-preserved : goal.loop-line-preserved
loop-line-preserved c =
    let l = c.in-Some.ensures in
    passed c.args.text.now c.args.key.now c.loop-line.rest.now c.in-Some.line.name.now c.in-Some.line.body.now c.in-Some.after.now c.loop-line.invariant l.cut l.reads
    (not_from_Decides _ (slice_eq-Decides Decides-eqb _ _ _ c.eq.ensures) c.if-eq.false)

pub returns : goal.returns
returns c = left_all c.args.text.now c.args.key.now c.loop-line.rest.now c.loop-line.invariant c.in_default.ensures.reads
