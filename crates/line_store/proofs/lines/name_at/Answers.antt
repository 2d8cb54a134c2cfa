use Rattle.std.proofs.Common.{◌≡◌, ◌≤◌, length, subst, ◌∙◌, arith, rules}
use Rattle.line_store.proofs.Cutting.{no_space}
use Rattle.line_store.proofs.Listing.{Starts, no_more, starts_more, there_is, name_cut}
use Rattle.line_store.proofs.lines.name_at.Goals as goal

pub returns-in_err-after : goal.returns-in_err-after
returns-in_err-after c es e =
    let n : length es ≤ c.args.index = omega (arith, no_more c.args.text.now c.loop.rest.now c.loop.counter c.loop.invariant es e c.in_err-after.ensures.reads) in
    search rules

pub loop-preserved : goal.loop-preserved
loop-preserved c =
    let l = c.in_ok-after.ensures in
    starts_more c.args.text.now c.loop.rest.now c.in_ok-after.field-0-0.name.now c.in_ok-after.field-0-0.body.now c.in_ok-after.after.now c.loop.counter c.loop.invariant l.cut l.reads

pub returns-in_err-name : goal.returns-in_err-name
returns-in_err-name c es e =
    let rest = c.loop.rest.now in
    let n : length es ≤ c.args.index = omega (arith, no_more c.args.text.now rest c.loop.counter c.loop.invariant es e (no_space rest c.in_err-name.ensures)) in
    search rules

pub returns : goal.returns
returns c es e =
    let s = c.in_ok-name.ensures in
    let text = c.args.text.now in
    let rest = c.loop.rest.now in
    let k : c.loop.counter ≡ c.args.index = omega arith in
    let at : Starts text c.args.index rest = subst (λ i. Starts text i rest) k c.loop.invariant in
    (there_is text rest c.args.index at es e s.0, s.1 ∙ name_cut text rest c.args.index at es e s.0)
