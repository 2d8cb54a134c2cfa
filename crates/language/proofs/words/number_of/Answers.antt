use Rattle.std.proofs.Common.{◌+◌, get_or, drop, sym, ap, ◌∙◌, arith}
use Rattle.std.proofs.lemmas.List.{at_drop_more, at_drop_all}
use Rattle.language.specs.Numbers.{number_from}
use Rattle.language.proofs.Decimals.{number_end, number_on, number_stops}
use Rattle.language.proofs.words.number_of.Goals as goal

pub loop-digit-preserved : goal.loop-digit-preserved
loop-digit-preserved c =
    let w = c.args.word.now in
    let i = c.loop-digit.digit-index in
    let n = c.loop-digit.n in
    let e = c.in_ok-n.ensures in
    let on = at_drop_more (number_from n) w i 0 c.loop-digit-test.true ∙ number_on n (get_or w i 0) (drop (i + 1) w) e.0.0 in
    (ap (λ z. number_from z (drop (i + 1) w)) e.1 ∙ sym on ∙ c.loop-digit.invariant.0, omega (arith, e.0.1, e.1))

pub returns-in_err-n : goal.returns-in_err-n
returns-in_err-n c =
    let w = c.args.word.now in
    let i = c.loop-digit.digit-index in
    let n = c.loop-digit.n in
    c.from_residual.ensures ∙ sym
    (sym c.loop-digit.invariant.0 ∙ at_drop_more (number_from n) w i 0 c.loop-digit-test.true ∙ number_stops n (get_or w i 0) (drop (i + 1) w) c.in_err-n.ensures)

pub returns : goal.returns
returns c =
    let n = c.loop-digit.n in
    sym (at_drop_all (number_from n) c.args.word.now c.loop-digit.digit-index c.loop-digit-test.false ∙ number_end n c.loop-digit.invariant.1)
    ∙ c.loop-digit.invariant.0
