use Rattle.std.proofs.Common.{rules, ◌≡◌, ◌+◌, length, drop, sym, ap, ◌∙◌, arith, length-drop}
use Rattle.std.proofs.lemmas.List.{take_rest}
use Rattle.octets.specs.Search.{up_to}
use Rattle.octets.proofs.Sought.{found_at, found_none}
use Rattle.octets.proofs.search.seek.Goals as goal

pub returns-in-Some-first-clause-is : goal.returns-in-Some-first-clause-is
returns-in-Some-first-clause-is c =
    let rest = c.in-Some.rest.now in
    let whole : rest ≡ drop c.args.from c.args.text.now = search (rules, take_rest) in
    let f = found_at c.args.c rest c.in-Some-first.at (sym c.in-Some-first.is ∙ c.first.ensures) in
    ap (λ z. c.args.from + z) (sym f.0 ∙ ap (up_to c.args.c) whole)

pub returns-in-None-clause-is : goal.returns-in-None-clause-is
returns-in-None-clause-is c =
    let rest = c.in-Some.rest.now in
    let whole : rest ≡ drop c.args.from c.args.text.now = search (rules, take_rest) in
    let n = found_none c.args.c rest (sym c.in-None.is ∙ c.first.ensures) in
    let end : up_to c.args.c (drop c.args.from c.args.text.now) ≡ length (drop c.args.from c.args.text.now) = ap (up_to c.args.c) (sym whole) ∙ n ∙ ap length whole in
    omega (arith, end, c.in-Some.ensures.lookup.0, length-drop c.args.from c.args.text.now)
