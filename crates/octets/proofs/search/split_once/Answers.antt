use Rattle.std.proofs.Common.{rules, ◌+◌, take, drop, sym, ap, ◌∙◌, arith}
use Rattle.std.proofs.lemmas.List.{take_rest}
use Rattle.octets.proofs.Sought.{found_at, found_none}
use Rattle.octets.proofs.search.split_once.Goals as goal

pub returns-in_err-at : goal.returns-in_err-at
returns-in_err-at c = let end = found_none c.args.c c.args.text.now (sym c.in_err-at.was ∙ c.first.ensures) in search rules

pub returns : goal.returns
returns c =
    let text = c.args.text.now in
    let f = found_at c.args.c text c.in_ok-at.at (sym c.in_ok-at.was ∙ c.first.ensures) in
    (omega (arith, f.0, f.1), ap (λ k. take k text) (sym f.0), take_rest text (c.in_ok-at.at + 1) ∙ ap (λ k. drop (k + 1) text) (sym f.0))
