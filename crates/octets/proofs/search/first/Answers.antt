use Rattle.std.proofs.Common.{rules, ◌≡◌, None, ◌++◌, ◌==◌, sym, ap, ◌∙◌}
use Rattle.std.specs.List.{position}
use Rattle.std.proofs.lemmas.List.{take-append-drop}
use Rattle.octets.proofs.Sought.{first_in_front, first_in_back, first_in_none}
use Rattle.octets.proofs.search.first.Goals as goal

pub returns-in-Some : goal.returns-in-Some
returns-in-Some c =
    let near = c.split_at.result.0.now in
    let far = c.split_at.result.1.now in
    let whole : near ++ far ≡ c.args.text.now = search (rules, take-append-drop) in
    first_in_front c.args.c near far c.in-Some.at (sym c.in-Some.is ∙ c.first_near.ensures) ∙ ap (position (λ b. b == c.args.c)) whole

pub returns-in_ok-first_far-in-None : goal.returns-in_ok-first_far-in-None
returns-in_ok-first_far-in-None c =
    let near = c.split_at.result.0.now in
    let far = c.split_at.result.1.now in
    let whole : near ++ far ≡ c.args.text.now = search (rules, take-append-drop) in
    first_in_back c.args.c near far (sym c.in-None.is ∙ c.first_near.ensures) c.in_ok-first_far-in-None.field-0 (sym c.in_ok-first_far-in-None.was ∙ c.first_far.ensures) ∙ ap (position (λ b. b == c.args.c)) whole

pub returns-in_err-first_far-in-None : goal.returns-in_err-first_far-in-None
returns-in_err-first_far-in-None c =
    let near = c.split_at.result.0.now in
    let far = c.split_at.result.1.now in
    let whole : near ++ far ≡ c.args.text.now = search (rules, take-append-drop) in
    let none : None ≡ position (λ b. b == c.args.c) (near ++ far) =
    first_in_none c.args.c near far (sym c.in-None.is ∙ c.first_near.ensures) (sym c.in_err-first_far-in-None.was ∙ c.first_far.ensures) in
    search (rules, none, whole)
