use Rattle.std.proofs.Common.{◌≡◌, ◌<◌, ◌%◌, length, sym, ap, ◌∙◌, arith}
use Rattle.std.specs.List.{list_all}
use Rattle.std.proofs.lemmas.Bool.{eqb-true, eqb-false}
use Rattle.octets.proofs.Steps.{is_pair, is_hex_even, is_hex_odd}
use Rattle.octets.proofs.hex.is_hex.Goals as goal

pub returns-then-is_empty : goal.returns-then-is_empty
returns-then-is_empty c =
    let none : length c.as_chunks.result.1.now ≡ 0 = eqb-true _ _ (sym c.is_empty.ensures ∙ c.if-is_empty.true) in
    c.are_bytes.ensures ∙ ap (list_all is_pair) c.as_chunks.ensures.front ∙ sym (is_hex_even c.args.text.now (sym c.as_chunks.ensures.back_len ∙ none))

pub returns-else-is_empty : goal.returns-else-is_empty
returns-else-is_empty c =
    let some : length c.as_chunks.result.1.now ≡ 0 → ⊥ = eqb-false _ _ (sym c.is_empty.ensures ∙ c.if-is_empty.false) in
    let odd : 0 < length c.args.text.now % 2 = omega (arith, some, c.as_chunks.ensures.back_len) in
    c.if-is_empty.false ∙ sym (is_hex_odd c.args.text.now odd)
