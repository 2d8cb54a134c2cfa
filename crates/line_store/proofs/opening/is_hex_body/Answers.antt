use Rattle.std.proofs.Common.{◌&&◌, sym, ap, ◌∙◌}
use Rattle.octets.specs.Hex.{unhex}
use Rattle.store.specs.Meanings.{is_body}
use Rattle.line_store.proofs.Checking.{body_short}
use Rattle.line_store.proofs.opening.is_hex_body.Goals as goal

pub returns-then-is_hex : goal.returns-then-is_hex
returns-then-is_hex c =
    let t = c.args.digits.now in
    body_short t (sym c.if-is_hex.ensures) ∙ ap (λ z. z && is_body (unhex t)) c.if-is_hex.ensures
