use Rattle.std.proofs.Common.{◌&&◌, sym, ap, ◌∙◌, arith}
use Rattle.std.proofs.lemmas.Bool.{and_right}
use Rattle.octets.specs.Hex.{is_hex, unhex}
use Rattle.octets.proofs.Hexed.{hex_long}
use Rattle.store.specs.Meanings.{is_name}
use Rattle.line_store.proofs.Added.{read_front}
use Rattle.line_store.proofs.Checking.{name_long}
use Rattle.line_store.proofs.opening.is_hex_name.Goals.{then-not-is_hex-via-then-not-is_hex, then-not-is_hex-via-else-not-is_hex+then-digits}
use Rattle.line_store.proofs.opening.is_hex_name.Goals as goal

pub returns-then-not-is_hex : goal.returns-then-not-is_hex
returns-then-not-is_hex c =
    let t = c.args.digits.now in
    elim c.then-not-is_hex.branch [
      | then-not-is_hex-via-then-not-is_hex w ↦ ap (λ z. z && is_name (unhex t)) w.if-not-is_hex.ensures
      | then-not-is_hex-via-else-not-is_hex+then-digits w ↦ sym (and_right (is_hex t) (is_name (unhex t)) (name_long t (sym w.if-not-is_hex.ensures) w.if-digits.true))
    ]

pub returns : goal.returns
returns c =
    let t = c.args.digits.now in
    let l = hex_long t (sym c.if-not-is_hex.ensures) in
    c.is_name.ensures ∙ ap is_name (read_front 96 _ t _ c.read.ensures l (omega arith)) ∙ ap (λ z. z && is_name (unhex t)) c.if-not-is_hex.ensures
