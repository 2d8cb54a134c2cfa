use Rattle.std.proofs.Common.{◌≡◌, ◌*◌, ◌/◌, [], ◌∷◌, length, set, ap, ◌∙◌, arith}
use Rattle.std.proofs.lemmas.List.{length-append, take_all}
use Rattle.octets.specs.Buffers.{over}
use Rattle.octets.specs.Hex.{hex}
use Rattle.octets.proofs.Hexed.{length-hex}
use Rattle.octets.proofs.Overs.{over-set}
use Rattle.line_store.proofs.writing.write_digits.Goals as goal

pub returns-clause-long : goal.returns-clause-long
returns-clause-long c = omega (arith, length-append (hex c.args.bytes.now) (c.args.end ∷ []), length-hex c.args.bytes.now)

pub returns-clause-after : goal.returns-clause-after
returns-clause-after c =
    let out = c.args.out.now in
    let bytes = c.args.bytes.now in
    let at = 2 * length bytes in
    let written : c.write.new.out ≡ over (hex bytes) out = c.write.ensures ∙ ap (λ z. over (hex z) out) (take_all (length out / 2) bytes (omega arith)) in
    ap (λ z. set z at c.args.end) written ∙ over-set (hex bytes) out at c.args.end (length-hex bytes) (omega arith)
