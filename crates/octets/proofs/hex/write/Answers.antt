use Rattle.std.proofs.Common.{◌≡◌, ◌*◌, ◌/◌, take, length, refl, ap, ◌∙◌, arith}
use Rattle.std.proofs.lemmas.List.{length-take-le}
use Rattle.octets.specs.Buffers.{over}
use Rattle.octets.specs.Hex.{hex}
use Rattle.octets.proofs.Steps.{write_more, write_all, take_min}
use Rattle.octets.proofs.hex.write.Goals as goal

pub loop-i-preserved : goal.loop-i-preserved
loop-i-preserved c =
    let part = take c.min.result c.args.bytes.now in
    let long : length part ≡ c.min.result = length-take-le c.min.result c.args.bytes.now (omega arith) in
    write_more c.loop-i.out c.args.out.now part c.loop-i.i c.loop-i.invariant (2 * c.loop-i.i) c.digit.result c.digit-in-loop-i.result
    (omega arith) (omega arith) refl c.digit.ensures c.digit-in-loop-i.ensures

pub returns : goal.returns
returns c =
    let part = take c.min.result c.args.bytes.now in
    write_all c.loop-i.out c.args.out.now part c.loop-i.i c.loop-i.invariant (omega arith)
    ∙ ap (λ z. over (hex z) c.args.out.now) (take_min c.args.bytes.now c.min.result (length c.args.out.now / 2) c.min.ensures)
