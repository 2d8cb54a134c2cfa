use Rattle.std.proofs.Common.{◌≡◌, ◌+◌, ◌*◌, ◌/◌, min, length, get_or, take, [], ap, ◌∙◌, arith}
use Rattle.std.proofs.lemmas.List.{length-take-le}
use Rattle.octets.specs.Hex.{hex_value}
use Rattle.octets.proofs.Steps.{pair_value, read_more, read_all}
use Rattle.octets.proofs.hex.read.Goals as goal

pub loop-i-preserved : goal.loop-i-preserved
loop-i-preserved c =
    let text = c.args.text.now in
    let i = c.loop-i.i in
    let n = c.min.result in
    let long : length (take n c.as_chunks.result.0.now) ≡ n = length-take-le n c.as_chunks.result.0.now (omega arith) in
    let pair = get_or (take n c.as_chunks.result.0.now) i [] in
    read_more c.loop-i.out c.args.out.now text i c.loop-i.invariant n _ (omega arith) (omega (arith, c.as_chunks.ensures.front_len)) (omega arith)
    (ap (λ z. 16 * z + c.value-in-loop-i.result) c.value.ensures.is ∙ ap (λ z. 16 * hex_value (get_or pair 0 0) + z) c.value-in-loop-i.ensures.is
    ∙ ap (λ z. pair_value (get_or (take n z) i [])) c.as_chunks.ensures.front)

pub returns : goal.returns
returns c =
    let long : length (take c.min.result c.as_chunks.result.0.now) ≡ c.min.result = length-take-le c.min.result c.as_chunks.result.0.now (omega arith) in
    let e : c.loop-i.i ≡ min (length c.args.out.now) (length c.args.text.now / 2) = omega (arith, c.as_chunks.ensures.front_len) in
    read_all c.loop-i.out c.args.out.now c.args.text.now c.loop-i.i c.loop-i.invariant e
