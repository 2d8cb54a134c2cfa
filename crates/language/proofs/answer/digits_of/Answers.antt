use Rattle.std.proofs.Common.{◌≡◌, ◌*◌, length, drop, ap, ◌∙◌, arith}
use Rattle.std.proofs.lemmas.List.{take_at}
use Rattle.octets.proofs.Hexed.{length-hex, hex_fills}
use Rattle.language.proofs.answer.digits_of.Goals as goal

pub returns : goal.returns
returns c =
    let out = c.as_mut_slice.result.now in
    let bytes = c.args.bytes.now in
    let written = c.write.new.out in
    let long : length out ≡ 2 * length bytes = omega (arith, c.as_mut_slice.ensures.len, c.in_ok-digits.ensures.len) in
    let e : written ≡ _ = c.write.ensures ∙ hex_fills out bytes long in
    let n : length written ≡ c.in_ok-digits.digits.len = omega (arith, ap length e, length-hex bytes, c.in_ok-digits.ensures.len) in
    take_at written (drop (length written) c.in_ok-digits.digits.items) c.in_ok-digits.digits.len n ∙ e
