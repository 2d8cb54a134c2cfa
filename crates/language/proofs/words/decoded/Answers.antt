use Rattle.std.proofs.Common.{◌≡◌, ◌*◌, ◌/◌, true, cond, vec_len, length, drop, Some, None, sym, ap, ◌∙◌, arith}
use Rattle.std.proofs.lemmas.List.{take_at}
use Rattle.octets.specs.Hex.{is_hex, unhex}
use Rattle.octets.proofs.Hexed.{hex_long, length-unhex, unhex_fills}
use Rattle.language.proofs.words.decoded.Goals as goal

pub returns : goal.returns
returns c =
    let s = c.args.digits.now in
    let out = c.as_mut_slice.result.now in
    let written = c.read.new.out in
    let h : is_hex s ≡ true = sym c.is_hex.ensures ∙ c.if-not-is_hex.false in
    let half : vec_len c.in_ok-bytes.bytes ≡ length s / 2 = c.in_ok-bytes.ensures.len in
    let long : length s ≡ 2 * length out = omega (arith, c.as_mut_slice.ensures.len, half, hex_long s h) in
    let e : written ≡ unhex s = c.read.ensures ∙ unhex_fills out s long in
    let n : length written ≡ vec_len c.in_ok-bytes.bytes = omega (arith, ap length e, length-unhex s, half) in
    let t = take_at written (drop (length written) c.in_ok-bytes.bytes.items) (vec_len c.in_ok-bytes.bytes) n ∙ e in
    ap (λ b. cond b (Some (unhex s)) None) h ∙ ap (λ z. Some z) (sym t)
