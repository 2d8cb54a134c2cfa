use Rattle.std.proofs.Common.{◌≡◌, ◌++◌, length, replicate, ap, ◌∙◌, arith}
use Rattle.octets.specs.Numbers.{u32}
use Rattle.octets.specs.Parts.{row}
use Rattle.sha256.specs.Sha256.{bytes, sha256}
use Rattle.lmots.specs.LmOts.{C, z, signature}
use Rattle.lmots.proofs.Advanced.{signed}
use Rattle.lmots.proofs.Written.{three_fill}
use Rattle.lmots.proofs.Valued.{flat_row}
use Rattle.lmots.proofs.material.KeyMaterial.sign.Goals as goal

pub returns : goal.returns
unfolding signature
returns c =
    let leaf = c.leaf-leaf.result in
    let I = bytes leaf.id in
    let q = leaf.number in
    let S = bytes c.args.self.seed in
    let m = c.args.message.now in
    let t = c.to_be_bytes.result in
    let r = c.state_bytes-randomizer.result in
    let v = c.as_flattened.result.now in
    let er : r ≡ C sha256 I q S = c.state_bytes-randomizer.ensures ∙ c.start.ensures in
    let long : length c.advance-values.result ≡ 34 = grind arith in
    let ev : v ≡ row 34 (z sha256 I q S m) =
    c.as_flattened.ensures.value
    ∙ flat_row _ 34 c.advance-values.result long (signed sha256 I q S m r c.message_hash.result c.digits-ends.result _ _ er c.message_hash.ensures c.digits-ends.ensures c.starts-begun.ensures c.advance-values.ensures) in
    let lt : length t ≡ 4 = grind arith in
    let lr : length r ≡ 32 = grind arith in
    let lv : length v ≡ 1088 = omega (arith, c.as_flattened.ensures.len) in
    three_fill (replicate 1124 0) t r v _ _ _ 4 36 lt (omega arith) (omega arith) c.put.ensures.written c.put-2.ensures.written c.put-3.ensures.written
    ∙ ap (λ s. s ++ (r ++ v)) c.to_be_bytes.ensures ∙ ap (λ s. u32 4 ++ (s ++ v)) er ∙ ap (λ s. u32 4 ++ (C sha256 I q S ++ s)) ev
    ∙ ap (λ i. signature sha256 (bytes i) q S m) c.leaf-leaf.ensures.0 ∙ ap (λ n. signature sha256 (bytes c.args.self.id) n S m) c.leaf-leaf.ensures.1
