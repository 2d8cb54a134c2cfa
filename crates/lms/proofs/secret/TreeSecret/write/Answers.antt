use Rattle.std.proofs.Common.{◌≡◌, ◌+◌, ◌*◌, ◌^◌, ◌++◌, length, take, ap, ◌∙◌, arith}
use Rattle.std.proofs.lemmas.List.{length-take-le}
use Rattle.octets.specs.Buffers.{over}
use Rattle.octets.specs.Numbers.{u32}
use Rattle.sha256.specs.Sha256.{bytes, sha256}
use Rattle.lmots.specs.LmOts as LmOts
use Rattle.lmots.proofs.Written.{four}
use Rattle.lms.specs.Kinds.{type_number}
use Rattle.lms.specs.Lms.{signature, height, picked, siblings}
use Rattle.lms.proofs.Growth.{picked_is}
use Rattle.lms.proofs.secret.TreeSecret.write.Goals as goal

pub returns : goal.returns
unfolding signature
returns c =
    let old = c.args.out.now in
    let s = c.args.self.now in
    let T = type_number s.kind in
    let h = height T in
    let I = bytes s.material.id in
    let S = bytes s.material.seed in
    let q = c.args.leaf in
    let r = 2 ^ h + q in
    let b = c.to_be_bytes.result in
    let o = c.sign.result in
    let t = c.to_be_bytes-2.result in
    let lb : length b ≡ 4 = grind arith in
    let lo : length o ≡ 1124 = grind arith in
    let lt : length t ≡ 4 = grind arith in
    let et : t ≡ u32 T = c.to_be_bytes-2.ensures ∙ ap u32 c.from.ensures in
    let v = c.as_flattened.result.now in
    let p : v ≡ siblings sha256 h I S h 0 r =
    c.as_flattened.ensures.value ∙ c.path-path.ensures ∙ ap (λ w. picked s.nodes w (c.leaves.result + q)) c.height-height.ensures.is ∙ ap (λ w. picked s.nodes h (w + q)) c.leaves.ensures.is
    ∙ picked_is sha256 h I S s.nodes h 0 r (omega arith) (omega arith) (omega arith) s.grown in
    let room : length c.path-path.result ≡ 10 = grind arith in
    let taken : length (take c.height-height.result c.path-path.result) ≡ c.height-height.result = length-take-le c.height-height.result c.path-path.result (omega (arith, c.height-height.ensures.small)) in
    let high : c.height-height.result ≡ h = c.height-height.ensures.is in
    let lv : length v ≡ 32 * h = omega (arith, c.as_flattened.ensures.len) in
    four old b o t v _ _ _ _ 4 1128 1132 lb (omega arith) (omega arith) (omega arith) c.put.ensures.written c.put-2.ensures.written c.put-3.ensures.written c.put-4.ensures.written
    ∙ ap (λ w. over w old)
    (ap (λ w. w ++ (o ++ (t ++ v))) c.to_be_bytes.ensures
    ∙ ap (λ w. u32 q ++ (w ++ (t ++ v))) c.sign.ensures
    ∙ ap (λ w. u32 q ++ (LmOts.signature sha256 I q S c.args.message.now ++ (w ++ v))) et
    ∙ ap (λ w. u32 q ++ (LmOts.signature sha256 I q S c.args.message.now ++ (u32 T ++ w))) p)
