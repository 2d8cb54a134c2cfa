use Rattle.std.proofs.Common.{◌≡◌, ◌-◌, ◌^◌, ◌<◌, [], ◌++◌, length, get_or, replicate, ap, ◌∙◌, arith, pow_pos}
use Rattle.octets.specs.Numbers.{u32}
use Rattle.sha256.specs.Sha256.{bytes, sha256}
use Rattle.sha256.proofs.Sizes.{sized, small}
use Rattle.lmots.proofs.Written.{four_fill}
use Rattle.lms.specs.Kinds.{type_number}
use Rattle.lms.specs.Lms.{public_key, height, node}
use Rattle.lms.specs.Climbing as Climbing
use Rattle.lms.proofs.signing.public_key.Goals as goal

pub returns : goal.returns
unfolding public_key
returns c S grown =
    let T = type_number c.args.kind in
    let h = height T in
    let I = bytes c.args.id in
    let t = c.to_be_bytes.result in
    let i = c.id_bytes.result in
    let o = c.to_be_bytes-2.result in
    let n = get_or c.args.nodes.now 1 [] in
    let p : 0 < 2 ^ h = pow_pos h in
    let e : h - h ≡ 0 = omega arith in
    let w : 2 ^ (h - h) ≡ 1 = ap (λ v. 2 ^ v) e in
    let top : n ≡ node sha256 h I S h 1 = grown (h, 1, omega arith, omega arith, omega arith, omega arith) in
    let et : t ≡ u32 T = c.to_be_bytes.ensures ∙ ap u32 c.from.ensures in
    let lt : length t ≡ 4 = grind arith in
    let lo : length o ≡ 4 = grind arith in
    let li : length i ≡ 16 = grind arith in
    let ln : length n ≡ 32 = ap length top ∙ Climbing.length-node sha256 sized small h I S h 1 in
    four_fill (replicate 56 0) t o i n _ _ _ _ 4 8 24 lt (omega arith) (omega arith) (omega arith) c.put.ensures.written c.put-2.ensures.written c.put-3.ensures.written c.put-4.ensures.written
    ∙ ap (λ v. v ++ (o ++ (i ++ n))) et ∙ ap (λ v. u32 T ++ (v ++ (i ++ n))) c.to_be_bytes-2.ensures
    ∙ ap (λ v. u32 T ++ (u32 4 ++ (v ++ n))) c.id_bytes.ensures
    ∙ ap (λ v. u32 T ++ (u32 4 ++ (I ++ v))) top
