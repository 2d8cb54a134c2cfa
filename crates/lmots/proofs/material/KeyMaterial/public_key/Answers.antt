use Rattle.std.proofs.Common.{◌≡◌, ◌++◌, length, replicate, ap, ◌∙◌, arith}
use Rattle.octets.specs.Numbers.{u32}
use Rattle.sha256.specs.Sha256.{bytes}
use Rattle.lmots.specs.LmOts.{public_key}
use Rattle.lmots.proofs.Written.{four_fill}
use Rattle.lmots.proofs.material.KeyMaterial.public_key.Goals as goal

pub returns : goal.returns
unfolding public_key
returns c =
    let t = c.to_be_bytes.result in
    let i = c.id_bytes.result in
    let q = c.to_be_bytes-2.result in
    let k = c.leaf_key.result in
    let lt : length t ≡ 4 = grind arith in
    let li : length i ≡ 16 = grind arith in
    let lq : length q ≡ 4 = grind arith in
    let lk : length k ≡ 32 = grind arith in
    four_fill (replicate 56 0) t i q k _ _ _ _ 4 20 24 lt (omega arith) (omega arith) (omega arith) c.put.ensures.written c.put-2.ensures.written c.put-3.ensures.written c.put-4.ensures.written
    ∙ ap (λ v. v ++ (i ++ (q ++ k))) c.to_be_bytes.ensures
    ∙ ap (λ v. u32 4 ++ (v ++ (q ++ k))) c.id_bytes.ensures
    ∙ ap (λ v. u32 4 ++ (bytes c.args.self.id ++ (v ++ k))) c.to_be_bytes-2.ensures
    ∙ ap (λ v. u32 4 ++ (bytes c.args.self.id ++ (u32 c.args.number ++ v))) c.leaf_key.ensures
