use Rattle.std.proofs.Common.{◌≡◌, [], ◌∷◌, ◌++◌, length, ap, ◌∙◌, append_assoc, arith}
use Rattle.octets.specs.Numbers.{u32}
use Rattle.sha256.specs.Sha256.{bytes, sha256}
use Rattle.lmots.specs.LmOts.{gathered}
use Rattle.lmots.proofs.Valued.{flat_row}
use Rattle.lmots.proofs.leaf.Leaf.gather.Goals as goal

pub returns : goal.returns
unfolding gathered
returns c end h =
    let I = bytes c.args.self.id in
    let q = c.args.self.number in
    let long : length c.args.ends.now ≡ 34 = grind arith in
    c.finish.ensures _ (c.update.ensures _ c.tagged-hasher.ensures)
    ∙ ap sha256 (append_assoc I (u32 q ++ (0x80 ∷ 0x80 ∷ [])) c.as_flattened.result.now)
    ∙ ap (λ v. sha256 (I ++ (u32 q ++ (0x80 ∷ 0x80 ∷ v)))) (c.as_flattened.ensures.value ∙ flat_row end 34 c.args.ends.now long h)
