use Rattle.std.proofs.Common.{ℕ, List, [], ◌∷◌, ◌++◌, ap, ◌∙◌, append_assoc}
use Rattle.sha256.specs.Sha256.{bytes, sha256}
use Rattle.octets.specs.Numbers.{u32}
use Rattle.lmots.specs.LmOts.{Q}
use Rattle.lmots.proofs.leaf.Leaf.message_hash.Goals as goal

pub returns : goal.returns
unfolding Q
returns c =
    let I = bytes c.args.self.id in
    let X : List ℕ = u32 c.args.self.number ++ (0x81 ∷ 0x81 ∷ []) in
    let r = c.args.randomizer.now in
    let m = c.args.message.now in
    c.finish.ensures _ (c.update-2.ensures _ (c.update.ensures _ c.tagged-hasher.ensures))
    ∙ ap sha256 (append_assoc (I ++ X) r m ∙ append_assoc I X (r ++ m))
