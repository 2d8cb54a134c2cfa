use Rattle.std.proofs.Common.{ℕ, List, [], ◌∷◌, ◌++◌, ap, ◌∙◌, append_assoc}
use Rattle.sha256.specs.Sha256.{bytes, sha256}
use Rattle.octets.specs.Numbers.{u32}
use Rattle.lms.specs.Lms.{inner}
use Rattle.lms.proofs.nodes.inner_node.Goals as goal

pub returns : goal.returns
unfolding inner
returns c =
    let I = bytes c.args.id in
    let X : List ℕ = u32 c.args.r ++ (0x83 ∷ 0x83 ∷ []) in
    let left = c.args.left.now in
    let right = c.args.right.now in
    c.finish.ensures _ (c.update-2.ensures _ (c.update.ensures _ c.tagged-hasher.ensures))
    ∙ ap sha256 (append_assoc (I ++ X) left right ∙ append_assoc I X (left ++ right))
