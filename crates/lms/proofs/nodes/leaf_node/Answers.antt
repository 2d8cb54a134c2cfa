use Rattle.std.proofs.Common.{[], ◌∷◌, ◌++◌, ap, ◌∙◌, append_assoc}
use Rattle.sha256.specs.Sha256.{bytes, sha256}
use Rattle.octets.specs.Numbers.{u32}
use Rattle.lms.specs.Lms.{leaf}
use Rattle.lms.proofs.nodes.leaf_node.Goals as goal

pub returns : goal.returns
unfolding leaf
returns c =
    c.finish.ensures _ (c.update.ensures _ c.tagged-hasher.ensures)
    ∙ ap sha256 (append_assoc (bytes c.args.id) (u32 c.args.r ++ (0x82 ∷ 0x82 ∷ [])) c.args.key.now)
