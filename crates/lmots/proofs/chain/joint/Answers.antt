use Rattle.lmots.proofs.Block.{joined_word}
use Rattle.lmots.proofs.chain.joint.Goals as goal

pub returns : goal.returns
returns g c j l =
    joined_word (g.W.Word.at c.args.a j) (g.W.Word.at c.args.b j) _ _ _ (c.wrapping_shl.ensures j l) (c.wrapping_shr.ensures.is j l) (c.wrapping_shr.ensures.small j l) (c.plus.ensures j l)
