use Rattle.std.proofs.Common.{arith}
use Rattle.sha256.proofs.Rounds.{round-lane}
use Rattle.sha256.proofs.block.round.Goals as goal

pub returns : goal.returns
returns g c j l =
    round-lane g.W.Word.at j c.args.s _ _ _ _ _ _ _ _ _ _ (omega arith)
    (c.temp1-t1.ensures j l) (c.temp2-t2.ensures j l) (c.plus.ensures j l) (c.plus-2.ensures j l)
