use Rattle.std.proofs.lemmas.Slice.Zip.{either_empty_from_Zip}
use Rattle.sha256.proofs.Rounds.{rounds_turn, rounds_end}
use Rattle.sha256.proofs.block.some_rounds.Goals as goal

pub loop-k-preserved : goal.loop-k-preserved
loop-k-preserved g c j l =
    rounds_turn g.W.Word.at j c.loop-k.s _ _ _ _ _ _ _ (c.round-s.ensures j l) c.in-Some.ensures.steps.0 c.in-Some.ensures.steps.1 (c.loop-k.invariant j l)

pub returns : goal.returns
returns g c j l =
    rounds_end g.W.Word.at j _ _ _ (either_empty_from_Zip c.loop-k.k-iterator c.next.new.self c.next.result c.in-None.is c.next.ensures.steps) (c.loop-k.invariant j l)
