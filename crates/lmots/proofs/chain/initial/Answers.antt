use Rattle.std.proofs.Common.{rules, refl}
use Rattle.sha256.specs.Sha256.{IV}
use Rattle.lmots.proofs.Called.{lane_called}
use Rattle.lmots.proofs.chain.initial.Goals as goal

pub returns : goal.returns
returns g c j l = lane_called _ g.W.Word.at j _ c.from_fn.result IV refl (λ i v q m call. search rules) c.from_fn.ensures.items
