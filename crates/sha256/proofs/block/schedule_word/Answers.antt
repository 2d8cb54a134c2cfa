use Rattle.std.proofs.Common.{rules}
use Rattle.sha256.specs.Sha256.{scheduled}
use Rattle.sha256.proofs.block.schedule_word.Goals as goal

pub returns : goal.returns
unfolding scheduled
returns g c j l = search rules
