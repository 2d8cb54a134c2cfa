use Rattle.std.proofs.Common.{rules}
use Rattle.sha256.specs.Sha256.{T1}
use Rattle.sha256.proofs.block.temp1.Goals as goal

pub returns : goal.returns
unfolding T1
returns g c j l = search rules
