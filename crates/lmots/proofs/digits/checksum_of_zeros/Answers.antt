use Rattle.std.proofs.Common.{◌∙◌}
use Rattle.lmots.proofs.Summed.{sum_zeros}
use Rattle.lmots.proofs.digits.checksum_of_zeros.Goals as goal

pub returns : goal.returns
returns c = (c.checksum.ensures.is, c.checksum.ensures.is ∙ sum_zeros)
