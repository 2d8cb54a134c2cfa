use Rattle.std.proofs.Common.{[], refl, arith}
use Rattle.sha256.proofs.hasher.Hasher.new.Goals as goal

pub returns : goal.returns
returns c = record { whole = []; count = 0; split = refl; blocks = refl; hashed = refl; counted = refl; long = grind arith }
