use Rattle.std.proofs.Common.{◌≡◌, length, refl, arith}
use Rattle.sha256_lanes.proofs.Four.{below4, listed4}
use Rattle.sha256_lanes.proofs.LanesWord.wrapping_shl.Goals as goal

pub returns : goal.returns
returns c =
    let h : length c.args.self.0 ≡ 4 = omega arith in
    rw (listed4 c.args.self.0 h) (below4 _ refl refl refl refl)
