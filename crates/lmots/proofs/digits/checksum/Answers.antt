use Rattle.std.proofs.Common.{◌<◌, ◌≤◌, length, arith}
use Rattle.lmots.proofs.Summed.{sum_none, sum_more}
use Rattle.lmots.proofs.digits.checksum.Goals as goal

pub loop-b-preserved : goal.loop-b-preserved
loop-b-preserved c =
    let l : c.loop-b.b-index < length c.args.hash.now = grind arith in
    let m = sum_more c.args.hash.now c.loop-b.b-index l in
    (omega arith, omega arith)

pub returns : goal.returns
returns c =
    let l : length c.args.hash.now ≤ c.loop-b.b-index = grind arith in
    let m = sum_none c.args.hash.now c.loop-b.b-index l in
    record { is = omega arith; small = omega arith }
