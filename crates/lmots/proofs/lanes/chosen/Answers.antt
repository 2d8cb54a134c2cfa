use Rattle.std.proofs.Common.{◌≡◌, length, arith}
use Rattle.sha256_lanes.proofs.Four.{below4, listed4}
use Rattle.lmots.proofs.Laned.{taken, left}
use Rattle.lmots.proofs.lanes.chosen.Goals as goal

pub returns : goal.returns
returns c =
    let hs : length c.args.steps ≡ 4 = omega arith in
    let hn : length c.args.next.0 ≡ 4 = omega arith in
    let ht : length c.args.t.0 ≡ 4 = omega arith in
    rw (listed4 c.args.steps hs, listed4 c.args.next.0 hn, listed4 c.args.t.0 ht)
    (record { going = below4 _ (taken c.args.k _ _ _) (taken c.args.k _ _ _) (taken c.args.k _ _ _) (taken c.args.k _ _ _); done = below4 _ (left c.args.k _ _ _) (left c.args.k _ _ _) (left c.args.k _ _ _) (left c.args.k _ _ _) })
