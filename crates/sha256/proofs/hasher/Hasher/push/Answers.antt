use Rattle.std.proofs.Common.{◌≡◌, ◌<◌, length, arith}
use Rattle.sha256.proofs.Hashing.{one_more, block_more}
use Rattle.sha256.proofs.hasher.Hasher.push.Goals as goal

pub returns-then-self-eq63 : goal.returns-then-self-eq63
returns-then-self-eq63 c =
    let h : length c.args.self.now.block ≡ 64 = grind arith in
    let e : c.args.self.now.filled ≡ 63 = grind arith in
    record {
      hashes = λ bs w. block_more _ _ _ _ _ _ bs h e c.after_block-self.ensures w;
      filled = omega arith;
    }

pub returns-else-self-eq63 : goal.returns-else-self-eq63
returns-else-self-eq63 c =
    let h : length c.args.self.now.block ≡ 64 = grind arith in
    let l : c.args.self.now.filled < 63 = grind arith in
    record { hashes = λ bs w. one_more _ _ _ _ _ bs h l w; filled = omega arith }
