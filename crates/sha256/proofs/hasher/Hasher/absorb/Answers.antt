use Rattle.sha256.proofs.Hashing.{whole_more}
use Rattle.sha256.proofs.hasher.Hasher.absorb.Goals as goal

pub returns : goal.returns
returns c = record {
  hashes = λ bs w.
      whole_more c.args.self.now.state c.after_block-self.result c.args.self.now.block c.args.self.now.filled c.args.self.now.total c.args.whole.now bs c.requires.0 c.requires.1
      c.after_block-self.ensures w;
  filled = c.requires.0;
}
