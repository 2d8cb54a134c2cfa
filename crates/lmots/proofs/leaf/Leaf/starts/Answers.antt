use Rattle.std.proofs.Common.{rules, ◌≡◌, []}
use Rattle.sha256.specs.Sha256.{bytes, sha256}
use Rattle.lmots.specs.LmOts.{x}
use Rattle.lmots.proofs.Called.{each_called}
use Rattle.lmots.proofs.leaf.Leaf.starts.Goals as goal

pub returns : goal.returns
returns c =
    each_called _ (λ i value. value ≡ x sha256 (bytes c.args.self.id) c.args.self.number (bytes c.args.seed) i) _ _ [] 34 (λ i y q l call. search rules) c.from_fn.ensures.items
