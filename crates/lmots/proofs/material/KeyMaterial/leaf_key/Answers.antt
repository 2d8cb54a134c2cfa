use Rattle.std.proofs.Common.{ap, ◌∙◌}
use Rattle.sha256.specs.Sha256.{bytes, sha256}
use Rattle.lmots.specs.LmOts.{K, y}
use Rattle.lmots.proofs.Advanced.{whole}
use Rattle.lmots.proofs.material.KeyMaterial.leaf_key.Goals as goal

pub returns : goal.returns
returns c =
    let leaf = c.leaf-leaf.result in
    let S = bytes c.args.self.seed in
    c.gather.ensures (y sha256 (bytes leaf.id) leaf.number S) (whole sha256 (bytes leaf.id) leaf.number S _ _ c.starts-begun.ensures c.advance-ended.ensures)
    ∙ ap (λ v. K sha256 (bytes v) leaf.number S) c.leaf-leaf.ensures.0 ∙ ap (λ v. K sha256 (bytes c.args.self.id) v S) c.leaf-leaf.ensures.1
