use Rattle.std.proofs.Common.{◌≡◌, ◌+◌, ◌*◌, ◌/◌, ◌%◌, ◌∷◌, ◌++◌, [], refl, arith}
use Rattle.std.proofs.lemmas.List.{map-id}
use Rattle.sha256.specs.Sha256.{bytes, sha256}
use Rattle.lmots.specs.LmOts.{x, step}
use Rattle.lmots.proofs.Stepping.{is_step}
use Rattle.lmots.proofs.leaf.Leaf.start.Goals as goal

pub returns : goal.returns
unfolding x step
returns c =
    let tag = c.args.i * 256 + 255 in
    let e = c.step.ensures 0 (omega arith) in
    let r = map-id c.step.result in
    let t = map-id c.args.seed in
    let hashed : bytes c.step.result ≡ sha256 (bytes c.args.self.id ++ (bytes (c.args.self.number ∷ []) ++ ((tag / 65536 % 256) ∷ (tag / 256 % 256) ∷ (tag % 256) ∷ bytes c.args.seed))) = cc in
    is_step sha256 (bytes c.args.self.id) c.args.self.number c.args.i 255 _ _ _ (omega arith) (omega arith) refl hashed
