use Rattle.std.proofs.Common.{◌≡◌, ◌+◌, ◌-◌, ◌*◌, length, replicate, refl, ap, ◌∙◌, subst, arith, length-set}
use Rattle.sha256.specs.Sha256.{bytes, sha256}
use Rattle.lmots.specs.LmOts as LmOts
use Rattle.lms.specs.Kinds.{type_number}
use Rattle.lms.specs.Lms.{Grown, height, leaf}
use Rattle.lms.proofs.Growth.{grown_none, grown_more}
use Rattle.lms.proofs.tree.grow.Goals as goal

pub loop-r-init : goal.loop-r-init
loop-r-init c = (refl, λ h e. grown_none sha256 h (bytes c.args.material.id) (bytes c.args.material.seed) (replicate 2048 (replicate 32 0)) _ (ap (λ v. 2 * v) e))

pub loop-r-preserved : goal.loop-r-preserved
loop-r-preserved c =
    let I = bytes c.args.material.id in
    let S = bytes c.args.material.seed in
    let xs = c.loop-r.nodes in
    let p = c.loop-r.r - 1 in
    let n = c.node_over-node.result in
    let lx : length xs ≡ 2048 = c.loop-r.invariant.0 in
    let b = c.leaves-leaves.ensures.bounds in
    let f : c.loop-r.r ≡ p + 1 = omega arith in (
      length-set xs p n ∙ lx,
      λ h e.
          grown_more sha256 h I S xs n p (omega arith) (omega arith)
          (λ l. c.node_over-node.ensures.bottom (omega arith) ∙ ap (λ v. leaf sha256 I p (LmOts.K sha256 I (p - v) S)) e)
          (λ l. c.node_over-node.ensures.up (omega arith))
          (subst (λ v. Grown sha256 h I S v xs) f (c.loop-r.invariant.1 h e)),
    )

pub returns : goal.returns
returns c p =
    let low = c.loop-r-test.false in
    let there = p.5 in
    c.loop-r.invariant.1 (height (type_number c.args.kind)) c.leaves-leaves.ensures.is (p.0, p.1, p.2, p.3, p.4, omega arith)
