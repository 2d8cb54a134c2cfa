use Rattle.std.proofs.Common.{◌^◌, ◌<◌, sym, ◌∙◌, arith}
use Rattle.lmots.proofs.Block.{whole}
use Rattle.lmots.proofs.chain.spread.Goals as goal

pub returns-clause-kept : goal.returns-clause-kept
returns-clause-kept g c j l =
    let h : c.args.w < 2 ^ 32 = omega arith in
    whole c.args.w h ∙ sym (c.splat.ensures j l)
