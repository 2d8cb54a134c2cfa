use Rattle.std.proofs.Common.{◌+◌, sym, ◌∙◌, arith}
use Rattle.octets.proofs.Numbered.{u32_four}
use Rattle.lmots.proofs.Spelling.{cut_four}
use Rattle.lmots.proofs.words.word_at.Goals as goal

pub returns : goal.returns
returns c =
    let at = c.args.at in
    u32_four _ _ _ _ _ (omega (arith, c.type_inv.s at)) (omega (arith, c.type_inv.s (at + 1))) (omega (arith, c.type_inv.s (at + 2))) (omega (arith, c.type_inv.s (at + 3))) c.from_be_bytes.ensures
    ∙ sym (cut_four c.args.s.now at c.requires)
