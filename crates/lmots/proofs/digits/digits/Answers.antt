use Rattle.std.proofs.Common.{◌≡◌, length, ap, ◌∙◌, arith}
use Rattle.octets.specs.Numbers.{u16}
use Rattle.lmots.proofs.Summed.{digits_are}
use Rattle.lmots.proofs.digits.digits.Goals as goal

pub returns : goal.returns
returns c =
    let l : length c.args.hash ≡ 32 = grind arith in
    digits_are c.copy_from_slice.new.self c.copy_from_slice-2.new.self c.args.hash c.copy_from_slice.ensures.after l
    (c.copy_from_slice-2.ensures.after ∙ c.to_be_bytes.ensures ∙ ap u16 c.checksum-sum.ensures.is)
