use Rattle.std.proofs.Common.{arith}
use Rattle.std.proofs.lemmas.List.{map-id}
use Rattle.sha256.proofs.hasher.parts.after_block.Goals as goal

pub returns : goal.returns
returns c =
    let e = c.compress.ensures 0 (omega arith) in
    let r = map-id c.compress.result in
    let h = map-id c.args.state in
    let m = map-id c.block_words.result in
    cc
