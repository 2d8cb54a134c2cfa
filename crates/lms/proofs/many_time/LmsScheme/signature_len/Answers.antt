use Rattle.std.proofs.Common.{sym, ◌∙◌, arith}
use Rattle.sha256.specs.Sha256.{bytes}
use Rattle.sha256.proofs.Sizes.{length-bytes}
use Rattle.lms.specs.KeyedLemmas.{size_own}
use Rattle.lms.proofs.many_time.LmsScheme.signature_len.Goals as goal

pub returns : goal.returns
returns c =
    let s = c.args.secret.now in
    c.signature_len.ensures ∙ sym (size_own s.kind (bytes s.material.id) (bytes s.material.seed) (omega (arith, length-bytes s.material.id, s.material.whole)))
