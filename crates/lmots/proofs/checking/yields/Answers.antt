use Rattle.std.proofs.Common.{◌≡◌, length, ap, ◌∙◌, arith}
use Rattle.std.specs.Str.{bytes_eq}
use Rattle.octets.specs.Parts.{cut}
use Rattle.sha256.specs.Sha256.{bytes, sha256}
use Rattle.lmots.proofs.Verdicts.{agreed}
use Rattle.lmots.proofs.checking.yields.Goals as goal

pub returns-in-Some-candidate : goal.returns-in-Some-candidate
returns-in-Some-candidate c =
    let rest = c.args.rest.now in
    let s = c.in-Some.ensures.cases in
    let found = c.in-Some-candidate.ensures in
    let tail = c.in-Some.tail.now in
    let lt : length tail ≡ 36 = omega arith in
    agreed sha256 rest c.args.message.now c.args.parts.now (bytes c.id_words.result) tail c.in-Some-candidate.found c.leading_number.result c.eq.result
    (c.id_words.ensures ∙ s.0) s.1 lt (omega (arith, s.2)) found.0 c.leading_number.ensures found.1
    (c.eq.ensures ∙ ap (λ v. bytes_eq v (cut 4 32 tail)) c.as_slice.ensures)
