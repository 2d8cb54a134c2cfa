use Rattle.std.proofs.Common.{◌≡◌, ◌+◌, ◌*◌, ◌^◌, ◌<◌, length, take, drop, sym, ap, ◌∙◌, arith}
use Rattle.std.proofs.lemmas.List.{take_at}
use Rattle.sha256.specs.Sha256.{bytes, sha256}
use Rattle.sha256.proofs.Sizes.{sized, small, length-bytes}
use Rattle.lms.specs.Keyed.{word, is_held, public_of, signed_by}
use Rattle.lms.specs.Kinds.{type_number}
use Rattle.lms.specs.Lms.{height, signature_size}
use Rattle.lms.specs.Climbing as Climbing
use Rattle.lms.specs.KeyedLemmas.{size_own, secret_held}
use Rattle.lms.proofs.many_time.LmsScheme.sign.Goals as goal

pub write-requires : goal.write-requires
write-requires c =
    let s = c.args.secret.now in
    let z = size_own s.kind (bytes s.material.id) (bytes s.material.seed) (omega (arith, length-bytes s.material.id, s.material.whole)) in
    let e = c.signature_len-len.ensures in
    let l = c.leaves.ensures.is in
    let room = c.in_ok-admit.ensures.room in
    (omega arith, omega arith)

pub returns-clause-accepted : goal.returns-clause-accepted
returns-clause-accepted c =
    let s = c.args.secret.now in
    let m = c.args.message.now in
    let q = c.args.leaf in
    let T = type_number s.kind in
    let sig = signed_by s q m in
    let len = c.signature_len-len.result in
    let z : signature_size (public_of s) ≡ 1132 + 32 * height T = size_own s.kind (bytes s.material.id) (bytes s.material.seed) (omega (arith, length-bytes s.material.id, s.material.whole)) in
    let e : len ≡ signature_size (public_of s) = c.signature_len-len.ensures in
    let l = c.leaves.ensures.is in
    let room = c.in_ok-admit.ensures.room in
    let below : q < 2 ^ height T = omega arith in
    let long : length sig ≡ len = Climbing.length-signature sha256 sized small T (bytes s.material.id) (bytes s.material.seed) q m ∙ sym (e ∙ z) in
    ap (λ v. is_held word (public_of s) m v) (ap (take len) c.write.ensures ∙ take_at sig (drop (length sig) c.args.out.now) len long) ∙ secret_held s q m below
