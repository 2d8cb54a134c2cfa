use Rattle.std.proofs.Common.{◌≡◌, [], length, take, drop, refl, ap, ◌∙◌, arith}
use Rattle.std.proofs.lemmas.List.{take_at}
use Rattle.octets.specs.Buffers.{over}
use Rattle.lmots.specs.Keyed.{word, is_held, public_of}
use Rattle.lmots.specs.KeyedLemmas.{secret_held}
use Rattle.lmots.proofs.one_time.LmOtsScheme.sign.Goals as goal

pub returns-clause-after : goal.returns-clause-after
returns-clause-after c =
    let s = c.args.secret.now in
    let out = c.args.out.now in
    let long : length c.sign-signature.result ≡ 1124 = grind arith in
    let room = c.in_ok-admit.ensures.room in
    c.put.ensures.written [] out refl refl (omega arith) ∙ ap (λ v. over v out) c.sign-signature.ensures

pub returns-clause-accepted : goal.returns-clause-accepted
returns-clause-accepted c =
    let s = c.args.secret.now in
    let m = c.args.message.now in
    let out = c.args.out.now in
    let sig = c.sign-signature.result in
    let long : length sig ≡ 1124 = grind arith in
    let room = c.in_ok-admit.ensures.room in
    let written : c.put.new.buffer ≡ over sig out = c.put.ensures.written [] out refl refl (omega arith) in
    ap (λ v. is_held word (public_of s) m v) (ap (take 1124) written ∙ take_at sig (drop (length sig) out) 1124 long ∙ c.sign-signature.ensures)
    ∙ secret_held s c.args.leaf m (omega arith)
