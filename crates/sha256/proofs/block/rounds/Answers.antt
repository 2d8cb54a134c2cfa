use Rattle.std.proofs.Common.{◌≡◌, ◌+◌, ◌<◌, length, length-append, ap, ◌∙◌, inl, ⊎_elim, arith}
use Rattle.std.proofs.lemmas.List.{nil_from_length}
use Rattle.sha256.specs.Sha256.{K}
use Rattle.sha256.proofs.Rounds.{rounds_part, rounds_end}
use Rattle.sha256.proofs.block.rounds.Goals as goal

pub loop-k-init : goal.loop-k-init
unfolding K
loop-k-init g c = (grind arith, grind arith, grind arith, grind arith, λ j l. cc)

pub loop-k-preserved : goal.loop-k-preserved
loop-k-preserved g c =
    let x = c.in-Some.ensures.steps.0 in
    let y = c.in-Some.ensures.steps.1 in
    let i = c.loop-k.invariant in
    let a : length c.loop-k.k-iterator.a.rest.now ≡ length c.in-Some.k.now + length c.next.new.self.a.rest.now = ap length x.1.0 ∙ length-append c.in-Some.k.now c.next.new.self.a.rest.now in
    let b : length c.loop-k.k-iterator.b.rest.now ≡ length c.in-Some.w.now + length c.next.new.self.b.rest.now = ap length y.1.0 ∙ length-append c.in-Some.w.now c.next.new.self.b.rest.now in
    let same : length c.in-Some.k.now ≡ length c.in-Some.w.now = omega (arith, x.1.1, y.1.1, i.0, i.1) in (
      grind arith,
      grind arith,
      omega (arith, i.2),
      omega (arith, x.1.1, i.0, i.3),
      λ j l. rounds_part g.W.Word.at j c.loop-k.s c.some_rounds-s.result _ _ _ _ _ _ same (c.some_rounds-s.ensures j l) x.1.0 y.1.0 (i.4 j l),
    )

pub returns : goal.returns
returns g c j l =
    let i = c.loop-k.invariant in
    let short : length c.loop-k.k-iterator.a.rest.now < 4 = ⊎_elim (λ p. omega (arith, p.1.1.0, i.0)) (λ p. omega (arith, p.1.1.0, i.1, i.2)) c.in-None.ensures.steps in
    rounds_end g.W.Word.at j _ _ _ (inl (nil_from_length c.loop-k.k-iterator.a.rest.now (omega (arith, short, i.3)))) (i.4 j l)
