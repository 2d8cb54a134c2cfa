use Rattle.std.proofs.Common.{◌≡◌, ◌-◌, ◌%◌, [], ◌∷◌, ◌++◌, length, replicate, sym, refl, ap, ◌∙◌, subst, append_assoc, append-nil, arith}
use Rattle.sha256.specs.Hashed.{Holds}
use Rattle.std.proofs.lemmas.List.{replicate_more}
use Rattle.sha256.proofs.Hashing.{padded, finished}
use Rattle.sha256.proofs.hasher.Hasher.finish.Goals as goal

pub loop-z-init : goal.loop-z-init
loop-z-init c bs w = subst (λ x. Holds c.push.new.self.state c.push.new.self.block c.push.new.self.filled c.push.new.self.total x) (sym (append-nil bs)) w

pub loop-z-preserved : goal.loop-z-preserved
loop-z-preserved c bs w =
    subst (λ x. Holds c.push-in-loop-z.new.self.state c.push-in-loop-z.new.self.block c.push-in-loop-z.new.self.filled c.push-in-loop-z.new.self.total x)
    (append_assoc bs (replicate c.loop-z._z 0) (0 ∷ []) ∙ ap (λ x. bs ++ x) (replicate_more c.loop-z._z 0))
    (c.push-in-loop-z.ensures.hashes (bs ++ replicate c.loop-z._z 0) (c.loop-z.invariant bs w))

pub returns : goal.returns
returns c bs w =
    let hb : length c.args.self.block ≡ 64 = grind arith in
    let hz : c.loop-z._z ≡ (119 - c.args.self.filled) % 64 = grind arith in
    let p = padded _ _ _ _ _ c.loop-z._z bs c.to_be_bytes.result hb c.args.self.room w hz refl c.to_be_bytes.ensures in
    c.state_bytes.ensures
    ∙ finished _ _ _ _ bs _ c.push_all.new.self.room p
    (c.push_all.ensures.hashes _ (c.loop-z.invariant _ (c.push.ensures.hashes bs w)))
