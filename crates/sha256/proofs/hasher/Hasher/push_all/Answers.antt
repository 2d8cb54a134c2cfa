use Rattle.std.proofs.Common.{◌<◌, ◌≤◌, [], ◌∷◌, ◌++◌, length, get_or, take, sym, ap, ◌∙◌, subst, append_assoc, append-nil, arith}
use Rattle.std.proofs.lemmas.List.{take_more, take_all}
use Rattle.sha256.specs.Hashed.{Hashes}
use Rattle.sha256.proofs.hasher.Hasher.push_all.Goals as goal

pub loop-b-init : goal.loop-b-init
loop-b-init c =
    ((λ bs w. subst (λ x. Hashes c.args.self.now x) (sym (append-nil bs)) w), omega (arith, c.args.self.now.room))

pub loop-b-preserved : goal.loop-b-preserved
loop-b-preserved c =
    let i = c.loop-b.b-index in
    let more = c.args.more.now in
    let l : i < length more = grind arith in (
      (λ bs w.
          subst (λ x. Hashes c.push.new.self x) (append_assoc bs (take i more) (get_or more i 0 ∷ []) ∙ ap (λ x. bs ++ x) (sym (take_more more i 0 l)))
          (c.push.ensures.hashes (bs ++ take i more) (c.loop-b.invariant.0 bs w))),
      omega (arith, c.push.ensures.filled, c.loop-b.invariant.1),
    )

pub returns : goal.returns
returns c =
    let i = c.loop-b.b-index in
    let more = c.args.more.now in
    let l : length more ≤ i = grind arith in
    record {
      hashes = λ bs w. subst (λ x. Hashes c.loop-b.self (bs ++ x)) (take_all i more l) (c.loop-b.invariant.0 bs w);
      filled = omega (arith, c.loop-b.invariant.1);
    }
