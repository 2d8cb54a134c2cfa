use Rattle.std.proofs.Common.{◌≡◌, ◌-◌, ◌%◌, ◌++◌, length, take, drop, ap, ◌∙◌, subst, arith}
use Rattle.std.proofs.lemmas.List.{length-drop, length-take-le, take_rest}
use Rattle.sha256.specs.Hashed.{Hashes}
use Rattle.sha256.proofs.Hashing.{three_parts}
use Rattle.sha256.proofs.hasher.Hasher.update.Goals as goal

pub absorb_all-requires : goal.absorb_all-requires
absorb_all-requires c =
    let more = c.args.more.now in
    let gap = (64 - c.args.self.now.filled) % 64 in
    let end = length more - (length more - gap) % 64 in
    let front : length (take (gap - 0) more) ≡ gap - 0 = length-take-le (gap - 0) more (omega arith) in
    let middle : length (take (end - gap) (drop gap more)) ≡ end - gap = length-take-le (end - gap) (drop gap more) (omega (arith, length-drop gap more)) in
    (omega (arith, c.push_all-2.ensures.filled, c.args.self.now.room), omega arith)

pub returns : goal.returns
returns c bs w =
    let more = c.args.more.now in
    let gap = (64 - c.args.self.now.filled) % 64 in
    let end = length more - (length more - gap) % 64 in
    subst (λ x. Hashes c.push_all-3.new.self x)
    (ap (λ z. ((bs ++ take z more) ++ take (end - gap) (drop gap more)) ++ take (length more - end) (drop end more)) (omega arith)
    ∙ ap (λ z. ((bs ++ take gap more) ++ take (end - gap) (drop gap more)) ++ z) (take_rest more end) ∙ three_parts bs more gap end (omega arith) (omega arith))
    (c.push_all-3.ensures.hashes _ (c.absorb_all.ensures _ (c.push_all-2.ensures.hashes bs w)))
