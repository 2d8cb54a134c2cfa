use Rattle.std.proofs.Common.{◌≡◌, ◌+◌, ◌<◌, [], ◌++◌, length, length-append, sym, ap, ◌∙◌, subst, append_assoc, append-nil, arith}
use Rattle.std.proofs.lemmas.List.{nil_from_length}
use Rattle.sha256.specs.Hashed.{Hashes}
use Rattle.sha256.proofs.hasher.Hasher.absorb_all.Goals as goal

pub loop-block-init : goal.loop-block-init
loop-block-init c = (c.requires.0, grind arith, grind arith, λ bs w. ([], subst (λ x. Hashes c.args.self.now x) (sym (append-nil bs)) w, cc))

pub absorb-requires : goal.absorb-requires
absorb-requires c = (c.loop-block.invariant.0, c.in-Some.ensures.steps.1.1 ∙ c.loop-block.invariant.1)

pub loop-block-preserved : goal.loop-block-preserved
loop-block-preserved c =
    let i = c.loop-block.invariant in
    let s = c.in-Some.ensures.steps in
    let block = c.in-Some.block.now in
    let rest = c.next.new.self.rest.now in
    let l : length c.loop-block.block-iterator.rest.now ≡ length block + length rest = ap length s.1.0 ∙ length-append block rest in (
      c.absorb.ensures.filled,
      s.0 ∙ i.1,
      omega (arith, s.1.1, i.1, i.2),
      λ bs w.
          let h = i.3 bs w in (
            h.0 ++ block,
            subst (λ x. Hashes c.absorb.new.self x) (append_assoc bs h.0 block) (c.absorb.ensures.hashes (bs ++ h.0) h.1),
            append_assoc h.0 block rest ∙ ap (λ x. h.0 ++ x) (sym s.1.0) ∙ h.2,
          ),
    )

pub returns : goal.returns
returns c bs w =
    let i = c.loop-block.invariant in
    let h = i.3 bs w in
    let short : length c.loop-block.block-iterator.rest.now < 64 = omega (arith, c.in-None.ensures.steps.1.0, i.1) in
    let none : c.loop-block.block-iterator.rest.now ≡ [] = nil_from_length c.loop-block.block-iterator.rest.now (omega (arith, short, i.2)) in
    subst (λ x. Hashes c.loop-block.self (bs ++ x)) (sym (append-nil h.0) ∙ ap (λ x. h.0 ++ x) (sym none) ∙ h.2) h.1
