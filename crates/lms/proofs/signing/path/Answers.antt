use Rattle.std.proofs.Common.{◌≡◌, ℕ, ◌+◌, ◌-◌, ◌/◌, ◌<◌, ◌≤◌, List, [], ◌∷◌, ◌++◌, length, get_or, set, take, drop, replicate, sym, ap, ◌∙◌, append-nil, arith, length-set}
use Rattle.std.specs.List.{flat_map}
use Rattle.std.proofs.lemmas.Grind.{flat_map-append}
use Rattle.std.proofs.lemmas.List.{take_all, take_at, take_more_set}
use Rattle.lms.specs.Lms.{beside, picked}
use Rattle.lms.proofs.Growth.{picked_more, picked_none}
use Rattle.lms.proofs.signing.path.Goals as goal

pub loop-sibling-preserved : goal.loop-sibling-preserved
loop-sibling-preserved c =
    let nodes = c.args.nodes.now in
    let k = c.loop-sibling.sibling-index in
    let r = c.loop-sibling.place in
    let items = c.loop-sibling.sibling-items in
    let v : List ℕ = get_or nodes c.beside.result [] in
    let P : List ℕ = flat_map (λ w. w) (take k items) in
    let long : length items ≡ c.args.height = c.loop-sibling.invariant.2 in
    let low : r < 2048 = c.loop-sibling.invariant.1 in
    let l : k < c.args.height = omega (arith, c.loop-sibling-test.true) in
    let more : flat_map (λ w. w) (take (k + 1) (set items k v)) ≡ P ++ get_or nodes (beside r) [] =
    ap (flat_map (λ w. w)) (take_more_set items k v (omega arith)) ∙ flat_map-append (λ w. w) (take k items) (v ∷ [])
    ∙ ap (λ w. P ++ w) (append-nil v ∙ ap (λ b. get_or nodes b []) c.beside.ensures.is) in (
      ap (λ w. w ++ picked nodes (c.args.height - (k + 1)) (r / 2)) more ∙ picked_more nodes (picked nodes c.args.height c.args.r) P c.args.height k r l c.loop-sibling.invariant.0,
      omega arith,
      length-set items k v ∙ long,
    )

-- nothing is to come
done : (nodes items rest : List (List ℕ)) (whole : List ℕ) (h k r : ℕ) → length items ≡ h → h ≤ k → flat_map (λ w. w) (take k items) ++ picked nodes (h - k) r ≡ whole
    → flat_map (λ w. w) (take h (items ++ rest)) ≡ whole
done nodes items rest whole h k r long le inv =
    let none : h - k ≡ 0 = omega arith in
    ap (flat_map (λ w. w)) (take_at items rest h long ∙ sym (take_all k items (omega arith)))
    ∙ sym (append-nil (flat_map (λ w. w) (take k items))) ∙ ap (λ w. flat_map (λ w. w) (take k items) ++ w) (sym (picked_none nodes (h - k) r none)) ∙ inv

pub returns : goal.returns
returns c =
    let long : length c.loop-sibling.sibling-items ≡ c.args.height = c.loop-sibling.invariant.2 in
    done c.args.nodes.now c.loop-sibling.sibling-items (drop c.args.height (replicate 10 (replicate 32 0))) (picked c.args.nodes.now c.args.height c.args.r) c.args.height
    c.loop-sibling.sibling-index c.loop-sibling.place long (omega (arith, c.loop-sibling-test.false)) c.loop-sibling.invariant.0
