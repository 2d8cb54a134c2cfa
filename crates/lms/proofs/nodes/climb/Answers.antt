use Rattle.std.proofs.Common.{◌≡◌, ◌+◌, ◌-◌, ◌*◌, ◌/◌, ◌<◌, [], length, get_or, drop, sym, ap, ◌∙◌, arith}
use Rattle.sha256.specs.Sha256.{bytes, sha256}
use Rattle.octets.specs.Parts.{cut}
use Rattle.lmots.proofs.Valued.{chunk_of_32}
use Rattle.lms.specs.Lms.{climb, inner, half, above}
use Rattle.lms.proofs.Levels.{climb_none, climb_more}
use Rattle.lms.proofs.nodes.climb.Goals as goal

pub loop-sibling-preserved : goal.loop-sibling-preserved
loop-sibling-preserved c =
    let I = bytes c.args.id in
    let k = c.loop-sibling.sibling-index in
    let r = c.loop-sibling.place in
    let t = c.loop-sibling.node in
    let path = c.args.path.now in
    let n = length path / 32 in
    let s = cut (32 * k) 32 path in
    let count : length c.as_chunks.result.0.now ≡ n = c.as_chunks.ensures.front_len in
    let l : k < n = omega (arith, c.loop-sibling-test.true) in
    let same : get_or c.as_chunks.result.0.now k [] ≡ s = ap (λ v. get_or v k []) c.as_chunks.ensures.front ∙ chunk_of_32 n k path l in
    let e : c.inner_node-above.result ≡ above sha256 I r t s =
    c.inner_node-above.ensures ∙ ap (λ v. inner sha256 I (r / 2) v c.half-right.result.now) (c.half-left.ensures ∙ ap (λ v. half r v t) same)
    ∙ ap (inner sha256 I (r / 2) (half r s t)) (c.half-right.ensures ∙ ap (half r t) same) in
    ap (λ v. climb sha256 I (n - (k + 1)) (r / 2) v (drop (32 * (k + 1)) path)) e
    ∙ sym (climb_more sha256 I n k r t path l) ∙ c.loop-sibling.invariant

pub returns : goal.returns
returns c =
    let count : length c.as_chunks.result.0.now ≡ length c.args.path.now / 32 = c.as_chunks.ensures.front_len in
    let e : length c.args.path.now / 32 - c.loop-sibling.sibling-index ≡ 0 = omega (arith, c.loop-sibling-test.false) in
    sym (climb_none sha256 (bytes c.args.id) _ c.loop-sibling.place c.loop-sibling.node _ e) ∙ c.loop-sibling.invariant
