use Rattle.std.proofs.Common.{◌≡◌, ◌+◌, ◌-◌, ◌≤◌, get_or, sym, ap, ◌∙◌, arith}
use Rattle.sha256.specs.Sha256.{bytes, sha256}
use Rattle.sha256_lanes.specs.Lane.{lane}
use Rattle.lmots.specs.LmOts.{steps}
use Rattle.lmots.proofs.Stepping.{none}
use Rattle.lmots.proofs.Laned.{lane_on}
use Rattle.lmots.proofs.leaf.Leaf.stepped.Goals as goal

pub loop-k-init : goal.loop-k-init
loop-k-init c j i a n l hi hn ht hs =
    let e : n - 0 ≡ n = omega arith in
    let f : a + 0 ≡ a = omega arith in
    ap (λ m. steps sha256 (bytes c.args.self.id) c.args.self.number i m (a + 0) (bytes (lane j c.args.t))) e
    ∙ ap (λ m. steps sha256 (bytes c.args.self.id) c.args.self.number i n m (bytes (lane j c.args.t))) f

pub loop-k-preserved : goal.loop-k-preserved
loop-k-preserved c j i a n l hi hn ht hs =
    let k = c.loop-k.k in
    lane_on sha256 (bytes c.args.self.id) c.args.self.number i a n k (get_or c.args.tags.0 j 0) (get_or c.tagged-now.result.0 j 0) _ _ _ _ hi hn ht
    (c.tagged-now.ensures j l) (c.step-next.ensures j l)
    (λ h. ap bytes (c.chosen_words-values.ensures.going j l (omega arith)))
    (λ h. ap bytes (c.chosen_words-values.ensures.done j l (omega arith)))
    (c.loop-k.invariant j i a n l hi hn ht hs)

pub returns : goal.returns
returns c j i a n l hi hn ht hs hm =
    let le : n ≤ c.loop-k.k = omega arith in
    sym (none sha256 (bytes c.args.self.id) c.args.self.number i n c.loop-k.k (a + c.loop-k.k) (bytes (lane j c.loop-k.t)) le) ∙ c.loop-k.invariant j i a n l hi hn ht hs
