use Rattle.std.proofs.Common.{◌≡◌, ℕ, ◌+◌, ◌*◌, ◌/◌, ◌%◌, List, [], ◌∷◌, ◌++◌, length, get_or, sym, refl, ap, ◌∙◌, arith}
use Rattle.sha256.specs.Lane.{lane}
use Rattle.sha256.specs.Sha256.{IV, bytes, compress, sha256}
use Rattle.sha256.proofs.Rounds.{lane_eight}
use Rattle.lmots.proofs.Block.{step_is}
use Rattle.lmots.proofs.leaf.Leaf.step.Goals as goal

pub returns : goal.returns
returns g c j l =
    let at = g.W.Word.at in
    let I = c.args.self.id in
    let q = c.args.self.number in
    let tag = at c.args.tag j in
    let hi : length I ≡ 4 = grind arith in
    let ht : length c.args.t ≡ 8 = grind arith in
    let last : ℕ = at (get_or c.args.t 7 c.index-t-7.result) j in
    let ones : ℕ → ℕ → List ℕ = λ z bits. at c.spread.result j ∷ at c.spread-2.result j ∷ at c.spread-3.result j ∷ at c.spread-4.result j ∷ at c.spread-5.result j ∷ at c.joint.result j ∷ at c.joint-2.result j ∷ at c.joint-3.result j ∷ at c.joint-4.result j ∷ at c.joint-5.result j ∷ at c.joint-6.result j ∷ at c.joint-7.result j ∷ at c.joint-8.result j ∷ at c.joint-9.result j ∷ z ∷ bits ∷ [] in
    let hashed : lane at j c.compress.result ≡ compress IV (ones 0 440) =
    c.compress.ensures j l
    ∙ ap (λ h. compress h (ones (at c.spread-6.result j) (at c.spread-7.result j))) (c.initial.ensures j l)
    ∙ ap (λ z. compress IV (ones z (at c.spread-7.result j))) (c.spread-6.ensures.is j l)
    ∙ ap (λ z. compress IV (ones 0 z)) (c.spread-7.ensures.is j l) in
    let padded : at c.spread-pad.result j ≡ 2147483648 = c.spread-pad.ensures.is j l in
    step_is I (at (get_or c.args.t 0 c.index-t-0.result) j ∷ at (get_or c.args.t 1 c.index-t-1.result) j ∷ at (get_or c.args.t 2 c.index-t-2.result) j ∷ at (get_or c.args.t 3 c.index-t-3.result) j ∷ at (get_or c.args.t 4 c.index-t-4.result) j ∷ at (get_or c.args.t 5 c.index-t-5.result) j ∷ at (get_or c.args.t 6 c.index-t-6.result) j ∷ last ∷ []) q tag _ _ _ _ _ _ _ _ _ _ _ _ _ _ _ hi refl
    (c.spread.ensures.kept j l) (c.spread-2.ensures.kept j l) (c.spread-3.ensures.kept j l) (c.spread-4.ensures.kept j l) (c.spread-5.ensures.kept j l)
    (c.joint.ensures j l) (c.joint-2.ensures j l) (c.joint-3.ensures j l) (c.joint-4.ensures j l) (c.joint-5.ensures j l) (c.joint-6.ensures j l) (c.joint-7.ensures j l) (c.joint-8.ensures j l)
    (ap (λ z. last / 65536 % 256 * 16777216 + last / 256 % 256 * 65536 + last % 256 * 256 + z / 16777216 % 256) (sym padded) ∙ c.joint-9.ensures j l)
    hashed
    ∙ ap (λ x. sha256 (bytes I ++ (bytes (q ∷ []) ++ ((tag / 65536 % 256) ∷ (tag / 256 % 256) ∷ (tag % 256) ∷ bytes x)))) (sym (lane_eight at j c.args.t _ _ _ _ _ _ _ _ ht))
