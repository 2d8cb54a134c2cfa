use Rattle.std.proofs.Common.{rules, ◌≡◌, length, get_or, ◌∙◌, arith}
use Rattle.std.proofs.lemmas.List.{length-map}
use Rattle.sha256_lanes.specs.Lane.{lane}
use Rattle.lmots.proofs.Called.{lane_called}
use Rattle.lmots.proofs.lanes.chosen_words.Goals as goal

pub returns-clause-going : goal.returns-clause-going
returns-clause-going c j l h =
    let hn : length c.args.next ≡ 8 = grind arith in
    lane_called _ (λ v k. get_or v.0 k 0) j _ c.from_fn.result (lane j c.args.next) (length-map c.args.next (λ v. get_or v.0 j 0) ∙ hn) (λ i v q m call. search rules) c.from_fn.ensures.items

pub returns-clause-done : goal.returns-clause-done
returns-clause-done c j l h =
    let ht : length c.args.t ≡ 8 = grind arith in
    lane_called _ (λ v k. get_or v.0 k 0) j _ c.from_fn.result (lane j c.args.t) (length-map c.args.t (λ v. get_or v.0 j 0) ∙ ht) (λ i v q m call. search rules) c.from_fn.ensures.items
