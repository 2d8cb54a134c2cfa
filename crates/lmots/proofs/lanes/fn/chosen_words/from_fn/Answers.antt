use Rattle.std.proofs.Common.{get_or, [], sym, ◌∙◌}
use Rattle.std.proofs.Math.ListN.{get_or-map}
use Rattle.lmots.proofs.lanes.fn.chosen_words.from_fn.Goals as goal

pub returns : goal.returns
returns c =
    record {
      going = λ j l h. c.chosen.ensures.going j l h ∙ sym (get_or-map (λ v. get_or v.0 j 0) c.captures.next c.args.i (record { 0 = [] }));
      done = λ j l h. c.chosen.ensures.done j l h ∙ sym (get_or-map (λ v. get_or v.0 j 0) c.captures.t c.args.i (record { 0 = [] }));
    }
