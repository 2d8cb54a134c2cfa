use Rattle.std.proofs.Common.{rules, ◌≡◌}
use Rattle.lmots.specs.Runs.{Runs, blank}
use Rattle.lmots.proofs.Called.{each_called}
use Rattle.lmots.proofs.Ordered.{each_shuffled, found_shuffled}
use Rattle.lmots.proofs.order.shortest_first.Goals as goal

pub returns-clause-each : goal.returns-clause-each
returns-clause-each c =
    each_shuffled (Runs c.args.from.now c.args.to.now) _ _ blank 34 c.from_fn-runs.ensures.items.long c.sort_unstable.ensures.permutation
    (each_called _ (λ _ run. Runs c.args.from.now c.args.to.now run) _ _ blank 34 (λ i y q l call. search rules) c.from_fn-runs.ensures.items)

pub returns-clause-all : goal.returns-clause-all
returns-clause-all c =
    found_shuffled (λ run. run.chain) _ _ blank 34 c.from_fn-runs.ensures.items.long c.sort_unstable.ensures.permutation
    (each_called _ (λ i run. run.chain ≡ i) _ _ blank 34 (λ i y q l call. search rules) c.from_fn-runs.ensures.items)
