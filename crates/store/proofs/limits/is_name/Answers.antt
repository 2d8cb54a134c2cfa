use Rattle.std.proofs.Common.{◌≡◌, ℕ, ◌<◌, ◌≤◌, Bool, true, false, ◌&&◌, leb, List, length, sym, rules, tests, arith, MatchBool}
use Rattle.std.proofs.lemmas.Bool.{and_from, and_right, le-leb}
use Rattle.std.proofs.lemmas.Iterator.{cases_from_all, YieldsList-from_slice}
use Rattle.std.proofs.lemmas.List.Folds.{list_all_at}
use Rattle.std.proofs.lemmas.List.Sums.{list_all-from_AllPass}
use Rattle.std.specs.List.{list_all, AllWithin, HoldsAt}
use Rattle.store.specs.Meanings.{is_visible, is_name}
use Rattle.store.proofs.limits.is_name.Goals as goal

visible : (b : Bool) (xs : List ℕ) → MatchBool b (AllWithin (λ x. is_visible x ≡ true) xs 0 (length xs)) ((k : ℕ) × (k < length xs) × HoldsAt (λ x. is_visible x ≡ false) xs k)
    → 1 ≤ length xs → length xs ≤ 96 → b ≡ is_name xs
visible true xs m a z = sym (and_from _ _ (and_from _ _ (le-leb _ _ a) (le-leb _ _ z)) (list_all-from_AllPass is_visible xs (λ k d h. m k d (omega arith) h)))
visible false xs m a z = sym (and_right (leb 1 (length xs) && leb (length xs) 96) (list_all is_visible xs) (list_all_at is_visible xs m.0 0 m.1 (m.2 0)))

pub returns-then-contains : goal.returns-then-contains
returns-then-contains c =
    let xs = c.args.bytes.now in
    let m = cases_from_all _ _ _ (λ x. is_visible x ≡ true) (λ x. is_visible x ≡ false) c.all.ensures.ran (YieldsList-from_slice xs cc) (λ x q k. search (rules, tests)) (λ x q k. search (rules, tests)) in
    visible c.all.result xs m (search rules) (search rules)
