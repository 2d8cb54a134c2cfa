use Rattle.std.proofs.Common.{rules, ◌≡◌, ℕ, ◌+◌, ◌*◌, ◌<◌, length, get_or, arith, lit<}
use Rattle.sha256_lanes.proofs.Four.{below4}
use Rattle.lmots.specs.Runs.{blank}
use Rattle.lmots.proofs.leaf.Leaf.four_chains.Goals as goal

pub returns : goal.returns
returns c =
    let runs = c.args.runs in
    let long : length runs ≡ 4 = grind arith in
    let tag_is : (j : ℕ) → j < 4 → get_or c.map.result j 0 ≡ (get_or runs j blank).chain * 256 + (get_or runs j blank).first = λ j l. let call = c.map.ensures.items.at j blank 0 (omega arith) in search rules in
    let small : (j : ℕ) → j < 4 → (get_or runs j blank).chain < 256 = λ j l. let call = c.map.ensures.items.at j blank 0 (omega arith) in search rules in
    let step_is : (j : ℕ) → j < 4 → get_or c.map-steps.result j 0 ≡ (get_or runs j blank).steps = λ j l. let call = c.map-steps.ensures.items.at j blank 0 (omega arith) in search rules in
    below4 _
    (λ h. c.stepped.ensures 0 _ _ _ (lit< tt) (omega (arith, small 0 (lit< tt))) h (tag_is 0 (lit< tt)) (step_is 0 (lit< tt)) (grind (arith, step_is 0 (lit< tt))))
    (λ h. c.stepped.ensures 1 _ _ _ (lit< tt) (omega (arith, small 1 (lit< tt))) h (tag_is 1 (lit< tt)) (step_is 1 (lit< tt)) (grind (arith, step_is 1 (lit< tt))))
    (λ h. c.stepped.ensures 2 _ _ _ (lit< tt) (omega (arith, small 2 (lit< tt))) h (tag_is 2 (lit< tt)) (step_is 2 (lit< tt)) (grind (arith, step_is 2 (lit< tt))))
    (λ h. c.stepped.ensures 3 _ _ _ (lit< tt) (omega (arith, small 3 (lit< tt))) h (tag_is 3 (lit< tt)) (step_is 3 (lit< tt)) (grind (arith, step_is 3 (lit< tt))))
