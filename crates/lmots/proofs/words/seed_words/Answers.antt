use Rattle.std.proofs.Common.{rules, ◌≡◌, ◌≤◌, [], ◌∷◌, length, get_or, ◌∙◌, ap, arith}
use Rattle.std.proofs.lemmas.List.{take_all}
use Rattle.sha256.specs.Sha256.{bytes}
use Rattle.sha256.proofs.Rounds.{listed}
use Rattle.octets.specs.Parts.{cut}
use Rattle.lmots.proofs.Spelling.{eight_words}
use Rattle.lmots.proofs.words.seed_words.Goals as goal

pub returns : goal.returns
returns c =
    let r = c.from_fn.result in
    let s = c.args.seed.now in
    let l : length s ≤ 32 = grind arith in
    let e0 : bytes (get_or r 0 0 ∷ []) ≡ cut 0 4 s = search rules in
    let e1 : bytes (get_or r 1 0 ∷ []) ≡ cut 4 4 s = search rules in
    let e2 : bytes (get_or r 2 0 ∷ []) ≡ cut 8 4 s = search rules in
    let e3 : bytes (get_or r 3 0 ∷ []) ≡ cut 12 4 s = search rules in
    let e4 : bytes (get_or r 4 0 ∷ []) ≡ cut 16 4 s = search rules in
    let e5 : bytes (get_or r 5 0 ∷ []) ≡ cut 20 4 s = search rules in
    let e6 : bytes (get_or r 6 0 ∷ []) ≡ cut 24 4 s = search rules in
    let e7 : bytes (get_or r 7 0 ∷ []) ≡ cut 28 4 s = search rules in
    ap bytes (listed 8 r c.from_fn.ensures.items.long) ∙ eight_words s 0 _ _ _ _ _ _ _ _ e0 e1 e2 e3 e4 e5 e6 e7 ∙ take_all 32 s l
