use Rattle.std.proofs.Common.{rules, ◌≡◌, ◌≤◌, [], ◌∷◌, length, get_or, ◌∙◌, ap, arith}
use Rattle.std.proofs.lemmas.List.{take_all}
use Rattle.sha256.specs.Sha256.{bytes}
use Rattle.sha256.proofs.Rounds.{listed}
use Rattle.octets.specs.Parts.{cut}
use Rattle.lmots.proofs.Spelling.{four_words}
use Rattle.lmots.proofs.words.id_words.Goals as goal

pub returns : goal.returns
returns c =
    let r = c.from_fn.result in
    let id = c.args.id.now in
    let l : length id ≤ 16 = grind arith in
    let e0 : bytes (get_or r 0 0 ∷ []) ≡ cut 0 4 id = search rules in
    let e1 : bytes (get_or r 1 0 ∷ []) ≡ cut 4 4 id = search rules in
    let e2 : bytes (get_or r 2 0 ∷ []) ≡ cut 8 4 id = search rules in
    let e3 : bytes (get_or r 3 0 ∷ []) ≡ cut 12 4 id = search rules in
    ap bytes (listed 4 r c.from_fn.ensures.items.long) ∙ four_words id 0 _ _ _ _ e0 e1 e2 e3 ∙ take_all 16 id l
