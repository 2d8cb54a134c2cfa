use Rattle.std.proofs.Common.{rules, ◌≡◌, ◌+◌, ◌*◌, get_or, ◌∙◌}
use Rattle.sha256.proofs.Hashing.{block_words_are}
use Rattle.sha256.proofs.Rounds.{listed}
use Rattle.sha256.proofs.block.block_words.Goals as goal

pub returns : goal.returns
returns c =
    let r = c.from_fn.result in
    let b = c.args.b.now in
    let e0 : get_or r 0 0 ≡ get_or b 0 0 * 16777216 + get_or b 1 0 * 65536 + get_or b 2 0 * 256 + get_or b 3 0 = search rules in
    let e1 : get_or r 1 0 ≡ get_or b 4 0 * 16777216 + get_or b 5 0 * 65536 + get_or b 6 0 * 256 + get_or b 7 0 = search rules in
    let e2 : get_or r 2 0 ≡ get_or b 8 0 * 16777216 + get_or b 9 0 * 65536 + get_or b 10 0 * 256 + get_or b 11 0 = search rules in
    let e3 : get_or r 3 0 ≡ get_or b 12 0 * 16777216 + get_or b 13 0 * 65536 + get_or b 14 0 * 256 + get_or b 15 0 = search rules in
    let e4 : get_or r 4 0 ≡ get_or b 16 0 * 16777216 + get_or b 17 0 * 65536 + get_or b 18 0 * 256 + get_or b 19 0 = search rules in
    let e5 : get_or r 5 0 ≡ get_or b 20 0 * 16777216 + get_or b 21 0 * 65536 + get_or b 22 0 * 256 + get_or b 23 0 = search rules in
    let e6 : get_or r 6 0 ≡ get_or b 24 0 * 16777216 + get_or b 25 0 * 65536 + get_or b 26 0 * 256 + get_or b 27 0 = search rules in
    let e7 : get_or r 7 0 ≡ get_or b 28 0 * 16777216 + get_or b 29 0 * 65536 + get_or b 30 0 * 256 + get_or b 31 0 = search rules in
    let e8 : get_or r 8 0 ≡ get_or b 32 0 * 16777216 + get_or b 33 0 * 65536 + get_or b 34 0 * 256 + get_or b 35 0 = search rules in
    let e9 : get_or r 9 0 ≡ get_or b 36 0 * 16777216 + get_or b 37 0 * 65536 + get_or b 38 0 * 256 + get_or b 39 0 = search rules in
    let e10 : get_or r 10 0 ≡ get_or b 40 0 * 16777216 + get_or b 41 0 * 65536 + get_or b 42 0 * 256 + get_or b 43 0 = search rules in
    let e11 : get_or r 11 0 ≡ get_or b 44 0 * 16777216 + get_or b 45 0 * 65536 + get_or b 46 0 * 256 + get_or b 47 0 = search rules in
    let e12 : get_or r 12 0 ≡ get_or b 48 0 * 16777216 + get_or b 49 0 * 65536 + get_or b 50 0 * 256 + get_or b 51 0 = search rules in
    let e13 : get_or r 13 0 ≡ get_or b 52 0 * 16777216 + get_or b 53 0 * 65536 + get_or b 54 0 * 256 + get_or b 55 0 = search rules in
    let e14 : get_or r 14 0 ≡ get_or b 56 0 * 16777216 + get_or b 57 0 * 65536 + get_or b 58 0 * 256 + get_or b 59 0 = search rules in
    let e15 : get_or r 15 0 ≡ get_or b 60 0 * 16777216 + get_or b 61 0 * 65536 + get_or b 62 0 * 256 + get_or b 63 0 = search rules in
    listed 16 r c.from_fn.ensures.items.long ∙ block_words_are b c.requires _ _ _ _ _ _ _ _ _ _ _ _ _ _ _ _ e0 e1 e2 e3 e4 e5 e6 e7 e8 e9 e10 e11 e12 e13 e14 e15
