use Rattle.std.proofs.Common.{rules, ◌≡◌, length, arith}
use Rattle.sha256.proofs.Rounds.{compressed, IsSum}
use Rattle.sha256.proofs.block.compress.Goals as goal

pub returns : goal.returns
returns g c j l =
    let hh : length c.args.h ≡ 8 = omega arith in
    let hs : length c.rounds-s.result ≡ 8 = omega arith in
    let e0 : IsSum g.W.Word.at j c.args.h c.rounds-s.result c.from_fn.result 0 = search rules in
    let e1 : IsSum g.W.Word.at j c.args.h c.rounds-s.result c.from_fn.result 1 = search rules in
    let e2 : IsSum g.W.Word.at j c.args.h c.rounds-s.result c.from_fn.result 2 = search rules in
    let e3 : IsSum g.W.Word.at j c.args.h c.rounds-s.result c.from_fn.result 3 = search rules in
    let e4 : IsSum g.W.Word.at j c.args.h c.rounds-s.result c.from_fn.result 4 = search rules in
    let e5 : IsSum g.W.Word.at j c.args.h c.rounds-s.result c.from_fn.result 5 = search rules in
    let e6 : IsSum g.W.Word.at j c.args.h c.rounds-s.result c.from_fn.result 6 = search rules in
    let e7 : IsSum g.W.Word.at j c.args.h c.rounds-s.result c.from_fn.result 7 = search rules in
    compressed g.W.Word.at j c.args.h c.rounds-s.result c.from_fn.result _ _ hh hs c.from_fn.ensures.items.long
    e0 e1 e2 e3 e4 e5 e6 e7 (c.schedule.ensures j l) (c.rounds-s.ensures j l)
