use Rattle.std.proofs.Common.{rules, ◌≡◌, length, get_or, arith}
use Rattle.sha256.proofs.Rounds.{lane_is}
use Rattle.lmots.proofs.beside.beside.Goals as goal

pub returns : goal.returns
returns c =
    let r = c.from_fn.result in
    let ha : length r ≡ length c.args.a = grind arith in
    let hb : length r ≡ length c.args.b = grind arith in
    let hc : length r ≡ length c.args.c = grind arith in
    let hd : length r ≡ length c.args.d = grind arith in (
      lane_is (λ v k. get_or v.0 k 0) 0 r c.args.a ha (λ i d l. let call = c.from_fn.ensures.items.at i d (grind arith) in search rules),
      lane_is (λ v k. get_or v.0 k 0) 1 r c.args.b hb (λ i d l. let call = c.from_fn.ensures.items.at i d (grind arith) in search rules),
      lane_is (λ v k. get_or v.0 k 0) 2 r c.args.c hc (λ i d l. let call = c.from_fn.ensures.items.at i d (grind arith) in search rules),
      lane_is (λ v k. get_or v.0 k 0) 3 r c.args.d hd (λ i d l. let call = c.from_fn.ensures.items.at i d (grind arith) in search rules),
    )
