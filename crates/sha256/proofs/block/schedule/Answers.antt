use Rattle.std.proofs.Common.{◌≡◌, length, length-drop, length-set, drop, ap, ◌∙◌, arith}
use Rattle.sha256.proofs.Rounds.{first_long, first_words, later_words, all_words}
use Rattle.sha256.proofs.block.schedule.Goals as goal

pub loop-t-init : goal.loop-t-init
loop-t-init g c =
    let hm : length c.args.m.now ≡ 16 = omega arith in
    let hw : length c.args.w.now ≡ 64 = omega arith in
    let part : length c.copy_from_slice.new.self ≡ 16 = ap length c.copy_from_slice.ensures.after ∙ hm in (
      first_long c.copy_from_slice.new.self (drop 16 c.args.w.now) part (omega (arith, length-drop 16 c.args.w.now)),
      λ j l. first_words g.W.Word.at j c.args.m.now c.copy_from_slice.new.self _ hm c.copy_from_slice.ensures.after,
    )

pub loop-t-preserved : goal.loop-t-preserved
loop-t-preserved g c =
    let hm : length c.args.m.now ≡ 16 = omega arith in
    let hw : length c.loop-t.w ≡ 64 = c.loop-t.invariant.0 in (
      length-set c.loop-t.w c.loop-t.t c.schedule_word.result ∙ hw,
      λ j l.
          later_words g.W.Word.at j c.loop-t.t c.args.m.now c.loop-t.w c.schedule_word.result _ _ _ _ hm hw c.loop-t.auto.t (omega arith) (c.loop-t.invariant.1 j l) (c.schedule_word.ensures j l),
    )

pub returns : goal.returns
returns g c j l =
    let hm : length c.args.m.now ≡ 16 = omega arith in
    all_words g.W.Word.at j c.loop-t.t c.args.m.now c.loop-t.w hm c.loop-t.invariant.0 c.loop-t-test.false (c.loop-t.invariant.1 j l)
