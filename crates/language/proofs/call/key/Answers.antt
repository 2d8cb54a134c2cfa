use Rattle.language.specs.declared.verb.Verb.TheVariants.{Key}
use Rattle.language.specs.Calls.{StopsIn, wants, here}
use Rattle.language.proofs.Stops.{stops_behind, handed_on}
use Rattle.language.proofs.call.key.Goals as goal

pub returns-in_err-bytes-clause-err : goal.returns-in_err-bytes-clause-err
returns-in_err-bytes-clause-err c =
    handed_on (StopsIn (wants Key) c.args.words.now) _ _ c.from_residual.ensures.1
    (here c.in_err-bytes.ensures.reads)

pub returns-in_err-bytes-2-clause-err : goal.returns-in_err-bytes-2-clause-err
returns-in_err-bytes-2-clause-err c =
    handed_on (StopsIn (wants Key) c.args.words.now) _ _ c.from_residual-in_err-bytes-2.ensures.1
    (stops_behind c.in_ok-bytes.ensures.takes (c.in_ok-bytes.field-0, c.in_ok-bytes.ensures.reads)
    (here c.in_err-bytes-2.ensures.reads))

pub returns-in_err-number-clause-err : goal.returns-in_err-number-clause-err
returns-in_err-number-clause-err c =
    handed_on (StopsIn (wants Key) c.args.words.now) _ _ c.from_residual-in_err-number.ensures.1
    (stops_behind c.in_ok-bytes.ensures.takes (c.in_ok-bytes.field-0, c.in_ok-bytes.ensures.reads)
    (stops_behind c.in_ok-bytes-2.ensures.takes (c.in_ok-bytes-2.field-0, c.in_ok-bytes-2.ensures.reads)
    (here c.in_err-number.ensures.reads)))

pub returns-in_err-bytes-3-clause-err : goal.returns-in_err-bytes-3-clause-err
returns-in_err-bytes-3-clause-err c =
    handed_on (StopsIn (wants Key) c.args.words.now) _ _ c.from_residual-in_err-bytes-3.ensures.1
    (stops_behind c.in_ok-bytes.ensures.takes (c.in_ok-bytes.field-0, c.in_ok-bytes.ensures.reads)
    (stops_behind c.in_ok-bytes-2.ensures.takes (c.in_ok-bytes-2.field-0, c.in_ok-bytes-2.ensures.reads)
    (stops_behind c.in_ok-number.ensures.takes (c.in_ok-number.field-0, c.in_ok-number.ensures.reads)
    (here c.in_err-bytes-3.ensures.reads))))

pub returns-in_err-bytes-4-clause-err : goal.returns-in_err-bytes-4-clause-err
returns-in_err-bytes-4-clause-err c =
    handed_on (StopsIn (wants Key) c.args.words.now) _ _ c.from_residual-in_err-bytes-4.ensures.1
    (stops_behind c.in_ok-bytes.ensures.takes (c.in_ok-bytes.field-0, c.in_ok-bytes.ensures.reads)
    (stops_behind c.in_ok-bytes-2.ensures.takes (c.in_ok-bytes-2.field-0, c.in_ok-bytes-2.ensures.reads)
    (stops_behind c.in_ok-number.ensures.takes (c.in_ok-number.field-0, c.in_ok-number.ensures.reads)
    (stops_behind c.in_ok-bytes-3.ensures.takes (c.in_ok-bytes-3.field-0, c.in_ok-bytes-3.ensures.reads)
    (here c.in_err-bytes-4.ensures.reads)))))
