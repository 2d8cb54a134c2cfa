use Rattle.language.specs.Calls.{OpenFails, no_kind, here}
use Rattle.language.specs.declared.verb.Kind.TheVariants.{Line, Table}
use Rattle.language.proofs.Stops.{stops_behind, handed_on, bytes_or_none_fails, of_this_kind}
use Rattle.language.proofs.call.open.Goals as goal

pub returns-in_err-number-in-Line-clause-err : goal.returns-in_err-number-in-Line-clause-err
returns-in_err-number-in-Line-clause-err c =
    handed_on (OpenFails c.args.words.now) _ _ c.from_residual-in_err-number-in-Line.ensures.1
    (of_this_kind _ Line c.in-Line.is c.in_ok-kind.ensures.reads c.in_ok-kind.ensures.takes
    (here c.in_err-number-in-Line.ensures.reads))

pub returns-in_err-bytes_if_any-in-Line-clause-err : goal.returns-in_err-bytes_if_any-in-Line-clause-err
returns-in_err-bytes_if_any-in-Line-clause-err c =
    handed_on (OpenFails c.args.words.now) _ _ c.from_residual-in_err-bytes_if_any-in-Line.ensures.1
    (of_this_kind _ Line c.in-Line.is c.in_ok-kind.ensures.reads c.in_ok-kind.ensures.takes
    (stops_behind c.in_ok-number-in-Line.ensures.takes (c.in_ok-number-in-Line.field-0, c.in_ok-number-in-Line.ensures.reads)
    (here (bytes_or_none_fails _ _ c.in_err-bytes_if_any-in-Line.ensures.some c.in_err-bytes_if_any-in-Line.ensures.none))))

pub returns-in_err-number-in-Table-clause-err : goal.returns-in_err-number-in-Table-clause-err
returns-in_err-number-in-Table-clause-err c =
    handed_on (OpenFails c.args.words.now) _ _ c.from_residual-in_err-number-in-Table.ensures.1
    (of_this_kind _ Table c.in-Table.is c.in_ok-kind.ensures.reads c.in_ok-kind.ensures.takes
    (here c.in_err-number-in-Table.ensures.reads))

pub returns-in_err-number-in-Table-2-clause-err : goal.returns-in_err-number-in-Table-2-clause-err
returns-in_err-number-in-Table-2-clause-err c =
    handed_on (OpenFails c.args.words.now) _ _ c.from_residual-in_err-number-in-Table-2.ensures.1
    (of_this_kind _ Table c.in-Table.is c.in_ok-kind.ensures.reads c.in_ok-kind.ensures.takes
    (stops_behind c.in_ok-number-in-Table.ensures.takes (c.in_ok-number-in-Table.field-0, c.in_ok-number-in-Table.ensures.reads)
    (here c.in_err-number-in-Table-2.ensures.reads)))

pub returns-in_err-kind-clause-err : goal.returns-in_err-kind-clause-err
returns-in_err-kind-clause-err c =
    handed_on (OpenFails c.args.words.now) _ _ c.from_residual.ensures.1 (no_kind c.in_err-kind.ensures.reads)
