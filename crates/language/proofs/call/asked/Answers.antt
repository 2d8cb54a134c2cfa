use Rattle.language.specs.declared.verb.Verb.TheVariants.{Hash, Sign, File, Get, Has, Fits}
use Rattle.language.specs.Calls.{CallFails, here}
use Rattle.language.proofs.Stops.{stops_behind, handed_on, number_or_none_fails, of_verb}
use Rattle.language.proofs.call.asked.Goals as goal

pub returns-in_err-bytes-in-Hash-clause-err : goal.returns-in_err-bytes-in-Hash-clause-err
returns-in_err-bytes-in-Hash-clause-err c =
    handed_on (CallFails c.args.verb c.args.words.now) _ _ c.from_residual-in_err-bytes-in-Hash.ensures.1
    (of_verb _ Hash _ _ c.in-Hash.is
    (here c.in_err-bytes-in-Hash.ensures.reads))

pub returns-in_err-bytes-in-Sign-clause-err : goal.returns-in_err-bytes-in-Sign-clause-err
returns-in_err-bytes-in-Sign-clause-err c =
    handed_on (CallFails c.args.verb c.args.words.now) _ _ c.from_residual-in_err-bytes-in-Sign.ensures.1
    (of_verb _ Sign _ _ c.in-Sign.is
    (here c.in_err-bytes-in-Sign.ensures.reads))

pub returns-in_err-number-in-Sign-clause-err : goal.returns-in_err-number-in-Sign-clause-err
returns-in_err-number-in-Sign-clause-err c =
    handed_on (CallFails c.args.verb c.args.words.now) _ _ c.from_residual-in_err-number-in-Sign.ensures.1
    (of_verb _ Sign _ _ c.in-Sign.is
    (stops_behind c.in_ok-bytes-in-Sign.ensures.takes (c.in_ok-bytes-in-Sign.field-0, c.in_ok-bytes-in-Sign.ensures.reads)
    (here c.in_err-number-in-Sign.ensures.reads)))

pub returns-in_err-bytes-in-Sign-2-clause-err : goal.returns-in_err-bytes-in-Sign-2-clause-err
returns-in_err-bytes-in-Sign-2-clause-err c =
    handed_on (CallFails c.args.verb c.args.words.now) _ _ c.from_residual-in_err-bytes-in-Sign-2.ensures.1
    (of_verb _ Sign _ _ c.in-Sign.is
    (stops_behind c.in_ok-bytes-in-Sign.ensures.takes (c.in_ok-bytes-in-Sign.field-0, c.in_ok-bytes-in-Sign.ensures.reads)
    (stops_behind c.in_ok-number-in-Sign.ensures.takes (c.in_ok-number-in-Sign.field-0, c.in_ok-number-in-Sign.ensures.reads)
    (here c.in_err-bytes-in-Sign-2.ensures.reads))))

pub returns-in_err-bytes-in-File-clause-err : goal.returns-in_err-bytes-in-File-clause-err
returns-in_err-bytes-in-File-clause-err c =
    handed_on (CallFails c.args.verb c.args.words.now) _ _ c.from_residual-in_err-bytes-in-File.ensures.1
    (of_verb _ File _ _ c.in-File.is
    (here c.in_err-bytes-in-File.ensures.reads))

pub returns-in_err-bytes-in-File-2-clause-err : goal.returns-in_err-bytes-in-File-2-clause-err
returns-in_err-bytes-in-File-2-clause-err c =
    handed_on (CallFails c.args.verb c.args.words.now) _ _ c.from_residual-in_err-bytes-in-File-2.ensures.1
    (of_verb _ File _ _ c.in-File.is
    (stops_behind c.in_ok-bytes-in-File.ensures.takes (c.in_ok-bytes-in-File.field-0, c.in_ok-bytes-in-File.ensures.reads)
    (here c.in_err-bytes-in-File-2.ensures.reads)))

pub returns-in_err-bytes-in-Get-clause-err : goal.returns-in_err-bytes-in-Get-clause-err
returns-in_err-bytes-in-Get-clause-err c =
    handed_on (CallFails c.args.verb c.args.words.now) _ _ c.from_residual-in_err-bytes-in-Get.ensures.1
    (of_verb _ Get _ _ c.in-Get.is
    (here c.in_err-bytes-in-Get.ensures.reads))

pub returns-in_err-number_if_any-in-Get-clause-err : goal.returns-in_err-number_if_any-in-Get-clause-err
returns-in_err-number_if_any-in-Get-clause-err c =
    handed_on (CallFails c.args.verb c.args.words.now) _ _ c.from_residual-in_err-number_if_any-in-Get.ensures.1
    (of_verb _ Get _ _ c.in-Get.is
    (stops_behind c.in_ok-bytes-in-Get.ensures.takes (c.in_ok-bytes-in-Get.field-0, c.in_ok-bytes-in-Get.ensures.reads)
    (here (number_or_none_fails _ _ c.in_err-number_if_any-in-Get.ensures.some c.in_err-number_if_any-in-Get.ensures.none))))

pub returns-in_err-bytes-in-Has-clause-err : goal.returns-in_err-bytes-in-Has-clause-err
returns-in_err-bytes-in-Has-clause-err c =
    handed_on (CallFails c.args.verb c.args.words.now) _ _ c.from_residual-in_err-bytes-in-Has.ensures.1
    (of_verb _ Has _ _ c.in-Has.is
    (here c.in_err-bytes-in-Has.ensures.reads))

pub returns-in_err-number-in-Fits-clause-err : goal.returns-in_err-number-in-Fits-clause-err
returns-in_err-number-in-Fits-clause-err c =
    handed_on (CallFails c.args.verb c.args.words.now) _ _ c.from_residual-in_err-number-in-Fits.ensures.1
    (of_verb _ Fits _ _ c.in-Fits.is
    (here c.in_err-number-in-Fits.ensures.reads))

pub returns-in_err-number-in-Fits-2-clause-err : goal.returns-in_err-number-in-Fits-2-clause-err
returns-in_err-number-in-Fits-2-clause-err c =
    handed_on (CallFails c.args.verb c.args.words.now) _ _ c.from_residual-in_err-number-in-Fits-2.ensures.1
    (of_verb _ Fits _ _ c.in-Fits.is
    (stops_behind c.in_ok-number-in-Fits.ensures.takes (c.in_ok-number-in-Fits.field-0, c.in_ok-number-in-Fits.ensures.reads)
    (here c.in_err-number-in-Fits-2.ensures.reads)))
