use Rattle.std.proofs.Common.{drop, Ok, Err, sym, ap, ◌∙◌, subst}
use Rattle.language.specs.Calls.{StandsFor, arguments, CallFails, Refuses, no_call, is_barred, fails, goes_on}
use Rattle.language.specs.Names.{VerbNamed}
use Rattle.language.specs.Wording.{ReadsWord}
use Rattle.language.specs.declared.mistake.Trouble.TheVariants.{Script}
use Rattle.language.proofs.Stops.{handed_on}
use Rattle.language.proofs.call.read.Goals as goal

pub returns-in_err-verb-clause-refusal : goal.returns-in_err-verb-clause-refusal
returns-in_err-verb-clause-refusal c =
    let m = c.in_err-verb.field-0.0 in
    handed_on (Refuses c.args.kind c.args.line.now) _ _ c.from_residual.ensures.1
    (no_call (subst (λ ws. ReadsWord (λ e. e) ws VerbNamed (Err m)) c.new-words.ensures c.in_err-verb.ensures.reads))

pub returns-in_err-allowed-clause-refusal : goal.returns-in_err-allowed-clause-refusal
returns-in_err-allowed-clause-refusal c =
    let v = c.in_ok-verb.verb in
    handed_on (Refuses c.args.kind c.args.line.now) _ _ c.from_residual-in_err-allowed.ensures.1
    (is_barred v (subst (λ ws. ReadsWord (λ e. e) ws VerbNamed (Ok v)) c.new-words.ensures c.in_ok-verb.ensures.reads) (sym c.in_err-allowed.ensures))

pub returns-in_err-call-clause-refusal : goal.returns-in_err-call-clause-refusal
returns-in_err-call-clause-refusal c =
    let v = c.in_ok-verb.verb in
    let t = c.in_err-call.field-0.0 in
    let behind = c.in_ok-verb.ensures.takes ∙ ap (drop 1) c.new-words.ensures in
    handed_on (Refuses c.args.kind c.args.line.now) _ _ c.from_residual-in_err-call.ensures.1
    (fails v (subst (λ ws. ReadsWord (λ e. e) ws VerbNamed (Ok v)) c.new-words.ensures c.in_ok-verb.ensures.reads) (sym c.in_ok-allowed.ensures)
    (subst (λ ws. CallFails v ws t) behind c.in_err-call.ensures.err))

pub returns-in_err-end-clause-refusal : goal.returns-in_err-end-clause-refusal
returns-in_err-end-clause-refusal c =
    let v = c.in_ok-verb.verb in
    let call = c.in_ok-call.call in
    let rest = c.asked.new.words in
    let behind = c.in_ok-verb.ensures.takes ∙ ap (drop 1) c.new-words.ensures in
    handed_on (Refuses c.args.kind c.args.line.now) _ _ c.from_residual-in_err-end.ensures.1
    (subst (λ m. Refuses c.args.kind c.args.line.now (Script m)) (sym c.in_err-end.ensures.1)
    (goes_on v call rest (subst (λ ws. ReadsWord (λ e. e) ws VerbNamed (Ok v)) c.new-words.ensures c.in_ok-verb.ensures.reads) (sym c.in_ok-allowed.ensures)
    c.in_ok-call.ensures.ok.0 (subst (λ ws. StandsFor (arguments call) ws rest) behind c.in_ok-call.ensures.ok.1) c.in_err-end.ensures.0))
