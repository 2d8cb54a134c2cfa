use Rattle.std.proofs.Common.{◌∙◌}
use Rattle.language.proofs.Worded.{none_without_text}
use Rattle.language.proofs.words.Words.number_if_any.Goals as goal

pub returns-in_err-number-in-Some-clause-none : goal.returns-in_err-number-in-Some-clause-none
returns-in_err-number-in-Some-clause-none c = λ none. absurd (none_without_text _ _ c.in-Some.is (c.self.view_is ∙ none))
