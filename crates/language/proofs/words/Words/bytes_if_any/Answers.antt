use Rattle.std.proofs.Common.{◌∙◌}
use Rattle.language.proofs.Worded.{none_without_text}
use Rattle.language.proofs.words.Words.bytes_if_any.Goals as goal

pub returns-in-Some-clause-none : goal.returns-in-Some-clause-none
returns-in-Some-clause-none c = λ none. absurd (none_without_text _ _ c.in-Some.is (c.self.view_is ∙ none))
