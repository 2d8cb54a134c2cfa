use Rattle.language.specs.Spelling.{IsSpelling}
use Rattle.language.specs.declared.mistake.Trouble.TheVariants.{Script}
use Rattle.language.proofs.Worded.{reads_on}
use Rattle.language.proofs.words.Words.bytes.Goals as goal

pub returns-clause-reads : goal.returns-clause-reads
returns-clause-reads c = reads_on Script _ IsSpelling c.in_ok-word.word _ c.in_ok-word.ensures.reads c.spelt.ensures
