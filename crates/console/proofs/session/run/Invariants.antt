use Rattle.std.proofs.Common.{◌+◌, length}
use Rattle.std.specs.Option.{option_len}
use Rattle.language.specs.Scripts.{left_in}
use Rattle.console.proofs.session.run.Given as goal

abbrev pub decreases-loop-next : goal.decreases-loop-next
decreases-loop-next l = length (left_in l.session.script) + option_len l.next
