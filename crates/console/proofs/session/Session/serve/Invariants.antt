use Rattle.std.proofs.Common.{◌≤◌, length}
use Rattle.language.specs.Scripts.{left_in}
use Rattle.console.proofs.session.Session.serve.Given as goal

abbrev pub invariant-loop-line : goal.invariant-loop-line
invariant-loop-line g l = length (left_in l.self.script) ≤ length (left_in l.initial.self.script)

abbrev pub decreases-loop-line : goal.decreases-loop-line
decreases-loop-line g l = length (left_in l.self.script)
