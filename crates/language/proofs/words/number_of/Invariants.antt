use Rattle.std.proofs.Common.{◌≡◌, ◌^◌, ◌<◌, drop}
use Rattle.language.specs.Numbers.{number_from, number_in}
use Rattle.language.proofs.words.number_of.Given as goal

abbrev pub invariant-loop-digit : goal.invariant-loop-digit
invariant-loop-digit l = (number_from l.n (drop l.digit-index l.word) ≡ number_in l.word) × (l.n < 2 ^ 64)
