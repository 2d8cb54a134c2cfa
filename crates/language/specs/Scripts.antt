-- The lines of a script that are still to come.
use Rattle.std.specs.Prelude.{◌≡◌, ℕ, ◌+◌, ◌-◌, ◌^◌, ◌<◌, min, List, [], length, MatchOption, Option}
use denote.Ref.{Bor}
use Rattle.language.specs.declared.script.Script.{Script}
use Rattle.language.specs.Cuts.{before, behind}

-- the text that was not yet given
abbrev pub left_in : Script → List ℕ
left_in s = s.rest.now

-- a call for the next line: what stands before the first line feed, and what stands behind it is left
pub record GivesLine (old : Script) (line : Option (Bor (List ℕ))) (new : Script) : Type 0 where
  pub line_is : MatchOption line (left_in old ≡ []) (λ l. (0 < length (left_in old)) × (l.now ≡ before 0x0a (left_in old)))
  pub rest_is : left_in new ≡ behind 0x0a (left_in old)
  pub number_is : MatchOption line (new.number ≡ old.number) (λ _. new.number ≡ min (old.number + 1) (2 ^ 64 - 1))
