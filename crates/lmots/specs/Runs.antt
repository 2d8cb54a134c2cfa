-- The chains of a leaf, taken from digit to digit, and their values, which come to their ends one by one.
use Rattle.std.specs.Prelude.{◌≡◌, ℕ, ◌-◌, ◌<◌, List, [], slice_index, slice_index_or}
use Rattle.lmots.specs.declared.run.Run.{Run}

-- what is read past the last run
abbrev pub blank : Run
blank = record { steps = 0; chain = 0; first = 0 }

-- the run of a chain, from its digit in `from` to that in `to`
pub record Runs (from to : List ℕ) (run : Run) : Type 0 where
  pub chained : run.chain < 34
  pub begun : run.first ≡ slice_index from run.chain
  pub counted : run.steps ≡ slice_index to run.chain - slice_index from run.chain

-- the value of chain i is its end
abbrev pub Ended : (ℕ → List ℕ) → List (List ℕ) → ℕ → Type 0
Ended end values i = slice_index_or values i [] ≡ end i
