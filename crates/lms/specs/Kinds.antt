-- The types of trees.
use Rattle.std.specs.Prelude.{ℕ}
use Rattle.lms.specs.declared.kind.LmsType.{LmsType}
use Rattle.lms.specs.declared.kind.LmsType.TheVariants.{Sha256M32H5, Sha256M32H10}

-- the number of a type
abbrev pub type_number : LmsType → ℕ
type_number Sha256M32H5 = 5
type_number Sha256M32H10 = 6
