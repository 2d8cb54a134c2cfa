-- Numbers as bytes, the highest first.
use Rattle.std.specs.Prelude.{ℕ, ◌+◌, ◌*◌, ◌/◌, ◌%◌, List, [], ◌∷◌, slice_index}

abbrev pub u8 : ℕ → List ℕ
u8 n = (n % 256) ∷ []

abbrev pub u16 : ℕ → List ℕ
u16 n = (n / 256 % 256) ∷ (n % 256) ∷ []

abbrev pub u32 : ℕ → List ℕ
u32 n = (n / 16777216 % 256) ∷ (n / 65536 % 256) ∷ (n / 256 % 256) ∷ (n % 256) ∷ []

-- the number that the first four bytes write; a byte that is not there counts as 0
abbrev pub number : List ℕ → ℕ
number bs = slice_index bs 0 * 16777216 + slice_index bs 1 * 65536 + slice_index bs 2 * 256 + slice_index bs 3
