-- What a hasher's fields say of the bytes that it was given.
use Rattle.std.specs.Prelude.{◌≡◌, ℕ, ◌*◌, ◌%◌, ◌^◌, List, ◌++◌, length, take}
use Rattle.sha256.specs.Sha256.{absorb, IV}
use Rattle.sha256.specs.declared.hasher.Hasher.{Hasher}

-- the bytes bs are `count` whole blocks, which are hashed, and the front of the block that is being filled
pub record Holds (state block : List ℕ) (filled total : ℕ) (bs : List ℕ) : Type 0 where
  pub whole : List ℕ
  pub count : ℕ
  pub split : bs ≡ whole ++ take filled block
  pub blocks : length whole ≡ 64 * count
  pub hashed : state ≡ absorb count IV whole
  pub counted : total ≡ length bs % 2 ^ 64
  pub long : length block ≡ 64

-- the hasher was given the bytes bs
abbrev pub Hashes : Hasher → List ℕ → Type 0
Hashes h bs = Holds h.state h.block h.filled h.total bs
