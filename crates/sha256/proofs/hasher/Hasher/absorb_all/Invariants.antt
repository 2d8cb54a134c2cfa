-- The blocks that are left, behind the bytes that there are.
use Rattle.std.proofs.Common.{◌≡◌, ℕ, ◌%◌, List, ◌++◌, length}
use Rattle.sha256.specs.Hashed.{Hashes}
use Rattle.sha256.proofs.hasher.Hasher.absorb_all.Given as goal

abbrev pub invariant-loop-block : goal.invariant-loop-block
invariant-loop-block l =
    (l.self.filled ≡ 0) × (l.block-iterator.size ≡ 64) × (length l.block-iterator.rest.now % 64 ≡ 0)
    × ((bs : List ℕ) → Hashes l.initial.self bs → (more : List ℕ) × Hashes l.self (bs ++ more) × (more ++ l.block-iterator.rest.now ≡ l.blocks))
