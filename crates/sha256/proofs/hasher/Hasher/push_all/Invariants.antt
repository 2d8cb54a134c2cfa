use Rattle.std.proofs.Common.{◌≡◌, ℕ, ◌+◌, ◌%◌, List, ◌++◌, take}
use Rattle.sha256.specs.Hashed.{Hashes}
use Rattle.sha256.proofs.hasher.Hasher.push_all.Given as goal

abbrev pub invariant-loop-b : goal.invariant-loop-b
invariant-loop-b l =
    ((bs : List ℕ) → Hashes l.initial.self bs → Hashes l.self (bs ++ take l.b-index l.more))
    × (l.self.filled ≡ (l.initial.self.filled + l.b-index) % 64)
