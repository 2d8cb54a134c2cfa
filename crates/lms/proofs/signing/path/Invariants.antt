use Rattle.std.proofs.Common.{◌≡◌, ◌-◌, ◌<◌, ◌++◌, length, take}
use Rattle.std.specs.List.{flat_map}
use Rattle.lms.specs.Lms.{picked}
use Rattle.lms.proofs.signing.path.Given as goal

-- the siblings so far, and those that are to come
abbrev pub invariant-loop-sibling : goal.invariant-loop-sibling
invariant-loop-sibling l =
    (flat_map (λ v. v) (take l.sibling-index l.sibling-items) ++ picked l.nodes (l.height - l.sibling-index) l.place ≡ picked l.nodes l.height l.r)
    × (l.place < 2048) × (length l.sibling-items ≡ l.height)
