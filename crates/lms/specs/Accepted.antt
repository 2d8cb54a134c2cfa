-- What it means that a signature is accepted, by the climb of RFC 8554 (algorithm 6a) and not by a function.
use Rattle.std.specs.Prelude.{◌≡◌, ℕ, ◌+◌, ◌/◌, ◌%◌, ◌^◌, ◌<◌, true, List, [], ◌++◌, length, drop}
use Rattle.octets.specs.Numbers.{number}
use Rattle.octets.specs.Parts.{cut}
use Rattle.lmots.specs.LmOts.{yielded}
use Rattle.lms.specs.Lms.{well_formed, height, signature_size, leaf, inner}

-- node r has the value t: by the siblings in path, one at each level, and no more, node 1 has the value top.
-- At an odd node the sibling is the left half, at an even node the right one
pub data Climbs (H : List ℕ → List ℕ) (I : List ℕ) : ℕ → List ℕ → List ℕ → List ℕ → Type 0 where
  arrived : {r : ℕ} {t path top : List ℕ} → r ≡ 1 → path ≡ [] → top ≡ t → Climbs H I r t path top
  odd : {r : ℕ} {t path top : List ℕ} (s rest : List ℕ) → 1 < r → r % 2 ≡ 1 → length s ≡ 32 → path ≡ s ++ rest → Climbs H I (r / 2) (inner H I (r / 2) s t) rest top → Climbs H I r t path top
  even : {r : ℕ} {t path top : List ℕ} (s rest : List ℕ) → 1 < r → r % 2 ≡ 0 → length s ≡ 32 → path ≡ s ++ rest → Climbs H I (r / 2) (inner H I (r / 2) t s) rest top → Climbs H I r t path top

-- the key that the one-time part yields is that of a leaf of the tree, which climbs to the root in the public key
pub record Accepted (H : List ℕ → List ℕ) (key m sig : List ℕ) : Type 0 where
  pub formed : well_formed key ≡ true
  pub one_time : number (drop 4 sig) ≡ number (drop 4 key)
  pub type : number (drop 1128 sig) ≡ number key
  pub below : number sig < 2 ^ height (number key)
  pub long : length sig ≡ signature_size key
  pub climbs : Climbs H (cut 8 16 key) (2 ^ height (number key) + number sig)
      (leaf H (cut 8 16 key) (2 ^ height (number key) + number sig) (yielded H (cut 8 16 key) (number sig) m (cut 8 1120 sig)))
      (drop 1132 sig) (drop 24 key)
