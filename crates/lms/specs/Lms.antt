-- LMS, as section 5 of RFC 8554 defines it, over a hash H, with LM-OTS of type 4 at the leaves.
-- I is the key's identifier of 16 bytes, SEED its secret of 32 bytes, T the type's number, q a leaf's number.
use Rattle.std.specs.Prelude.{◌≡◌, ℕ, zero, suc, ◌+◌, ◌-◌, ◌*◌, ◌/◌, ◌%◌, ◌^◌, ◌<◌, ◌≤◌, Bool, cond, ◌&&◌, ◌||◌, List, [], ◌∷◌, ◌++◌, length, take, drop, ◌==◌, nat_lt, slice_index_or}
use Rattle.std.specs.Str.{bytes_eq}
use Rattle.octets.specs.Numbers.{u32, number}
use Rattle.octets.specs.Parts.{cut}
use Rattle.lmots.specs.LmOts as LmOts

-- type 5 has height 5, type 6 height 10
abbrev pub known : ℕ → Bool
known T = T == 5 || T == 6

abbrev pub height : ℕ → ℕ
height T = cond (T == 5) 5 10

-- a public key is u32(T) ‖ u32(4) ‖ I ‖ node 1
abbrev pub well_formed : List ℕ → Bool
well_formed key = known (number key) && (number (drop 4 key) == 4 && length key == 56)

-- how long a signature under a public key is
abbrev pub signature_size : List ℕ → ℕ
signature_size key = 1132 + 32 * height (number key)

-- what a signature has to be like, for a tree of type T: its leaf q, its one-time type o, and the parts behind them,
-- which are the one-time parts, the type and the path
abbrev pub suitable : ℕ → ℕ → ℕ → List ℕ → Bool
suitable T q o parts = o == 4 && (number (drop 1120 parts) == T && (nat_lt q (2 ^ height T) && length parts == 1124 + 32 * height T))

-- the other child of the node above r
abbrev pub beside : ℕ → ℕ
beside r = cond (r % 2 == 1) (r - 1) (r + 1)

-- at an odd node the first, at an even node the second: the left half is the sibling given at an odd node,
-- and the node worked out at an even one
abbrev pub half : ℕ → List ℕ → List ℕ → List ℕ
half r s t = cond (r % 2 == 1) s t

-- what stands beside r and the n - 1 nodes above it, in a list that has each node at its number
unfoldable pub picked : List (List ℕ) → ℕ → ℕ → List ℕ
picked nodes zero r = []
picked nodes (suc n) r = slice_index_or nodes (beside r) [] ++ picked nodes n (r / 2)

-- a node r from low on, d levels up: those are from 2 ^ (h - d) to twice that
abbrev pub Place : ℕ → ℕ → Type 0
Place h low = (d : ℕ) × (r : ℕ) × (d ≤ h) × (2 ^ (h - d) ≤ r) × (r < 2 * 2 ^ (h - d)) × (low ≤ r)

module _ (H : List ℕ → List ℕ) where
  -- the node of a leaf: H(I ‖ u32(r) ‖ 0x8282 ‖ K)
  unfoldable pub leaf : List ℕ → ℕ → List ℕ → List ℕ
  leaf I r k = H (I ++ (u32 r ++ (0x82 ∷ 0x82 ∷ k)))

  -- the node over two others: H(I ‖ u32(r) ‖ 0x8383 ‖ left ‖ right)
  unfoldable pub inner : List ℕ → ℕ → List ℕ → List ℕ → List ℕ
  inner I r left right = H (I ++ (u32 r ++ (0x83 ∷ 0x83 ∷ left ++ right)))

  -- node r, which stands d levels above the leaves of a tree of height h
  unfoldable pub node : ℕ → List ℕ → List ℕ → ℕ → ℕ → List ℕ
  node h I SEED zero r = leaf I r (LmOts.K H I (r - 2 ^ h) SEED)
  node h I SEED (suc d) r = inner I r (node h I SEED d (2 * r)) (node h I SEED d (2 * r + 1))

  -- what stands beside r and the n - 1 nodes above it, from level d on
  unfoldable pub siblings : ℕ → List ℕ → List ℕ → ℕ → ℕ → ℕ → List ℕ
  siblings h I SEED zero d r = []
  siblings h I SEED (suc n) d r = node h I SEED d (beside r) ++ siblings h I SEED n (suc d) (r / 2)

  -- the node above r, which has the value t, and s beside it
  abbrev pub above : List ℕ → ℕ → List ℕ → List ℕ → List ℕ
  above I r t s = inner I (r / 2) (half r s t) (half r t s)

  -- n levels up from node r with the value t, by the siblings in path
  unfoldable pub climb : List ℕ → ℕ → ℕ → List ℕ → List ℕ → List ℕ
  climb I zero r t path = t
  climb I (suc n) r t path = climb I n (r / 2) (above I r t (take 32 path)) (drop 32 path)

  unfoldable pub public_key : ℕ → List ℕ → List ℕ → List ℕ
  public_key T I SEED = u32 T ++ (u32 4 ++ (I ++ node (height T) I SEED (height T) 1))

  unfoldable pub signature : ℕ → List ℕ → List ℕ → ℕ → List ℕ → List ℕ
  signature T I SEED q m = u32 q ++ (LmOts.signature H I q SEED m ++ (u32 T ++ siblings (height T) I SEED (height T) 0 (2 ^ height T + q)))

  -- node 1, as the LM-OTS parts of a signature and its path have it
  unfoldable pub root : ℕ → List ℕ → ℕ → List ℕ → List ℕ → List ℕ → List ℕ
  root h I q m parts path = climb I h (2 ^ h + q) (leaf I (2 ^ h + q) (LmOts.yielded H I q m parts)) path

  -- a signature holds when both types are the key's, its leaf is one of the tree's, it is as long as it should be,
  -- and node 1 comes out
  unfoldable pub holds : List ℕ → List ℕ → List ℕ → Bool
  holds key m sig =
      well_formed key && (number (drop 4 sig) == number (drop 4 key) && (number (drop 1128 sig) == number key
      && (nat_lt (number sig) (2 ^ height (number key)) && (length sig == signature_size key
      && bytes_eq (root (height (number key)) (cut 8 16 key) (number sig) m (cut 8 1120 sig) (drop 1132 sig)) (drop 24 key)))))

  -- a list that has each node at its number, from node low on
  abbrev pub Grown : ℕ → List ℕ → List ℕ → ℕ → List (List ℕ) → Type 0
  Grown h I SEED low nodes = (p : Place h low) → slice_index_or nodes p.1 [] ≡ node h I SEED p.0 p.1
