-- LM-OTS, as section 4 of RFC 8554 defines it, with n 32, w 8 and p 34 (type 4), over a hash H.
-- I is the key's identifier of 16 bytes, q the leaf's number, SEED the secret of 32 bytes.
use Rattle.std.specs.Prelude.{ℕ, zero, suc, ◌+◌, ◌-◌, ◌*◌, Bool, ◌&&◌, List, [], ◌∷◌, ◌++◌, length, take, drop, ◌==◌, slice_index}
use Rattle.std.specs.Str.{bytes_eq}
use Rattle.octets.specs.Numbers.{u8, u16, u32, number}
use Rattle.octets.specs.Parts.{cut, row}

-- the sum of 255 - b over the bytes b
unfoldable pub checksum : List ℕ → ℕ
checksum [] = 0
checksum (b ∷ bs) = (255 - b) + checksum bs

-- a(i) is byte i of Q ‖ u16(checksum)
unfoldable pub digit : List ℕ → ℕ → ℕ
digit Q i = slice_index (Q ++ u16 (checksum Q)) i

-- a public key is u32(4) ‖ I ‖ u32(q) ‖ K
abbrev pub well_formed : List ℕ → Bool
well_formed key = number key == 4 && length key == 56

module _ (H : List ℕ → List ℕ) where
  -- x(i) = H(I ‖ u32(q) ‖ u16(i) ‖ 0xff ‖ SEED), where chain i begins
  unfoldable pub x : List ℕ → ℕ → List ℕ → ℕ → List ℕ
  x I q SEED i = H (I ++ (u32 q ++ (u16 i ++ (0xff ∷ SEED))))

  -- step j of chain i
  unfoldable pub step : List ℕ → ℕ → ℕ → ℕ → List ℕ → List ℕ
  step I q i j t = H (I ++ (u32 q ++ (u16 i ++ (u8 j ++ t))))

  -- n steps of chain i, from step j on
  unfoldable pub steps : List ℕ → ℕ → ℕ → ℕ → ℕ → List ℕ → List ℕ
  steps I q i zero j t = t
  steps I q i (suc n) j t = steps I q i n (j + 1) (step I q i j t)

  -- t after the steps from a to b - 1 of chain i
  abbrev pub through : List ℕ → ℕ → ℕ → ℕ → ℕ → List ℕ → List ℕ
  through I q i a b t = steps I q i (b - a) a t

  -- y(i) is x(i) after steps 0 to 254
  abbrev pub y : List ℕ → ℕ → List ℕ → ℕ → List ℕ
  y I q SEED i = through I q i 0 255 (x I q SEED i)

  -- what the ends of the chains come to: H(I ‖ u32(q) ‖ 0x8080 ‖ end(0) ‖ … ‖ end(33))
  unfoldable pub gathered : List ℕ → ℕ → (ℕ → List ℕ) → List ℕ
  gathered I q end = H (I ++ (u32 q ++ (0x80 ∷ 0x80 ∷ row 34 end)))

  abbrev pub K : List ℕ → ℕ → List ℕ → List ℕ
  K I q SEED = gathered I q (y I q SEED)

  -- the randomizer is C = x(0xFFFD), and Q = H(I ‖ u32(q) ‖ 0x8181 ‖ C ‖ message)
  abbrev pub C : List ℕ → ℕ → List ℕ → List ℕ
  C I q SEED = x I q SEED 0xFFFD

  unfoldable pub Q : List ℕ → ℕ → List ℕ → List ℕ → List ℕ
  Q I q c m = H (I ++ (u32 q ++ (0x81 ∷ 0x81 ∷ c ++ m)))

  -- z(i) is x(i) after steps 0 to a(i) - 1
  abbrev pub z : List ℕ → ℕ → List ℕ → List ℕ → ℕ → List ℕ
  z I q SEED m i = through I q i 0 (digit (Q I q (C I q SEED) m) i) (x I q SEED i)

  unfoldable pub signature : List ℕ → ℕ → List ℕ → List ℕ → List ℕ
  signature I q SEED m = u32 4 ++ (C I q SEED ++ row 34 (z I q SEED m))

  unfoldable pub public_key : List ℕ → ℕ → List ℕ → List ℕ
  public_key I q SEED = u32 4 ++ (I ++ (u32 q ++ K I q SEED))

  -- the key that c and the row of z yield: each z(i) is taken through steps a(i) to 254
  unfoldable pub candidate : List ℕ → ℕ → List ℕ → List ℕ → List ℕ → List ℕ
  candidate I q m c zs = gathered I q (λ i. through I q i (digit (Q I q c m) i) 255 (cut (32 * i) 32 zs))

  -- the key that what follows a signature's type bytes yields for a message
  abbrev pub yielded : List ℕ → ℕ → List ℕ → List ℕ → List ℕ
  yielded I q m parts = candidate I q m (take 32 parts) (drop 32 parts)

  -- whether it is the key's own K: rest follows the key's type bytes, parts those of the signature
  abbrev pub agrees : List ℕ → List ℕ → List ℕ → Bool
  agrees rest m parts = bytes_eq (yielded (take 16 rest) (number (drop 16 rest)) m parts) (drop 20 rest)

  -- a signature holds when key and signature are of type 4 and as long as they should be, and K comes out
  unfoldable pub holds : List ℕ → List ℕ → List ℕ → Bool
  holds key m sig = well_formed key && (number sig == number key && (length sig == 1124 && agrees (drop 4 key) m (drop 4 sig)))
