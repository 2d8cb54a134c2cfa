-- SHA-256, as FIPS 180-4 defines it. A word is a number below 2 ^ 32, and a byte one below 2 ^ 8.
use Rattle.std.specs.Prelude.{ℕ, zero, suc, ◌+◌, ◌-◌, ◌*◌, ◌/◌, ◌%◌, ◌^◌, List, [], ◌∷◌, ◌++◌, length, take, drop, replicate, bit_and, bit_or, bit_xor, slice_index}

-- section 3.2: addition modulo 2 ^ 32, and the right rotation of a word
infixl 20 ◌⊞◌
abbrev pub ◌⊞◌ : ℕ → ℕ → ℕ
a ⊞ b = (a + b) % 2 ^ 32

abbrev pub rotr : ℕ → ℕ → ℕ
rotr n x = bit_or (x / 2 ^ n) ((x * 2 ^ (32 - n)) % 2 ^ 32)

-- section 4.1.2: the six functions
abbrev pub Ch : ℕ → ℕ → ℕ → ℕ
Ch x y z = bit_xor (bit_and x y) (bit_and (2 ^ 32 - 1 - x) z)

abbrev pub Maj : ℕ → ℕ → ℕ → ℕ
Maj x y z = bit_xor (bit_xor (bit_and x y) (bit_and x z)) (bit_and y z)

abbrev pub Σ0 : ℕ → ℕ
Σ0 x = bit_xor (bit_xor (rotr 2 x) (rotr 13 x)) (rotr 22 x)

abbrev pub Σ1 : ℕ → ℕ
Σ1 x = bit_xor (bit_xor (rotr 6 x) (rotr 11 x)) (rotr 25 x)

abbrev pub σ0 : ℕ → ℕ
σ0 x = bit_xor (bit_xor (rotr 7 x) (rotr 18 x)) (x / 2 ^ 3)

abbrev pub σ1 : ℕ → ℕ
σ1 x = bit_xor (bit_xor (rotr 17 x) (rotr 19 x)) (x / 2 ^ 10)

-- section 4.2.2: the constants, sixteen to a list
abbrev pub K0 : List ℕ
K0 = 0x428a2f98 ∷ 0x71374491 ∷ 0xb5c0fbcf ∷ 0xe9b5dba5 ∷ 0x3956c25b ∷ 0x59f111f1 ∷ 0x923f82a4 ∷ 0xab1c5ed5 ∷ 0xd807aa98 ∷ 0x12835b01 ∷ 0x243185be ∷ 0x550c7dc3 ∷ 0x72be5d74 ∷ 0x80deb1fe ∷ 0x9bdc06a7 ∷ 0xc19bf174 ∷ []

abbrev pub K1 : List ℕ
K1 = 0xe49b69c1 ∷ 0xefbe4786 ∷ 0x0fc19dc6 ∷ 0x240ca1cc ∷ 0x2de92c6f ∷ 0x4a7484aa ∷ 0x5cb0a9dc ∷ 0x76f988da ∷ 0x983e5152 ∷ 0xa831c66d ∷ 0xb00327c8 ∷ 0xbf597fc7 ∷ 0xc6e00bf3 ∷ 0xd5a79147 ∷ 0x06ca6351 ∷ 0x14292967 ∷ []

abbrev pub K2 : List ℕ
K2 = 0x27b70a85 ∷ 0x2e1b2138 ∷ 0x4d2c6dfc ∷ 0x53380d13 ∷ 0x650a7354 ∷ 0x766a0abb ∷ 0x81c2c92e ∷ 0x92722c85 ∷ 0xa2bfe8a1 ∷ 0xa81a664b ∷ 0xc24b8b70 ∷ 0xc76c51a3 ∷ 0xd192e819 ∷ 0xd6990624 ∷ 0xf40e3585 ∷ 0x106aa070 ∷ []

abbrev pub K3 : List ℕ
K3 = 0x19a4c116 ∷ 0x1e376c08 ∷ 0x2748774c ∷ 0x34b0bcb5 ∷ 0x391c0cb3 ∷ 0x4ed8aa4a ∷ 0x5b9cca4f ∷ 0x682e6ff3 ∷ 0x748f82ee ∷ 0x78a5636f ∷ 0x84c87814 ∷ 0x8cc70208 ∷ 0x90befffa ∷ 0xa4506ceb ∷ 0xbef9a3f7 ∷ 0xc67178f2 ∷ []

unfoldable pub K : List ℕ
K = K0 ++ (K1 ++ (K2 ++ K3))

-- section 5.3.3: the initial hash value
abbrev pub IV : List ℕ
IV = 0x6a09e667 ∷ 0xbb67ae85 ∷ 0x3c6ef372 ∷ 0xa54ff53a ∷ 0x510e527f ∷ 0x9b05688c ∷ 0x1f83d9ab ∷ 0x5be0cd19 ∷ []

-- section 6.2.2, step 1: the word after the t words ws, t being at least 16, and n more words
unfoldable pub scheduled : ℕ → ℕ → ℕ → ℕ → ℕ
scheduled w2 w7 w15 w16 = σ1 w2 ⊞ w7 ⊞ σ0 w15 ⊞ w16

abbrev pub next : List ℕ → ℕ
next ws = scheduled (slice_index ws (length ws - 2)) (slice_index ws (length ws - 7)) (slice_index ws (length ws - 15)) (slice_index ws (length ws - 16))

abbrev pub extend : ℕ → List ℕ → List ℕ
extend zero ws = ws
extend (suc n) ws = extend n (ws ++ (next ws ∷ []))

unfoldable pub schedule : List ℕ → List ℕ
schedule m = extend 48 m

-- steps 2 and 3: the working variables a to h are a list of eight words
unfoldable pub T1 : ℕ → ℕ → ℕ → ℕ → ℕ → ℕ → ℕ
T1 e f g h k w = h ⊞ Σ1 e ⊞ Ch e f g ⊞ k ⊞ w

unfoldable pub T2 : ℕ → ℕ → ℕ → ℕ
T2 a b c = Σ0 a ⊞ Maj a b c

abbrev pub round_of : ℕ → ℕ → List ℕ → ℕ → List ℕ
round_of a d s t1 = (t1 ⊞ T2 a (slice_index s 1) (slice_index s 2)) ∷ a ∷ slice_index s 1 ∷ slice_index s 2 ∷ (d ⊞ t1) ∷ slice_index s 4 ∷ slice_index s 5 ∷ slice_index s 6 ∷ []

unfoldable pub round : List ℕ → ℕ → ℕ → List ℕ
round s k w = round_of (slice_index s 0) (slice_index s 3) s (T1 (slice_index s 4) (slice_index s 5) (slice_index s 6) (slice_index s 7) k w)

abbrev pub rounds : List ℕ → List ℕ → List ℕ → List ℕ
rounds s [] ws = s
rounds s (k ∷ ks) [] = s
rounds s (k ∷ ks) (w ∷ ws) = rounds (round s k w) ks ws

-- step 4
abbrev pub sums : List ℕ → List ℕ → List ℕ
sums [] ys = []
sums (x ∷ xs) [] = []
sums (x ∷ xs) (y ∷ ys) = (x ⊞ y) ∷ sums xs ys

unfoldable pub compress : List ℕ → List ℕ → List ℕ
compress h m = sums h (rounds h K (schedule m))

-- section 5.2.1: four bytes are a word, the highest first
abbrev pub words : List ℕ → List ℕ
words [] = []
words (a ∷ []) = []
words (a ∷ b ∷ []) = []
words (a ∷ b ∷ c ∷ []) = []
words (a ∷ b ∷ c ∷ d ∷ bs) = (a * 16777216 + b * 65536 + c * 256 + d) ∷ words bs

abbrev pub bytes : List ℕ → List ℕ
bytes [] = []
bytes (w ∷ ws) = (w / 16777216 % 256) ∷ (w / 65536 % 256) ∷ (w / 256 % 256) ∷ (w % 256) ∷ bytes ws

-- section 5.1.1: a message of n bytes is followed by a byte 0x80, by zeros up to eight bytes before the end of a
-- block of 64, and by the number of its bits in eight bytes
abbrev pub zeros : ℕ → ℕ
zeros n = (119 - n % 64) % 64

abbrev pub u64str : ℕ → List ℕ
u64str n = (n / 2 ^ 56 % 256) ∷ (n / 2 ^ 48 % 256) ∷ (n / 2 ^ 40 % 256) ∷ (n / 2 ^ 32 % 256) ∷ (n / 2 ^ 24 % 256) ∷ (n / 2 ^ 16 % 256) ∷ (n / 2 ^ 8 % 256) ∷ (n % 256) ∷ []

unfoldable pub pad : List ℕ → List ℕ
pad bs = ((bs ++ (0x80 ∷ [])) ++ replicate (zeros (length bs)) 0) ++ u64str (8 * length bs)

-- section 6.2.2: n blocks of 64 bytes
abbrev pub absorb : ℕ → List ℕ → List ℕ → List ℕ
absorb zero h bs = h
absorb (suc n) h bs = absorb n (compress h (words (take 64 bs))) (drop 64 bs)

unfoldable pub sha256 : List ℕ → List ℕ
sha256 bs = bytes (absorb (length (pad bs) / 64) IV (pad bs))
