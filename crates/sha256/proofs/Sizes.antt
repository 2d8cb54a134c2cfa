-- A hash is 32 bytes.
use Rattle.std.proofs.Common.{◌≡◌, ℕ, zero, suc, ◌*◌, ◌/◌, ◌<◌, List, [], ◌∷◌, length, get_or, take, drop, refl, arith}
use Rattle.sha256.specs.Sha256.{K, IV, pad, schedule, round, rounds, sums, compress, words, bytes, absorb, sha256}

length-rounds : (ks ws s : List ℕ) → length s ≡ 8 → length (rounds s ks ws) ≡ 8
unfolding round
length-rounds [] ws s h = h
length-rounds (k ∷ ks) [] s h = h
length-rounds (k ∷ ks) (w ∷ ws) s h = length-rounds ks ws (round s k w) refl

length-sums : (n : ℕ) (xs ys : List ℕ) → length xs ≡ n → length ys ≡ n → length (sums xs ys) ≡ n
length-sums n [] ys h g = h
length-sums zero (x ∷ xs) ys h g = absurd (omega arith)
length-sums (suc n) (x ∷ xs) [] h g = absurd (omega arith)
length-sums (suc n) (x ∷ xs) (y ∷ ys) h g = let e = length-sums n xs ys (omega arith) (omega arith) in omega arith

length-compress : (h m : List ℕ) → length h ≡ 8 → length (compress h m) ≡ 8
unfolding compress
length-compress h m e = length-sums 8 h (rounds h K (schedule m)) e (length-rounds K (schedule m) h e)

length-absorb : (n : ℕ) (h bs : List ℕ) → length h ≡ 8 → length (absorb n h bs) ≡ 8
length-absorb zero h bs e = e
length-absorb (suc n) h bs e = length-absorb n (compress h (words (take 64 bs))) (drop 64 bs) (length-compress h _ e)

pub length-bytes : (ws : List ℕ) → length (bytes ws) ≡ 4 * length ws
length-bytes [] = refl
length-bytes (w ∷ ws) = omega (arith, length-bytes ws)

pub bytes_small : (ws : List ℕ) (i : ℕ) → get_or (bytes ws) i 0 < 256
bytes_small [] i = omega arith
bytes_small (w ∷ ws) zero = omega arith
bytes_small (w ∷ ws) (suc zero) = omega arith
bytes_small (w ∷ ws) (suc (suc zero)) = omega arith
bytes_small (w ∷ ws) (suc (suc (suc zero))) = omega arith
bytes_small (w ∷ ws) (suc (suc (suc (suc i)))) = bytes_small ws i

pub sized : (bs : List ℕ) → length (sha256 bs) ≡ 32
unfolding sha256
sized bs = omega (arith, length-bytes (absorb (length (pad bs) / 64) IV (pad bs)), length-absorb (length (pad bs) / 64) IV (pad bs) refl)

pub small : (bs : List ℕ) (i : ℕ) → get_or (sha256 bs) i 0 < 256
unfolding sha256
small bs i = bytes_small _ i
