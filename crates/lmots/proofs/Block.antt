-- The one block of a step.
use Rattle.std.proofs.Common.{◌≡◌, ℕ, ◌+◌, ◌*◌, ◌/◌, ◌%◌, ◌^◌, ◌<◌, List, [], ◌∷◌, ◌++◌, map, length, get_or, sym, refl, ap, ◌∙◌, arith}
use Rattle.std.specs.List.{range_with_len}
use Rattle.sha256.specs.Sha256.{words, bytes, compress, IV, sha256}
use Rattle.sha256.proofs.Rounds.{listed}
use Rattle.sha256.proofs.Hashing.{one_block, cons_same}

low : (x y : ℕ) → y ≡ x / 256 → y * 256 + x % 256 ≡ x
low x y e = omega arith

top : (x y : ℕ) → y ≡ x / 256 → y < 256 → y % 256 * 256 + x % 256 ≡ x
top x y e h = omega arith

joins : (z p q r y x w : ℕ) → z * 256 + p ≡ y → y * 256 + q ≡ x → x * 256 + r ≡ w → z * 16777216 + p * 65536 + q * 256 + r ≡ w
joins z p q r y x w e f g = omega arith

pub whole : (w : ℕ) → w < 2 ^ 32 → w / 16777216 % 256 * 16777216 + w / 65536 % 256 * 65536 + w / 256 % 256 * 256 + w % 256 ≡ w
whole w h =
    let a : w / 65536 ≡ w / 256 / 256 = omega arith in
    let b : w / 16777216 ≡ w / 65536 / 256 = omega arith in
    joins (w / 16777216 % 256) (w / 65536 % 256) (w / 256 % 256) (w % 256) (w / 65536) (w / 256) w
    (top (w / 65536) (w / 16777216) b (omega arith)) (low (w / 256) (w / 65536) a) (low w (w / 256) refl)

-- the low three bytes of x and the high byte of y
pub joined_word : (x y a b r : ℕ) → a ≡ x * 2 ^ 8 % 2 ^ 32 → b ≡ y / 2 ^ 24 → b * 2 ^ 24 < 2 ^ 32 → r ≡ (a + b) % 2 ^ 32
    → x / 65536 % 256 * 16777216 + x / 256 % 256 * 65536 + x % 256 * 256 + y / 16777216 % 256 ≡ r
joined_word x y a b r ea eb h er =
    let p : x / 65536 % 256 * 16777216 + x / 256 % 256 * 65536 + x % 256 * 256 ≡ a = omega arith in
    let q : y / 16777216 % 256 ≡ b = omega arith in
    let s : a + b < 4294967296 = omega arith in
    omega arith

abbrev message : List ℕ → ℕ → ℕ → List ℕ → List ℕ
message id q ij t = bytes id ++ (bytes (q ∷ []) ++ ((ij / 65536 % 256) ∷ (ij / 256 % 256) ∷ (ij % 256) ∷ bytes t))

pub step_is : (id t : List ℕ) (q ij : ℕ) (k0 k1 k2 k3 k4 w5 w6 w7 w8 w9 w10 w11 w12 w13 : ℕ) (r : List ℕ) → length id ≡ 4 → length t ≡ 8
    → get_or id 0 0 / 16777216 % 256 * 16777216 + get_or id 0 0 / 65536 % 256 * 65536 + get_or id 0 0 / 256 % 256 * 256 + get_or id 0 0 % 256 ≡ k0
    → get_or id 1 0 / 16777216 % 256 * 16777216 + get_or id 1 0 / 65536 % 256 * 65536 + get_or id 1 0 / 256 % 256 * 256 + get_or id 1 0 % 256 ≡ k1
    → get_or id 2 0 / 16777216 % 256 * 16777216 + get_or id 2 0 / 65536 % 256 * 65536 + get_or id 2 0 / 256 % 256 * 256 + get_or id 2 0 % 256 ≡ k2
    → get_or id 3 0 / 16777216 % 256 * 16777216 + get_or id 3 0 / 65536 % 256 * 65536 + get_or id 3 0 / 256 % 256 * 256 + get_or id 3 0 % 256 ≡ k3
    → q / 16777216 % 256 * 16777216 + q / 65536 % 256 * 65536 + q / 256 % 256 * 256 + q % 256 ≡ k4
    → (ij / 65536 % 256) * 16777216 + (ij / 256 % 256) * 65536 + (ij % 256) * 256 + (get_or t 0 0) / 16777216 % 256 ≡ w5
    → ((get_or t 0 0) / 65536 % 256) * 16777216 + ((get_or t 0 0) / 256 % 256) * 65536 + ((get_or t 0 0) % 256) * 256 + (get_or t 1 0) / 16777216 % 256 ≡ w6
    → ((get_or t 1 0) / 65536 % 256) * 16777216 + ((get_or t 1 0) / 256 % 256) * 65536 + ((get_or t 1 0) % 256) * 256 + (get_or t 2 0) / 16777216 % 256 ≡ w7
    → ((get_or t 2 0) / 65536 % 256) * 16777216 + ((get_or t 2 0) / 256 % 256) * 65536 + ((get_or t 2 0) % 256) * 256 + (get_or t 3 0) / 16777216 % 256 ≡ w8
    → ((get_or t 3 0) / 65536 % 256) * 16777216 + ((get_or t 3 0) / 256 % 256) * 65536 + ((get_or t 3 0) % 256) * 256 + (get_or t 4 0) / 16777216 % 256 ≡ w9
    → ((get_or t 4 0) / 65536 % 256) * 16777216 + ((get_or t 4 0) / 256 % 256) * 65536 + ((get_or t 4 0) % 256) * 256 + (get_or t 5 0) / 16777216 % 256 ≡ w10
    → ((get_or t 5 0) / 65536 % 256) * 16777216 + ((get_or t 5 0) / 256 % 256) * 65536 + ((get_or t 5 0) % 256) * 256 + (get_or t 6 0) / 16777216 % 256 ≡ w11
    → ((get_or t 6 0) / 65536 % 256) * 16777216 + ((get_or t 6 0) / 256 % 256) * 65536 + ((get_or t 6 0) % 256) * 256 + (get_or t 7 0) / 16777216 % 256 ≡ w12
    → ((get_or t 7 0) / 65536 % 256) * 16777216 + ((get_or t 7 0) / 256 % 256) * 65536 + ((get_or t 7 0) % 256) * 256 + 2147483648 / 16777216 % 256 ≡ w13
    → r ≡ compress IV (k0 ∷ k1 ∷ k2 ∷ k3 ∷ k4 ∷ w5 ∷ w6 ∷ w7 ∷ w8 ∷ w9 ∷ w10 ∷ w11 ∷ w12 ∷ w13 ∷ 0 ∷ 440 ∷ [])
    → bytes r ≡ sha256 (message id q ij t)
step_is id t q ij k0 k1 k2 k3 k4 w5 w6 w7 w8 w9 w10 w11 w12 w13 r hi ht h0 h1 h2 h3 hq ew5 ew6 ew7 ew8 ew9 ew10 ew11 ew12 ew13 e =
    let i4 : List ℕ = map (λ k. get_or id k 0) (range_with_len 0 4) in
    let t8 : List ℕ = map (λ k. get_or t k 0) (range_with_len 0 8) in
    let f : words (message i4 q ij t8 ++ (0x80 ∷ 0 ∷ 0 ∷ 0 ∷ 0 ∷ 0 ∷ 0 ∷ 1 ∷ 184 ∷ [])) ≡ k0 ∷ k1 ∷ k2 ∷ k3 ∷ k4 ∷ w5 ∷ w6 ∷ w7 ∷ w8 ∷ w9 ∷ w10 ∷ w11 ∷ w12 ∷ w13 ∷ 0 ∷ 440 ∷ [] =
    cons_same h0 (cons_same h1 (cons_same h2 (cons_same h3 (cons_same hq
    (cons_same ew5 (cons_same ew6 (cons_same ew7 (cons_same ew8 (cons_same ew9 (cons_same ew10 (cons_same ew11 (cons_same ew12 (cons_same ew13 refl))))))))))))) in
    ap bytes e ∙ sym (ap (λ x. bytes (compress IV x)) f) ∙ sym (one_block (message i4 q ij t8) refl)
    ∙ sym (ap (λ x. sha256 (message x q ij t8)) (listed 4 id hi)) ∙ sym (ap (λ x. sha256 (message id q ij x)) (listed 8 t ht))
