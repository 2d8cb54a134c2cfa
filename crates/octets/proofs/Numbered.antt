-- A number and the four bytes that write it.
use Rattle.std.proofs.Common.{◌≡◌, ℕ, ◌+◌, ◌*◌, ◌/◌, ◌%◌, ◌^◌, ◌<◌, List, [], ◌∷◌, get_or, take, drop, refl, ap, ◌∙◌, arith}
use Rattle.std.proofs.lemmas.List.{get_or-drop}
use Rattle.octets.specs.Numbers.{u32, number}

low : (x y : ℕ) → y ≡ x / 256 → y * 256 + x % 256 ≡ x
low x y e = omega arith

top : (x y : ℕ) → y ≡ x / 256 → y < 256 → y % 256 * 256 + x % 256 ≡ x
top x y e h = omega arith

joins : (z p q r y x w : ℕ) → z * 256 + p ≡ y → y * 256 + q ≡ x → x * 256 + r ≡ w → z * 16777216 + p * 65536 + q * 256 + r ≡ w
joins z p q r y x w e f g = omega arith

-- a number below 2 ^ 32 is the number that its bytes write
pub number-u32 : (w : ℕ) → w < 2 ^ 32 → number (u32 w) ≡ w
number-u32 w h =
    let a : w / 65536 ≡ w / 256 / 256 = omega arith in
    let b : w / 16777216 ≡ w / 65536 / 256 = omega arith in
    joins (w / 16777216 % 256) (w / 65536 % 256) (w / 256 % 256) (w % 256) (w / 65536) (w / 256) w
    (top (w / 65536) (w / 16777216) b (omega arith)) (low (w / 256) (w / 65536) a) (low w (w / 256) refl)

-- the bytes of the number that four bytes write
pub u32_four : (a b c d w : ℕ) → a < 256 → b < 256 → c < 256 → d < 256 → w ≡ a * 16777216 + b * 65536 + c * 256 + d → u32 w ≡ a ∷ b ∷ c ∷ d ∷ []
u32_four a b c d w ha hb hc hd e =
    let p : w / 16777216 % 256 ≡ a = omega arith in
    let q : w / 65536 % 256 ≡ b = omega arith in
    let r : w / 256 % 256 ≡ c = omega arith in
    let s : w % 256 ≡ d = omega arith in
    cc

-- the number lies in the first four bytes
pub number-take : (xs : List ℕ) → number (take 4 xs) ≡ number xs
number-take [] = refl
number-take (a ∷ []) = refl
number-take (a ∷ b ∷ []) = refl
number-take (a ∷ b ∷ c ∷ []) = refl
number-take (a ∷ b ∷ c ∷ d ∷ xs) = refl

-- the number at a place
pub number-drop : (xs : List ℕ) (k : ℕ) → number (drop k xs) ≡ get_or xs k 0 * 16777216 + get_or xs (k + 1) 0 * 65536 + get_or xs (k + 2) 0 * 256 + get_or xs (k + 3) 0
number-drop xs k =
    let a : get_or (drop k xs) 0 0 ≡ get_or xs k 0 = get_or-drop k xs 0 0 ∙ ap (λ i. get_or xs i 0) (omega arith) in
    let b : get_or (drop k xs) 1 0 ≡ get_or xs (k + 1) 0 = get_or-drop k xs 1 0 in
    let c : get_or (drop k xs) 2 0 ≡ get_or xs (k + 2) 0 = get_or-drop k xs 2 0 in
    let d : get_or (drop k xs) 3 0 ≡ get_or xs (k + 3) 0 = get_or-drop k xs 3 0 in
    cc
