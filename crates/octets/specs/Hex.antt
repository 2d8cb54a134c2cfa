-- Lowercase hexadecimal: two digits a byte, the high one first.
use Rattle.std.specs.Prelude.{ℕ, ◌+◌, ◌-◌, ◌*◌, ◌/◌, ◌%◌, Bool, true, false, cond, ◌&&◌, ◌||◌, List, [], ◌∷◌, nat_le, nat_lt}

-- the digit of a number below 16: 0 to 9, then a to f
abbrev pub hex_digit : ℕ → ℕ
hex_digit d = cond (nat_lt d 10) (48 + d) (87 + d)

abbrev pub hex : List ℕ → List ℕ
hex [] = []
hex (x ∷ xs) = hex_digit (x / 16) ∷ hex_digit (x % 16) ∷ hex xs

abbrev pub is_hex_digit : ℕ → Bool
is_hex_digit c = (nat_le 48 c && nat_le c 57) || (nat_le 97 c && nat_le c 102)

-- an even number of digits
abbrev pub is_hex : List ℕ → Bool
is_hex [] = true
is_hex (x ∷ []) = false
is_hex (x ∷ y ∷ s) = (is_hex_digit x && is_hex_digit y) && is_hex s

-- the number of a digit, 0 of anything else
abbrev pub hex_value : ℕ → ℕ
hex_value c = cond (nat_le 48 c && nat_le c 57) (c - 48) (cond (nat_le 97 c && nat_le c 102) (c - 87) 0)

-- the bytes of a text of digits; a single digit at its end is left out
abbrev pub unhex : List ℕ → List ℕ
unhex [] = []
unhex (x ∷ []) = []
unhex (x ∷ y ∷ s) = (16 * hex_value x + hex_value y) ∷ unhex s
