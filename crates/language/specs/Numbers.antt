-- Numbers in decimal.
use Rattle.std.specs.Prelude.{ℕ, ◌+◌, ◌-◌, ◌*◌, ◌^◌, Bool, true, cond, ◌&&◌, List, [], ◌∷◌, Some, None, Option, nat_le, nat_lt}

abbrev pub is_digit : ℕ → Bool
is_digit c = nat_le 48 c && nat_le c 57

abbrev pub are_digits : List ℕ → Bool
are_digits [] = true
are_digits (c ∷ w) = is_digit c && are_digits w

-- n with the digits of a word behind it
abbrev pub value_from : ℕ → List ℕ → ℕ
value_from n [] = n
value_from n (c ∷ w) = value_from (n * 10 + (c - 48)) w

-- the number that a word is behind n, if it is digits and fits
abbrev pub number_from : ℕ → List ℕ → Option ℕ
number_from n w = cond (are_digits w && nat_lt (value_from n w) (2 ^ 64)) (Some (value_from n w)) None

-- the number that a word is: decimal digits, below 2^64; a word of no bytes reads as 0
abbrev pub number_in : List ℕ → Option ℕ
number_in w = number_from 0 w
