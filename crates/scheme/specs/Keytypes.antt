-- The words that tell signature schemes apart.
use Rattle.std.specs.Prelude.{ℕ, Bool, true, ◌&&◌, ◌||◌, List, [], ◌∷◌, length, ◌==◌, nat_le}

-- a lowercase letter, a digit or a hyphen
abbrev pub is_keytype_byte : ℕ → Bool
is_keytype_byte c = (nat_le 97 c && nat_le c 122) || ((nat_le 48 c && nat_le c 57) || c == 45)

abbrev pub are_keytype_bytes : List ℕ → Bool
are_keytype_bytes [] = true
are_keytype_bytes (c ∷ cs) = is_keytype_byte c && are_keytype_bytes cs

-- a keytype has 1 to 16 such bytes
abbrev pub is_keytype : List ℕ → Bool
is_keytype w = (nat_le 1 (length w) && nat_le (length w) 16) && are_keytype_bytes w
