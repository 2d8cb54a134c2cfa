-- What a store means: a set of entries, no name twice, as the look-up from a name to its body.
use Rattle.std.specs.Prelude.{◌≡◌, ℕ, Bool, true, cond, ◌&&◌, List, [], length, Some, None, Option, nat_le}
use Rattle.std.specs.List.{list_all}
use Rattle.std.specs.Str.{bytes_eq}

abbrev pub Meaning : Type 0
Meaning = List ℕ → Option (List ℕ)

-- no entry
abbrev pub nothing : Meaning
nothing n = None

-- a visible character of ASCII
abbrev pub is_visible : ℕ → Bool
is_visible x = nat_le 0x21 x && nat_le x 0x7e

-- a name has 1 to 96 bytes, all visible
abbrev pub is_name : List ℕ → Bool
is_name n = (nat_le 1 (length n) && nat_le (length n) 96) && list_all is_visible n

-- a body has 0 to 32,768 bytes
abbrev pub is_body : List ℕ → Bool
is_body b = nat_le (length b) 32768

-- the meaning with one entry more
abbrev pub with : Meaning → List ℕ → List ℕ → Meaning
with m name body n = cond (bytes_eq name n) (Some body) (m n)

-- the body that was found, or no bytes
abbrev pub body_of : Option (List ℕ) → List ℕ
body_of (Some b) = b
body_of None = []

abbrev pub allowed : List ℕ → Option (List ℕ) → Bool
allowed n None = true
allowed n (Some b) = is_name n && is_body b

-- only names have bodies, and only such as are bodies
abbrev pub Lawful : Meaning → Type 0
Lawful m = (n : List ℕ) → allowed n (m n) ≡ true
