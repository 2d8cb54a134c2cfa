-- The text of entries: a line for each, name, space, body and line feed, in lowercase hexadecimal.
use Rattle.std.specs.Prelude.{◌≡◌, ℕ, ◌+◌, Bool, true, cond, ◌&&◌, List, [], ◌∷◌, ◌++◌, map, take, drop, ◌==◌}
use Rattle.std.specs.Str.{bytes_eq}
use Rattle.octets.specs.Hex.{hex, unhex}
use Rattle.octets.specs.Search.{up_to}
use Rattle.store.specs.Meanings.{Meaning}
use Rattle.store.specs.Entries.{Entry, look_up, sound}

-- a line, and what comes after it
abbrev pub line_then : Entry → List ℕ → List ℕ
line_then e rest = hex e.0 ++ 0x20 ∷ (hex e.1 ++ 0x0a ∷ rest)

abbrev pub text_of : List Entry → List ℕ
text_of [] = []
text_of (e ∷ es) = line_then e (text_of es)

-- a text is told where it is that of sound entries
abbrev pub Told : List ℕ → Type 0
Told t = (es : List Entry) × ((text_of es ≡ t) × (sound es ≡ true))

-- a text tells a meaning where it is that of sound entries that look up so
abbrev pub Tells : List ℕ → Meaning → Type 0
Tells t m = (es : List Entry) × ((text_of es ≡ t) × ((sound es ≡ true) × (look_up es ≡ m)))

abbrev pub onto : ℕ → List (List ℕ) → List (List ℕ)
onto x [] = []
onto x (l ∷ ls) = (x ∷ l) ∷ ls

-- the lines of a text, each without its line feed; what follows the last line feed is left out
abbrev pub lines_of : List ℕ → List (List ℕ)
lines_of [] = []
lines_of (x ∷ xs) = cond (x == 0x0a) ([] ∷ lines_of xs) (onto x (lines_of xs))

-- the entry that a line would be of, cut at its first space
abbrev pub entry_of : List ℕ → Entry
entry_of l = (unhex (take (up_to 0x20 l) l), unhex (drop (up_to 0x20 l + 1) l))

-- the entries that a text would be of, and whether it is
abbrev pub entries_of : List ℕ → List Entry
entries_of t = map entry_of (lines_of t)

abbrev pub is_text : List ℕ → Bool
is_text t = bytes_eq (text_of (entries_of t)) t && sound (entries_of t)
