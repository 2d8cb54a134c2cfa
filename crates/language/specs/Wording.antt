-- The words of a line that are still to come.
use Rattle.std.specs.Prelude.{◌≡◌, ℕ, cond, ◌==◌, List, [], ◌∷◌, Some, None, Ok, Err, Option, Result}
use denote.Ref.{Bor}
use Rattle.language.specs.declared.mistake.Mistake.{Mistake}
use Rattle.language.specs.declared.mistake.Mistake.TheVariants.{EmptyWord, MissingWord, NotANumber}
use Rattle.language.specs.Numbers.{number_in}

-- a byte more at the start of the first word
abbrev pub longer : ℕ → List (List ℕ) → List (List ℕ)
longer x [] = (x ∷ []) ∷ []
longer x (w ∷ ws) = (x ∷ w) ∷ ws

-- the words of a text: it is cut at each space, so that two spaces have a word of no bytes between them
abbrev pub words_in : List ℕ → List (List ℕ)
words_in [] = [] ∷ []
words_in (x ∷ t) = cond (x == 0x20) ([] ∷ words_in t) (longer x (words_in t))

-- the words of a text, and none where there is no text
abbrev pub words_of : Option (Bor (List ℕ)) → List (List ℕ)
words_of None = []
words_of (Some t) = words_in t.now

-- what is read of the first of some words: that it is missing, that it has no bytes, or what `read` says of it
abbrev pub ReadsWord : {A E : Type 0} → (Mistake → E) → List (List ℕ) → (List ℕ → Result A E → Type 0) → Result A E → Type 0
ReadsWord error [] read r = r ≡ Err (error MissingWord)
ReadsWord error ([] ∷ ws) read r = r ≡ Err (error EmptyWord)
ReadsWord error ((x ∷ w) ∷ ws) read r = read (x ∷ w) r

-- the word itself
abbrev pub IsWord : List ℕ → Result (Bor (List ℕ)) Mistake → Type 0
IsWord w (Ok v) = v.now ≡ w
IsWord w (Err m) = ⊥

-- the number that the word is
abbrev pub number_or : Option ℕ → Result ℕ Mistake
number_or (Some n) = Ok n
number_or None = Err NotANumber

abbrev pub IsNumber : List ℕ → Result ℕ Mistake → Type 0
IsNumber w r = r ≡ number_or (number_in w)

abbrev pub IsSomeNumber : List ℕ → Result (Option ℕ) Mistake → Type 0
IsSomeNumber w (Ok None) = ⊥
IsSomeNumber w (Ok (Some n)) = IsNumber w (Ok n)
IsSomeNumber w (Err m) = IsNumber w (Err m)
