-- What each call is written as: its name, and a word for each of its arguments.
use Rattle.std.specs.Prelude.{◌<◌, length, ⊤, Err, ◌≡◌, ℕ, Bool, true, List, [], ◌∷◌, ◌==◌, drop, vec_items, Vec, Some, None, Ok, Option}
use Rattle.std.specs.declared.alloc.Global.{Global}
use Rattle.language.specs.declared.mistake.Trouble.{Trouble}
use Rattle.language.specs.declared.mistake.Trouble.TheVariants.{Script, Memory}
use Rattle.language.specs.declared.mistake.Mistake.{Mistake}
use Rattle.language.specs.declared.mistake.Mistake.TheVariants.{ExtraWord}
use Rattle.language.specs.declared.verb.Verb.{Verb}
use Rattle.language.specs.declared.verb.Verb.TheVariants as verb
use Rattle.language.specs.declared.verb.Kind.{Kind}
use Rattle.language.specs.declared.verb.Kind.TheVariants as kind
use Rattle.language.specs.declared.call.Call.{Call}
use Rattle.language.specs.declared.call.Call.TheVariants.{Nothing, Open, Hash, Key, Sign, Check, Text, Store}
use Rattle.language.specs.declared.call.OpenCall.{OpenCall}
use Rattle.language.specs.declared.call.OpenCall.TheVariants.{Line, Table}
use Rattle.language.specs.declared.call.StoreCall.{StoreCall}
use Rattle.language.specs.declared.call.StoreCall.TheVariants.{File, Get, Has, Fits, Entries}
use Rattle.language.specs.Names.{KindNamed, VerbNamed, barred}
use Rattle.language.specs.Spelling.{IsSpelling}
use Rattle.language.specs.Wording.{words_in, ReadsWord, IsNumber}

-- what a word has to stand for: some bytes, a number, or a kind of store; the last one may be no word where the bytes are none, and has to be none where a number is not given
pub data Argument : Type 0 where
  bytes : Vec ℕ Global → Argument
  number : ℕ → Argument
  kind_of_store : Kind → Argument
  bytes_if_any : Vec ℕ Global → Argument
  nothing_more : Argument

-- the first of the words stands for the argument
abbrev pub Stands : Argument → List (List ℕ) → Type 0
Stands (bytes b) ws = ReadsWord Script ws IsSpelling (Ok b)
Stands (number n) ws = ReadsWord (λ m. m) ws IsNumber (Ok n)
Stands (kind_of_store k) ws = ReadsWord (λ m. m) ws KindNamed (Ok k)
Stands (bytes_if_any b) [] = vec_items b ≡ []
Stands (bytes_if_any b) (w ∷ ws) = ReadsWord Script (w ∷ ws) IsSpelling (Ok b)
Stands nothing_more ws = ws ≡ []

-- the words stand for the arguments, one by one, and then come the rest
abbrev pub StandsFor : List Argument → List (List ℕ) → List (List ℕ) → Type 0
StandsFor [] ws rest = ws ≡ rest
StandsFor (a ∷ more) ws rest = Stands a ws × StandsFor more (drop 1 ws) rest

abbrev pub open_arguments : OpenCall → List Argument
open_arguments (Line size text) = kind_of_store kind.Line ∷ number size ∷ bytes_if_any text ∷ []
open_arguments (Table rows count) = kind_of_store kind.Table ∷ number rows ∷ number count ∷ []

abbrev pub number_if_any : Option ℕ → List Argument
number_if_any (Some n) = number n ∷ []
number_if_any None = nothing_more ∷ []

abbrev pub store_verb : StoreCall → Verb
store_verb (File name body) = verb.File
store_verb (Get name space) = verb.Get
store_verb (Has name) = verb.Has
store_verb (Fits name body) = verb.Fits
store_verb Entries = verb.Entries

abbrev pub store_arguments : StoreCall → List Argument
store_arguments (File name body) = bytes name ∷ bytes body ∷ []
store_arguments (Get name space) = bytes name ∷ number_if_any space
store_arguments (Has name) = bytes name ∷ []
store_arguments (Fits name body) = number name ∷ number body ∷ []
store_arguments Entries = []

-- the name of a call; `Nothing` has none
abbrev pub HasVerb : Call → Verb → Type 0
HasVerb Nothing v = ⊥
HasVerb (Open c) v = v ≡ verb.Open
HasVerb (Hash m) v = v ≡ verb.Hash
HasVerb (Key c) v = v ≡ verb.Key
HasVerb (Sign id leaf m) v = v ≡ verb.Sign
HasVerb (Check c) v = v ≡ verb.Check
HasVerb Text v = v ≡ verb.Text
HasVerb (Store c) v = v ≡ store_verb c

abbrev pub arguments : Call → List Argument
arguments Nothing = []
arguments (Open c) = open_arguments c
arguments (Hash m) = bytes m ∷ []
arguments (Key c) = bytes c.id ∷ bytes c.keytype ∷ number c.number ∷ bytes c.identifier ∷ bytes c.seed ∷ []
arguments (Sign id leaf m) = bytes id ∷ number leaf ∷ bytes m ∷ []
arguments (Check c) = bytes c.keytype ∷ bytes c.public ∷ bytes c.message ∷ bytes c.signature ∷ []
arguments Text = []
arguments (Store c) = store_arguments c

-- what a word has to be: bytes, or a number, or one of these unless it is missing
pub data Want : Type 0 where
  some_bytes : Want
  some_number : Want
  bytes_or_none : Want
  number_or_none : Want

-- the first of the words is what is wanted
abbrev pub Serves : Want → List (List ℕ) → Type 0
Serves some_bytes ws = (b : Vec ℕ Global) × ReadsWord Script ws IsSpelling (Ok b)
Serves some_number ws = (n : ℕ) × ReadsWord (λ m. m) ws IsNumber (Ok n)
Serves bytes_or_none [] = ⊤
Serves bytes_or_none (w ∷ ws) = (b : Vec ℕ Global) × ReadsWord Script (w ∷ ws) IsSpelling (Ok b)
Serves number_or_none [] = ⊤
Serves number_or_none (w ∷ ws) = (n : ℕ) × ReadsWord (λ m. m) (w ∷ ws) IsNumber (Ok n)

-- the first of the words is not what is wanted, for this reason
abbrev pub Fails : Want → List (List ℕ) → Trouble → Type 0
Fails some_bytes ws t = ReadsWord {A = Vec ℕ Global} Script ws IsSpelling (Err t)
Fails some_number ws (Script m) = ReadsWord (λ e. e) ws IsNumber (Err m)
Fails some_number ws (Memory e) = ⊥
Fails bytes_or_none [] t = ⊥
Fails bytes_or_none (w ∷ ws) t = ReadsWord {A = Vec ℕ Global} Script (w ∷ ws) IsSpelling (Err t)
Fails number_or_none [] t = ⊥
Fails number_or_none (w ∷ ws) (Script m) = ReadsWord (λ e. e) (w ∷ ws) IsNumber (Err m)
Fails number_or_none (w ∷ ws) (Memory e) = ⊥

-- the first word that is not what is wanted gives the reason
pub data StopsIn : List Want → List (List ℕ) → Trouble → Type 0 where
  here : {a : Want} {more : List Want} {ws : List (List ℕ)} {t : Trouble} → Fails a ws t → StopsIn (a ∷ more) ws t
  behind : {a : Want} {more : List Want} {ws : List (List ℕ)} {t : Trouble} → Serves a ws → StopsIn more (drop 1 ws) t → StopsIn (a ∷ more) ws t

-- what a call wants behind its name; what `open` wants depends on the kind of store
abbrev pub wants : Verb → List Want
wants verb.Open = []
wants verb.Hash = some_bytes ∷ []
wants verb.Key = some_bytes ∷ some_bytes ∷ some_number ∷ some_bytes ∷ some_bytes ∷ []
wants verb.Sign = some_bytes ∷ some_number ∷ some_bytes ∷ []
wants verb.Check = some_bytes ∷ some_bytes ∷ some_bytes ∷ some_bytes ∷ []
wants verb.Text = []
wants verb.File = some_bytes ∷ some_bytes ∷ []
wants verb.Get = some_bytes ∷ number_or_none ∷ []
wants verb.Has = some_bytes ∷ []
wants verb.Fits = some_number ∷ some_number ∷ []
wants verb.Entries = []

-- what `open` wants behind the kind of store
abbrev pub open_wants : Kind → List Want
open_wants kind.Line = some_number ∷ bytes_or_none ∷ []
open_wants kind.Table = some_number ∷ some_number ∷ []

-- `open` is not read, for this reason
pub data OpenFails (ws : List (List ℕ)) : Trouble → Type 0 where
  no_kind : {m : Mistake} → ReadsWord (λ e. e) ws KindNamed (Err m) → OpenFails ws (Script m)
  of_kind : {t : Trouble} (k : Kind) → ReadsWord (λ e. e) ws KindNamed (Ok k) → StopsIn (open_wants k) (drop 1 ws) t → OpenFails ws t

-- the call of this name is not read, for this reason
abbrev pub CallFails : Verb → List (List ℕ) → Trouble → Type 0
CallFails verb.Open ws t = OpenFails ws t
CallFails v ws t = StopsIn (wants v) ws t

-- an empty line, or a comment
abbrev pub is_note : List ℕ → Bool
is_note [] = true
is_note (x ∷ t) = x == 0x23

-- a line makes the call while a store of this kind, or none, is open: it is the name of a call that is not barred, and words that stand for the call's arguments, and no word more
abbrev pub Makes : Option Kind → List ℕ → Call → Type 0
Makes k line Nothing = is_note line ≡ true
Makes k line call = (v : Verb) × (barred v k ≡ None) × HasVerb call v × ReadsWord (λ m. m) (words_in line) VerbNamed (Ok v) × StandsFor (arguments call) (drop 1 (words_in line)) []

-- a line makes no call while a store of this kind, or none, is open, for the reason that is met first, from the left: no call has that name, or it is barred, or an argument is not what is wanted, or a word is left
pub data Refuses (k : Option Kind) (line : List ℕ) : Trouble → Type 0 where
  no_call : {m : Mistake} → ReadsWord (λ e. e) (words_in line) VerbNamed (Err m) → Refuses k line (Script m)
  is_barred : {m : Mistake} (v : Verb) → ReadsWord (λ e. e) (words_in line) VerbNamed (Ok v) → barred v k ≡ Some m → Refuses k line (Script m)
  fails : {t : Trouble} (v : Verb) → ReadsWord (λ e. e) (words_in line) VerbNamed (Ok v) → barred v k ≡ None → CallFails v (drop 1 (words_in line)) t → Refuses k line t
  goes_on : (v : Verb) (call : Call) (rest : List (List ℕ)) → ReadsWord (λ e. e) (words_in line) VerbNamed (Ok v) → barred v k ≡ None → HasVerb call v → StandsFor (arguments call) (drop 1 (words_in line)) rest → 0 < length rest → Refuses k line (Script ExtraWord)
