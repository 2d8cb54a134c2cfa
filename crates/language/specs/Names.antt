-- The names of the calls, and of the kinds of stores.
use Rattle.std.specs.Prelude.{◌≡◌, ◌≢◌, ℕ, List, Some, None, Ok, Err, codes, Option, Result}
use Rattle.language.specs.declared.mistake.Mistake.{Mistake}
use Rattle.language.specs.declared.mistake.Mistake.TheVariants.{UnknownCall, UnknownStore, NoStore, NoText}
use Rattle.language.specs.declared.verb.Verb.{Verb}
use Rattle.language.specs.declared.verb.Verb.TheVariants.{Open, File, Get, Has, Fits, Entries, Text, Hash, Key, Sign, Check}
use Rattle.language.specs.declared.verb.Kind.{Kind}
use Rattle.language.specs.declared.verb.Kind.TheVariants.{Line, Table}

abbrev pub name_of : Verb → List ℕ
name_of Open = codes "open"
name_of File = codes "file"
name_of Get = codes "get"
name_of Has = codes "has"
name_of Fits = codes "fits"
name_of Entries = codes "entries"
name_of Text = codes "text"
name_of Hash = codes "hash"
name_of Key = codes "key"
name_of Sign = codes "sign"
name_of Check = codes "check"

abbrev pub kind_name : Kind → List ℕ
kind_name Line = codes "line"
kind_name Table = codes "table"

-- the call of this name, or the mistake that no call has it
abbrev pub VerbNamed : List ℕ → Result Verb Mistake → Type 0
VerbNamed w (Ok v) = w ≡ name_of v
VerbNamed w (Err m) = (m ≡ UnknownCall) × ((v : Verb) → w ≢ name_of v)

-- the kind of store of this name, or the mistake that none has it
abbrev pub KindNamed : List ℕ → Result Kind Mistake → Type 0
KindNamed w (Ok k) = w ≡ kind_name k
KindNamed w (Err m) = (m ≡ UnknownStore) × ((k : Kind) → w ≢ kind_name k)

-- why a call that goes to a store, or for its text, cannot be made, whatever its words are
abbrev pub store_call : Option Kind → Option Mistake
store_call None = Some NoStore
store_call (Some k) = None

abbrev pub text_call : Option Kind → Option Mistake
text_call None = Some NoStore
text_call (Some Line) = None
text_call (Some Table) = Some NoText

abbrev pub barred : Verb → Option Kind → Option Mistake
barred Open k = None
barred Hash k = None
barred Key k = None
barred Sign k = None
barred Check k = None
barred Text k = text_call k
barred File k = store_call k
barred Get k = store_call k
barred Has k = store_call k
barred Fits k = store_call k
barred Entries k = store_call k
