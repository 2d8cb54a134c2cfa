-- What the program answers.
use Rattle.std.specs.Prelude.{◌≡◌, ℕ, Bool, false, cond, ◌&&◌, ◌||◌, ◌==◌, ⊤, List, ◌++◌, length, is_some, Some, None, vec_items, codes, decimal, Option, Result, OnOk}
use Rattle.std.specs.Str.{bytes_eq}
use Rattle.octets.specs.Hex.{hex}
use Rattle.language.specs.Writing.{line_of, yes_or_no, refusal, coded}
use Rattle.std.specs.declared.alloc.AllocError.{AllocError}
use Rattle.language.specs.declared.call.KeyCall.{KeyCall}
use Rattle.language.specs.declared.mistake.Mistake.TheVariants.{NotAKey, UnknownKeytype}
use Rattle.language.specs.declared.mistake.Trouble.{Trouble}
use Rattle.language.specs.declared.mistake.Trouble.TheVariants.{Script, Memory}
use Rattle.language.specs.declared.call.StoreCall.{StoreCall}
use Rattle.language.specs.declared.call.StoreCall.TheVariants.{File, Get, Has, Fits, Entries}
use Rattle.store.specs.declared.refusal.GetRefusal.{GetRefusal}
use Rattle.store.specs.declared.refusal.FileRefusal.{FileRefusal}
use Rattle.store.specs.Answers.{get_number, file_number, get_refusal, file_refusal}
use Rattle.scheme.specs.declared.refusal.SignRefusal.{SignRefusal}
use Rattle.scheme.specs.Answers.{sign_number}
use Rattle.store.specs.Meanings.{Meaning, body_of, with}
use Rattle.sha256.specs.Sha256.{sha256}
use Rattle.hash_based.specs.Joined.{is_formed, is_held}

-- a text where a call is granted, else the refusal with its number
abbrev pub granted : {R : Type 0} → (R → ℕ) → List ℕ → Option R → List ℕ
granted number text None = text
granted number text (Some r) = refusal (number r)

-- file
abbrev pub filed : Option FileRefusal → List ℕ
filed r = granted file_number (line_of (codes "filed")) r

-- get, with the body that was found
abbrev pub got : List ℕ → Option GetRefusal → List ℕ
got body r = granted get_number (codes "got " ++ (decimal (length body) ++ (codes " " ++ coded body))) r

-- hash
abbrev pub hashed : List ℕ → List ℕ
hashed m = codes "sha256 " ++ line_of (hex (sha256 m))

-- check
abbrev pub verdict : Bool → Bool → List ℕ
verdict formed held = line_of (cond formed (cond held (codes "holds") (codes "fails")) (codes "ill-formed"))

abbrev pub checked : List ℕ → List ℕ → List ℕ → List ℕ → List ℕ
checked w key m sig = verdict (is_formed w key) (is_held w key m sig)

-- key
abbrev pub made : List ℕ → List ℕ → List ℕ
made w key = codes "public " ++ (w ++ (codes " " ++ coded key))

-- the types of key that there are
abbrev pub is_key_type : List ℕ → ℕ → Bool
is_key_type w n = (bytes_eq w (codes "lmots") && n == 4) || (bytes_eq w (codes "lms") && (n == 5 || n == 6))

-- a call makes no key, for this reason: its identifier or its seed has another length, or it names no type of key
abbrev pub MakesNoKey : KeyCall → Trouble → Type 0
MakesNoKey call (Script NotAKey) = ((length (vec_items call.identifier) ≡ 16) × (length (vec_items call.seed) ≡ 32)) → ⊥
MakesNoKey call (Script UnknownKeytype) = is_key_type (vec_items call.keytype) call.number ≡ false
MakesNoKey call (Script m) = ⊥
MakesNoKey call (Memory e) = ⊤

-- sign
abbrev pub signed : List ℕ → Option SignRefusal → List ℕ
signed sig r = granted sign_number (codes "signature " ++ coded sig) r

-- the buffer's size that a call of `get` asks for
abbrev pub space_of : Option ℕ → ℕ
space_of (Some n) = n
space_of None = 32768

-- why an entry is not filed in a store of this meaning and room, if it is not
abbrev pub not_filed : Meaning → (ℕ → ℕ → Bool) → List ℕ → List ℕ → Option FileRefusal
not_filed m room name body = file_refusal name body (is_some (m name)) (room (length name) (length body))

-- what a store's answer to a call is, by what it means and has room for. Of `entries` nothing is said
abbrev pub Replies : Meaning → (ℕ → ℕ → Bool) → StoreCall → List ℕ → Result (Unit {0}) AllocError → List ℕ → Type 0
Replies m room (File n b) old r new = OnOk r (new ≡ old ++ (filed (not_filed m room (vec_items n) (vec_items b))))
Replies m room (Get n space) old r new = OnOk r (new ≡ old ++ (got (body_of (m (vec_items n))) (get_refusal (space_of space) (vec_items n) (is_some (m (vec_items n))))))
Replies m room (Has n) old r new = OnOk r (new ≡ old ++ (yes_or_no (is_some (m (vec_items n)))))
Replies m room (Fits n b) old r new = OnOk r (new ≡ old ++ (yes_or_no (room n b)))
Replies m room Entries old r new = Unit {0}

-- what the store means afterwards
abbrev pub afterwards : Meaning → (ℕ → ℕ → Bool) → StoreCall → Meaning
afterwards m room (File n b) = cond (is_some (not_filed m room (vec_items n) (vec_items b))) m (with m (vec_items n) (vec_items b))
afterwards m room (Get n space) = m
afterwards m room (Has n) = m
afterwards m room (Fits n b) = m
afterwards m room Entries = m
