-- What opening a text answers.
use Rattle.std.specs.Prelude.{◌≡◌, ℕ, ◌<◌, ◌≤◌, true, List, length, take, Ok, Err, Result}
use Rattle.store.specs.Entries.{Entry, look_up, sound}
use Rattle.line_store.specs.Texts.{Told, text_of}
use Rattle.line_store.specs.Held.{meaning_of}
use Rattle.line_store.specs.declared.LineStore.{LineStore}
use Rattle.line_store.specs.declared.opening.OpenRefusal.{OpenRefusal}
use Rattle.line_store.specs.declared.opening.OpenRefusal.TheVariants.{PastEnd, Malformed}

abbrev pub open_number : OpenRefusal → ℕ
open_number PastEnd = 1
open_number Malformed = 12

-- 1: the used length is past the buffer's end; 12: the used part is the text of no sound entries
abbrev pub Refuses : List ℕ → ℕ → OpenRefusal → Type 0
Refuses buffer used PastEnd = length buffer < used
Refuses buffer used Malformed = (used ≤ length buffer) × (Told (take used buffer) → ⊥)

-- the used part is the text of sound entries, and what is opened means just these; the buffer stays
pub record Opened (buffer : List ℕ) (used : ℕ) (after : LineStore) : Type 0 where
  pub used_is : after.used ≡ used
  pub kept : after.buffer.now ≡ buffer
  pub within : used ≤ length buffer
  pub told : Told (take used buffer)
  pub means : (es : List Entry) → text_of es ≡ take used buffer → sound es ≡ true → meaning_of after ≡ look_up es

abbrev pub Opens : ℕ → LineStore → LineStore → Result (Unit {0}) OpenRefusal → Type 0
Opens used before after (Ok u) = Opened before.buffer.now used after
Opens used before after (Err e) = Refuses before.buffer.now used e × (after ≡ before)
