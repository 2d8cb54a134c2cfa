-- Why a store refuses a call, and the number of each reason.
use Rattle.std.specs.Prelude.{ℕ, Bool, cond, ◌&&◌, List, Some, None, Option, nat_le}
use Rattle.store.specs.declared.refusal.GetRefusal.{GetRefusal}
use Rattle.store.specs.declared.refusal.GetRefusal.TheVariants.{ShortBuffer, NotAName, Absent}
use Rattle.store.specs.declared.refusal.FileRefusal.{FileRefusal}
use Rattle.store.specs.declared.refusal.FileRefusal.TheVariants.{NotAnEntry, Taken, Full}
use Rattle.store.specs.Meanings.{is_name, is_body}

abbrev pub get_number : GetRefusal → ℕ
get_number ShortBuffer = 1
get_number NotAName = 9
get_number Absent = 23

abbrev pub file_number : FileRefusal → ℕ
file_number NotAnEntry = 9
file_number Taken = 21
file_number Full = 22

-- why `get` into a buffer of `space` bytes refuses a name that is or is not there, if it does
abbrev pub get_refusal : ℕ → List ℕ → Bool → Option GetRefusal
get_refusal space name there = cond (nat_le 32768 space) (cond (is_name name) (cond there None (Some Absent)) (Some NotAName)) (Some ShortBuffer)

-- why `file` refuses an entry, where the name is or is not there and the entry does or does not fit, if it does
abbrev pub file_refusal : List ℕ → List ℕ → Bool → Bool → Option FileRefusal
file_refusal name body there fits = cond (is_name name && is_body body) (cond there (Some Taken) (cond fits None (Some Full))) (Some NotAnEntry)
