-- What lines in a buffer mean, and what fits behind them.
use Rattle.std.specs.Prelude.{◌≡◌, ℕ, ◌+◌, ◌*◌, Bool, List, [], ◌++◌, length, take, nat_le}
use Rattle.octets.specs.Buffers.{over}
use Rattle.store.specs.Meanings.{Meaning}
use Rattle.store.specs.Entries.{Entry, look_up}
use Rattle.line_store.specs.Texts.{line_then, entries_of}
use Rattle.line_store.specs.declared.LineStore.{LineStore}

-- the text: the used part of the buffer
abbrev pub text_in : LineStore → List ℕ
text_in s = take s.used s.buffer.now

abbrev pub meaning_of : LineStore → Meaning
meaning_of s = look_up (entries_of (text_in s))

-- the bytes of a line: two digits for each byte of name and body, the space and the line feed
abbrev pub line_size : ℕ → ℕ → ℕ
line_size n b = 2 * (n + b) + 2

abbrev pub room_in : LineStore → ℕ → ℕ → Bool
room_in s n b = nat_le (s.used + line_size n b) (length s.buffer.now)

-- a line is written behind the text, and the bytes past it stay
pub record Appended (before after : LineStore) (e : Entry) : Type 0 where
  pub used_is : after.used ≡ before.used + line_size (length e.0) (length e.1)
  pub buffer_is : after.buffer.now ≡ over (text_in before ++ line_then e []) before.buffer.now
