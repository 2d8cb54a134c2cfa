-- What is said of a mistake.
use Rattle.std.specs.Prelude.{ℕ, List, codes}
use Rattle.language.specs.declared.mistake.Mistake.{Mistake}
use Rattle.language.specs.declared.mistake.Mistake.TheVariants.{UnknownCall, MissingWord, ExtraWord, EmptyWord, NotANumber, NotHexadecimal, UnknownStore, NoStore, NoText, UnknownKey, UnknownKeytype, NotAKey}

abbrev pub message_of : Mistake → List ℕ
message_of UnknownCall = codes "there is no such call"
message_of MissingWord = codes "a word is missing"
message_of ExtraWord = codes "there is a word too many"
message_of EmptyWord = codes "words have one space between them"
message_of NotANumber = codes "a number is wanted, below 2^64 and in decimal"
message_of NotHexadecimal = codes "after x: an even number of lowercase hexadecimal digits is wanted"
message_of UnknownStore = codes "a store is a line or a table"
message_of NoStore = codes "no store is open"
message_of NoText = codes "only a line store has a text"
message_of UnknownKey = codes "there is no key of that ID"
message_of UnknownKeytype = codes "a key is lmots of type 4, or lms of type 5 or 6"
message_of NotAKey = codes "an identifier has 16 bytes, and a seed 32"
