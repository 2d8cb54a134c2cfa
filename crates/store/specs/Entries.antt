-- Entries in an order, as a store keeps them.
use Rattle.std.specs.Prelude.{ℕ, Bool, true, cond, not, ◌&&◌, List, [], ◌∷◌, is_some, Some, None, slice_index_or}
use Rattle.std.specs.Str.{bytes_eq}
use Rattle.octets.specs.Buffers.{are_bytes}
use Rattle.store.specs.Meanings.{Meaning, is_name, is_body}

-- a name and a body
abbrev pub Entry : Type 0
Entry = List ℕ × List ℕ

abbrev pub is_entry : Entry → Bool
is_entry e = is_name e.0 && (is_body e.1 && are_bytes e.1)

abbrev pub look_up : List Entry → Meaning
look_up [] n = None
look_up (e ∷ es) n = cond (bytes_eq e.0 n) (Some e.1) (look_up es n)

-- each entry is within the limits, and no name stands twice
abbrev pub sound : List Entry → Bool
sound [] = true
sound (e ∷ es) = is_entry e && (not (is_some (look_up es e.0)) && sound es)

-- the name of the entry at an index, no bytes past the last one
abbrev pub name_at : List Entry → ℕ → List ℕ
name_at es i = (slice_index_or es i ([], [])).0
