-- Rows over a block, one by one.
use Rattle.std.proofs.Common.{◌≡◌, ℕ, zero, suc, ◌+◌, ◌<◌, ◌≤◌, List, [], ◌∷◌, ◌++◌, length, get_or, take, drop, sym, refl, ap, ◌∙◌, arith}
use Rattle.std.proofs.lemmas.List.{append_assoc, length-drop, length-take-le, get_or-take, take-append-le, drop-append-le, take-append-drop, take_more, take_at, drop_at, drop-drop}
use Rattle.octets.specs.Buffers.{over}
use Rattle.store.specs.Entries.{look_up, name_at}
use Rattle.table_store.specs.Blocks.{entries_in, size}
use Rattle.table_store.specs.declared.table.Row.{Row}

-- rows tell of the front of the block that they take up
entries_front : (rs : List Row) (front rest : List ℕ) → size rs ≤ length front → entries_in rs (front ++ rest) ≡ entries_in rs front
entries_front [] front rest h = refl
entries_front (r ∷ rs) front rest h =
    let n = take-append-le r.name front rest (omega arith) in
    let d = drop-append-le r.name front rest (omega arith) in
    let ln = length-drop r.name front in
    let b : take r.body (drop r.name (front ++ rest)) ≡ take r.body (drop r.name front) = ap (take r.body) d ∙ take-append-le r.body (drop r.name front) rest (omega arith) in
    let t : entries_in rs (drop (r.name + r.body) (front ++ rest)) ≡ entries_in rs (drop (r.name + r.body) front) =
    ap (entries_in rs) (drop-append-le (r.name + r.body) front rest (omega arith)) ∙ entries_front rs (drop (r.name + r.body) front) rest (omega (arith, length-drop (r.name + r.body) front)) in
    ap (λ z. (z, take r.body (drop r.name (front ++ rest))) ∷ entries_in rs (drop (r.name + r.body) (front ++ rest))) n
    ∙ ap (λ z. (take r.name front, z) ∷ entries_in rs (drop (r.name + r.body) (front ++ rest))) b
    ∙ ap (λ z. (take r.name front, take r.body (drop r.name front)) ∷ z) t

entries_append : (rs qs : List Row) (block : List ℕ) → entries_in (rs ++ qs) block ≡ entries_in rs block ++ entries_in qs (drop (size rs) block)
entries_append [] qs block = refl
entries_append (r ∷ rs) qs block =
    ap (λ z. (take r.name block, take r.body (drop r.name block)) ∷ z)
    (entries_append rs qs (drop (r.name + r.body) block) ∙ ap (λ z. entries_in rs (drop (r.name + r.body) block) ++ entries_in qs z) (drop-drop (size rs) (r.name + r.body) block))

pub size-append : (rs qs : List Row) → size (rs ++ qs) ≡ size rs + size qs
size-append [] qs = omega arith
size-append (r ∷ rs) qs = omega (arith, size-append rs qs)

-- one entry more, behind those that are there
pub entries_push : (rs : List Row) (r : Row) (block name body : List ℕ) (at : ℕ) → at ≡ size rs → at ≤ length block → r.name ≡ length name → r.body ≡ length body
    → entries_in (rs ++ r ∷ []) (over ((take at block ++ name) ++ body) block) ≡ entries_in rs block ++ (name, body) ∷ []
entries_push rs r block name body at e h en eb =
    let front = take at block in
    let done = (front ++ name) ++ body in
    let rest = drop (length done) block in
    let lf : length front ≡ at = length-take-le at block h in
    let new : over done block ≡ front ++ (name ++ (body ++ rest)) = append_assoc (front ++ name) body rest ∙ append_assoc front name (body ++ rest) in
    let old : entries_in rs block ≡ entries_in rs front = ap (entries_in rs) (sym (take-append-drop at block)) ∙ entries_front rs front (drop at block) (omega arith) in
    let dr : drop (size rs) (front ++ (name ++ (body ++ rest))) ≡ name ++ (body ++ rest) = drop_at front (name ++ (body ++ rest)) (size rs) (lf ∙ e) in
    let n : take r.name (name ++ (body ++ rest)) ≡ name = take_at name (body ++ rest) r.name (sym en) in
    let b : take r.body (drop r.name (name ++ (body ++ rest))) ≡ body = ap (take r.body) (drop_at name (body ++ rest) r.name (sym en)) ∙ take_at body rest r.body (sym eb) in
    ap (entries_in (rs ++ r ∷ [])) new
    ∙ entries_append rs (r ∷ []) (front ++ (name ++ (body ++ rest)))
    ∙ ap (λ z. z ++ entries_in (r ∷ []) (drop (size rs) (front ++ (name ++ (body ++ rest))))) (entries_front rs front (name ++ (body ++ rest)) (omega arith) ∙ sym old)
    ∙ ap (λ z. entries_in rs block ++ entries_in (r ∷ []) z) dr
    ∙ ap (λ z. entries_in rs block ++ (z, take r.body (drop r.name (name ++ (body ++ rest)))) ∷ []) n
    ∙ ap (λ z. entries_in rs block ++ (name, z) ∷ []) b

-- a row, where one is read past the end
abbrev pub blank : Row
blank = record { name = 0; body = 0 }

-- what is left of the rows from `i` on, over what is left of the block, looks up as the whole
pub record Left (rows : List Row) (block name rest : List ℕ) (i : ℕ) : Type 0 where
  pub within : size (drop i rows) ≤ length rest
  pub looks : look_up (entries_in (drop i rows) rest) name ≡ look_up (entries_in rows block) name

-- what is written past the rows in use is told by none of them
pub entries_kept : (rs : List Row) (block part : List ℕ) (at : ℕ) → size rs ≤ at → at ≤ length block → entries_in rs (over (take at block ++ part) block) ≡ entries_in rs block
entries_kept rs block part at e h =
    let front = take at block in
    let done = front ++ part in
    let lf : length front ≡ at = length-take-le at block h in
    ap (entries_in rs) (append_assoc front part (drop (length done) block)) ∙ entries_front rs front (part ++ drop (length done) block) (omega arith)
    ∙ sym (ap (entries_in rs) (sym (take-append-drop at block)) ∙ entries_front rs front (drop at block) (omega arith))

pub size-take : (n : ℕ) (rows : List Row) → size (take n rows) ≤ size rows
size-take n rows = omega (arith, ap size (take-append-drop n rows), size-append (take n rows) (drop n rows))

pub size_more : (rows : List Row) (i : ℕ) → i < length rows → size (take (i + 1) rows) ≡ size (take i rows) + ((get_or rows i blank).name + (get_or rows i blank).body)
size_more rows i h = ap size (take_more rows i blank h) ∙ size-append (take i rows) (get_or rows i blank ∷ []) ∙ (omega arith)

-- the name of the entry at an index lies behind the entries before it
pub name_in : (rows : List Row) (block : List ℕ) (i : ℕ) → i < length rows → take (get_or rows i blank).name (drop (size (take i rows)) block) ≡ name_at (entries_in rows block) i
name_in [] block i h = absurd (omega arith)
name_in (r ∷ rs) block zero h = refl
name_in (r ∷ rs) block (suc i) h =
    ap (take (get_or rs i blank).name) (sym (drop-drop (size (take i rs)) (r.name + r.body) block)) ∙ name_in rs (drop (r.name + r.body) block) i (omega arith)

pub length-entries : (rows : List Row) (block : List ℕ) → length (entries_in rows block) ≡ length rows
length-entries [] block = refl
length-entries (r ∷ rs) block = ap suc (length-entries rs (drop (r.name + r.body) block))

-- the entry at `k`, whose row is `r`, over what is left of the block behind those before it
module _ (rows : List Row) (block rest : List ℕ) (k : ℕ) (r : Row) (fits : size rows ≤ length block) (inv : rest ≡ drop (size (take k rows)) block) (h : k < length rows) (er : r ≡ get_or rows k blank) where
  next_size : size (take (k + 1) rows) ≡ size (take k rows) + (r.name + r.body)
  next_size = size_more rows k h ∙ ap (λ z. size (take k rows) + (z.name + z.body)) (sym er)

  pub entry_within : r.name + r.body ≤ length rest
  entry_within = omega (arith, ap length inv, length-drop (size (take k rows)) block, next_size, size-take (k + 1) rows, fits)

  pub entry_fits : r.name + r.body ≤ length block
  entry_fits = omega (arith, next_size, size-take (k + 1) rows, fits)

  pub entry_past : drop (r.name + r.body) rest ≡ drop (size (take (k + 1) rows)) block
  entry_past = ap (drop (r.name + r.body)) inv ∙ drop-drop (r.name + r.body) (size (take k rows)) block ∙ ap (λ z. drop z block) (omega (arith, next_size))

  pub entry_name : take r.name rest ≡ name_at (entries_in rows block) k
  entry_name = ap (take r.name) inv ∙ ap (λ z. take z.name (drop (size (take k rows)) block)) er ∙ name_in rows block k h

-- the same of an entry before the one at `index`
module _ (rows : List Row) (block rest : List ℕ) (index k : ℕ) (fits : size rows ≤ length block) (inv : rest ≡ drop (size (take k rows)) block) (there : index < length rows) (h : k < length (take index rows)) where
  earlier : k < index
  earlier = omega (arith, length-take-le index rows (omega arith))

  same_row : get_or (take index rows) k blank ≡ get_or rows k blank
  same_row = get_or-take index rows k blank earlier

  short : k < length rows
  short = omega (arith, earlier)

  pub before_within : (get_or (take index rows) k blank).name + (get_or (take index rows) k blank).body ≤ length rest
  before_within = entry_within rows block rest k (get_or (take index rows) k blank) fits inv short same_row

  pub before_fits : (get_or (take index rows) k blank).name + (get_or (take index rows) k blank).body ≤ length block
  before_fits = entry_fits rows block rest k (get_or (take index rows) k blank) fits inv short same_row

  pub before_past : drop ((get_or (take index rows) k blank).name + (get_or (take index rows) k blank).body) rest ≡ drop (size (take (k + 1) rows)) block
  before_past = entry_past rows block rest k (get_or (take index rows) k blank) fits inv short same_row
