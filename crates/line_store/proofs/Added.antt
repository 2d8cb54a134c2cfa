-- A line written behind a text, and a body read out of one.
use Rattle.std.proofs.Common.{◌≡◌, ℕ, ◌+◌, ◌*◌, ◌/◌, ◌≤◌, ◌-◌, true, List, [], ◌∷◌, ◌++◌, length, take, drop, is_some, Some, None, Option, sym, refl, ap, ◌∙◌, arith}
use borrow.Rule.Slice.PartMut.{put_mid}
use Rattle.std.proofs.lemmas.List.{length-drop, length-append, length-take-le, append_assoc, append-nil, take_at, take_all, drop_at, drop_all, drop-drop}
use Rattle.std.proofs.lemmas.Bool.{and_from, le-leb, both_ways}
use Rattle.std.specs.Option.{option_map}
use Rattle.octets.specs.Buffers.{over, are_bytes}
use Rattle.octets.specs.Hex.{hex, unhex}
use Rattle.octets.proofs.Hexed.{length-hex, unhex-hex}
use Rattle.octets.proofs.Overs.{over-take, length_over}
use Rattle.store.specs.Meanings.{is_name, with, body_of}
use Rattle.store.specs.Entries.{Entry, look_up, sound}
use Rattle.store.proofs.Looking.{sound_push, look_push, body_is}
use Rattle.line_store.specs.Texts.{line_then, text_of, entries_of, is_text}
use Rattle.line_store.proofs.Telling.{text_append, is_text_entries, told_entries, told_is_text}

pub line_long : (n b : List ℕ) → length (line_then (n, b) []) ≡ 2 * (length n + length b) + 2
line_long n b =
    length-append (hex n) (0x20 ∷ (hex b ++ 0x0a ∷ [])) ∙ (omega (arith, length-hex n, length-hex b, length-append (hex b) (0x0a ∷ [])))

-- a part is written behind what was written
pub over_behind : (u done part old out : List ℕ) (at k : ℕ) → u ≡ over done old → length done ≡ at → at ≤ length old → k ≡ length u - at → out ≡ over part (take k (drop at u)) → put_mid at k u out ≡ over (done ++ part) old
over_behind u done part old out at k eu l h ek e =
    let rest = drop (length done) old in
    let lr = length-drop (length done) old in
    let lu : length u ≡ length old = ap length eu ∙ length_over done old (omega arith) in
    let back : drop at u ≡ rest = ap (drop at) eu ∙ drop_at done rest at l in
    let whole : take k (drop at u) ≡ rest = ap (take k) back ∙ take_all k rest (omega arith) in
    let none : drop k (drop at u) ≡ [] = ap (drop k) back ∙ drop_all k rest (omega arith) in
    let new : out ≡ part ++ drop (length (done ++ part)) old =
    e ∙ ap (over part) whole ∙ ap (λ z. part ++ z) (drop-drop (length part) (length done) old ∙ ap (λ z. drop z old) (omega (arith, length-append done part))) in
    ap (λ z. z ++ (out ++ drop k (drop at u))) (ap (take at) eu ∙ take_at done rest at l) ∙ ap (λ z. done ++ (out ++ z)) none ∙ ap (λ z. done ++ z) (append-nil out ∙ new)
    ∙ sym (append_assoc done part (drop (length (done ++ part)) old))

-- a buffer once a line is written behind the text, and the text with it
module _ (t out name body : List ℕ) (at long : ℕ) (h : at ≤ length t) (el : long ≡ 2 * (length name + length body) + 2) (w : out ≡ over (line_then (name, body) []) (take (length t - at) (drop at t))) where
  line_behind : put_mid at (length t - at) t out ≡ over (take at t ++ line_then (name, body) []) t
  line_behind = over_behind t (take at t) (line_then (name, body) []) t out at (length t - at) (over-take at t h) (length-take-le at t h) h refl w

  pub text_grown : take (at + long) (put_mid at (length t - at) t out) ≡ take at t ++ line_then (name, body) []
  text_grown =
      let p = take at t ++ line_then (name, body) [] in
      let l : length p ≡ at + long = length-append (take at t) (line_then (name, body) []) ∙ (omega (arith, length-take-le at t h, line_long name body)) in
      ap (take (at + long)) line_behind ∙ take_at p (drop (length p) t) (at + long) l

-- what a text with one more line is of
module _ (t u name body : List ℕ) (r : is_text t ≡ true) (w : u ≡ t ++ line_then (name, body) []) (v : is_name name ≡ true) (s : length body ≤ 32768) (y : are_bytes body ≡ true) (n : look_up (entries_of t) name ≡ None) where
  told : (text_of (entries_of t) ≡ t) × (sound (entries_of t) ≡ true)
  told = is_text_entries t r

  text : text_of (entries_of t ++ (name, body) ∷ []) ≡ u
  text = text_append (entries_of t) ((name, body) ∷ []) ∙ ap (λ z. z ++ line_then (name, body) []) told.0 ∙ sym w

  still : sound (entries_of t ++ (name, body) ∷ []) ≡ true
  still = sound_push (entries_of t) (name, body) told.1 (and_from _ _ v (and_from _ _ (le-leb _ _ s) y)) (ap is_some n)

  pub line_is_text : is_text u ≡ true
  line_is_text = told_is_text u (entries_of t ++ (name, body) ∷ []) text still

  pub line_with : look_up (entries_of u) ≡ with (look_up (entries_of t)) name body
  line_with = ap look_up (told_entries u (entries_of t ++ (name, body) ∷ []) text still) ∙ look_push (entries_of t) name body (ap is_some n)

-- digits that are read over a buffer with space for their bytes
pub read_over : (out digits b : List ℕ) → digits ≡ hex b → are_bytes b ≡ true → length b ≤ length out → over (take (length out) (unhex digits)) out ≡ over b out
read_over out digits b e y h =
    let u : unhex digits ≡ b = ap unhex e ∙ unhex-hex b y in
    ap (λ z. over (take (length out) z) out) u ∙ ap (λ z. over z out) (take_all (length out) b h)

pub half_long : (digits b : List ℕ) → digits ≡ hex b → length digits / 2 ≡ length b
half_long digits b e = omega (arith, ap length e, length-hex b)

-- the digits of a body that was found
pub record Digits (found : Option (List ℕ)) (digits : List ℕ) : Type 0 where
  pub is : digits ≡ hex (body_of found)
  pub short : length (body_of found) ≤ 32768
  pub bytes : are_bytes (body_of found) ≡ true

pub digits_found : (es : List Entry) (name digits : List ℕ) → sound es ≡ true → Some digits ≡ option_map hex (look_up es name) → Digits (look_up es name) digits
digits_found es name digits s e = go (look_up es name) e (body_is es s name)
  where
    go : (o : Option (List ℕ)) → Some digits ≡ option_map hex o → (is_some o ≡ true → (length (body_of o) ≤ 32768) × (are_bytes (body_of o) ≡ true)) → Digits o digits
    go None e b = absurd (both_ways true (ap is_some e) refl)
    go (Some o) e b = let k = b refl in record { is = (cc); short = k.0; bytes = k.1 }

-- the bytes of digits, read at the start of a longer buffer
pub read_front : (k : ℕ) (out digits got : List ℕ) → got ≡ over (take k (unhex digits)) out → length digits ≡ 2 * length (unhex digits) → length (unhex digits) ≤ k → take (length digits / 2) got ≡ unhex digits
read_front k out digits got e l h =
    let b = unhex digits in
    ap (take (length digits / 2)) (e ∙ ap (λ z. over z out) (take_all k b h)) ∙ take_at b (drop (length b) out) (length digits / 2) (omega arith)
