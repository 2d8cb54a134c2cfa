-- What is written at the start of a buffer grows part by part.
use Rattle.std.proofs.Common.{◌≡◌, ℕ, ◌+◌, ◌<◌, ◌≤◌, List, [], ◌∷◌, ◌++◌, length, get_or, take, drop, set, sym, ap, ◌∙◌, arith}
use borrow.Rule.Slice.PartMut.{put_mid, post_of}
use Rattle.std.proofs.lemmas.List.{append_assoc, append-nil, length-append, length-drop, length-take-le, take-append-drop, take_at, drop_at, drop-drop, drop_more, drop_all, set_at}
use Rattle.octets.specs.Buffers.{over}

pub over-take : (at : ℕ) (old : List ℕ) → at ≤ length old → old ≡ over (take at old) old
over-take at old h = sym (take-append-drop at old) ∙ ap (λ z. take at old ++ drop z old) (sym (length-take-le at old h))

pub over_all : (part old : List ℕ) → length old ≤ length part → over part old ≡ part
over_all part old h = ap (λ z. part ++ z) (drop_all (length part) old h) ∙ append-nil part

pub length_over : (part old : List ℕ) → length part ≤ length old → length (over part old) ≡ length old
length_over part old h = length-append part (drop (length part) old) ∙ ap (λ z. length part + z) (length-drop (length part) old) ∙ (omega arith)

-- a part is copied in behind what was written
pub over_put : (done part old : List ℕ) (at k : ℕ) → length done ≡ at → k ≡ length part → put_mid at k (over done old) part ≡ over (done ++ part) old
over_put done part old at k l e =
    let rest = drop (length done) old in
    let after : post_of at k (over done old) ≡ drop (length (done ++ part)) old =
    ap (drop k) (drop_at done rest at l) ∙ drop-drop k (length done) old ∙ ap (λ z. drop z old) (ap (λ z. length done + z) e ∙ sym (length-append done part)) in
    ap (λ z. z ++ (part ++ post_of at k (over done old))) (take_at done rest at l)
    ∙ ap (λ z. done ++ (part ++ z)) after
    ∙ sym (append_assoc done part (drop (length (done ++ part)) old))

-- one byte is written behind what was written
pub over-set : (done old : List ℕ) (at c : ℕ) → length done ≡ at → at < length old → set (over done old) at c ≡ over (done ++ c ∷ []) old
over-set done old at c l h =
    let d : drop (length done) old ≡ get_or old (length done) 0 ∷ drop (length done + 1) old = drop_more old (length done) 0 (omega arith) in
    ap (λ z. set (done ++ z) at c) d
    ∙ set_at done (get_or old (length done) 0) (drop (length done + 1) old) c at l
    ∙ sym (append_assoc done (c ∷ []) (drop (length done + 1) old))
    ∙ ap (λ z. (done ++ c ∷ []) ++ drop z old) (sym (length-append done (c ∷ [])))

-- a part in the middle: what stands up to its end, and what stands behind it
pub put_front : (part old : List ℕ) (at : ℕ) → at ≤ length old → take (at + length part) (over (take at old ++ part) old) ≡ take at old ++ part
put_front part old at h =
    take_at (take at old ++ part) (drop (length (take at old ++ part)) old) (at + length part) (length-append (take at old) part ∙ ap (λ z. z + length part) (length-take-le at old h))

pub put_back : (part old : List ℕ) (at : ℕ) → at ≤ length old → drop (at + length part) (over (take at old ++ part) old) ≡ drop (at + length part) old
put_back part old at h =
    let l : length (take at old ++ part) ≡ at + length part = length-append (take at old) part ∙ ap (λ z. z + length part) (length-take-le at old h) in
    drop_at (take at old ++ part) (drop (length (take at old ++ part)) old) (at + length part) l ∙ ap (λ z. drop z old) l
