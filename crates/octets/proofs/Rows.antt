-- Parts of a list one behind the other, and rows of parts of 32 bytes.
use Rattle.std.proofs.Common.{◌≡◌, ℕ, zero, suc, ◌+◌, ◌-◌, ◌*◌, ◌<◌, ◌≤◌, List, [], ◌∷◌, ◌++◌, length, take, drop, sym, refl, ap, ◌∙◌, ⊎_elim, append_assoc, add-one, arith, length-append, length-drop}
use Rattle.std.proofs.lemmas.List.{take_all, take-append-le, drop-append-le, drop_at, drop-drop, length-take-le, take-append-drop, take_at}
use Rattle.std.proofs.lemmas.Bool.{cases_lt}
use Rattle.octets.specs.Buffers.{over}
use Rattle.octets.specs.Parts.{cut, row}
use Rattle.octets.proofs.Overs.{put_back}

take_add : (n m : ℕ) (xs : List ℕ) → take n xs ++ take m (drop n xs) ≡ take (n + m) xs
take_add zero m xs = let e : m ≡ zero + m = omega arith in ap (λ k. take k xs) e
take_add (suc n) m [] = let e : suc n + m ≡ suc (n + m) = omega arith in none m ∙ sym (ap (λ k. take k []) e)
  where
    none : (k : ℕ) → take {A = ℕ} k [] ≡ []
    none zero = refl
    none (suc k) = refl
take_add (suc n) m (x ∷ xs) = let e : suc n + m ≡ suc (n + m) = omega arith in ap (λ r. x ∷ r) (take_add n m xs) ∙ sym (ap (λ k. take k (x ∷ xs)) e)

pub cut_more : (s : List ℕ) (a n m : ℕ) → cut a n s ++ cut (a + n) m s ≡ cut a (n + m) s
cut_more s a n m = ap (λ r. cut a n s ++ take m r) (sym (drop-drop n a s)) ∙ take_add n m (drop a s)

pub length_cut : (xs : List ℕ) (a n : ℕ) → a + n ≤ length xs → length (cut a n xs) ≡ n
length_cut xs a n h = length-take-le n (drop a xs) (omega (arith, length-drop a xs))

-- what lies behind the part written at a buffer's start is as it was
pub cut-over : (done old : List ℕ) (a n : ℕ) → length done ≡ a → cut a n (over done old) ≡ cut a n old
cut-over done old a n h = ap (take n) (drop_at done (drop (length done) old) a h ∙ ap (λ k. drop k old) h)

pub row_none : (f : ℕ → List ℕ) → row 0 f ≡ []
unfolding row
row_none f = refl

pub row_more : (f : ℕ → List ℕ) (n : ℕ) → row (n + 1) f ≡ row n f ++ f n
unfolding row
row_more f n = ap (λ k. row k f) (add-one n)

pub row_same : (f g : ℕ → List ℕ) (n : ℕ) → ((i : ℕ) → i < n → f i ≡ g i) → row n f ≡ row n g
unfolding row
row_same f g zero h = refl
row_same f g (suc n) h = let a = row_same f g n (λ i l. h i (omega arith)) in let b = h n (omega arith) in cc

pub length-row : (f : ℕ → List ℕ) (n : ℕ) → ((i : ℕ) → i < n → length (f i) ≡ 32) → length (row n f) ≡ 32 * n
unfolding row
length-row f zero h = refl
length-row f (suc n) h = omega (arith, length-append (row n f) (f n), length-row f n (λ i l. h i (omega arith)), h n (omega arith))

-- part i of a row lies at 32 * i
pub row_at : (f : ℕ → List ℕ) (n i : ℕ) → ((k : ℕ) → k < n → length (f k) ≡ 32) → i < n → cut (32 * i) 32 (row n f) ≡ f i
unfolding row
row_at f zero i h l = absurd (omega arith)
row_at f (suc n) i h l =
    let len = length-row f n (λ k m. h k (omega arith)) in
    ⊎_elim
    (λ (m : i < n).
    let a : 32 * i ≤ length (row n f) = omega arith in
    let b : 32 ≤ length (drop (32 * i) (row n f)) = omega (arith, length-drop (32 * i) (row n f)) in
    ap (take 32) (drop-append-le (32 * i) (row n f) (f n) a)
    ∙ take-append-le 32 (drop (32 * i) (row n f)) (f n) b
    ∙ row_at f n i (λ k m. h k (omega arith)) m)
    (λ (m : n ≤ i).
    let e : n ≡ i = omega arith in
    let a : length (row n f) ≡ 32 * i = omega arith in
    ap (take 32) (drop_at (row n f) (f n) (32 * i) a)
    ∙ take_all 32 (f n) (omega (arith, h n (omega arith))) ∙ ap f e)
    (cases_lt i n)

-- some bytes are the row of their parts
pub row_cuts : (xs : List ℕ) (n : ℕ) → 32 * n ≤ length xs → row n (λ i. cut (32 * i) 32 xs) ≡ take (32 * n) xs
unfolding row
row_cuts xs zero h = refl
row_cuts xs (suc n) h =
    let e : 32 * n + 32 ≡ 32 * suc n = omega arith in
    ap (λ v. v ++ cut (32 * n) 32 xs) (row_cuts xs n (omega arith)) ∙ take_add (32 * n) 32 xs ∙ ap (λ k. take k xs) e

-- some bytes whose parts are those of a row are the row
pub row_from : (xs : List ℕ) (f : ℕ → List ℕ) (n : ℕ) → length xs ≡ 32 * n → ((i : ℕ) → i < n → cut (32 * i) 32 xs ≡ f i) → xs ≡ row n f
row_from xs f n l h = sym (take_all (32 * n) xs (omega arith)) ∙ sym (row_cuts xs n (omega arith)) ∙ row_same _ f n h

-- one part more of a row is written at a buffer's start
pub row_put : (f : ℕ → List ℕ) (i : ℕ) (part old : List ℕ) → part ≡ f i → over (row i f ++ part) old ≡ over (row (i + 1) f) old
row_put f i part old e = ap (λ z. over (row i f ++ z) old) e ∙ ap (λ z. over z old) (sym (row_more f i))

-- nothing is written yet
pub row_begin : (f : ℕ → List ℕ) (old : List ℕ) → old ≡ over (row 0 f) old
row_begin f old = ap (λ z. over z old) (sym (row_none f))

cut_front : (xs ys : List ℕ) (a n : ℕ) → a + n ≤ length xs → cut a n (xs ++ ys) ≡ cut a n xs
cut_front xs ys a n h = ap (take n) (drop-append-le a xs ys (omega arith)) ∙ take-append-le n (drop a xs) ys (omega (arith, length-drop a xs))

-- a part of a row is written anew: it stands there, and the other parts are as they were
pub put_here : (part old : List ℕ) (at : ℕ) → at ≤ length old → length part ≡ 32 → cut at 32 (over (take at old ++ part) old) ≡ part
put_here part old at h l =
    let rest = drop (length (take at old ++ part)) old in
    ap (cut at 32) (append_assoc (take at old) part rest) ∙ ap (take 32) (drop_at (take at old) (part ++ rest) at (length-take-le at old h)) ∙ take_at part rest 32 l

pub put_apart : (part old : List ℕ) (i k : ℕ) → 32 * i ≤ length old → length part ≡ 32 → (k ≡ i → ⊥) → cut (32 * k) 32 (over (take (32 * i) old ++ part) old) ≡ cut (32 * k) 32 old
put_apart part old i k h l ne =
    let at = 32 * i in
    let len = length-take-le at old h in
    ⊎_elim
    (λ (m : k < i).
    ap (cut (32 * k) 32) (append_assoc (take at old) part (drop (length (take at old ++ part)) old))
    ∙ cut_front (take at old) _ (32 * k) 32 (omega arith)
    ∙ sym (cut_front (take at old) (drop at old) (32 * k) 32 (omega arith))
    ∙ ap (cut (32 * k) 32) (take-append-drop at old))
    (λ (m : i ≤ k).
    let lt : i < k = ⊎_elim (λ (a : i < k). a) (λ (b : k ≤ i). absurd (ne (omega arith))) (cases_lt i k) in
    let e : at + length part + (32 * k - (at + length part)) ≡ 32 * k = omega arith in
    let back : (ys : List ℕ) → drop (32 * k) ys ≡ drop (32 * k - (at + length part)) (drop (at + length part) ys) = λ ys. ap (λ z. drop z ys) (sym e) ∙ sym (drop-drop _ (at + length part) ys) in
    ap (take 32) (back _ ∙ ap (drop (32 * k - (at + length part))) (put_back part old at h) ∙ sym (back old)))
    (cases_lt k i)
