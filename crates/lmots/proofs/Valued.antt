-- Bytes in chunks, and chunks as the rows that the specification speaks of.
use Rattle.std.proofs.Common.{◌≡◌, ℕ, zero, suc, ◌+◌, ◌*◌, ◌<◌, List, [], ◌∷◌, ◌++◌, length, get_or, take, drop, sym, ap, ◌∙◌, arith}
use Rattle.std.specs.List.{flat_map}
use Rattle.std.specs.Simd.{first_chunks}
use Rattle.std.proofs.lemmas.Grind.{flat_map-append}
use Rattle.std.proofs.lemmas.List.{append-nil, drop-drop, get_or-take, length-take-le, nil_from_length, take_all, take_more}
use Rattle.octets.specs.Parts.{row}

-- values one behind the other are the row of them
pub flat_row : (f : ℕ → List ℕ) (n : ℕ) (vs : List (List ℕ)) → length vs ≡ n → ((i : ℕ) → i < n → get_or vs i [] ≡ f i) → flat_map (λ v. v) vs ≡ row n f
unfolding row
flat_row f zero vs l h = ap (flat_map (λ v. v)) (nil_from_length vs l)
flat_row f (suc n) vs l h =
    let e : suc n ≡ n + 1 = omega arith in
    let all : vs ≡ take n vs ++ get_or vs n [] ∷ [] = sym (take_all (suc n) vs (omega arith)) ∙ ap (λ k. take k vs) e ∙ take_more vs n [] (omega arith) in
    let front : flat_map (λ v. v) (take n vs) ≡ row n f = flat_row f n (take n vs) (length-take-le n vs (omega arith)) (λ i m. get_or-take n vs i [] m ∙ h i (omega arith)) in
    ap (flat_map (λ v. v)) all ∙ flat_map-append (λ v. v) (take n vs) (get_or vs n [] ∷ [])
    ∙ ap (λ v. v ++ (get_or vs n [] ++ [])) front ∙ ap (λ v. row n f ++ v) (append-nil (get_or vs n []) ∙ h n (omega arith))

-- chunk i of some elements
chunk_at : {X : Type 0} (n : ℕ) → ((m : ℕ) → n + n * m ≡ n * suc m) → (k i : ℕ) (xs : List X) → i < k → get_or (first_chunks n k xs) i [] ≡ take n (drop (n * i) xs)
chunk_at n up zero i xs l = absurd (omega arith)
chunk_at n up (suc k) zero xs l = let e : n * 0 ≡ 0 = omega arith in ap (take n) (sym (ap (λ m. drop m xs) e))
chunk_at n up (suc k) (suc i) xs l = chunk_at n up k i (drop n xs) (omega arith) ∙ ap (take n) (drop-drop (n * i) n xs ∙ ap (λ m. drop m xs) (up i))

pub chunk_of_32 : (k i : ℕ) (xs : List ℕ) → i < k → get_or (first_chunks 32 k xs) i [] ≡ take 32 (drop (32 * i) xs)
chunk_of_32 = chunk_at 32 (λ m. omega arith)

pub chunk_of_4 : {X : Type 0} (k i : ℕ) (xs : List X) → i < k → get_or (first_chunks 4 k xs) i [] ≡ take 4 (drop (4 * i) xs)
chunk_of_4 = chunk_at 4 (λ m. omega arith)
