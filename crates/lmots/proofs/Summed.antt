-- The checksum, byte by byte, and the digits.
use Rattle.std.proofs.Common.{◌≡◌, ℕ, ◌+◌, ◌-◌, ◌<◌, ◌≤◌, List, [], ◌∷◌, ◌++◌, length, get_or, drop, replicate, refl, ap, ◌∙◌}
use Rattle.std.proofs.lemmas.List.{append-nil, drop_at, drop_more, drop_all, take_at}
use borrow.Rule.Slice.PartMut.{put_mid}
use Rattle.octets.specs.Numbers.{u16}
use Rattle.lmots.specs.LmOts.{checksum}

pub sum_none : (xs : List ℕ) (i : ℕ) → length xs ≤ i → checksum (drop i xs) ≡ 0
unfolding checksum
sum_none xs i h = ap checksum (drop_all i xs h)

pub sum_more : (xs : List ℕ) (i : ℕ) → i < length xs → checksum (drop i xs) ≡ (255 - get_or xs i 0) + checksum (drop (i + 1) xs)
unfolding checksum
sum_more xs i h = ap checksum (drop_more xs i 0 h)

pub sum_zeros : checksum (replicate 32 0) ≡ 0x1FE0
unfolding checksum
sum_zeros = refl

-- a hash, and its checksum written behind it
pub digits_are : (X Y h : List ℕ) → X ≡ h → length h ≡ 32 → Y ≡ u16 (checksum h) → put_mid 32 2 (X ++ (0 ∷ 0 ∷ [])) Y ≡ h ++ u16 (checksum h)
digits_are X Y h e l s =
    let lX : length X ≡ 32 = ap length e ∙ l in
    let none : drop 2 (drop 32 (X ++ (0 ∷ 0 ∷ []))) ≡ [] = ap (drop 2) (drop_at X (0 ∷ 0 ∷ []) 32 lX) in
    ap (λ v. v ++ (Y ++ drop 2 (drop 32 (X ++ (0 ∷ 0 ∷ []))))) (take_at X (0 ∷ 0 ∷ []) 32 lX)
    ∙ ap (λ v. X ++ (Y ++ v)) none ∙ ap (λ v. X ++ v) (append-nil Y) ∙ ap (λ v. v ++ Y) e ∙ ap (λ v. h ++ v) s
