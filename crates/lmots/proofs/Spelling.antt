-- Words and the bytes that they stand for.
use Rattle.std.proofs.Common.{◌≡◌, ℕ, ◌+◌, ◌≤◌, List, [], ◌∷◌, ◌++◌, length, get_or, take, drop, ap, ◌∙◌, arith}
use Rattle.std.proofs.lemmas.List.{drop_more}
use Rattle.sha256.specs.Sha256.{bytes}
use Rattle.octets.specs.Numbers.{u32}
use Rattle.octets.specs.Parts.{cut}
use Rattle.octets.proofs.Rows.{cut_more}

-- the four bytes at an offset
pub cut_four : (s : List ℕ) (at : ℕ) → at + 4 ≤ length s → cut at 4 s ≡ get_or s at 0 ∷ get_or s (at + 1) 0 ∷ get_or s (at + 2) 0 ∷ get_or s (at + 3) 0 ∷ []
cut_four s at h =
    let a = drop_more s at 0 (omega arith) in
    let b = drop_more s (at + 1) 0 (omega arith) in
    let c = drop_more s (at + 2) 0 (omega arith) in
    let d = drop_more s (at + 3) 0 (omega arith) in
    let e : at + 1 + 1 ≡ at + 2 = omega arith in
    let f : at + 2 + 1 ≡ at + 3 = omega arith in
    ap (take 4) a ∙ ap (λ r. get_or s at 0 ∷ take 3 r) b ∙ ap (λ k. get_or s at 0 ∷ get_or s (at + 1) 0 ∷ take 2 (drop k s)) e
    ∙ ap (λ r. get_or s at 0 ∷ get_or s (at + 1) 0 ∷ take 2 r) c ∙ ap (λ k. get_or s at 0 ∷ get_or s (at + 1) 0 ∷ get_or s (at + 2) 0 ∷ take 1 (drop k s)) f
    ∙ ap (λ r. get_or s at 0 ∷ get_or s (at + 1) 0 ∷ get_or s (at + 2) 0 ∷ take 1 r) d

-- one word more in front
word_more : (w : ℕ) (ws s : List ℕ) (a b n : ℕ) → b ≡ a + 4 → u32 w ≡ cut a 4 s → bytes ws ≡ cut b n s → bytes (w ∷ ws) ≡ cut a (4 + n) s
word_more w ws s a b n e f g =
    ap (λ v. v ++ bytes ws) f ∙ ap (λ v. cut a 4 s ++ v) g ∙ ap (λ k. cut a 4 s ++ cut k n s) e ∙ cut_more s a 4 n

pub four_words : (s : List ℕ) (a w0 w1 w2 w3 : ℕ) → u32 w0 ≡ cut a 4 s → u32 w1 ≡ cut (a + 4) 4 s → u32 w2 ≡ cut (a + 8) 4 s → u32 w3 ≡ cut (a + 12) 4 s → bytes (w0 ∷ w1 ∷ w2 ∷ w3 ∷ []) ≡ cut a 16 s
four_words s a w0 w1 w2 w3 f0 f1 f2 f3 =
    word_more w0 (w1 ∷ w2 ∷ w3 ∷ []) s a (a + 4) 12 (omega arith) f0
    (word_more w1 (w2 ∷ w3 ∷ []) s (a + 4) (a + 8) 8 (omega arith) f1
    (word_more w2 (w3 ∷ []) s (a + 8) (a + 12) 4 (omega arith) f2 f3))

pub eight_words : (s : List ℕ) (a w0 w1 w2 w3 w4 w5 w6 w7 : ℕ) → u32 w0 ≡ cut a 4 s → u32 w1 ≡ cut (a + 4) 4 s → u32 w2 ≡ cut (a + 8) 4 s → u32 w3 ≡ cut (a + 12) 4 s → u32 w4 ≡ cut (a + 16) 4 s → u32 w5 ≡ cut (a + 20) 4 s → u32 w6 ≡ cut (a + 24) 4 s → u32 w7 ≡ cut (a + 28) 4 s → bytes (w0 ∷ w1 ∷ w2 ∷ w3 ∷ w4 ∷ w5 ∷ w6 ∷ w7 ∷ []) ≡ cut a 32 s
eight_words s a w0 w1 w2 w3 w4 w5 w6 w7 f0 f1 f2 f3 f4 f5 f6 f7 =
    word_more w0 (w1 ∷ w2 ∷ w3 ∷ w4 ∷ w5 ∷ w6 ∷ w7 ∷ []) s a (a + 4) 28 (omega arith) f0
    (word_more w1 (w2 ∷ w3 ∷ w4 ∷ w5 ∷ w6 ∷ w7 ∷ []) s (a + 4) (a + 8) 24 (omega arith) f1
    (word_more w2 (w3 ∷ w4 ∷ w5 ∷ w6 ∷ w7 ∷ []) s (a + 8) (a + 12) 20 (omega arith) f2
    (word_more w3 (w4 ∷ w5 ∷ w6 ∷ w7 ∷ []) s (a + 12) (a + 16) 16 (omega arith) f3
    (four_words s (a + 16) w4 w5 w6 w7 f4 (f5 ∙ ap (λ k. cut k 4 s) (omega arith)) (f6 ∙ ap (λ k. cut k 4 s) (omega arith)) (f7 ∙ ap (λ k. cut k 4 s) (omega arith))))))
