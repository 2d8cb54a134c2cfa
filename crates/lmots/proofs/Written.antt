-- Parts that are written into a buffer one behind the other.
use Rattle.std.proofs.Common.{◌≡◌, ℕ, ◌+◌, ◌≤◌, List, [], ◌++◌, length, refl, ap, ◌∙◌, append_assoc, arith, length-append}
use Rattle.octets.specs.Buffers.{over}
use Rattle.octets.proofs.Overs.{length_over, over_all}

-- what `put` promises of a part that is written at a place
abbrev pub Puts : List ℕ → ℕ → List ℕ → List ℕ → Type 0
Puts before at part after = (done old : List ℕ) → before ≡ over done old → length done ≡ at → at + length part ≤ length before → after ≡ over (done ++ part) old

pub three : (old a b c b1 b2 b3 : List ℕ) (q r : ℕ) → length a ≡ q → q + length b ≡ r → r + length c ≤ length old
    → Puts old 0 a b1 → Puts b1 q b b2 → Puts b2 r c b3 → b3 ≡ over ((a ++ b) ++ c) old
three old a b c b1 b2 b3 q r la lb lc p1 p2 p3 =
    let lab : length (a ++ b) ≡ r = omega (arith, length-append a b) in
    let w1 : b1 ≡ over a old = p1 [] old refl refl (omega arith) in
    let n1 : length b1 ≡ length old = ap length w1 ∙ length_over a old (omega arith) in
    let w2 : b2 ≡ over (a ++ b) old = p2 a old w1 la (omega arith) in
    let n2 : length b2 ≡ length old = ap length w2 ∙ length_over (a ++ b) old (omega arith) in
    p3 (a ++ b) old w2 lab (omega arith)

pub four : (old a b c d b1 b2 b3 b4 : List ℕ) (q r s : ℕ) → length a ≡ q → q + length b ≡ r → r + length c ≡ s → s + length d ≤ length old
    → Puts old 0 a b1 → Puts b1 q b b2 → Puts b2 r c b3 → Puts b3 s d b4 → b4 ≡ over (a ++ (b ++ (c ++ d))) old
four old a b c d b1 b2 b3 b4 q r s la lb lc ld p1 p2 p3 p4 =
    let abc : List ℕ = (a ++ b) ++ c in
    let long : length abc ≡ s = omega (arith, length-append (a ++ b) c, length-append a b) in
    let w : b3 ≡ over abc old = three old a b c b1 b2 b3 q r la lb (omega arith) p1 p2 p3 in
    let n : length b3 ≡ length old = ap length w ∙ length_over abc old (omega arith) in
    p4 abc old w long (omega arith) ∙ ap (λ v. over v old) (append_assoc (a ++ b) c d ∙ append_assoc a b (c ++ d))

-- and where they fill it
pub three_fill : (old a b c b1 b2 b3 : List ℕ) (q r : ℕ) → length a ≡ q → q + length b ≡ r → r + length c ≡ length old
    → Puts old 0 a b1 → Puts b1 q b b2 → Puts b2 r c b3 → b3 ≡ a ++ (b ++ c)
three_fill old a b c b1 b2 b3 q r la lb lc p1 p2 p3 =
    three old a b c b1 b2 b3 q r la lb (omega arith) p1 p2 p3
    ∙ over_all ((a ++ b) ++ c) old (omega (arith, length-append (a ++ b) c, length-append a b)) ∙ append_assoc a b c

pub four_fill : (old a b c d b1 b2 b3 b4 : List ℕ) (q r s : ℕ) → length a ≡ q → q + length b ≡ r → r + length c ≡ s → s + length d ≡ length old
    → Puts old 0 a b1 → Puts b1 q b b2 → Puts b2 r c b3 → Puts b3 s d b4 → b4 ≡ a ++ (b ++ (c ++ d))
four_fill old a b c d b1 b2 b3 b4 q r s la lb lc ld p1 p2 p3 p4 =
    four old a b c d b1 b2 b3 b4 q r s la lb lc (omega arith) p1 p2 p3 p4
    ∙ over_all (a ++ (b ++ (c ++ d))) old (omega (arith, length-append a (b ++ (c ++ d)), length-append b (c ++ d), length-append c d))
