-- When a signature holds, by the tests that the code makes.
use Rattle.std.proofs.Common.{◌≡◌, ℕ, ◌+◌, Bool, true, false, ◌&&◌, eqb, List, length, take, drop, sym, refl, ap, ◌∙◌, arith, length-drop}
use Rattle.std.specs.Str.{bytes_eq}
use Rattle.std.proofs.lemmas.List.{take_all, drop-drop}
use Rattle.std.proofs.lemmas.Bool.Decides.{nat_tests}
use Rattle.std.proofs.lemmas.Bool.{eq-eqb, eqb-true}
use Rattle.octets.specs.Numbers.{number}
use Rattle.octets.specs.Parts.{cut}
use Rattle.lmots.specs.LmOts.{holds, agrees, yielded}

none : (a b c d e : Bool) → ((a ≡ true) × (b ≡ true) × (c ≡ true) × (d ≡ true) → ⊥) → false ≡ ((a && b) && (c && (d && e)))
none false b c d e h = refl
none true false c d e h = refl
none true true false d e h = refl
none true true true false e h = refl
none true true true true e h = absurd (h (refl, refl, refl, refl))

-- a key or a signature of another type or length
pub refused : (H : List ℕ → List ℕ) (key m sig : List ℕ) → ((number key ≡ 4) × (length key ≡ 56) × (number sig ≡ number key) × (length sig ≡ 1124) → ⊥) → false ≡ holds H key m sig
unfolding holds
refused H key m sig h = none _ _ _ _ _ (λ t. h (eqb-true _ _ t.0, eqb-true _ _ t.1, eqb-true _ _ t.2, eqb-true _ _ t.3))

swap : (a b c d e : Bool) → a ≡ true → c ≡ true → b && (d && e) ≡ ((a && b) && (c && (d && e)))
swap a b c d e ha hc = rw (ha, hc) refl

-- key and signature are of type 4: the rest decides
pub decided : (H : List ℕ → List ℕ) (key m sig rest parts : List ℕ) (r : Bool) → rest ≡ drop 4 key → parts ≡ drop 4 sig → number key ≡ 4 → number sig ≡ number key
    → eqb (length key) 56 ≡ eqb (length rest) 52 → eqb (length sig) 1124 ≡ eqb (length parts) 1120
    → r ≡ (eqb (length rest) 52 && (eqb (length parts) 1120 && agrees H rest m parts)) → r ≡ holds H key m sig
unfolding holds
decided H key m sig rest parts r er ep hk hs lk ls e =
    e ∙ ap (λ v. v && (eqb (length parts) 1120 && agrees H rest m parts)) (sym lk)
    ∙ ap (λ v. eqb (length key) 56 && (v && agrees H rest m parts)) (sym ls)
    ∙ ap (λ v. eqb (length key) 56 && (eqb (length sig) 1124 && agrees H v m parts)) er
    ∙ ap (λ v. eqb (length key) 56 && (eqb (length sig) 1124 && agrees H (drop 4 key) m v)) ep
    ∙ swap (eqb (number key) 4) (eqb (length key) 56) (eqb (number sig) (number key)) (eqb (length sig) 1124) (agrees H (drop 4 key) m (drop 4 sig)) (eq-eqb _ _ hk) (eq-eqb _ _ hs)

-- behind four bytes, one length is as good as the other
pub behind_four : (n m a b : ℕ) → n ≡ m + 4 → a ≡ b + 4 → eqb n a ≡ eqb m b
behind_four n m a b e f = grind (arith, nat_tests)

-- what the rest of a key and of a signature come to
pub agreed : (H : List ℕ → List ℕ) (rest m parts I tail found : List ℕ) (q : ℕ) (r : Bool) → I ≡ take 16 rest → tail ≡ drop 16 rest → length tail ≡ 36 → length rest ≡ 52 → length parts ≡ 1120
    → q ≡ number tail → found ≡ yielded H I q m parts → r ≡ bytes_eq found (cut 4 32 tail) → r ≡ (eqb (length rest) 52 && (eqb (length parts) 1120 && agrees H rest m parts))
agreed H rest m parts I tail found q r eI et lt lr lp eq ef e =
    let k : cut 4 32 tail ≡ drop 20 rest = take_all 32 (drop 4 tail) (omega (arith, length-drop 4 tail)) ∙ ap (drop 4) et ∙ drop-drop 4 16 rest in
    let f : found ≡ yielded H (take 16 rest) (number (drop 16 rest)) m parts = ef ∙ ap (λ v. yielded H v q m parts) eI ∙ ap (λ v. yielded H (take 16 rest) v m parts) (eq ∙ ap number et) in
    let h : r ≡ agrees H rest m parts = e ∙ ap (bytes_eq found) k ∙ ap (λ v. bytes_eq v (drop 20 rest)) f in
    let a : eqb (length rest) 52 ≡ true = eq-eqb _ _ lr in
    let b : eqb (length parts) 1120 ≡ true = eq-eqb _ _ lp in
    h ∙ sym (ap (λ v. v && (eqb (length parts) 1120 && agrees H rest m parts)) a ∙ ap (λ v. v && agrees H rest m parts) b)
