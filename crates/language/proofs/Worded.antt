-- The words of a text, the first and the others.
use Rattle.std.proofs.Common.{◌≡◌, ℕ, ◌+◌, ◌<◌, suc, Bool, true, false, cond, ◌==◌, List, [], ◌∷◌, length, take, drop, Ok, Result, Bor, refl, sym, ap, ◌∙◌, subst, arith, Some, Option}
use Rattle.octets.specs.Search.{up_to}
use Rattle.language.specs.declared.mistake.Mistake.{Mistake}
use Rattle.language.specs.Wording.{longer, words_in, words_of, ReadsWord, IsWord}

pub words_whole : (t : List ℕ) → up_to 0x20 t ≡ length t → words_in t ≡ t ∷ []
words_whole [] h = refl
words_whole (x ∷ t) h = go (words_whole t) (x == 0x20) h
  where
    go : (up_to 0x20 t ≡ length t → words_in t ≡ t ∷ []) → (b : Bool) → cond b 0 (suc (up_to 0x20 t)) ≡ length (x ∷ t) → cond b ([] ∷ words_in t) (longer x (words_in t)) ≡ (x ∷ t) ∷ []
    go more true e = absurd (omega (arith, e))
    go more false e = ap (longer x) (more (omega (arith, e)))

pub words_parted : (t : List ℕ) → up_to 0x20 t < length t → words_in t ≡ take (up_to 0x20 t) t ∷ words_in (drop (up_to 0x20 t + 1) t)
words_parted [] h = absurd (omega arith)
words_parted (x ∷ t) h = go (words_parted t) (x == 0x20) h
  where
    go : (up_to 0x20 t < length t → words_in t ≡ take (up_to 0x20 t) t ∷ words_in (drop (up_to 0x20 t + 1) t)) → (b : Bool) → cond b 0 (suc (up_to 0x20 t)) < length (x ∷ t) → cond b ([] ∷ words_in t) (longer x (words_in t)) ≡ take (cond b 0 (suc (up_to 0x20 t))) (x ∷ t) ∷ words_in (drop (cond b 0 (suc (up_to 0x20 t)) + 1) (x ∷ t))
    go more true e = refl
    go more false e =
        let u = up_to 0x20 t in
        let k : suc u + 1 ≡ suc (u + 1) = omega arith in
        ap (longer x) (more (omega (arith, e))) ∙ ap (λ n. (x ∷ take u t) ∷ words_in (drop n (x ∷ t))) (sym k)

-- a text has a word, if only one of no bytes
pub some_word : (t : List ℕ) → 0 < length (words_in t)
some_word [] = omega arith
some_word (x ∷ t) = go (x == 0x20) (words_in t)
  where
    go : (b : Bool) (ws : List (List ℕ)) → 0 < length (cond b ([] ∷ ws) (longer x ws))
    go true ws = omega arith
    go false [] = omega arith
    go false (w ∷ ws) = omega arith

-- where there is a text, a word is left
pub none_without_text : (r : Option (Bor (List ℕ))) (t : Bor (List ℕ)) → r ≡ Some t → words_of r ≡ [] → ⊥
none_without_text r t e none = omega (arith, some_word t.now, ap length (ap words_of (sym e) ∙ none))

-- what is said of the next word holds of what is read of it
pub reads_on : {A E : Type 0} (error : Mistake → E) (ws : List (List ℕ)) (read : List ℕ → Result A E → Type 0) (w : Bor (List ℕ)) (r : Result A E) → ReadsWord (λ m. m) ws IsWord (Ok w) → read w.now r → ReadsWord error ws read r
reads_on error [] read w r e h = cc
reads_on error ([] ∷ ws) read w r e h = cc
reads_on error ((x ∷ v) ∷ ws) read w r e h = subst (λ z. read z r) e h
