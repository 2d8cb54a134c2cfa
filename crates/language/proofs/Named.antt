-- What `find` gives, and what it says of all others.
use Rattle.std.proofs.Common.{◌≡◌, ℕ, ◌<◌, zero, suc, Bool, true, false, cond, List, [], ◌∷◌, length, get_or, find, Some, None, Option, MatchOption, refl, arith}

-- what is found passes the test, and where nothing is found no element passes
pub find_means : {X : Type 0} (p : X → Bool) (xs : List X) → MatchOption (find p xs) ((k : ℕ) (d : X) → k < length xs → p (get_or xs k d) ≡ false) (λ x. p x ≡ true)
find_means p [] = λ k d h. absurd (omega arith)
find_means {X} p (x ∷ xs) = go (p x) refl (find p xs) (find_means p xs)
  where
    Fails : List X → Type 0
    Fails ys = (k : ℕ) (d : X) → k < length ys → p (get_or ys k d) ≡ false

    more : p x ≡ false → Fails xs → Fails (x ∷ xs)
    more e h zero d l = e
    more e h (suc k) d l = h k d (omega (arith, l))

    go : (b : Bool) → p x ≡ b → (o : Option X) → MatchOption o (Fails xs) (λ y. p y ≡ true) → MatchOption (cond b (Some x) o) (Fails (x ∷ xs)) (λ y. p y ≡ true)
    go true e o h = e
    go false e None h = more e h
    go false e (Some y) h = h
