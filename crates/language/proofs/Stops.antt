-- Where the reading of some words stops.
use Rattle.std.proofs.Common.{◌≡◌, ℕ, ◌<◌, List, [], ◌∷◌, length, drop, None, Ok, Err, Option, Result, Vec, IfErr, IsErrAnd, refl, sym, subst, arith}
use Rattle.std.specs.declared.alloc.Global.{Global}
use Rattle.language.specs.declared.mistake.Mistake.{Mistake}
use Rattle.language.specs.declared.mistake.Trouble.{Trouble}
use Rattle.language.specs.declared.mistake.Trouble.TheVariants.{Script}
use Rattle.language.specs.declared.verb.Kind.{Kind}
use Rattle.language.specs.declared.verb.Verb.{Verb}
use Rattle.language.specs.Calls.{Want, bytes_or_none, number_or_none, Serves, Fails, StopsIn, behind, OpenFails, of_kind, open_wants, CallFails}
use Rattle.language.specs.Names.{KindNamed}
use Rattle.language.specs.Spelling.{IsSpelling}
use Rattle.language.specs.Wording.{ReadsWord, IsSomeNumber}

pub stops_behind : {a : Want} {more : List Want} {ws rest : List (List ℕ)} {t : Trouble} → rest ≡ drop 1 ws → Serves a ws → StopsIn more rest t → StopsIn (a ∷ more) ws t
stops_behind {a} {more} {ws} {rest} {t} e h s = behind h (subst (λ z. StopsIn more z t) e s)

-- what is said of a trouble is said of the result that `?` makes of it
pub handed_on : {X : Type 0} (P : Trouble → Type 0) (t : Trouble) (r : Result X Trouble) → IsErrAnd r (λ u. u ≡ t) → P t → IfErr r P
handed_on P t (Err u) e h = subst P (sym e) h
handed_on P t (Ok x) e h = absurd e

pub of_verb : (v w : Verb) (ws : List (List ℕ)) (t : Trouble) → v ≡ w → CallFails w ws t → CallFails v ws t
of_verb v w ws t e h = subst (λ z. CallFails z ws t) (sym e) h

pub of_this_kind : (k l : Kind) {ws rest : List (List ℕ)} {t : Trouble} → k ≡ l → ReadsWord (λ e. e) ws KindNamed (Ok k) → rest ≡ drop 1 ws → StopsIn (open_wants l) rest t → OpenFails ws t
of_this_kind k l {ws} {rest} {t} is h e s =
    of_kind l (subst (λ z. ReadsWord (λ e. e) ws KindNamed (Ok z)) is h) (subst (λ z. StopsIn (open_wants l) z t) e s)

-- a word that may be missing fails only where it is there
pub bytes_or_none_fails : (ws : List (List ℕ)) (t : Trouble) → (0 < length ws → ReadsWord {A = Vec ℕ Global} Script ws IsSpelling (Err t)) → (ws ≡ [] → ⊥) → Fails bytes_or_none ws t
bytes_or_none_fails [] t some none = none refl
bytes_or_none_fails (w ∷ ws) t some none = some (omega arith)

abbrev NoneRead : Result (Option ℕ) Mistake → Type 0
NoneRead r = r ≡ Ok None

pub number_or_none_fails : (ws : List (List ℕ)) (m : Mistake) → (0 < length ws → ReadsWord (λ e. e) ws IsSomeNumber (Err m)) → (ws ≡ [] → NoneRead (Err m)) → Fails number_or_none ws (Script m)
number_or_none_fails [] m some none = let e = none refl in cc
number_or_none_fails ([] ∷ ws) m some none = let e = some (omega arith) in cc
number_or_none_fails ((x ∷ w) ∷ ws) m some none = some (omega arith)
