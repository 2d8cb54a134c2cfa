use Rattle.std.proofs.Common.{◌≡◌, ℕ, ◌<◌, true, false, List, length, get_or, Some, None, ok_or, Option, Result, MatchOption, refl, sym, ap, ◌∙◌, subst, arith}
use Rattle.std.specs.Str.{bytes_eq}
use Rattle.std.proofs.lemmas.Bool.{both_ways}
use Rattle.std.proofs.lemmas.Slice.Eq.{bytes_eq-Decides}
use Rattle.language.specs.declared.mistake.Mistake.{Mistake}
use Rattle.language.specs.declared.mistake.Mistake.TheVariants.{UnknownCall}
use Rattle.language.specs.declared.verb.TheConstants.{VERBS}
use Rattle.language.specs.declared.verb.Verb.{Verb}
use Rattle.language.specs.declared.verb.Verb.TheVariants.{Open, File, Get, Has, Fits, Entries, Text, Hash, Key, Sign, Check}
use Rattle.language.specs.Names.{name_of, VerbNamed}
use Rattle.language.proofs.Named.{find_means}
use Rattle.language.proofs.verb.VerbTryFromRefSliceU8.try_from.Goals as goal

-- each call's name stands in the table
named : (w : List ℕ) (o : Option Verb) → MatchOption o ((k : ℕ) (d : Verb) → k < length VERBS → bytes_eq (name_of (get_or VERBS k d)) w ≡ false) (λ v. bytes_eq (name_of v) w ≡ true) → VerbNamed w (ok_or o UnknownCall)
named w (Some v) h = sym ((bytes_eq-Decides (name_of v) w).0 h)
named w None h =
    let other : (v : Verb) → bytes_eq (name_of v) w ≡ false → w ≡ name_of v → ⊥ = λ v e n. both_ways _ e ((bytes_eq-Decides (name_of v) w).1 (sym n)) in (
      refl,
      λ v.
          elim v as (λ x. w ≡ name_of x → ⊥) [
            | Open ↦ other Open (h 0 Open (omega arith))
            | File ↦ other File (h 1 Open (omega arith))
            | Get ↦ other Get (h 2 Open (omega arith))
            | Has ↦ other Has (h 3 Open (omega arith))
            | Fits ↦ other Fits (h 4 Open (omega arith))
            | Entries ↦ other Entries (h 5 Open (omega arith))
            | Text ↦ other Text (h 6 Open (omega arith))
            | Hash ↦ other Hash (h 7 Open (omega arith))
            | Key ↦ other Key (h 8 Open (omega arith))
            | Sign ↦ other Sign (h 9 Open (omega arith))
            | Check ↦ other Check (h 10 Open (omega arith))
          ],
    )

pub returns : goal.returns
returns c =
    let w = c.args.word.now in
    let P : Result Verb Mistake → Type 0 = λ r. VerbNamed w r in
    subst P (sym (c.ok_or.ensures.value ∙ ap (λ o. ok_or o UnknownCall) c.named.ensures))
    (named w _ (find_means (λ v. bytes_eq (name_of v) w) VERBS))
