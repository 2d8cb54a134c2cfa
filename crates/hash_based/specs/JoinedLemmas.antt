-- The laws of LM-OTS and LMS as one scheme.
use Rattle.std.specs.Prelude.{◌≡◌, ℕ, ◌^◌, ◌<◌, ◌≤◌, true, List, length}
use Rattle.std.proofs.Common.{sym, ap, ◌∙◌, ⊎_elim, arith}
use Rattle.std.specs.Str.{bytes_eq}
use Rattle.std.proofs.lemmas.Slice.Eq.{bytes_eq-Decides}
use Rattle.std.proofs.lemmas.Bool.{or_cases, cond_both, or_left, or_right, and_parts}
use Rattle.scheme.specs.Keytypes.{is_keytype}
use Rattle.lmots.specs.Keyed as LmOts
use Rattle.lmots.specs.KeyedLemmas as LmOtsLaws
use Rattle.lmots.specs.LmOts as One
use Rattle.lms.specs.Keyed as Lms
use Rattle.lms.specs.KeyedLemmas as LmsLaws
use Rattle.lms.specs.Lms as Many
use Rattle.hash_based.specs.declared.secret.HashBasedSecret.{HashBasedSecret}
use Rattle.hash_based.specs.declared.secret.HashBasedSecret.TheVariants.{OneTime, Tree}
use Rattle.hash_based.specs.Joined.{is_formed, size_of, is_held, word_of, public_of, leaves_of, signed_by}

-- the keytype tells how long a signature is
one_size : (w k : List ℕ) → bytes_eq w LmOts.word ≡ true → size_of w k ≡ 1124
one_size w k e = ap (λ v. size_of v k) ((bytes_eq-Decides w LmOts.word).0 e)

many_size : (w k : List ℕ) → bytes_eq w Lms.word ≡ true → size_of w k ≡ Many.signature_size k
many_size w k e = ap (λ v. size_of v k) ((bytes_eq-Decides w Lms.word).0 e)

pub formed_bounded : (w k : List ℕ) → is_formed w k ≡ true → (is_keytype w ≡ true) × (1 ≤ length k) × (length k ≤ 64)
formed_bounded w k h = ⊎_elim (LmOtsLaws.formed_bounded w k) (LmsLaws.formed_bounded w k) (or_cases (LmOts.is_formed w k) (Lms.is_formed w k) h)

pub formed_short : (w k : List ℕ) → is_formed w k ≡ true → (1 ≤ size_of w k) × (size_of w k ≤ 2560)
formed_short w k h = cond_both (bytes_eq w Lms.word) (Many.signature_size k) 1124 (λ n. (1 ≤ n) × (n ≤ 2560)) (λ _. LmsLaws.size_short k) (λ _. (omega arith, omega arith))

pub held_exact : (w k m z : List ℕ) → is_held w k m z ≡ true → (is_formed w k ≡ true) × (length z ≡ size_of w k)
held_exact w k m z h =
    ⊎_elim
    (λ (o : LmOts.is_held w k m z ≡ true).
    let x = LmOtsLaws.held_exact w k m z o in
    (or_left _ _ x.0, x.1 ∙ sym (one_size w k (and_parts (bytes_eq w LmOts.word) (One.well_formed k) x.0).0)))
    (λ (o : Lms.is_held w k m z ≡ true).
    let x = LmsLaws.held_exact w k m z o in
    (or_right _ _ x.0, x.1 ∙ sym (many_size w k (and_parts (bytes_eq w Lms.word) (Many.well_formed k) x.0).0)))
    (or_cases (LmOts.is_held w k m z) (Lms.is_held w k m z) h)

-- of a secret
pub secret_formed : (s : HashBasedSecret) → is_formed (word_of s) (public_of s) ≡ true
secret_formed (OneTime s) = or_left _ _ (LmOtsLaws.secret_formed s)
secret_formed (Tree s) = or_right (LmOts.is_formed Lms.word (Lms.public_of s)) _ (LmsLaws.secret_formed s)

pub secret_limited : (s : HashBasedSecret) → (1 ≤ leaves_of s) × (leaves_of s < 2 ^ 32)
secret_limited (OneTime s) = LmOtsLaws.secret_limited s
secret_limited (Tree s) = LmsLaws.secret_limited s

pub secret_held : (s : HashBasedSecret) (leaf : ℕ) (m : List ℕ) → leaf < leaves_of s → is_held (word_of s) (public_of s) m (signed_by s leaf m) ≡ true
secret_held (OneTime s) leaf m l = or_left _ _ (LmOtsLaws.secret_held s leaf m l)
secret_held (Tree s) leaf m l = or_right (LmOts.is_held Lms.word (Lms.public_of s) m (Lms.signed_by s leaf m)) _ (LmsLaws.secret_held s leaf m l)
