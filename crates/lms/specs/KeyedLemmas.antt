-- The laws of LMS as a signature scheme.
use Rattle.std.specs.Prelude.{◌≡◌, ℕ, ◌+◌, ◌*◌, ◌^◌, ◌<◌, ◌≤◌, Bool, true, ◌&&◌, List, length, drop, ◌==◌, nat_lt, refl}
use Rattle.std.proofs.Common.{ap, ◌∙◌, arith}
use Rattle.std.specs.Str.{bytes_eq}
use Rattle.std.proofs.lemmas.Bool.{and_parts, and_from, eqb-true, eq-eqb, cond_both}
use Rattle.octets.specs.Numbers.{number}
use Rattle.octets.specs.Parts.{cut}
use Rattle.octets.proofs.Numbered.{number-u32}
use Rattle.sha256.specs.Sha256.{bytes, sha256}
use Rattle.sha256.proofs.Sizes.{sized, small, length-bytes}
use Rattle.scheme.specs.Keytypes.{is_keytype}
use Rattle.lmots.specs.KeyedLemmas.{keytype_from}
use Rattle.lms.specs.declared.kind.LmsType.{LmsType}
use Rattle.lms.specs.declared.kind.LmsType.TheVariants.{Sha256M32H5, Sha256M32H10}
use Rattle.lms.specs.declared.secret.TreeSecret.{TreeSecret}
use Rattle.lms.specs.Keyed.{word, is_formed, is_held, public_of, leaves_of, signed_by}
use Rattle.lms.specs.Kinds.{type_number}
use Rattle.lms.specs.Lms.{known, height, well_formed, signature_size, root, holds, public_key, signature}
use Rattle.lms.specs.Climbing as Climbing

pub formed_bounded : (w k : List ℕ) → is_formed w k ≡ true → (is_keytype w ≡ true) × (1 ≤ length k) × (length k ≤ 64)
formed_bounded w k h =
    let a = and_parts (bytes_eq w word) (well_formed k) h in
    let b = and_parts (known (number k)) (number (drop 4 k) == 4 && length k == 56) a.1 in
    let l : length k ≡ 56 = eqb-true _ _ (and_parts (number (drop 4 k) == 4) (length k == 56) b.1).1 in
    (keytype_from w word a.0 refl, omega arith, omega arith)

pub size_short : (k : List ℕ) → (1 ≤ signature_size k) × (signature_size k ≤ 2560)
size_short k = cond_both (number k == 5) 5 10 (λ h. (1 ≤ 1132 + 32 * h) × (1132 + 32 * h ≤ 2560)) (λ _. (omega arith, omega arith)) (λ _. (omega arith, omega arith))

pub formed_short : (w k : List ℕ) → is_formed w k ≡ true → (1 ≤ signature_size k) × (signature_size k ≤ 2560)
formed_short w k h = size_short k

pub held_exact : (w k m z : List ℕ) → is_held w k m z ≡ true → (is_formed w k ≡ true) × (length z ≡ signature_size k)
unfolding holds
held_exact w k m z h =
    let e : Bool = bytes_eq (root sha256 (height (number k)) (cut 8 16 k) (number z) m (cut 8 1120 z) (drop 1132 z)) (drop 24 k) in
    let a = and_parts (bytes_eq w word) (holds sha256 k m z) h in
    let b = and_parts (well_formed k) (number (drop 4 z) == number (drop 4 k) && (number (drop 1128 z) == number k && (nat_lt (number z) (2 ^ height (number k)) && (length z == signature_size k && e)))) a.1 in
    let c = and_parts (number (drop 4 z) == number (drop 4 k)) (number (drop 1128 z) == number k && (nat_lt (number z) (2 ^ height (number k)) && (length z == signature_size k && e))) b.1 in
    let d = and_parts (number (drop 1128 z) == number k) (nat_lt (number z) (2 ^ height (number k)) && (length z == signature_size k && e)) c.1 in
    let f = and_parts (nat_lt (number z) (2 ^ height (number k))) (length z == signature_size k && e) d.1 in
    (and_from _ _ a.0 b.0, eqb-true _ _ (and_parts (length z == signature_size k) e f.1).0)

-- the types that there are
pub kind_known : (t : LmsType) → (known (type_number t) ≡ true) × (type_number t < 2 ^ 32) × (1 ≤ 2 ^ height (type_number t)) × (2 ^ height (type_number t) < 2 ^ 32)
kind_known Sha256M32H5 = (refl, omega arith, omega arith, omega arith)
kind_known Sha256M32H10 = (refl, omega arith, omega arith, omega arith)

module _ (t : LmsType) (I SEED : List ℕ) (hI : length I ≡ 16) where
  number_own : number (public_key sha256 (type_number t) I SEED) ≡ type_number t
  unfolding public_key
  number_own = number-u32 (type_number t) (kind_known t).1

  pub size_own : signature_size (public_key sha256 (type_number t) I SEED) ≡ 1132 + 32 * height (type_number t)
  size_own = ap (λ v. 1132 + 32 * height v) number_own

  pub own_formed : is_formed word (public_key sha256 (type_number t) I SEED) ≡ true
  unfolding public_key
  own_formed = and_from _ _ (ap known number_own ∙ (kind_known t).0) (eq-eqb _ _ (Climbing.length-key sha256 sized small (type_number t) I SEED hI))

  pub signed_held : (q : ℕ) (m : List ℕ) → q < 2 ^ height (type_number t) → is_held word (public_key sha256 (type_number t) I SEED) m (signature sha256 (type_number t) I SEED q m) ≡ true
  signed_held q m h =
      let k = kind_known t in
      let w = k.3 in
      Climbing.complete sha256 sized small (type_number t) I SEED q m k.0 k.1 (omega arith) hI h

-- of a secret
pub secret_formed : (s : TreeSecret) → is_formed word (public_of s) ≡ true
secret_formed s = own_formed s.kind (bytes s.material.id) (bytes s.material.seed) (omega (arith, length-bytes s.material.id, s.material.whole))

pub secret_limited : (s : TreeSecret) → (1 ≤ leaves_of s) × (leaves_of s < 2 ^ 32)
secret_limited s = ((kind_known s.kind).2, (kind_known s.kind).3)

pub secret_held : (s : TreeSecret) (leaf : ℕ) (m : List ℕ) → leaf < leaves_of s → is_held word (public_of s) m (signed_by s leaf m) ≡ true
secret_held s leaf m l = signed_held s.kind (bytes s.material.id) (bytes s.material.seed) (omega (arith, length-bytes s.material.id, s.material.whole)) leaf m l
