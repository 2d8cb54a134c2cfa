-- The laws of LM-OTS as a signature scheme.
use Rattle.std.specs.Prelude.{◌≡◌, ℕ, ◌^◌, ◌<◌, ◌≤◌, true, ◌&&◌, List, length, drop, ◌==◌, refl}
use Rattle.std.proofs.Common.{sym, ap, subst, ◌∙◌, arith}
use Rattle.std.specs.Str.{bytes_eq}
use Rattle.std.proofs.lemmas.Slice.Eq.{bytes_eq-Decides}
use Rattle.std.proofs.lemmas.Bool.{and_parts, and_from, eqb-true, eq-eqb}
use Rattle.octets.specs.Numbers.{number}
use Rattle.sha256.specs.Sha256.{bytes, sha256}
use Rattle.sha256.proofs.Sizes.{sized, small, length-bytes}
use Rattle.scheme.specs.Keytypes.{is_keytype}
use Rattle.lmots.specs.declared.secret.OneTimeSecret.{OneTimeSecret}
use Rattle.lmots.specs.LmOts.{well_formed, agrees, holds, public_key, signature}
use Rattle.lmots.specs.Keyed.{word, is_formed, is_held, public_of, signed_by}
use Rattle.lmots.specs.Law as Law

-- what the same bytes are told of is told of each
pub keytype_from : (w v : List ℕ) → bytes_eq w v ≡ true → is_keytype v ≡ true → is_keytype w ≡ true
keytype_from w v e h = subst (λ x. is_keytype x ≡ true) (sym ((bytes_eq-Decides w v).0 e)) h

pub formed_bounded : (w k : List ℕ) → is_formed w k ≡ true → (is_keytype w ≡ true) × (1 ≤ length k) × (length k ≤ 64)
formed_bounded w k h =
    let a = and_parts (bytes_eq w word) (well_formed k) h in
    let l : length k ≡ 56 = eqb-true _ _ (and_parts (number k == 4) (length k == 56) a.1).1 in
    (keytype_from w word a.0 refl, omega arith, omega arith)

pub formed_short : (w k : List ℕ) → is_formed w k ≡ true → (1 ≤ 1124) × (1124 ≤ 2560)
formed_short w k h = (omega arith, omega arith)

pub held_exact : (w k m z : List ℕ) → is_held w k m z ≡ true → (is_formed w k ≡ true) × (length z ≡ 1124)
unfolding holds
held_exact w k m z h =
    let a = and_parts (bytes_eq w word) (holds sha256 k m z) h in
    let b = and_parts (well_formed k) (number z == number k && (length z == 1124 && agrees sha256 (drop 4 k) m (drop 4 z))) a.1 in
    let c = and_parts (number z == number k) (length z == 1124 && agrees sha256 (drop 4 k) m (drop 4 z)) b.1 in
    let d = and_parts (length z == 1124) (agrees sha256 (drop 4 k) m (drop 4 z)) c.1 in
    (and_from _ _ a.0 b.0, eqb-true _ _ d.0)

pub own_formed : (I : List ℕ) (q : ℕ) (SEED : List ℕ) → length I ≡ 16 → is_formed word (public_key sha256 I q SEED) ≡ true
unfolding public_key
own_formed I q SEED h = eq-eqb _ _ (Law.length-key sha256 sized small I q SEED h)

pub signed_held : (I : List ℕ) (q leaf : ℕ) (SEED m : List ℕ) → length I ≡ 16 → q < 2 ^ 32 → leaf ≡ q → is_held word (public_key sha256 I q SEED) m (signature sha256 I leaf SEED m) ≡ true
signed_held I q leaf SEED m hI hq e =
    ap (λ v. holds sha256 (public_key sha256 I q SEED) m (signature sha256 I v SEED m)) e ∙ Law.complete sha256 sized small I q SEED m hI hq

-- of a secret
pub secret_formed : (s : OneTimeSecret) → is_formed word (public_of s) ≡ true
secret_formed s = own_formed (bytes s.material.id) 0 (bytes s.material.seed) (omega (arith, length-bytes s.material.id, s.material.whole))

pub secret_limited : (s : OneTimeSecret) → (1 ≤ 1) × (1 < 2 ^ 32)
secret_limited s = (omega arith, omega arith)

pub secret_held : (s : OneTimeSecret) (leaf : ℕ) (m : List ℕ) → leaf < 1 → is_held word (public_of s) m (signed_by s leaf m) ≡ true
secret_held s leaf m l = signed_held (bytes s.material.id) 0 leaf (bytes s.material.seed) m (omega (arith, length-bytes s.material.id, s.material.whole)) (omega arith) (omega arith)
