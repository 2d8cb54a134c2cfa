-- LM-OTS as a signature scheme: its keytype, and what holds under it.
use Rattle.std.specs.Prelude.{ℕ, Bool, ◌&&◌, List, codes}
use Rattle.std.specs.Str.{bytes_eq}
use Rattle.sha256.specs.Sha256.{bytes, sha256}
use Rattle.lmots.specs.declared.secret.OneTimeSecret.{OneTimeSecret}
use Rattle.lmots.specs.LmOts.{well_formed, holds, public_key, signature}

abbrev pub word : List ℕ
word = codes "lmots"

abbrev pub is_formed : List ℕ → List ℕ → Bool
is_formed w key = bytes_eq w word && well_formed key

abbrev pub is_held : List ℕ → List ℕ → List ℕ → List ℕ → Bool
is_held w key m sig = bytes_eq w word && holds sha256 key m sig

-- the public key of a secret, and its signature by a leaf over a message
abbrev pub public_of : OneTimeSecret → List ℕ
public_of s = public_key sha256 (bytes s.material.id) 0 (bytes s.material.seed)

abbrev pub signed_by : OneTimeSecret → ℕ → List ℕ → List ℕ
signed_by s leaf m = signature sha256 (bytes s.material.id) leaf (bytes s.material.seed) m
