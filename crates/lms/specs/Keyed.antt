-- LMS as a signature scheme: its keytype, and what holds under it.
use Rattle.std.specs.Prelude.{ℕ, ◌^◌, Bool, ◌&&◌, List, codes}
use Rattle.std.specs.Str.{bytes_eq}
use Rattle.sha256.specs.Sha256.{bytes, sha256}
use Rattle.lms.specs.declared.secret.TreeSecret.{TreeSecret}
use Rattle.lms.specs.Kinds.{type_number}
use Rattle.lms.specs.Lms.{height, well_formed, holds, public_key, signature}

abbrev pub word : List ℕ
word = codes "lms"

abbrev pub is_formed : List ℕ → List ℕ → Bool
is_formed w key = bytes_eq w word && well_formed key

abbrev pub is_held : List ℕ → List ℕ → List ℕ → List ℕ → Bool
is_held w key m sig = bytes_eq w word && holds sha256 key m sig

-- the public key of a secret, how many leaves it has, and its signature by a leaf over a message
abbrev pub public_of : TreeSecret → List ℕ
public_of s = public_key sha256 (type_number s.kind) (bytes s.material.id) (bytes s.material.seed)

abbrev pub leaves_of : TreeSecret → ℕ
leaves_of s = 2 ^ height (type_number s.kind)

abbrev pub signed_by : TreeSecret → ℕ → List ℕ → List ℕ
signed_by s leaf m = signature sha256 (type_number s.kind) (bytes s.material.id) (bytes s.material.seed) leaf m
