-- LM-OTS and LMS as one scheme: the keytype tells which of the two is meant.
use Rattle.std.specs.Prelude.{ℕ, Bool, cond, ◌||◌, List}
use Rattle.std.specs.Str.{bytes_eq}
use Rattle.lmots.specs.Keyed as LmOts
use Rattle.lms.specs.Keyed as Lms
use Rattle.lms.specs.Lms.{signature_size}
use Rattle.hash_based.specs.declared.secret.HashBasedSecret.{HashBasedSecret}
use Rattle.hash_based.specs.declared.secret.HashBasedSecret.TheVariants.{OneTime, Tree}

abbrev pub is_formed : List ℕ → List ℕ → Bool
is_formed w key = LmOts.is_formed w key || Lms.is_formed w key

abbrev pub size_of : List ℕ → List ℕ → ℕ
size_of w key = cond (bytes_eq w Lms.word) (signature_size key) 1124

abbrev pub is_held : List ℕ → List ℕ → List ℕ → List ℕ → Bool
is_held w key m sig = LmOts.is_held w key m sig || Lms.is_held w key m sig

abbrev pub word_of : HashBasedSecret → List ℕ
word_of (OneTime s) = LmOts.word
word_of (Tree s) = Lms.word

abbrev pub public_of : HashBasedSecret → List ℕ
public_of (OneTime s) = LmOts.public_of s
public_of (Tree s) = Lms.public_of s

abbrev pub leaves_of : HashBasedSecret → ℕ
leaves_of (OneTime s) = 1
leaves_of (Tree s) = Lms.leaves_of s

abbrev pub signed_by : HashBasedSecret → ℕ → List ℕ → List ℕ
signed_by (OneTime s) leaf m = LmOts.signed_by s leaf m
signed_by (Tree s) leaf m = Lms.signed_by s leaf m
