use Rattle.std.proofs.Common.{◌≡◌, ℕ, ◌*◌, ◌/◌, ◌^◌, ◌<◌, length, get_or, refl, arith, lit<, w32, Fits}
use Rattle.std.proofs.Math.Nat.{div-mul-le_self}
use Rattle.std.proofs.lemmas.Simd.{Each1-get_or}
use Rattle.sha256_lanes.proofs.Four.{below4, listed4}
use Rattle.sha256_lanes.proofs.shifted_right.Goals as goal

pub returns-clause-is : goal.returns-clause-is
returns-clause-is c =
    let h : length c.args.words ≡ 4 = omega arith in
    rw (listed4 c.args.words h) (below4 _ refl refl refl refl)

pub returns-clause-small : goal.returns-clause-small
returns-clause-small c =
    let h : length c.args.words ≡ 4 = omega arith in
    let fits : (i : ℕ) → i < 4 → get_or c.args.words i 0 < 2 ^ 32 = λ i l. (Each1-get_or (Fits w32) c.args.words i 0 (omega arith) c.fits-words.1).fits in
    let at : (i : ℕ) → i < 4 → get_or c.args.words i 0 / 2 ^ c.args.n * 2 ^ c.args.n < 2 ^ 32 = λ i l. omega (arith, div-mul-le_self (get_or c.args.words i 0) (2 ^ c.args.n), fits i l) in
    rw (listed4 c.args.words h)
    (below4 _ (at 0 (lit< tt)) (at 1 (lit< tt)) (at 2 (lit< tt)) (at 3 (lit< tt)))
