use Rattle.std.proofs.Common.{◌≡◌, ◌*◌, ◌/◌, ◌%◌, ◌^◌, ◌<◌, ap, arith}
use Rattle.std.proofs.Math.Nat.{div-mul-le_self}
use Rattle.sha256.proofs.word.U32Word.wrapping_shr.Goals as goal

pub returns-clause-small : goal.returns-clause-small
returns-clause-small c j l =
    let p = 2 ^ (c.args.n % 32) in
    let h : c.args.self < 2 ^ 32 = omega arith in
    let e : c.wrapping_shr.result * p ≡ c.args.self / p * p = ap (λ z. z * p) c.wrapping_shr.ensures in
    omega (arith, e, div-mul-le_self c.args.self p)
