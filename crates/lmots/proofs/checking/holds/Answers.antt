use Rattle.std.proofs.Common.{◌≡◌, ◌+◌, ◌-◌, length, take, drop, ap, arith, length-drop, ltb-false, ltb-true}
use Rattle.std.proofs.lemmas.List.{take_rest}
use Rattle.octets.specs.Numbers.{number}
use Rattle.sha256.specs.Sha256.{sha256}
use Rattle.lmots.proofs.Verdicts.{refused, decided, behind_four}
use Rattle.lmots.proofs.checking.holds.Goals as goal

pub returns-in_default : goal.returns-in_default
returns-in_default c = refused sha256 _ _ _ (λ t. omega (arith, ltb-true, ltb-false))

pub returns-in_default-signature : goal.returns-in_default-signature
returns-in_default-signature c = refused sha256 _ _ _ (λ t. omega (arith, ltb-true, ltb-false))

pub returns-then-key_type-ne-TYPE : goal.returns-then-key_type-ne-TYPE
returns-then-key_type-ne-TYPE c =
    refused sha256 _ _ _ (λ t. let a = c.from_be_bytes-key_type.ensures in let b = c.from_be_bytes-signature_type.ensures in grind arith)

pub returns : goal.returns
returns c =
    let key = c.args.key.now in
    let sig = c.args.signature.now in
    let k : number key ≡ 4 = omega arith in
    let s : number sig ≡ number key = omega arith in
    let ek = take_rest key 4 in
    let es = take_rest sig 4 in
    let lk : length key ≡ length (take (length key - 4) (drop 4 key)) + 4 = omega (arith, ltb-true, ltb-false, ap length ek, length-drop 4 key) in
    let ls : length sig ≡ length (take (length sig - 4) (drop 4 sig)) + 4 = omega (arith, ltb-true, ltb-false, ap length es, length-drop 4 sig) in
    decided sha256 key c.args.message.now sig _ _ c.yields.result ek es k s
    (behind_four _ _ 56 52 lk (omega arith)) (behind_four _ _ 1124 1120 ls (omega arith)) c.yields.ensures
