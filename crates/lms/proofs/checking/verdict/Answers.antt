use Rattle.std.proofs.Common.{◌≡◌, ℕ, ◌+◌, ◌-◌, ◌*◌, ◌≤◌, List, length, get_or, take, drop, sym, ap, ◌∙◌, arith, length-drop, ltb-false, ltb-true}
use Rattle.std.proofs.lemmas.List.{take_rest}
use Rattle.std.proofs.lemmas.Bool.{both_ways}
use Rattle.octets.specs.Numbers.{number}
use Rattle.octets.proofs.Numbered.{number-drop}
use Rattle.sha256.specs.Sha256.{sha256}
use Rattle.lms.specs.Kinds.{type_number}
use Rattle.lms.specs.Lms.{known, height}
use Rattle.lms.specs.KeyedLemmas.{kind_known}
use Rattle.lms.proofs.Verdicts.{Fit, refused, accepted, fit_suits, suits_fit, suits_parts}
use Rattle.lms.proofs.checking.verdict.Goals as goal

pub returns-in_default : goal.returns-in_default
returns-in_default c = refused sha256 _ _ _ (λ f. omega (arith, ltb-true, ltb-false, f.long))

pub returns-in_default-signature : goal.returns-in_default-signature
returns-in_default-signature c = refused sha256 _ _ _ (λ f. omega (arith, ltb-true, ltb-false, f.whole))

pub returns-in_default-try_from : goal.returns-in_default-try_from
returns-in_default-try_from c =
    let e : c.from_be_bytes.result ≡ number c.args.key.now = c.from_be_bytes.ensures in
    refused sha256 _ _ _ (λ f. both_ways (known c.from_be_bytes.result) c.in_default-try_from.ensures.1 (ap known e ∙ f.kind))

pub returns-then-leading_number-ne-TYPE : goal.returns-then-leading_number-ne-TYPE
returns-then-leading_number-ne-TYPE c =
    let key = c.args.key.now in
    let k = take_rest key 4 in
    let l = length-drop 4 key in
    refused sha256 _ _ _ (λ f. let n : c.leading_number.result ≡ 4 = c.leading_number.ensures ∙ ap number k ∙ f.under in let w = f.long in let a = ap length k in grind arith)

-- `parts` stands here in full: with `_` in its place the crate proves, but its library's statements cannot be written
pub leads-requires : goal.leads-requires
leads-requires c =
    let parts : List ℕ = take (length c.args.signature.now - 8) (drop 8 c.args.signature.now) in
    let s = suits_parts (type_number c.in-Ok.kind) c.from_be_bytes-leaf.result c.from_be_bytes-one_time.result parts (sym c.suits.ensures ∙ c.if-suits.true) in
    let key = c.args.key.now in
    let sig = c.args.signature.now in
    let whole : length key ≡ 56 = omega (arith, ltb-true, ltb-false, ap length (take_rest key 4), length-drop 4 key) in
    let long : length sig ≡ 1132 + 32 * height (type_number c.in-Ok.kind) = omega (arith, s.1, ltb-true, ltb-false, ap length (take_rest sig 8), length-drop 8 sig) in
    record { key = whole; long = long; below = s.0 }

-- a number that four bytes in a signature write
one_time : (sig : List ℕ) → get_or sig 4 0 * 16777216 + get_or sig 5 0 * 65536 + get_or sig 6 0 * 256 + get_or sig 7 0 ≡ number (drop 4 sig)
one_time sig = sym (number-drop sig 4)

pub returns-then-suits : goal.returns-then-suits
returns-then-suits c =
    let key = c.args.key.now in
    let sig = c.args.signature.now in
    let k = take_rest key 4 in
    let s = take_rest sig 8 in
    let kind : type_number c.in-Ok.kind ≡ number key = c.in-Ok.ensures ∙ c.from_be_bytes.ensures in
    let leaf : c.from_be_bytes-leaf.result ≡ number sig = c.from_be_bytes-leaf.ensures in
    let under : number (drop 4 key) ≡ 4 = sym (ap number k) ∙ sym c.leading_number.ensures ∙ (omega arith) in
    let long : length key ≡ 56 = omega (arith, ltb-true, ltb-false, ap length k, length-drop 4 key) in
    let some : 8 ≤ length sig = omega (arith, ltb-true, ltb-false) in
    let f : Fit key sig = suits_fit key sig _ _ _ _ kind leaf (c.from_be_bytes-one_time.ensures ∙ one_time sig) s some (kind_known c.in-Ok.kind).0 under long (sym c.suits.ensures ∙ c.if-suits.true) in
    accepted sha256 key c.args.message.now sig _ _ c.leads.result f kind leaf c.leads.ensures

pub returns-else-suits : goal.returns-else-suits
returns-else-suits c =
    let key = c.args.key.now in
    let sig = c.args.signature.now in
    let s = take_rest sig 8 in
    let kind : type_number c.in-Ok.kind ≡ number key = c.in-Ok.ensures ∙ c.from_be_bytes.ensures in
    let leaf : c.from_be_bytes-leaf.result ≡ number sig = c.from_be_bytes-leaf.ensures in
    let some : 8 ≤ length sig = omega (arith, ltb-true, ltb-false) in
    c.if-suits.false
    ∙ refused sha256 key c.args.message.now sig (λ f. both_ways _ (sym c.suits.ensures ∙ c.if-suits.false) (fit_suits key sig _ _ _ _ kind leaf (c.from_be_bytes-one_time.ensures ∙ one_time sig) s some f))
