use Rattle.std.proofs.Common.{◌≡◌, ◌≤◌, length, Some, arith, sym, ap, ◌∙◌}
use Rattle.std.proofs.lemmas.Bool.Decides.{nat_tests}
use Rattle.std.specs.Option.{option_copied, option_map}
use Rattle.octets.specs.Hex.{hex}
use Rattle.line_store.specs.Texts.{entries_of}
use Rattle.line_store.specs.Held.{text_in, meaning_of}
use Rattle.line_store.proofs.Telling.{is_text_entries}
use Rattle.line_store.proofs.Added.{digits_found, half_long, read_over}
use Rattle.line_store.proofs.LineStoreStore.get.Goals as goal

pub returns-clause-long : goal.returns-clause-long
returns-clause-long c =
    let s = c.args.self.now in
    let found : Some c.in_ok-digits.digits.now ≡ option_map hex (meaning_of s c.args.name.now) = ap option_copied (sym c.in_ok-digits.ensures.ok_part) ∙ c.find.ensures in
    let d = digits_found (entries_of (text_in s)) c.args.name.now c.in_ok-digits.digits.now (is_text_entries (text_in s) s.told).1 found in
    let space : 32768 ≤ length c.args.out.now = grind (arith, nat_tests) in
    (half_long c.in_ok-digits.digits.now _ d.is, omega (arith, half_long c.in_ok-digits.digits.now _ d.is, d.short))

pub returns-clause-after : goal.returns-clause-after
returns-clause-after c =
    let s = c.args.self.now in
    let found : Some c.in_ok-digits.digits.now ≡ option_map hex (meaning_of s c.args.name.now) = ap option_copied (sym c.in_ok-digits.ensures.ok_part) ∙ c.find.ensures in
    let d = digits_found (entries_of (text_in s)) c.args.name.now c.in_ok-digits.digits.now (is_text_entries (text_in s) s.told).1 found in
    let space : 32768 ≤ length c.args.out.now = grind (arith, nat_tests) in
    c.read.ensures ∙ read_over c.args.out.now c.in_ok-digits.digits.now _ d.is d.bytes (omega (arith, d.short))
