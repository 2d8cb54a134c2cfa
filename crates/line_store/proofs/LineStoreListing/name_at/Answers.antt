use Rattle.std.proofs.Common.{arith, sym, ap, ◌∙◌}
use Rattle.std.proofs.lemmas.List.{get_or_past}
use Rattle.octets.specs.Buffers.{over}
use Rattle.store.proofs.Looking.{name_at_short}
use Rattle.line_store.specs.Texts.{entries_of}
use Rattle.line_store.specs.Held.{text_in}
use Rattle.line_store.proofs.Telling.{is_text_entries}
use Rattle.line_store.proofs.Added.{half_long, read_over}
use Rattle.line_store.proofs.LineStoreListing.name_at.Goals as goal

pub returns-in_err-digits-clause-after : goal.returns-in_err-digits-clause-after
returns-in_err-digits-clause-after c =
    let s = c.args.self.now in
    let told = is_text_entries (text_in s) s.told in
    let n = c.in_err-digits.ensures (entries_of (text_in s)) (told.0 ∙ sym c.text.ensures.text) in
    sym (ap (λ z. over z.0 c.args.out.now) (get_or_past (entries_of (text_in s)) c.args.index _ n))

pub returns-clause-long : goal.returns-clause-long
returns-clause-long c =
    let s = c.args.self.now in
    let told = is_text_entries (text_in s) s.told in
    let n = c.in_ok-digits.ensures (entries_of (text_in s)) (told.0 ∙ sym c.text.ensures.text) in
    let short = name_at_short (entries_of (text_in s)) c.args.index told.1 n.0 in
    (half_long c.in_ok-digits.digits.now _ n.1, omega (arith, half_long c.in_ok-digits.digits.now _ n.1, short.0))

pub returns-clause-after : goal.returns-clause-after
returns-clause-after c =
    let s = c.args.self.now in
    let told = is_text_entries (text_in s) s.told in
    let n = c.in_ok-digits.ensures (entries_of (text_in s)) (told.0 ∙ sym c.text.ensures.text) in
    let short = name_at_short (entries_of (text_in s)) c.args.index told.1 n.0 in
    c.read.ensures ∙ read_over c.args.out.now c.in_ok-digits.digits.now _ n.1 short.1 (omega (arith, short.0, c.fits-out))
