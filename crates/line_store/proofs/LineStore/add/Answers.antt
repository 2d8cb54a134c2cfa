use Rattle.std.proofs.Common.{◌≡◌, true, arith}
use Rattle.octets.specs.Buffers.{are_bytes}
use Rattle.octets.proofs.Hexed.{bytes_from}
use Rattle.line_store.specs.Held.{text_in}
use Rattle.line_store.proofs.Added.{text_grown, line_is_text, line_with}
use Rattle.line_store.proofs.LineStore.add.Goals as goal

pub invariant_of-self-clause-told : goal.invariant_of-self-clause-told
invariant_of-self-clause-told c =
    let s = c.args.self.now in
    let name = c.args.name.now in
    let body = c.args.body.now in
    let bytes : are_bytes body ≡ true = bytes_from body (λ i. omega (arith, c.type_inv.body i)) in
    line_is_text (text_in s) _ name body s.told (text_grown s.buffer.now c.write_line.new.out name body s.used c.write_line.result s.within c.write_line.ensures.long c.write_line.ensures.after)
    c.requires.entry_formed.0 c.requires.entry_formed.1 bytes c.requires.name_free

pub returns-clause-meaning : goal.returns-clause-meaning
returns-clause-meaning c =
    let s = c.args.self.now in
    let name = c.args.name.now in
    let body = c.args.body.now in
    let bytes : are_bytes body ≡ true = bytes_from body (λ i. omega (arith, c.type_inv.body i)) in
    line_with (text_in s) _ name body s.told (text_grown s.buffer.now c.write_line.new.out name body s.used c.write_line.result s.within c.write_line.ensures.long c.write_line.ensures.after)
    c.requires.entry_formed.0 c.requires.entry_formed.1 bytes c.requires.name_free
