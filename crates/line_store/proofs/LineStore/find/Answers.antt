use Rattle.std.proofs.Common.{sym, ap, ◌∙◌, arith}
use Rattle.std.proofs.lemmas.List.{length-take-le}
use Rattle.std.specs.Option.{option_map}
use Rattle.octets.specs.Hex.{hex}
use Rattle.octets.proofs.Hexed.{hex_fills}
use Rattle.store.proofs.Looking.{no_name, name_short}
use Rattle.line_store.specs.Texts.{entries_of}
use Rattle.line_store.specs.Held.{text_in}
use Rattle.line_store.proofs.Telling.{is_text_entries}
use Rattle.line_store.proofs.LineStore.find.Goals as goal

pub returns-then-not-is_name : goal.returns-then-not-is_name
returns-then-not-is_name c =
    let s = c.args.self.now in
    ap (option_map hex) (sym (no_name (entries_of (text_in s)) (is_text_entries (text_in s) s.told).1 c.args.name.now (sym c.if-not-is_name.ensures)))

pub returns : goal.returns
returns c =
    let s = c.args.self.now in
    let told = is_text_entries (text_in s) s.told in
    let short = name_short c.args.name.now (sym c.if-not-is_name.ensures) in
    let written = c.write.ensures ∙ hex_fills _ c.args.name.now (length-take-le _ _ (omega arith)) in
    c.find.ensures (entries_of (text_in s)) c.args.name.now (told.0 ∙ sym c.text.ensures.text) (sym written)
