use Rattle.std.proofs.Common.{◌≤◌, ◌-◌, drop, [], ◌∷◌, ◌++◌, length, sym, refl, ap, ◌∙◌, arith}
use Rattle.std.proofs.lemmas.List.{length-append, length-drop, length-take-le, append_assoc}
use Rattle.octets.specs.Buffers.{over}
use Rattle.octets.specs.Hex.{hex}
use Rattle.octets.proofs.Hexed.{length-hex}
use Rattle.octets.proofs.Overs.{length_over}
use Rattle.line_store.proofs.Added.{over_behind}
use Rattle.line_store.proofs.writing.write_line.Goals as goal

pub write_digits-requires : goal.write_digits-requires
write_digits-requires c =
    let s = c.write_digits-start.ensures in
    let long = length-append (hex c.args.name.now) (0x20 ∷ []) in
    let digits = length-hex c.args.name.now in
    let same = ap length s.after ∙ length_over (hex c.args.name.now ++ 0x20 ∷ []) c.args.out.now (omega (arith, c.requires)) in
    omega (
      arith,
      s.long,
      c.requires,
      length-drop c.write_digits-start.result c.write_digits-start.new.out,
      length-take-le (length c.write_digits-start.new.out - c.write_digits-start.result) (drop c.write_digits-start.result c.write_digits-start.new.out) (omega (arith, length-drop c.write_digits-start.result c.write_digits-start.new.out)),
    )

pub returns-clause-long : goal.returns-clause-long
returns-clause-long c =
    let name = c.args.name.now in
    let body = c.args.body.now in
    omega (arith, c.write_digits-start.ensures.long, c.write_digits.ensures.long, length-append (hex name) (0x20 ∷ []), length-append (hex body) (0x0a ∷ []), length-hex name, length-hex body)

pub returns-clause-after : goal.returns-clause-after
returns-clause-after c =
    let name = c.args.name.now in
    let body = c.args.body.now in
    let out = c.args.out.now in
    let s = c.write_digits-start.ensures in
    let short : c.write_digits-start.result ≤ length out = omega (arith, s.long, c.requires, length-append (hex name) (0x20 ∷ []), length-hex name) in
    over_behind c.write_digits-start.new.out (hex name ++ 0x20 ∷ []) (hex body ++ 0x0a ∷ []) out c.write_digits.new.out c.write_digits-start.result _ s.after (sym s.long) short refl c.write_digits.ensures.after
    ∙ ap (λ z. over z out) (append_assoc (hex name) (0x20 ∷ []) (hex body ++ 0x0a ∷ []))
