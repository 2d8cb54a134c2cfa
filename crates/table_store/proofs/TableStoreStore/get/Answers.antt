use Rattle.std.proofs.Common.{◌≡◌, ◌≤◌, [], length, is_some, Some, sym, refl, ap, ◌∙◌, arith}
use Rattle.std.proofs.lemmas.Bool.Decides.{nat_tests}
use Rattle.std.specs.Option.{option_copied}
use Rattle.octets.specs.Buffers.{over}
use Rattle.store.specs.Meanings.{body_of}
use Rattle.store.proofs.Looking.{body_is}
use Rattle.table_store.specs.Held.{entries_of, meaning_of}
use Rattle.table_store.proofs.TableStoreStore.get.Goals as goal

pub returns-clause-long : goal.returns-clause-long
returns-clause-long c =
    let s = c.args.self.now in
    let found : Some c.in_ok-body.body.now ≡ meaning_of s c.args.name.now = ap option_copied (sym c.in_ok-body.ensures.ok_part) ∙ c.find.ensures in
    let small = (body_is (entries_of s) s.told c.args.name.now (sym (ap is_some found))).0 in
    let space : 32768 ≤ length c.args.out.now = grind (arith, nat_tests) in
    (ap (λ z. length (body_of z)) found, omega (arith, ap (λ z. length (body_of z)) found))

pub returns-clause-after : goal.returns-clause-after
returns-clause-after c =
    let s = c.args.self.now in
    let found : Some c.in_ok-body.body.now ≡ meaning_of s c.args.name.now = ap option_copied (sym c.in_ok-body.ensures.ok_part) ∙ c.find.ensures in
    let small = (body_is (entries_of s) s.told c.args.name.now (sym (ap is_some found))).0 in
    let space : 32768 ≤ length c.args.out.now = grind (arith, nat_tests) in
    c.put.ensures.written [] c.args.out.now refl refl (omega (arith, ap (λ z. length (body_of z)) found)) ∙ ap (λ z. over (body_of z) c.args.out.now) found
