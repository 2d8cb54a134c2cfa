use Rattle.std.proofs.Common.{rules, ◌≡◌, ◌<◌, [], length, refl, ap, ◌∙◌, arith}
use Rattle.octets.specs.Buffers.{over}
use Rattle.store.proofs.Looking.{name_at_short}
use Rattle.store.specs.Entries.{name_at}
use Rattle.table_store.specs.Held.{entries_of}
use Rattle.table_store.proofs.TableStoreListing.name_at.Goals as goal

pub returns-clause-long : goal.returns-clause-long
returns-clause-long c =
    let s = c.args.self.now in
    let there : (c.args.index < length (entries_of s)) × (c.in_ok-name.name.now ≡ name_at (entries_of s) c.args.index) = search (rules) in
    let short = (name_at_short (entries_of s) c.args.index s.told there.0).0 in
    (ap length there.1, omega (arith, ap length there.1))

pub returns-clause-after : goal.returns-clause-after
returns-clause-after c =
    let s = c.args.self.now in
    let there : (c.args.index < length (entries_of s)) × (c.in_ok-name.name.now ≡ name_at (entries_of s) c.args.index) = search (rules) in
    let short = (name_at_short (entries_of s) c.args.index s.told there.0).0 in
    c.put.ensures.written [] c.args.out.now refl refl (omega (arith, ap length there.1)) ∙ ap (λ z. over z c.args.out.now) there.1
