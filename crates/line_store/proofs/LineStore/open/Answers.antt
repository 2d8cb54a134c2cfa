use Rattle.std.proofs.Common.{take, refl, ap}
use Rattle.store.specs.Entries.{look_up}
use Rattle.line_store.proofs.Telling.{told_is_text, told_entries}
use Rattle.line_store.proofs.LineStore.open.Goals as goal

pub invariant_of-self : goal.invariant_of-self
invariant_of-self c =
    let told = c.in_ok-check.ensures.1 in
    record { within = c.in_ok-check.ensures.0; told = told_is_text _ told.0 told.1.0 told.1.1 }

pub returns : goal.returns
returns c =
    let told = c.in_ok-check.ensures.1 in
    record { used_is = refl; kept = refl; within = c.in_ok-check.ensures.0; told = told; means = λ es e s. ap look_up (told_entries (take c.args.used c.args.self.now.buffer.now) es e s) }
