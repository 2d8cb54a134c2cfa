use Rattle.std.proofs.Common.{◌≡◌, ◌+◌, ◌-◌, length, ap, ◌∙◌, arith}
use borrow.Rule.Slice.PartMut.{put_mid}
use Rattle.octets.specs.Buffers.{over}
use Rattle.octets.proofs.Overs.{over_put}
use Rattle.octets.proofs.buffer.put.Goals as goal

pub returns-then-part-buffer : goal.returns-then-part-buffer
returns-then-part-buffer c =
    let at = c.args.at in
    let part = c.args.part.now in
    let n = at + length part - at in
    let copy = c.copy_from_slice.new.self in
    let e : copy ≡ part = c.copy_from_slice.ensures.after in
    record {
      written = λ done old b l h.
          ap (λ z. put_mid at n z copy) b ∙ ap (put_mid at n (over done old)) e ∙ over_put done part old at n l (omega arith);
      kept = λ h. absurd (omega arith);
    }
