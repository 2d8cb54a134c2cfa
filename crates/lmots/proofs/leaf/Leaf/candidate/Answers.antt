use Rattle.std.proofs.Common.{◌≡◌, ◌/◌, [], length, get_or, take, drop, ap, ◌∙◌, arith}
use Rattle.std.specs.Simd.{first_chunks}
use Rattle.sha256.specs.Sha256.{bytes, sha256}
use Rattle.lmots.specs.LmOts.{Q, candidate}
use Rattle.lmots.proofs.Advanced.{checked}
use Rattle.lmots.proofs.Valued.{chunk_of_32}
use Rattle.lmots.proofs.leaf.Leaf.candidate.Goals as goal

pub returns : goal.returns
unfolding candidate
returns c =
    let I = bytes c.args.self.id in
    let q = c.args.self.number in
    let m = c.args.message.now in
    let parts = c.args.parts.now in
    let l : length parts ≡ 1120 = omega arith in
    let rest = c.split_at.result.1.now in
    let n : length rest / 32 ≡ 34 = omega (arith, c.split_at.ensures.back_len) in
    let values : c.copy_from_slice.new.self ≡ first_chunks 32 34 (drop 32 parts) =
    c.copy_from_slice.ensures.after ∙ c.as_chunks.ensures.front ∙ ap (λ k. first_chunks 32 k rest) n ∙ ap (first_chunks 32 34) c.split_at.ensures.back in
    let hash : c.message_hash.result ≡ Q sha256 I q (take 32 parts) m = c.message_hash.ensures ∙ ap (λ v. Q sha256 I q v m) c.split_at.ensures.front in (
      l,
      c.gather.ensures _
          (checked sha256 I q m (take 32 parts) (drop 32 parts) c.message_hash.result c.digits-begins.result _ _ hash c.digits-begins.ensures
          (λ i h. ap (λ v. get_or v i []) values ∙ chunk_of_32 34 i (drop 32 parts) h) c.advance-ended.ensures),
    )
