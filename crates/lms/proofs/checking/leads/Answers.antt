use Rattle.std.proofs.Common.{◌≡◌, ◌+◌, ◌-◌, ◌/◌, List, ℕ, length, take, drop, ap, ◌∙◌, arith, length-drop}
use Rattle.std.specs.Str.{bytes_eq}
use Rattle.std.proofs.lemmas.List.{take_rest}
use Rattle.octets.specs.Parts.{cut}
use Rattle.sha256.specs.Sha256.{bytes, sha256}
use Rattle.lms.specs.Kinds.{type_number}
use Rattle.lms.specs.Lms.{height, root}
use Rattle.lms.proofs.Rooted.{rooted}
use Rattle.lms.proofs.checking.leads.Goals as goal

pub returns : goal.returns
returns c =
    let key = c.args.key.now in
    let sig = c.args.signature.now in
    let q = c.args.leaf in
    let m = c.args.message.now in
    let h = height (type_number c.args.kind) in
    let id : bytes c.id_words-id.result ≡ cut 8 16 key = c.id_words-id.ensures ∙ c.in-Some.ensures.cases.same ∙ ap (take 16) (take_rest key 8) in
    let path : List ℕ = take (length sig - 1132) (drop 1132 sig) in
    let rest : path ≡ drop 1132 sig = take_rest sig 1132 in
    let levels : length path / 32 ≡ h = omega (arith, ap length rest, length-drop 1132 sig, c.requires.long) in
    let r : c.climb-root.result ≡ root sha256 h (cut 8 16 key) q m (cut 8 1120 sig) (drop 1132 sig) =
    rooted sha256 (cut 8 16 key) (bytes c.id_words-id.result) c.in-Some-candidate.leaf_key c.leaf_node-bottom.result c.climb-root.result m (cut 8 1120 sig) (drop 1132 sig) path
    h (length path / 32) q _ id c.in-Some-candidate.ensures.1 (ap (λ v. v + q) c.leaves.ensures.is) levels rest c.leaf_node-bottom.ensures c.climb-root.ensures in
    c.eq.ensures ∙ ap (λ v. bytes_eq v (take (length key - 24) (drop 24 key))) (c.as_slice.ensures ∙ r)
    ∙ ap (bytes_eq (root sha256 h (cut 8 16 key) q m (cut 8 1120 sig) (drop 1132 sig))) (take_rest key 24)
