use Rattle.std.proofs.Common.{rules, ◌≡◌, ℕ, ◌<◌, ◌/◌, ◌%◌, length, get_or, [], ◌∷◌, ◌∙◌, arith}
use Rattle.sha256.proofs.Hashing.{words_flattened}
use Rattle.lmots.proofs.words.id_bytes.Goals as goal

pub returns : goal.returns
returns c =
    let s = c.args.id in
    let r = c.map-parts.result in
    let hs : length s ≡ 4 = grind arith in
    let hr : length r ≡ length s = omega (arith, c.map-parts.ensures.items.long) in
    let each : (i : ℕ) → i < length s → get_or r i [] ≡ (get_or s i 0 / 16777216 % 256) ∷ (get_or s i 0 / 65536 % 256) ∷ (get_or s i 0 / 256 % 256) ∷ (get_or s i 0 % 256) ∷ [] = λ i l. let call = c.map-parts.ensures.items.at i 0 [] (omega arith) in search rules in
    c.copy_from_slice.ensures.after ∙ c.as_flattened.ensures.value ∙ words_flattened s r hr each
