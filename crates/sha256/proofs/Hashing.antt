-- A hasher's bytes: a block's words, and one more byte.
use Rattle.std.proofs.Common.{◌≡◌, ℕ, zero, suc, ◌+◌, ◌-◌, ◌*◌, ◌/◌, ◌%◌, ◌^◌, ◌<◌, ◌≤◌, List, [], ◌∷◌, ◌++◌, length, get_or, take, drop, set, replicate, sym, refl, ap, ◌∙◌, append_assoc, append-nil, arith, length-append, length-drop, length-set}
use Rattle.std.proofs.lemmas.List.{take_all, take-append-le, drop-append-le, take_more_set, nil_from_length, length_push, length-take-le, length-replicate, take-append-drop}
use Rattle.std.specs.List.{flat_map}
use lib.Seq.{take-append-add}
use Rattle.sha256.specs.Sha256.{words, bytes, absorb, compress, IV, pad, zeros, u64str, sha256}
use Rattle.sha256.specs.Hashed.{Holds}
use Rattle.sha256.proofs.Rounds.{listed}

pub cons_same : {x y : ℕ} {xs ys : List ℕ} → x ≡ y → xs ≡ ys → x ∷ xs ≡ y ∷ ys
cons_same {x} {y} {xs} {ys} e f = ap (λ z. z ∷ xs) e ∙ ap (λ zs. y ∷ zs) f

pub block_words_are : (b : List ℕ) → length b ≡ 64 → (x0 x1 x2 x3 x4 x5 x6 x7 x8 x9 x10 x11 x12 x13 x14 x15 : ℕ)
    → x0 ≡ get_or b 0 0 * 16777216 + get_or b 1 0 * 65536 + get_or b 2 0 * 256 + get_or b 3 0
    → x1 ≡ get_or b 4 0 * 16777216 + get_or b 5 0 * 65536 + get_or b 6 0 * 256 + get_or b 7 0
    → x2 ≡ get_or b 8 0 * 16777216 + get_or b 9 0 * 65536 + get_or b 10 0 * 256 + get_or b 11 0
    → x3 ≡ get_or b 12 0 * 16777216 + get_or b 13 0 * 65536 + get_or b 14 0 * 256 + get_or b 15 0
    → x4 ≡ get_or b 16 0 * 16777216 + get_or b 17 0 * 65536 + get_or b 18 0 * 256 + get_or b 19 0
    → x5 ≡ get_or b 20 0 * 16777216 + get_or b 21 0 * 65536 + get_or b 22 0 * 256 + get_or b 23 0
    → x6 ≡ get_or b 24 0 * 16777216 + get_or b 25 0 * 65536 + get_or b 26 0 * 256 + get_or b 27 0
    → x7 ≡ get_or b 28 0 * 16777216 + get_or b 29 0 * 65536 + get_or b 30 0 * 256 + get_or b 31 0
    → x8 ≡ get_or b 32 0 * 16777216 + get_or b 33 0 * 65536 + get_or b 34 0 * 256 + get_or b 35 0
    → x9 ≡ get_or b 36 0 * 16777216 + get_or b 37 0 * 65536 + get_or b 38 0 * 256 + get_or b 39 0
    → x10 ≡ get_or b 40 0 * 16777216 + get_or b 41 0 * 65536 + get_or b 42 0 * 256 + get_or b 43 0
    → x11 ≡ get_or b 44 0 * 16777216 + get_or b 45 0 * 65536 + get_or b 46 0 * 256 + get_or b 47 0
    → x12 ≡ get_or b 48 0 * 16777216 + get_or b 49 0 * 65536 + get_or b 50 0 * 256 + get_or b 51 0
    → x13 ≡ get_or b 52 0 * 16777216 + get_or b 53 0 * 65536 + get_or b 54 0 * 256 + get_or b 55 0
    → x14 ≡ get_or b 56 0 * 16777216 + get_or b 57 0 * 65536 + get_or b 58 0 * 256 + get_or b 59 0
    → x15 ≡ get_or b 60 0 * 16777216 + get_or b 61 0 * 65536 + get_or b 62 0 * 256 + get_or b 63 0
    → x0 ∷ x1 ∷ x2 ∷ x3 ∷ x4 ∷ x5 ∷ x6 ∷ x7 ∷ x8 ∷ x9 ∷ x10 ∷ x11 ∷ x12 ∷ x13 ∷ x14 ∷ x15 ∷ [] ≡ words b
block_words_are b h x0 x1 x2 x3 x4 x5 x6 x7 x8 x9 x10 x11 x12 x13 x14 x15 e0 e1 e2 e3 e4 e5 e6 e7 e8 e9 e10 e11 e12 e13 e14 e15 =
    cons_same e0 (cons_same e1 (cons_same e2 (cons_same e3 (cons_same e4 (cons_same e5 (cons_same e6 (cons_same e7 (cons_same e8 (cons_same e9 (cons_same e10 (cons_same e11 (cons_same e12 (cons_same e13 (cons_same e14 (cons_same e15 (refl))))))))))))))))
    ∙ sym (ap words (listed 64 b h))

-- the front of a list, and the part behind it
pub take_on : (xs : List ℕ) (at k : ℕ) → at ≤ length xs → take at xs ++ take k (drop at xs) ≡ take (at + k) xs
take_on xs at k h =
    sym (ap (take (at + k)) (sym (take-append-drop at xs)) ∙ ap (λ z. take (z + k) (take at xs ++ drop at xs)) (sym (length-take-le at xs h)) ∙ take-append-add (take at xs) (drop at xs) k)

-- a list in three parts, behind others
pub three_parts : (bs xs : List ℕ) (a b : ℕ) → a ≤ b → b ≤ length xs → ((bs ++ take a xs) ++ take (b - a) (drop a xs)) ++ drop b xs ≡ bs ++ xs
three_parts bs xs a b h l =
    append_assoc (bs ++ take a xs) (take (b - a) (drop a xs)) (drop b xs) ∙ append_assoc bs (take a xs) (take (b - a) (drop a xs) ++ drop b xs)
    ∙ ap (λ z. bs ++ z) (sym (append_assoc (take a xs) (take (b - a) (drop a xs)) (drop b xs))
    ∙ ap (λ z. z ++ drop b xs) (take_on xs a (b - a) (omega arith) ∙ ap (λ z. take z xs) (omega arith)) ∙ take-append-drop b xs)

pub absorb_push : (n : ℕ) (h whole blk : List ℕ) → length whole ≡ 64 * n → length blk ≡ 64 → absorb (n + 1) h (whole ++ blk) ≡ compress (absorb n h whole) (words blk)
absorb_push zero h whole blk hw hb =
    ap (λ x. absorb 1 h (x ++ blk)) (nil_from_length whole (omega arith))
    ∙ ap (λ x. compress h (words x)) (take_all 64 blk (omega arith))
absorb_push (suc n) h whole blk hw hb =
    let le : 64 ≤ length whole = omega arith in
    let e : suc n + 1 ≡ suc (n + 1) = omega arith in
    ap (λ k. absorb k h (whole ++ blk)) e
    ∙ ap (λ x. absorb (n + 1) (compress h (words x)) (drop 64 (whole ++ blk))) (take-append-le 64 whole blk le)
    ∙ ap (absorb (n + 1) (compress h (words (take 64 whole)))) (drop-append-le 64 whole blk le)
    ∙ absorb_push n (compress h (words (take 64 whole))) (drop 64 whole) blk (omega (arith, length-drop 64 whole)) hb

count_by : (t k n m : ℕ) → t ≡ n % 2 ^ 64 → m ≡ n + k → (t + k) % 2 ^ 64 ≡ m % 2 ^ 64
count_by t k n m e f = omega arith

count_up : (t n m : ℕ) → t ≡ n % 2 ^ 64 → m ≡ n + 1 → (t + 1) % 2 ^ 64 ≡ m % 2 ^ 64
count_up t n m e f = omega arith

pub one_more : (st block : List ℕ) (f t b : ℕ) (bs : List ℕ) → length block ≡ 64 → f < 63 → Holds st block f t bs → Holds st (set block f b) (f + 1) ((t + 1) % 2 ^ 64) (bs ++ (b ∷ []))
one_more st block f t b bs hb lt w =
    let l : f < length block = omega arith in
    record {
      whole = w.whole;
      count = w.count;
      split = ap (λ x. x ++ (b ∷ [])) w.split ∙ append_assoc w.whole (take f block) (b ∷ []) ∙ ap (λ x. w.whole ++ x) (sym (take_more_set block f b l));
      blocks = w.blocks;
      hashed = w.hashed;
      counted = count_up t (length bs) _ w.counted (length_push bs b);
      long = length-set block f b ∙ hb;
    }

pub block_more : (st st' block : List ℕ) (f t b : ℕ) (bs : List ℕ) → length block ≡ 64 → f ≡ 63 → st' ≡ compress st (words (set block f b)) → Holds st block f t bs → Holds st' (set block f b) 0 ((t + 1) % 2 ^ 64) (bs ++ (b ∷ []))
block_more st st' block f t b bs hb e hs w =
    let l : f < length block = omega arith in
    let full : length (set block f b) ≡ 64 = length-set block f b ∙ hb in
    let all : take f block ++ (b ∷ []) ≡ set block f b = sym (take_more_set block f b l) ∙ take_all (f + 1) (set block f b) (omega arith) in
    record {
      whole = w.whole ++ set block f b;
      count = w.count + 1;
      split = ap (λ x. x ++ (b ∷ [])) w.split ∙ append_assoc w.whole (take f block) (b ∷ []) ∙ ap (λ x. w.whole ++ x) all ∙ sym (append-nil (w.whole ++ set block f b));
      blocks = omega (arith, length-append w.whole (set block f b), w.blocks, full);
      hashed = hs ∙ ap (λ x. compress x (words (set block f b))) w.hashed ∙ sym (absorb_push w.count IV w.whole (set block f b) w.blocks full);
      counted = count_up t (length bs) _ w.counted (length_push bs b);
      long = length-set block f b ∙ hb;
    }

-- a whole block where none is begun
pub whole_more : (st st' block : List ℕ) (f t : ℕ) (blk bs : List ℕ) → f ≡ 0 → length blk ≡ 64 → st' ≡ compress st (words blk) → Holds st block f t bs → Holds st' block f ((t + 64) % 2 ^ 64) (bs ++ blk)
whole_more st st' block f t blk bs ef hb hs w =
    let none : take f block ≡ [] = ap (λ z. take z block) ef in
    record {
      whole = w.whole ++ blk;
      count = w.count + 1;
      split = ap (λ x. x ++ blk) (w.split ∙ ap (λ z. w.whole ++ z) none ∙ append-nil w.whole) ∙ sym (ap (λ z. (w.whole ++ blk) ++ z) none ∙ append-nil (w.whole ++ blk));
      blocks = omega (arith, length-append w.whole blk, w.blocks);
      hashed = hs ∙ ap (λ x. compress x (words blk)) w.hashed ∙ sym (absorb_push w.count IV w.whole blk w.blocks hb);
      counted = count_by t 64 (length bs) (length (bs ++ blk)) w.counted (length-append bs blk ∙ (omega arith));
      long = w.long;
    }

-- the bytes of each word, one after the other
pub words_flattened : (ws : List ℕ) (ps : List (List ℕ)) → length ps ≡ length ws
    → ((i : ℕ) → i < length ws → get_or ps i [] ≡ (get_or ws i 0 / 16777216 % 256) ∷ (get_or ws i 0 / 65536 % 256) ∷ (get_or ws i 0 / 256 % 256) ∷ (get_or ws i 0 % 256) ∷ [])
    → flat_map (λ x. x) ps ≡ bytes ws
words_flattened [] [] h f = refl
words_flattened [] (p ∷ ps) h f = absurd (omega arith)
words_flattened (w ∷ ws) [] h f = absurd (omega arith)
words_flattened (w ∷ ws) (p ∷ ps) h f =
    ap (λ z. z ++ flat_map (λ x. x) ps) (f 0 (omega arith))
    ∙ ap (λ z. (w / 16777216 % 256) ∷ (w / 65536 % 256) ∷ (w / 256 % 256) ∷ (w % 256) ∷ z) (words_flattened ws ps (omega arith) (λ i l. f (suc i) (omega arith)))

bits_are : (t n : ℕ) → t ≡ n % 2 ^ 64 → (t * 8) % 2 ^ 64 ≡ (8 * n) % 2 ^ 64
bits_are t n e = omega arith

digit56 : (m : ℕ) → m % 2 ^ 64 / 72057594037927936 % 256 ≡ m / 72057594037927936 % 256
digit56 m = omega arith

digit48 : (m : ℕ) → m % 2 ^ 64 / 281474976710656 % 256 ≡ m / 281474976710656 % 256
digit48 m = omega arith

digit40 : (m : ℕ) → m % 2 ^ 64 / 1099511627776 % 256 ≡ m / 1099511627776 % 256
digit40 m = omega arith

digit32 : (m : ℕ) → m % 2 ^ 64 / 4294967296 % 256 ≡ m / 4294967296 % 256
digit32 m = omega arith

digit24 : (m : ℕ) → m % 2 ^ 64 / 16777216 % 256 ≡ m / 16777216 % 256
digit24 m = omega arith

digit16 : (m : ℕ) → m % 2 ^ 64 / 65536 % 256 ≡ m / 65536 % 256
digit16 m = omega arith

digit8 : (m : ℕ) → m % 2 ^ 64 / 256 % 256 ≡ m / 256 % 256
digit8 m = omega arith

digit0 : (m : ℕ) → m % 2 ^ 64 % 256 ≡ m % 256
digit0 m = omega arith

u64str_is : (m : ℕ) → (m % 2 ^ 64 / 72057594037927936 % 256) ∷ (m % 2 ^ 64 / 281474976710656 % 256) ∷ (m % 2 ^ 64 / 1099511627776 % 256) ∷ (m % 2 ^ 64 / 4294967296 % 256) ∷ (m % 2 ^ 64 / 16777216 % 256) ∷ (m % 2 ^ 64 / 65536 % 256) ∷ (m % 2 ^ 64 / 256 % 256) ∷ (m % 2 ^ 64 % 256) ∷ [] ≡ u64str m
u64str_is m = cons_same (digit56 m) (cons_same (digit48 m) (cons_same (digit40 m) (cons_same (digit32 m) (cons_same (digit24 m) (cons_same (digit16 m) (cons_same (digit8 m) (cons_same (digit0 m) (refl))))))))

pub padded : (st block : List ℕ) (f t bits z : ℕ) (bs b8 : List ℕ) → length block ≡ 64 → f < 64 → Holds st block f t bs → z ≡ (119 - f) % 64 → bits ≡ (t * 8) % 2 ^ 64 → b8 ≡ (bits / 72057594037927936 % 256) ∷ (bits / 281474976710656 % 256) ∷ (bits / 1099511627776 % 256) ∷ (bits / 4294967296 % 256) ∷ (bits / 16777216 % 256) ∷ (bits / 65536 % 256) ∷ (bits / 256 % 256) ∷ (bits % 256) ∷ [] → ((bs ++ (0x80 ∷ [])) ++ replicate z 0) ++ b8 ≡ pad bs
unfolding pad
padded st block f t bits z bs b8 hb lt w hz hbits h8 =
    let lf : length (take f block) ≡ f = length-take-le f block (omega arith) in
    let ls : length bs ≡ length w.whole + length (take f block) = ap length w.split ∙ length-append w.whole (take f block) in
    let wb : length w.whole ≡ 64 * w.count = w.blocks in
    let ez : z ≡ zeros (length bs) = omega arith in
    let eb : bits ≡ (8 * length bs) % 2 ^ 64 = hbits ∙ bits_are t (length bs) w.counted in
    let e8 : b8 ≡ u64str (8 * length bs) = h8 ∙ ap (λ n. (n / 72057594037927936 % 256) ∷ (n / 281474976710656 % 256) ∷ (n / 1099511627776 % 256) ∷ (n / 4294967296 % 256) ∷ (n / 16777216 % 256) ∷ (n / 65536 % 256) ∷ (n / 256 % 256) ∷ (n % 256) ∷ []) eb ∙ u64str_is (8 * length bs) in
    ap (λ n. ((bs ++ (0x80 ∷ [])) ++ replicate n 0) ++ b8) ez ∙ ap (λ x. ((bs ++ (0x80 ∷ [])) ++ replicate (zeros (length bs)) 0) ++ x) e8

length-pad : (bs : List ℕ) → length (pad bs) ≡ length bs + 1 + (119 - length bs % 64) % 64 + 8
unfolding pad
length-pad bs =
    omega (arith, length-append ((bs ++ (0x80 ∷ [])) ++ replicate (zeros (length bs)) 0) (u64str (8 * length bs)), length-append (bs ++ (0x80 ∷ [])) (replicate (zeros (length bs)) 0), length_push bs 0x80, length-replicate {A = ℕ} (zeros (length bs)) 0)

pub finished : (st block : List ℕ) (f t : ℕ) (bs xs : List ℕ) → f < 64 → xs ≡ pad bs → Holds st block f t xs → bytes st ≡ sha256 bs
unfolding sha256
finished st block f t bs xs lt e w =
    let hb : length block ≡ 64 = w.long in
    let lf : length (take f block) ≡ f = length-take-le f block (omega arith) in
    let ls : length xs ≡ length w.whole + length (take f block) = ap length w.split ∙ length-append w.whole (take f block) in
    let wb : length w.whole ≡ 64 * w.count = w.blocks in
    let lx : length xs ≡ length (pad bs) = ap length e in
    let lp = length-pad bs in
    let f0 : f ≡ 0 = omega arith in
    let n : w.count ≡ length (pad bs) / 64 = omega arith in
    let ew : w.whole ≡ pad bs = sym (append-nil w.whole) ∙ ap (λ k. w.whole ++ take k block) (sym f0) ∙ sym w.split ∙ e in
    ap bytes (w.hashed ∙ ap (λ k. absorb k IV w.whole) n ∙ ap (absorb (length (pad bs) / 64) IV) ew)

-- a message of 55 bytes is one block: it, 0x80 and its 440 bits in eight bytes
pub one_block : (bs : List ℕ) → length bs ≡ 55 → sha256 bs ≡ bytes (compress IV (words (bs ++ (0x80 ∷ 0 ∷ 0 ∷ 0 ∷ 0 ∷ 0 ∷ 0 ∷ 1 ∷ 184 ∷ []))))
unfolding sha256 pad
one_block bs h =
    let tail : List ℕ = 0x80 ∷ 0 ∷ 0 ∷ 0 ∷ 0 ∷ 0 ∷ 0 ∷ 1 ∷ 184 ∷ [] in
    let e : pad bs ≡ bs ++ tail =
    ap (λ n. ((bs ++ (0x80 ∷ [])) ++ replicate (zeros n) 0) ++ u64str (8 * n)) h
    ∙ ap (λ x. x ++ u64str 440) (append-nil (bs ++ (0x80 ∷ [])))
    ∙ append_assoc bs (0x80 ∷ []) (u64str 440) in
    let l : length (bs ++ tail) ≡ 64 = length-append bs tail ∙ ap (λ n. n + 9) h in
    ap (λ x. bytes (absorb (length x / 64) IV x)) e
    ∙ ap (λ n. bytes (absorb (n / 64) IV (bs ++ tail))) l
    ∙ ap (λ x. bytes (compress IV (words x))) (take_all 64 (bs ++ tail) (omega arith))
