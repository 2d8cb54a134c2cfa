-- The schedule, the rounds and the closing sums, in each lane.
use Rattle.std.proofs.Common.{◌≡◌, ℕ, zero, suc, ◌+◌, ◌-◌, ◌<◌, ◌≤◌, List, [], ◌∷◌, ◌++◌, map, length, get_or, take, sym, refl, ap, ◌∙◌, arith, length-append, ⊎_elim, ◌⊎◌}
use Rattle.std.proofs.Math.Nat.{eq-or-lt_of_le}
use Rattle.std.proofs.Math.ListN.{set}
use Rattle.std.specs.List.{range_with_len}
use Rattle.std.proofs.lemmas.List.FromFn.{fill_by_all}
use Rattle.std.proofs.lemmas.List.{get_or-map, get_or-take, get_or_push, length-map, length-take, length_push, map-append, take-take, take_all, take_at, take_more, take_more_set}
use Rattle.sha256.specs.Sha256.{scheduled, next, extend, schedule, round, rounds, sums, compress, T1, T2, ◌⊞◌, K}
use Rattle.sha256.specs.Lane.{lane}

-- a list of n numbers, one by one
pub listed : (n : ℕ) (xs : List ℕ) → length xs ≡ n → xs ≡ map (λ k. get_or xs k 0) (range_with_len 0 n)
listed n xs h = fill_by_all (λ k. get_or xs k 0) xs n 0 h (λ k l. refl)

length-extend : (n : ℕ) (ws : List ℕ) → length (extend n ws) ≡ length ws + n
length-extend zero ws = omega arith
length-extend (suc n) ws = omega (arith, length-extend n (ws ++ (next ws ∷ [])), length_push ws (next ws))

take-extend : (n : ℕ) (ws : List ℕ) → take (length ws) (extend n ws) ≡ ws
take-extend zero ws = take_all (length ws) ws (omega arith)
take-extend (suc n) ws =
    let l = length_push ws (next ws) in
    let le : length ws ≤ length (ws ++ (next ws ∷ [])) = omega arith in
    sym (take-take (length ws) (length (ws ++ (next ws ∷ []))) (extend n (ws ++ (next ws ∷ []))) le)
    ∙ ap (take (length ws)) (take-extend n (ws ++ (next ws ∷ [])))
    ∙ take_at ws (next ws ∷ []) (length ws) refl

-- word i of a lane
lane_word : {W : Type 0} (at : W → ℕ → ℕ) (j : ℕ) (w : List W) (i : ℕ) (d : W) → i < length w → get_or (lane at j w) i 0 ≡ at (get_or w i d) j
lane_word at j w i d h = get_or-map (λ v. at v j) w i d 0 h

-- the eight words of a lane
pub lane_eight : {W : Type 0} (at : W → ℕ → ℕ) (j : ℕ) (s : List W) (a b c d e f g h : W) → length s ≡ 8
    → lane at j s ≡ at (get_or s 0 a) j ∷ at (get_or s 1 b) j ∷ at (get_or s 2 c) j ∷ at (get_or s 3 d) j ∷ at (get_or s 4 e) j ∷ at (get_or s 5 f) j ∷ at (get_or s 6 g) j ∷ at (get_or s 7 h) j ∷ []
lane_eight at j s a b c d e f g h l =
    let q0 = lane_word at j s 0 a (omega arith) in
    let q1 = lane_word at j s 1 b (omega arith) in
    let q2 = lane_word at j s 2 c (omega arith) in
    let q3 = lane_word at j s 3 d (omega arith) in
    let q4 = lane_word at j s 4 e (omega arith) in
    let q5 = lane_word at j s 5 f (omega arith) in
    let q6 = lane_word at j s 6 g (omega arith) in
    let q7 = lane_word at j s 7 h (omega arith) in
    let all : get_or (lane at j s) 0 0 ∷ get_or (lane at j s) 1 0 ∷ get_or (lane at j s) 2 0 ∷ get_or (lane at j s) 3 0 ∷ get_or (lane at j s) 4 0 ∷ get_or (lane at j s) 5 0 ∷ get_or (lane at j s) 6 0 ∷ get_or (lane at j s) 7 0 ∷ []
    ≡ at (get_or s 0 a) j ∷ at (get_or s 1 b) j ∷ at (get_or s 2 c) j ∷ at (get_or s 3 d) j ∷ at (get_or s 4 e) j ∷ at (get_or s 5 f) j ∷ at (get_or s 6 g) j ∷ at (get_or s 7 h) j ∷ [] = cc in
    listed 8 (lane at j s) (length-map s (λ v. at v j) ∙ l) ∙ all

-- the words of a lane after a round, from the eight vectors before it
pub round-lane : {W : Type 0} (at : W → ℕ → ℕ) (j : ℕ) (s : List W) (a b c d e f g h : W) (k w : ℕ) {t1 t2 x y : ℕ} → length s ≡ 8
    → t1 ≡ T1 (at (get_or s 4 e) j) (at (get_or s 5 f) j) (at (get_or s 6 g) j) (at (get_or s 7 h) j) k w
    → t2 ≡ T2 (at (get_or s 0 a) j) (at (get_or s 1 b) j) (at (get_or s 2 c) j)
    → x ≡ t1 ⊞ t2
    → y ≡ at (get_or s 3 d) j ⊞ t1
    → x ∷ at (get_or s 0 a) j ∷ at (get_or s 1 b) j ∷ at (get_or s 2 c) j ∷ y ∷ at (get_or s 4 e) j ∷ at (get_or s 5 f) j ∷ at (get_or s 6 g) j ∷ [] ≡ round (lane at j s) k w
unfolding round
round-lane at j s a b c d e f g h k w l p1 p2 px py =
    let q0 = lane_word at j s 0 a (omega arith) in
    let q1 = lane_word at j s 1 b (omega arith) in
    let q2 = lane_word at j s 2 c (omega arith) in
    let q3 = lane_word at j s 3 d (omega arith) in
    let q4 = lane_word at j s 4 e (omega arith) in
    let q5 = lane_word at j s 5 f (omega arith) in
    let q6 = lane_word at j s 6 g (omega arith) in
    let q7 = lane_word at j s 7 h (omega arith) in
    cc

-- a lane, from what each of its words is
pub lane_is : {W : Type 0} (at : W → ℕ → ℕ) (j : ℕ) (vs : List W) (xs : List ℕ) → length vs ≡ length xs
    → ((i : ℕ) (d : W) → i < length xs → at (get_or vs i d) j ≡ get_or xs i 0) → lane at j vs ≡ xs
lane_is at j [] [] h f = refl
lane_is at j [] (x ∷ xs) h f = absurd (omega arith)
lane_is at j (v ∷ vs) [] h f = absurd (omega arith)
lane_is at j (v ∷ vs) (x ∷ xs) h f =
    ap (λ z. z ∷ lane at j vs) (f 0 v (omega arith)) ∙ ap (λ zs. x ∷ zs) (lane_is at j vs xs (omega arith) (λ i d l. f (suc i) d (omega arith)))

extend_before : (n i : ℕ) (ws : List ℕ) → i < length ws → get_or (extend n ws) i 0 ≡ get_or ws i 0
extend_before n i ws h = sym (get_or-take (length ws) (extend n ws) i 0 h) ∙ ap (λ x. get_or x i 0) (take-extend n ws)

-- a word of the schedule behind the first sixteen, by those before it
extend_at : (n t : ℕ) (ws : List ℕ) → 16 ≤ length ws → length ws ≤ t → t < length ws + n → get_or (extend n ws) t 0 ≡ scheduled (get_or (extend n ws) (t - 2) 0) (get_or (extend n ws) (t - 7) 0) (get_or (extend n ws) (t - 15) 0) (get_or (extend n ws) (t - 16) 0)
extend_at zero t ws h16 low high = absurd (omega arith)
extend_at (suc n) t ws h16 low high =
    let l = length_push ws (next ws) in
    ⊎_elim
    (λ e.
    let a = extend_before n t (ws ++ (next ws ∷ [])) (omega arith) in
    let b = get_or_push ws (next ws) 0 t e in
    let e2 : length ws - 2 ≡ t - 2 = omega arith in
    let e7 : length ws - 7 ≡ t - 7 = omega arith in
    let e15 : length ws - 15 ≡ t - 15 = omega arith in
    let e16 : length ws - 16 ≡ t - 16 = omega arith in
    let d2 = extend_before (suc n) (t - 2) ws (omega arith) in
    let d7 = extend_before (suc n) (t - 7) ws (omega arith) in
    let d15 = extend_before (suc n) (t - 15) ws (omega arith) in
    let d16 = extend_before (suc n) (t - 16) ws (omega arith) in
    cc)
    (λ h. extend_at n t (ws ++ (next ws ∷ [])) (omega arith) (omega arith) (omega arith))
    (eq-or-lt_of_le low)

-- what was written below place t is the schedule so far
written : {W : Type 0} (at : W → ℕ → ℕ) (j t : ℕ) (w : List W) (ws : List ℕ) (i : ℕ) (d : W) → i < t → t ≤ length w → lane at j (take t w) ≡ take t ws → at (get_or w i d) j ≡ get_or ws i 0
written at j t w ws i d h hw same =
    let l : length (take t w) ≡ t = omega (arith, length-take t w) in
    let a = lane_word at j (take t w) i d (omega arith) in
    let b = get_or-take t w i d h in
    let e = get_or-take t ws i 0 h in
    cc

word_more : {W : Type 0} (at : W → ℕ → ℕ) (j t : ℕ) (w : List W) (ws : List ℕ) (x : W) → t < length w → t < length ws → lane at j (take t w) ≡ take t ws → at x j ≡ get_or ws t 0 → lane at j (take (t + 1) (set w t x)) ≡ take (t + 1) ws
word_more at j t w ws x hw hs same e =
    let a = take_more_set w t x hw in
    let b = map-append (λ v. at v j) (take t w) (x ∷ []) in
    let d = take_more ws t 0 hs in
    cc

pub first_long : {W : Type 0} (a w : List W) → length a ≡ 16 → length w ≡ 48 → length (a ++ w) ≡ 64
first_long a w ha hw = omega (arith, length-append a w)

-- the block's own words come first
pub first_words : {W : Type 0} (at : W → ℕ → ℕ) (j : ℕ) (m a w : List W) → length m ≡ 16 → a ≡ m
    → lane at j (take 16 (a ++ w)) ≡ take 16 (schedule (lane at j m))
unfolding schedule
first_words at j m a w hm e =
    let lm = length-map m (λ v. at v j) in
    ap (λ x. lane at j (take 16 (x ++ w))) e ∙ ap (lane at j) (take_at m w 16 hm)
    ∙ sym (ap (λ n. take n (extend 48 (lane at j m))) (sym (lm ∙ hm)) ∙ take-extend 48 (lane at j m))

-- and then each by four of those before it
pub later_words : {W : Type 0} (at : W → ℕ → ℕ) (j t : ℕ) (m w : List W) (x d2 d7 d15 d16 : W) → length m ≡ 16 → length w ≡ 64 → 16 ≤ t → t < 64
    → lane at j (take t w) ≡ take t (schedule (lane at j m))
    → at x j ≡ scheduled (at (get_or w (t - 2) d2) j) (at (get_or w (t - 7) d7) j) (at (get_or w (t - 15) d15) j) (at (get_or w (t - 16) d16) j)
    → lane at j (take (t + 1) (set w t x)) ≡ take (t + 1) (schedule (lane at j m))
unfolding schedule
later_words at j t m w x d2 d7 d15 d16 hm hw low high same is =
    let lm = length-map m (λ v. at v j) in
    let ls = length-extend 48 (lane at j m) in
    let e = extend_at 48 t (lane at j m) (omega arith) (omega arith) (omega arith) in
    let e2 = written at j t w (extend 48 (lane at j m)) (t - 2) d2 (omega arith) (omega arith) same in
    let e7 = written at j t w (extend 48 (lane at j m)) (t - 7) d7 (omega arith) (omega arith) same in
    let e15 = written at j t w (extend 48 (lane at j m)) (t - 15) d15 (omega arith) (omega arith) same in
    let e16 = written at j t w (extend 48 (lane at j m)) (t - 16) d16 (omega arith) (omega arith) same in
    word_more at j t w (extend 48 (lane at j m)) x (omega arith) (omega arith) same (cc)

pub all_words : {W : Type 0} (at : W → ℕ → ℕ) (j t : ℕ) (m w : List W) → length m ≡ 16 → length w ≡ 64 → 64 ≤ t
    → lane at j (take t w) ≡ take t (schedule (lane at j m)) → lane at j w ≡ schedule (lane at j m)
unfolding schedule
all_words at j t m w hm hw high same =
    let lm = length-map m (λ v. at v j) in
    sym (ap (lane at j) (take_all t w (omega arith))) ∙ same ∙ take_all t (extend 48 (lane at j m)) (omega (arith, length-extend 48 (lane at j m)))

pub rounds_turn : {W : Type 0} (at : W → ℕ → ℕ) (j : ℕ) (s t : List W) (k : ℕ) (ks ls : List ℕ) (w : W) (ws vs : List W) {r : List ℕ}
    → lane at j t ≡ round (lane at j s) k (at w j) → ks ≡ k ∷ ls → ws ≡ w ∷ vs
    → rounds (lane at j s) ks (lane at j ws) ≡ r → rounds (lane at j t) ls (lane at j vs) ≡ r
rounds_turn at j s t k ks ls w ws vs e ek ew is =
    ap (λ x. rounds x ls (lane at j vs)) e
    ∙ sym (ap (λ x. rounds (lane at j s) x (lane at j ws)) ek ∙ ap (λ x. rounds (lane at j s) (k ∷ ls) (lane at j x)) ew)
    ∙ is

rounds-append : (s ks ls ws vs : List ℕ) → length ks ≡ length ws → rounds s (ks ++ ls) (ws ++ vs) ≡ rounds (rounds s ks ws) ls vs
rounds-append s [] ls [] vs h = refl
rounds-append s [] ls (w ∷ ws) vs h = absurd (omega arith)
rounds-append s (k ∷ ks) ls [] vs h = absurd (omega arith)
rounds-append s (k ∷ ks) ls (w ∷ ws) vs h = rounds-append (round s k w) ks ls ws vs (omega arith)

pub rounds_part : {W : Type 0} (at : W → ℕ → ℕ) (j : ℕ) (s t : List W) (k ks ls : List ℕ) (w ws vs : List W) {r : List ℕ} → length k ≡ length w
    → lane at j t ≡ rounds (lane at j s) k (lane at j w) → ks ≡ k ++ ls → ws ≡ w ++ vs
    → rounds (lane at j s) ks (lane at j ws) ≡ r → rounds (lane at j t) ls (lane at j vs) ≡ r
rounds_part at j s t k ks ls w ws vs same e ek ew is =
    ap (λ x. rounds x ls (lane at j vs)) e
    ∙ sym (ap (λ x. rounds (lane at j s) x (lane at j ws)) ek
    ∙ ap (rounds (lane at j s) (k ++ ls)) (ap (lane at j) ew ∙ map-append (λ v. at v j) w vs)
    ∙ rounds-append (lane at j s) k ls (lane at j w) (lane at j vs) (same ∙ sym (length-map w (λ v. at v j))))
    ∙ is

rounds_none : (s ks : List ℕ) → rounds s ks [] ≡ s
rounds_none s [] = refl
rounds_none s (k ∷ ks) = refl

pub rounds_end : {W : Type 0} (at : W → ℕ → ℕ) (j : ℕ) (s : List ℕ) (ks : List ℕ) (ws : List W) {r : List ℕ}
    → (ks ≡ []) ⊎ (ws ≡ []) → rounds s ks (lane at j ws) ≡ r → s ≡ r
rounds_end at j s ks ws ends is =
    ⊎_elim
    (λ e. sym (ap (λ x. rounds s x (lane at j ws)) e) ∙ is)
    (λ e. sym (ap (λ x. rounds s ks (lane at j x)) e ∙ rounds_none s ks) ∙ is)
    ends

sums_lane : {W : Type 0} (at : W → ℕ → ℕ) (j : ℕ) (h s r : List W) → length s ≡ length h → length r ≡ length h
    → ((k : ℕ) → k < length h → (d : W) → at (get_or r k d) j ≡ at (get_or h k d) j ⊞ at (get_or s k d) j)
    → lane at j r ≡ sums (lane at j h) (lane at j s)
sums_lane at j [] [] [] ls lr p = refl
sums_lane at j [] [] (z ∷ r) ls lr p = absurd (omega arith)
sums_lane at j [] (y ∷ s) r ls lr p = absurd (omega arith)
sums_lane at j (x ∷ h) [] r ls lr p = absurd (omega arith)
sums_lane at j (x ∷ h) (y ∷ s) [] ls lr p = absurd (omega arith)
sums_lane at j (x ∷ h) (y ∷ s) (z ∷ r) ls lr p =
    ap (λ v. v ∷ lane at j r) (p 0 (omega arith) x)
    ∙ ap (λ vs. (at x j ⊞ at y j) ∷ vs) (sums_lane at j h s r (omega arith) (omega arith) (λ k l d. p (suc k) (omega arith) d))

below8 : (P : ℕ → Type 0) → P 0 → P 1 → P 2 → P 3 → P 4 → P 5 → P 6 → P 7 → (k : ℕ) → k < 8 → P k
below8 P a b c d e f g h zero l = a
below8 P a b c d e f g h (suc zero) l = b
below8 P a b c d e f g h (suc (suc zero)) l = c
below8 P a b c d e f g h (suc (suc (suc zero))) l = d
below8 P a b c d e f g h (suc (suc (suc (suc zero)))) l = e
below8 P a b c d e f g h (suc (suc (suc (suc (suc zero))))) l = f
below8 P a b c d e f g h (suc (suc (suc (suc (suc (suc zero)))))) l = g
below8 P a b c d e f g h (suc (suc (suc (suc (suc (suc (suc zero))))))) l = h
below8 P a b c d e f g h (suc (suc (suc (suc (suc (suc (suc (suc k)))))))) l = absurd (omega arith)

-- word k of the sum of two values, in lane j
abbrev pub IsSum : {W : Type 0} → (W → ℕ → ℕ) → ℕ → List W → List W → List W → ℕ → Type 0
IsSum {W} at j h s r k = (d : W) → at (get_or r k d) j ≡ at (get_or h k d) j ⊞ at (get_or s k d) j

pub compressed : {W : Type 0} (at : W → ℕ → ℕ) (j : ℕ) (h s r : List W) (m ws : List ℕ) → length h ≡ 8 → length s ≡ 8 → length r ≡ 8
    → IsSum at j h s r 0 → IsSum at j h s r 1 → IsSum at j h s r 2 → IsSum at j h s r 3 → IsSum at j h s r 4 → IsSum at j h s r 5 → IsSum at j h s r 6 → IsSum at j h s r 7
    → ws ≡ schedule m → lane at j s ≡ rounds (lane at j h) K ws → lane at j r ≡ compress (lane at j h) m
unfolding compress
compressed at j h s r m ws hh hs hr e0 e1 e2 e3 e4 e5 e6 e7 ew es =
    sums_lane at j h s r (hs ∙ sym hh) (hr ∙ sym hh) (λ k l. below8 (IsSum at j h s r) e0 e1 e2 e3 e4 e5 e6 e7 k (omega arith))
    ∙ ap (sums (lane at j h)) (es ∙ ap (rounds (lane at j h) K) ew)
