-- Pages in any order. Assumes nothing.
use Rattle.bdz_table.specs.Graph.{has}
use Rattle.bdz_base.specs.Pages.{first_page, last_page}
use Rattle.std.proofs.Common.{◌≡◌, refl, sym, ap, ◌∙◌, subst, cond, Bool, true, false, ◌||◌, List, [], ◌∷◌, ℕ, zero}
use Rattle.std.proofs.Common.{suc, ◌+◌, ◌-◌, ◌*◌, ◌/◌, ◌%◌, ◌^◌, ◌≤◌, ◌<◌, suc-mul, add_comm, zero-add, mod-lt}
use Rattle.std.proofs.Common.{zero-mul, div-one, lt_of_lt_of_le, mul-le-mul_right, arith, ◌⊎◌, inl, inr, eqb, pow_pos}
use Rattle.std.proofs.Common.{pow-add, pow_mono, shr-shr, shr_lt, take, drop, eqb-true, eq-eqb, ne_eqb}
use native.Mathlib.Decide.{dec_lt}
use native.Mathlib.Nat.{div-eq_of_lt, zero-div, zero-mod, mod-one}
use lib.Pow.{mod-pow-add, ones_split, high, low, field, mod-mod-pow, split, ones_lt}
use lib.Arith.{digits_lt}
use borrow.Author.Tests.{eqb-false}
use Rattle.bdz_base.specs.Pack.{value_of, bits_at}
use Rattle.bdz_base.proofs.Digits.{bits_within}
use Rattle.bdz_image.specs.Page.{missing_in}
use Rattle.bdz_image.specs.Feed.{word_in, page_of, at_of, cut_of, slot, put_low, put_high, taken_low, taken_high, taken_of, so_far, missing_of, slot_of, among, fed}

-- ---- the number of a part of a list

pub value_drop : (w n : ℕ) (xs : List ℕ) → value_of w (drop n xs) ≡ value_of w xs / 2 ^ (n * w)
unfolding value_of
value_drop w zero xs = rw (zero-mul w, div-one)
value_drop w (suc n) [] = rw zero-div
value_drop w (suc n) (x ∷ xs) =
    rw (suc-mul n w, add_comm (n * w) w, ← shr-shr (value_of w xs * 2 ^ w + x % 2 ^ w) w (n * w), high (value_of w xs) w (mod-lt x (pow_pos w)))
    (value_drop w n xs)

pub value_take : (w n : ℕ) (xs : List ℕ) → value_of w (take n xs) ≡ value_of w xs % 2 ^ (n * w)
unfolding value_of
value_take w zero xs = rw (zero-mul w, mod-one)
value_take w (suc n) [] = rw zero-mod
value_take w (suc n) (x ∷ xs) =
    rw (suc-mul n w, mod-pow-add (value_of w xs * 2 ^ w + x % 2 ^ w) (n * w) w, high (value_of w xs) w (mod-lt x (pow_pos w)), low (value_of w xs) w (mod-lt x (pow_pos w)), value_take w n xs)

-- ---- bits of a page are bits of the body

part_bits : (q p : ℕ) (body : List ℕ) (r j : ℕ) → r + j ≤ q * 8 → bits_at j (take q (drop (p * q) body)) r ≡ bits_at j body (p * q * 8 + r)
unfolding bits_at
part_bits q p body r j h = rw (value_take 8 q (drop (p * q) body), value_drop 8 (p * q) body) (bits_within (value_of 8 body) (p * q * 8) (q * 8) r j h)

pub page_bits : (body : List ℕ) (p r j s : ℕ) → r + j ≤ 32768 → p * 32768 + r ≡ s → bits_at j (page_of body p) r ≡ bits_at j body s
unfolding page_of
page_bits body p r j s h e =
    let f : p * 4096 * 8 + r ≡ s = omega arith in
    part_bits 4096 p body r j (omega arith) ∙ ap (λ (k : ℕ). bits_at j body k) f

word_low : (w cut : ℕ) (body : List ℕ) (v : ℕ) → cut ≤ w → bits_at cut body (v * w) ≡ word_in w body v % 2 ^ cut
unfolding bits_at
word_low w cut body v h =
    let s : w - cut + cut ≡ w = omega arith in
    sym (mod-mod-pow (value_of 8 body / 2 ^ (v * w)) (w - cut) cut)
    ∙ ap (λ (k : ℕ). value_of 8 body / 2 ^ (v * w) % 2 ^ k % 2 ^ cut) s

word_high : (w cut : ℕ) (body : List ℕ) (v : ℕ) → cut ≤ w → bits_at (w - cut) body (v * w + cut) ≡ word_in w body v / 2 ^ cut
unfolding bits_at
word_high w cut body v h =
    let s : w - cut + cut ≡ w = omega arith in
    rw (← shr-shr (value_of 8 body) (v * w) cut) (sym (field (value_of 8 body / 2 ^ (v * w)) (w - cut) cut))
    ∙ ap (λ (k : ℕ). value_of 8 body / 2 ^ (v * w) % 2 ^ k / 2 ^ cut) s

no_bits : (xs ys : List ℕ) (r s : ℕ) → bits_at 0 xs r ≡ bits_at 0 ys s
unfolding bits_at
no_bits xs ys r s = mod-one (value_of 8 xs / 2 ^ r) ∙ sym (mod-one (value_of 8 ys / 2 ^ s))

pub low_part : (w : ℕ) (body : List ℕ) (v : ℕ) → bits_at (cut_of w v) (page_of body (first_page w v)) (at_of w v) ≡ word_in w body v % 2 ^ cut_of w v
low_part w body v =
    page_bits body (first_page w v) (at_of w v) (cut_of w v) (v * w) (omega arith) (omega arith) ∙ word_low w (cut_of w v) body v (omega arith)

pub high_part : (w : ℕ) (body : List ℕ) (v : ℕ) → w ≤ 32 → bits_at (w - cut_of w v) (page_of body (first_page w v + 1)) 0 ≡ word_in w body v / 2 ^ cut_of w v
high_part w body v h = go (w - cut_of w v) refl ∙ word_high w (cut_of w v) body v (omega arith)
  where
    go : (d : ℕ) → w - cut_of w v ≡ d → bits_at d (page_of body (first_page w v + 1)) 0 ≡ bits_at d body (v * w + cut_of w v)
    go zero e = no_bits (page_of body (first_page w v + 1)) body 0 (v * w + cut_of w v)
    go (suc d) e = page_bits body (first_page w v + 1) 0 (suc d) (v * w + cut_of w v) (omega arith) (omega arith)

-- ---- a number of two parts

pub put_low_lem : (k H x : ℕ) {L : ℕ} → L < 2 ^ k → put_low (H * 2 ^ k + L) x k ≡ H * 2 ^ k + x
put_low_lem k H x l = rw (high H k l)

pub put_high_lem : (k H y : ℕ) {L : ℕ} → L < 2 ^ k → put_high (H * 2 ^ k + L) y k ≡ y * 2 ^ k + L
put_high_lem k H y l = rw (low H k l)

cond_lt : (s : Bool) {x y b : ℕ} → x < b → y < b → cond s x y < b
cond_lt true h k = h
cond_lt false h k = k

-- a number of two parts, of w bits in all, fits 32 bits
pub two_lt : (w k H : ℕ) {L : ℕ} → k ≤ w → w ≤ 32 → H < 2 ^ (w - k) → L < 2 ^ k → H * 2 ^ k + L < 2 ^ 32
two_lt w k H {L} l b h g =
    let s : w - k + k ≡ w = omega arith in
    let q : H * 2 ^ k + L < 2 ^ (w - k + k) = rw (pow-add 2 (w - k) k) (digits_lt h g) in
    lt_of_lt_of_le (rw s at q) (pow_mono b)

-- the bits above the k lowest of 32
pub shr32_lt : (x k : ℕ) → x < 2 ^ 32 → k ≤ 32 → x / 2 ^ k < 2 ^ (32 - k)
shr32_lt x k h l =
    let s : 32 ≡ 32 - k + k = omega arith in
    shr_lt (32 - k) k (subst (λ (j : ℕ). x < 2 ^ j) s h)

pub bits_lt : (w : ℕ) (xs : List ℕ) (s : ℕ) → bits_at w xs s < 2 ^ w
unfolding bits_at
bits_lt w xs s = mod-lt (value_of 8 xs / 2 ^ s) (pow_pos w)

module _ (w cut word : ℕ) (l : cut ≤ w) (b : w ≤ 32) (f : word < 2 ^ w) where
  top_lt : word / 2 ^ cut < 2 ^ (w - cut)
  top_lt = let s : w ≡ w - cut + cut = omega arith in shr_lt (w - cut) cut (rw s at f)

  so_far_lt : (s t : Bool) → so_far cut word s t < 2 ^ 32
  unfolding so_far
  so_far_lt s t =
      two_lt w cut (cond t (word / 2 ^ cut) 0) l b (cond_lt t top_lt (pow_pos (w - cut))) (cond_lt s (mod-lt word (pow_pos cut)) (pow_pos cut))

-- ---- what a slot holds, as a function of the two pages

or_again : (a b : Bool) → (a || (a || b)) ≡ (a || b)
or_again true b = refl
or_again false b = refl

two : ℕ → List ℕ → ℕ → Bool → Bool → ℕ
two w body v s t = slot (missing_of w (cut_of w v) s t) (so_far (cut_of w v) (word_in w body v) s t)

pub word_lt : (w : ℕ) (body : List ℕ) (v : ℕ) → word_in w body v < 2 ^ w
unfolding bits_at
word_lt w body v = mod-lt (value_of 8 body / 2 ^ (v * w)) (pow_pos w)

module _ (w : ℕ) (body : List ℕ) (v : ℕ) (b : w ≤ 32) where
  two_missing : (s t : Bool) → two w body v s t / 2 ^ 32 ≡ missing_of w (cut_of w v) s t
  unfolding two
  two_missing s t = high (missing_of w (cut_of w v) s t) 32 (so_far_lt w (cut_of w v) (word_in w body v) (omega arith) b (word_lt w body v) s t)

  two_word : (s t : Bool) → two w body v s t % 2 ^ 32 ≡ so_far (cut_of w v) (word_in w body v) s t
  unfolding two
  two_word s t = low (missing_of w (cut_of w v) s t) 32 (so_far_lt w (cut_of w v) (word_in w body v) (omega arith) b (word_lt w body v) s t)

  low_parts : (s t : Bool) → slot (put_low (missing_of w (cut_of w v) s t) 0 (cut_of w v)) (put_low (so_far (cut_of w v) (word_in w body v) s t) (word_in w body v % 2 ^ cut_of w v) (cut_of w v)) ≡ two w body v true t
  unfolding missing_of so_far two
  low_parts s t =
      λ i. slot (put_low_lem (cut_of w v) (cond t 0 (2 ^ (w - cut_of w v) - 1)) 0 (cond_lt s (pow_pos (cut_of w v)) (ones_lt (cut_of w v))) i)
      (put_low_lem (cut_of w v) (cond t (word_in w body v / 2 ^ cut_of w v) 0) (word_in w body v % 2 ^ cut_of w v) (cond_lt s (mod-lt (word_in w body v) (pow_pos (cut_of w v))) (pow_pos (cut_of w v))) i)

  low_comes : (s t : Bool) → taken_low w (page_of body (first_page w v)) v (two w body v s t) ≡ two w body v true t
  unfolding taken_low
  low_comes s t = rw (two_missing s t, two_word s t, low_part w body v) (low_parts s t)

  high_parts : (s t : Bool) → slot (put_high (missing_of w (cut_of w v) s t) 0 (cut_of w v)) (put_high (so_far (cut_of w v) (word_in w body v) s t) (word_in w body v / 2 ^ cut_of w v) (cut_of w v)) ≡ two w body v s true
  unfolding missing_of so_far two
  high_parts s t =
      λ i. slot (put_high_lem (cut_of w v) (cond t 0 (2 ^ (w - cut_of w v) - 1)) 0 (cond_lt s (pow_pos (cut_of w v)) (ones_lt (cut_of w v))) i)
      (put_high_lem (cut_of w v) (cond t (word_in w body v / 2 ^ cut_of w v) 0) (word_in w body v / 2 ^ cut_of w v) (cond_lt s (mod-lt (word_in w body v) (pow_pos (cut_of w v))) (pow_pos (cut_of w v))) i)

  high_comes : (s t : Bool) → taken_high w (page_of body (first_page w v + 1)) v (two w body v s t) ≡ two w body v s true
  unfolding taken_high
  high_comes s t = rw (two_missing s t, two_word s t, high_part w body v b) (high_parts s t)

  -- one page comes
  pub comes : (p : ℕ) (ps : List ℕ) → taken_of w p (page_of body p) v (slot_of w body (among ps) v) ≡ slot_of w body (among (p ∷ ps)) v
  unfolding taken_of slot_of has two
  comes p ps = go (eqb p (first_page w v)) (eqb p (first_page w v + 1)) refl refl
    where
      go : (s t : Bool) → eqb p (first_page w v) ≡ s → eqb p (first_page w v + 1) ≡ t → cond s (taken_low w (page_of body p) v (two w body v (among ps (first_page w v)) (among ps (first_page w v + 1)))) (cond t (taken_high w (page_of body p) v (two w body v (among ps (first_page w v)) (among ps (first_page w v + 1)))) (two w body v (among ps (first_page w v)) (among ps (first_page w v + 1)))) ≡ two w body v (eqb (first_page w v) p || among ps (first_page w v)) (eqb (first_page w v + 1) p || among ps (first_page w v + 1))
      go true t e f =
          let q : p ≡ first_page w v = eqb-true p (first_page w v) e in
          let y : eqb (first_page w v) p ≡ true = eq-eqb (first_page w v) p (sym q) in
          let n : eqb (first_page w v + 1) p ≡ false = ne_eqb (first_page w v + 1) p (omega arith) in
          rw (y, n, q) (low_comes (among ps (first_page w v)) (among ps (first_page w v + 1)))
      go false true e f =
          let q : p ≡ first_page w v + 1 = eqb-true p (first_page w v + 1) f in
          let y : eqb (first_page w v + 1) p ≡ true = eq-eqb (first_page w v + 1) p (sym q) in
          let n : eqb (first_page w v) p ≡ false = ne_eqb (first_page w v) p (omega arith) in
          rw (y, n, q) (high_comes (among ps (first_page w v)) (among ps (first_page w v + 1)))
      go false false e f =
          let m : eqb (first_page w v + 1) p ≡ false = ne_eqb (first_page w v + 1) p (λ q. eqb-false p (first_page w v + 1) f (sym q)) in
          let n : eqb (first_page w v) p ≡ false = ne_eqb (first_page w v) p (λ q. eqb-false p (first_page w v) e (sym q)) in
          rw (m, n)

  -- pages in any order
  pub any_order : (ps : List ℕ) → fed w body v ps (slot_of w body (among []) v) ≡ slot_of w body (among ps) v
  unfolding fed
  any_order [] = refl
  any_order (p ∷ ps) = rw (any_order ps) (comes p ps)

  -- before any page the whole word is missing
  pub at_start : slot_of w body (among []) v ≡ slot (2 ^ w - 1) 0
  unfolding slot_of has missing_of so_far
  at_start =
      let s : w - cut_of w v + cut_of w v ≡ w = omega arith in
      λ i. slot ((sym (ones_split (w - cut_of w v) (cut_of w v)) ∙ ap (λ (k : ℕ). 2 ^ k - 1) s) i) (zero-mul (2 ^ cut_of w v) i + 0)

  two_full : two w body v true true ≡ word_in w body v
  unfolding two missing_of so_far
  two_full = rw (zero-mul (2 ^ cut_of w v), split (word_in w body v) (cut_of w v), zero-add)

  -- where no bit lies in the next page, that page does not matter
  two_short : cut_of w v ≡ w → (s t : Bool) → two w body v s t ≡ two w body v s true
  unfolding two missing_of so_far
  two_short e s true = refl
  two_short e s false =
      let z : w - cut_of w v ≡ 0 = omega arith in
      let l : word_in w body v < 2 ^ cut_of w v = rw e (word_lt w body v) in
      rw (z, div-eq_of_lt l)

  -- once both its pages came, a slot is its word, with nothing missing
  pub complete : (given : ℕ → Bool) → given (first_page w v) ≡ true → given (last_page w v) ≡ true → slot_of w body given v ≡ word_in w body v
  unfolding slot_of two
  complete given e f = go (dec_lt (cut_of w v) w)
    where
      go : Dec (cut_of w v < w) → two w body v (given (first_page w v)) (given (first_page w v + 1)) ≡ word_in w body v
      go (yes l) =
          let q : last_page w v ≡ first_page w v + 1 = omega arith in
          (λ i. two w body v (e i) ((ap given (sym q) ∙ f) i)) ∙ two_full
      go (no n) =
          (λ i. two w body v (e i) (given (first_page w v + 1))) ∙ two_short (omega arith) true (given (first_page w v + 1)) ∙ two_full

  first_missing : 0 < w → (s t : Bool) → missing_of w (cut_of w v) s t ≡ 0 → s ≡ true
  unfolding missing_of
  first_missing h true t e = refl
  first_missing h false t e =
      let m : 2 ^ 1 ≤ 2 ^ cut_of w v = pow_mono {i = 1} {j = cut_of w v} (omega arith) in
      absurd (omega arith)

  next_missing : cut_of w v < w → (s t : Bool) → missing_of w (cut_of w v) s t ≡ 0 → t ≡ true
  unfolding missing_of
  next_missing h s true e = refl
  next_missing h s false e =
      let m : 2 ^ 1 ≤ 2 ^ (w - cut_of w v) = pow_mono {i = 1} {j = w - cut_of w v} (omega arith) in
      let l : 1 * 2 ^ cut_of w v ≤ (2 ^ (w - cut_of w v) - 1) * 2 ^ cut_of w v = mul-le-mul_right (2 ^ cut_of w v) (omega arith) in
      let k : 0 < 2 ^ cut_of w v = pow_pos (cut_of w v) in
      absurd (omega arith)

  -- before that, something is missing
  pub waits : (given : ℕ → Bool) → 0 < w → slot_of w body given v / 2 ^ 32 ≡ 0 → (given (first_page w v) ≡ true) × (given (last_page w v) ≡ true)
  unfolding slot_of two
  waits given h e = go (dec_lt (cut_of w v) w)
    where
      z : missing_of w (cut_of w v) (given (first_page w v)) (given (first_page w v + 1)) ≡ 0
      z = sym (two_missing (given (first_page w v)) (given (first_page w v + 1))) ∙ e

      go : Dec (cut_of w v < w) → (given (first_page w v) ≡ true) × (given (last_page w v) ≡ true)
      go (yes l) =
          let q : last_page w v ≡ first_page w v + 1 = omega arith in
          (first_missing h (given (first_page w v)) (given (first_page w v + 1)) z, ap given q ∙ next_missing l (given (first_page w v)) (given (first_page w v + 1)) z)
      go (no n) =
          let q : last_page w v ≡ first_page w v = omega arith in
          (first_missing h (given (first_page w v)) (given (first_page w v + 1)) z, ap given q ∙ first_missing h (given (first_page w v)) (given (first_page w v + 1)) z)

  -- a page that came before changes nothing
  pub again : (p : ℕ) (ps : List ℕ) → slot_of w body (among (p ∷ p ∷ ps)) v ≡ slot_of w body (among (p ∷ ps)) v
  unfolding slot_of has two
  again p ps = λ i. two w body v (or_again (eqb (first_page w v) p) (among ps (first_page w v)) i) (or_again (eqb (first_page w v + 1) p) (among ps (first_page w v + 1)) i)

  -- nor does a page in which the word has no bit
  pub untouched : (p : ℕ) (ps : List ℕ) → 0 < w → ((p + 1) * 32768 ≤ v * w) ⊎ (v * w + w ≤ p * 32768) → slot_of w body (among (p ∷ ps)) v ≡ slot_of w body (among ps) v
  unfolding slot_of has two
  untouched p ps h (inl l) =
      let n : eqb (first_page w v) p ≡ false = ne_eqb (first_page w v) p (omega arith) in
      let m : eqb (first_page w v + 1) p ≡ false = ne_eqb (first_page w v + 1) p (omega arith) in
      rw (n, m)
  untouched p ps h (inr l) =
      go (dec_lt (cut_of w v) w)
    where
      go : Dec (cut_of w v < w) → two w body v (eqb (first_page w v) p || among ps (first_page w v)) (eqb (first_page w v + 1) p || among ps (first_page w v + 1)) ≡ two w body v (among ps (first_page w v)) (among ps (first_page w v + 1))
      go (yes k) =
          let n : eqb (first_page w v) p ≡ false = ne_eqb (first_page w v) p (omega arith) in
          let m : eqb (first_page w v + 1) p ≡ false = ne_eqb (first_page w v + 1) p (omega arith) in
          rw (n, m)
      go (no k) =
          let n : eqb (first_page w v) p ≡ false = ne_eqb (first_page w v) p (omega arith) in
          let e : cut_of w v ≡ w = omega arith in
          rw n (two_short e (among ps (first_page w v)) (eqb (first_page w v + 1) p || among ps (first_page w v + 1)) ∙ sym (two_short e (among ps (first_page w v)) (among ps (first_page w v + 1))))

  missing_low : (s t : Bool) → missing_of w (cut_of w v) s t % 2 ^ cut_of w v ≡ cond s 0 (2 ^ cut_of w v - 1)
  unfolding missing_of
  missing_low s t = low (cond t 0 (2 ^ (w - cut_of w v) - 1)) (cut_of w v) (cond_lt s (pow_pos (cut_of w v)) (ones_lt (cut_of w v)))

  missing_high : (s t : Bool) → missing_of w (cut_of w v) s t / 2 ^ cut_of w v ≡ cond t 0 (2 ^ (w - cut_of w v) - 1)
  unfolding missing_of
  missing_high s t = high (cond t 0 (2 ^ (w - cut_of w v) - 1)) (cut_of w v) (cond_lt s (pow_pos (cut_of w v)) (ones_lt (cut_of w v)))

  -- a page that has not come is missed by every word that has bits in it
  pub still : (p : ℕ) (ps : List ℕ) → 0 < w → v * w < (p + 1) * 32768 → p * 32768 < v * w + w → among ps p ≡ false → missing_in w p v (slot_of w body (among ps) v) ≡ 0 → ⊥
  unfolding missing_in slot_of two
  still p ps z l g a = go (dec_lt (v * w) (p * 32768))
    where
      go : Dec (v * w < p * 32768) → missing_in w p v (slot_of w body (among ps) v) ≡ 0 → ⊥
      go (yes k) =
          let e : p ≡ first_page w v + 1 = omega arith in
          let c : cut_of w v < w = omega arith in
          let n = ne_eqb p (first_page w v) (omega arith) in
          let y = eq-eqb p (first_page w v + 1) e in
          let m : 2 ^ 1 ≤ 2 ^ (w - cut_of w v) = pow_mono {i = 1} {j = w - cut_of w v} (omega arith) in
          let t : among ps (first_page w v + 1) ≡ false = ap (λ (q : ℕ). among ps q) (sym e) ∙ a in
          rw (n, y, two_missing (among ps (first_page w v)) (among ps (first_page w v + 1)), missing_high (among ps (first_page w v)) (among ps (first_page w v + 1)), t) (omega arith)
      go (no k) =
          let e : p ≡ first_page w v = omega arith in
          let c : 1 ≤ cut_of w v = omega arith in
          let y = eq-eqb p (first_page w v) e in
          let m : 2 ^ 1 ≤ 2 ^ cut_of w v = pow_mono {i = 1} {j = cut_of w v} c in
          let s : among ps (first_page w v) ≡ false = ap (λ (q : ℕ). among ps q) (sym e) ∙ a in
          rw (y, two_missing (among ps (first_page w v)) (among ps (first_page w v + 1)), missing_low (among ps (first_page w v)) (among ps (first_page w v + 1)), s) (omega arith)

  -- a page that came is missed by none
  pub gone : (p : ℕ) (ps : List ℕ) → among ps p ≡ true → missing_in w p v (slot_of w body (among ps) v) ≡ 0
  unfolding missing_in slot_of two
  gone p ps a = go (eqb p (first_page w v)) (eqb p (first_page w v + 1)) refl refl
    where
      go : (x y : Bool) → eqb p (first_page w v) ≡ x → eqb p (first_page w v + 1) ≡ y → cond x (two w body v (among ps (first_page w v)) (among ps (first_page w v + 1)) / 2 ^ 32 % 2 ^ cut_of w v) (cond y (two w body v (among ps (first_page w v)) (among ps (first_page w v + 1)) / 2 ^ 32 / 2 ^ cut_of w v) 0) ≡ 0
      go true y e f =
          let s : among ps (first_page w v) ≡ true = ap (λ (q : ℕ). among ps q) (sym (eqb-true p (first_page w v) e)) ∙ a in
          rw (two_missing (among ps (first_page w v)) (among ps (first_page w v + 1)), missing_low (among ps (first_page w v)) (among ps (first_page w v + 1)), s)
      go false true e f =
          let t : among ps (first_page w v + 1) ≡ true = ap (λ (q : ℕ). among ps q) (sym (eqb-true p (first_page w v + 1) f)) ∙ a in
          rw (two_missing (among ps (first_page w v)) (among ps (first_page w v + 1)), missing_high (among ps (first_page w v)) (among ps (first_page w v + 1)), t)
      go false false e f = refl
