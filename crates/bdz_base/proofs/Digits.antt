-- A number and its digits. Assumes nothing.
use Rattle.std.proofs.Common.{◌≡◌, ℕ, zero, suc, ◌+◌, ◌-◌, ◌*◌, ◌/◌, ◌%◌, ◌^◌, ◌<◌, ◌≤◌, min, List, [], ◌∷◌, ◌++◌, length, get_or, take, drop, sym, refl, ap, ◌∙◌, subst, lt_of_lt_of_le, add-zero, add_assoc, mul-le-mul_right, mod-lt, mod-eq_of_lt, mul_assoc, suc-mul, add-mul, add_comm, suc-add, zero-add, zero-mul, mul-one, div-one, arith, length-drop, pow_pos, pow_mono, pow-add, shr-shr}
use native.Mathlib.Nat.{div-eq_of_lt, add-mul-div_right, add-mul-mod_self_right, mod-mod, zero-div, zero-mod, mod-one}
use lib.Pow.{high, low, field, mod-pow-add, mod-mod-pow}
use lib.Arith.{digits_lt}
use lib.Seq.{take-length}
use Rattle.bdz_base.specs.Sizes.{table_bytes}
use Rattle.bdz_base.specs.Pack.{value_of, bytes_of, pack_of, bits, bits_at, word_at}

-- ---- a number's digits in base 2^w

pub digit : (w : ℕ) (xs : List ℕ) (i : ℕ) → value_of w xs / 2 ^ (i * w) % 2 ^ w ≡ get_or xs i 0 % 2 ^ w
unfolding value_of
digit w [] i = rw zero-div
digit w (x ∷ xs) zero = rw (zero-mul w, div-one, low (value_of w xs) w (mod-lt x (pow_pos w)))
digit w (x ∷ xs) (suc i) =
    rw (suc-mul i w, add_comm (i * w) w, ← shr-shr (value_of w xs * 2 ^ w + x % 2 ^ w) w (i * w), high (value_of w xs) w (mod-lt x (pow_pos w)))
    (digit w xs i)

pub value_lt : (w : ℕ) (xs : List ℕ) → value_of w xs < 2 ^ (length xs * w)
unfolding value_of
value_lt w [] = rw zero-mul (omega arith)
value_lt w (x ∷ xs) = rw (suc-mul (length xs) w, pow-add) (digits_lt (value_lt w xs) (mod-lt x (pow_pos w)))

-- ---- its bytes

pub length_bytes : (n v : ℕ) → length (bytes_of n v) ≡ n
unfolding bytes_of
length_bytes zero v = refl
length_bytes (suc n) v = ap suc (length_bytes n (v / 2 ^ 8))

-- one byte more
pub bytes_more : (n v : ℕ) → bytes_of (suc n) v ≡ bytes_of n v ++ (v / 2 ^ (n * 8) % 2 ^ 8 ∷ [])
unfolding bytes_of
bytes_more zero v = rw div-one
bytes_more (suc n) v =
    ap (λ (l : List ℕ). v % 2 ^ 8 ∷ l)
    (bytes_more n (v / 2 ^ 8) ∙ rw (shr-shr v 8 (n * 8), suc-mul n 8, add_comm (n * 8) 8))

-- the number of the bytes is the number again, as far as they go
pub value_bytes : (n v : ℕ) → value_of 8 (bytes_of n v) ≡ v % 2 ^ (n * 8)
unfolding bytes_of value_of
value_bytes zero v = sym (mod-one v)
value_bytes (suc n) v =
    rw (value_bytes n (v / 2 ^ 8), mod-mod, suc-mul n 8, mod-pow-add v (n * 8) 8)

-- bytes from a place on are the bytes of what lies above
pub bytes_append : (n k v : ℕ) → bytes_of (n + k) v ≡ bytes_of n v ++ bytes_of k (v / 2 ^ (n * 8))
unfolding bytes_of
bytes_append zero k v = rw (zero-add, div-one)
bytes_append (suc n) k v =
    rw (suc-add, bytes_append n k (v / 2 ^ 8), shr-shr v 8 (n * 8), suc-mul n 8, add_comm (n * 8) 8)

-- only the bits that they hold matter
pub bytes_mod : (n j v : ℕ) → bytes_of n (v % 2 ^ (j + n * 8)) ≡ bytes_of n v
unfolding bytes_of
bytes_mod zero j v = refl
bytes_mod (suc n) j v =
    let e : j + suc n * 8 ≡ j + n * 8 + 8 = omega arith in
    rw (e, mod-mod-pow v (j + n * 8) 8, field v (j + n * 8) 8, bytes_mod n j (v / 2 ^ 8))

-- ---- bits within bits

pub bits_lt : (number s k : ℕ) {x : ℕ} → x ≡ bits number s k → x < 2 ^ k
bits_lt number s k e = rw e (mod-lt (number / 2 ^ s) (pow_pos k))

pub bits_within : (number a k r j : ℕ) → r + j ≤ k → bits (bits number a k) r j ≡ bits number (a + r) j
bits_within number a k r j h =
    let s : k - (r + j) + j + r ≡ k = omega arith in
    let q : number / 2 ^ a % 2 ^ (k - (r + j) + j + r) / 2 ^ r % 2 ^ j ≡ number / 2 ^ (a + r) % 2 ^ j =
    rw (field (number / 2 ^ a) (k - (r + j) + j) r, mod-mod-pow, shr-shr) in
    subst (λ (m : ℕ). number / 2 ^ a % 2 ^ m / 2 ^ r % 2 ^ j ≡ number / 2 ^ (a + r) % 2 ^ j) s q

-- bits of the lowest bits
pub bits_low : (number k r j : ℕ) → r + j ≤ k → bits (number % 2 ^ k) r j ≡ bits number r j
bits_low number k r j h = ap (λ (x : ℕ). bits (x % 2 ^ k) r j) (sym (div-one number)) ∙ bits_within number 0 k r j h ∙ rw zero-add

-- ---- lists behind one another

pub value_append : (w : ℕ) (xs ys : List ℕ) → value_of w (xs ++ ys) ≡ value_of w ys * 2 ^ (length xs * w) + value_of w xs
unfolding value_of
value_append w [] ys = rw (zero-mul, mul-one, add-zero)
value_append w (x ∷ xs) ys =
    rw (value_append w xs ys, suc-mul (length xs) w, pow-add, add-mul, mul_assoc, add_assoc)

-- what is left of a number without its first digits
pub value_drop : (w n : ℕ) (xs : List ℕ) → value_of w (drop n xs) ≡ value_of w xs / 2 ^ (n * w)
unfolding value_of
value_drop w zero xs = rw (zero-mul, div-one)
value_drop w (suc n) [] = sym (zero-div _)
value_drop w (suc n) (x ∷ xs) =
    rw (value_drop w n xs, suc-mul n w, add_comm (n * w) w, ← shr-shr (value_of w xs * 2 ^ w + x % 2 ^ w) w (n * w), high (value_of w xs) w (mod-lt x (pow_pos w)))

-- bits from a byte on are those of the part that starts there
pub bits_drop : (k n s : ℕ) (xs : List ℕ) → bits_at k (drop n xs) s ≡ bits_at k xs (n * 8 + s)
unfolding bits_at
bits_drop k n s xs = rw (value_drop 8 n xs, shr-shr (value_of 8 xs) (n * 8) s)

-- a list's first digits are the lowest of its number
pub value_take : (w n : ℕ) (xs : List ℕ) → value_of w (take n xs) ≡ value_of w xs % 2 ^ (n * w)
unfolding value_of
value_take w zero xs = rw zero-mul (sym (mod-one (value_of w xs)))
value_take w (suc n) [] = sym (zero-mod _)
value_take w (suc n) (x ∷ xs) =
    rw (value_take w n xs, suc-mul n w, mod-pow-add (value_of w xs * 2 ^ w + x % 2 ^ w) (n * w) w, high (value_of w xs) w (mod-lt x (pow_pos w)), low (value_of w xs) w (mod-lt x (pow_pos w)))

-- bits that lie within a part, as it is lent
pub bits_part : (k len n s : ℕ) (xs : List ℕ) → s + k ≤ len * 8 → bits_at k (take len (drop n xs)) s ≡ bits_at k xs (n * 8 + s)
unfolding bits_at
bits_part k len n s xs h =
    rw (value_take 8 len (drop n xs), bits_low (value_of 8 (drop n xs)) (len * 8) s k h, value_drop 8 n xs, shr-shr (value_of 8 xs) (n * 8) s)

-- bits of all that lies behind a byte
pub bits_tail : (k n : ℕ) (xs : List ℕ) → n ≤ length xs → bits_at k (take (length xs - n) (drop n xs)) 0 ≡ bits_at k xs (n * 8)
bits_tail k n xs h =
    let e : length (drop n xs) ≡ length xs - n = length-drop n xs in
    rw (← e, take-length (drop n xs), bits_drop k n 0 xs, add-zero (n * 8))

-- ---- what was packed is read back

room_holds : (w m : ℕ) → m * w ≤ table_bytes w m * 8
room_holds w m = omega arith

pub length_packed : (w : ℕ) (xs : List ℕ) → length (pack_of w xs) ≡ table_bytes w (length xs)
unfolding pack_of
length_packed w xs = length_bytes (table_bytes w (length xs)) (value_of w xs)

pub value_packed : (w : ℕ) (xs : List ℕ) → value_of 8 (pack_of w xs) ≡ value_of w xs
unfolding pack_of
value_packed w xs =
    value_bytes (table_bytes w (length xs)) (value_of w xs)
    ∙ mod-eq_of_lt (lt_of_lt_of_le (value_lt w xs) (pow_mono (room_holds w (length xs))))

-- bits far above do not matter
far : (a b d w k : ℕ) → (a * 2 ^ (d + w + k) + b) / 2 ^ k % 2 ^ w ≡ b / 2 ^ k % 2 ^ w
far a b d w k =
    rw (pow-add 2 (d + w) k, ← mul_assoc a (2 ^ (d + w)) (2 ^ k), add_comm (a * 2 ^ (d + w) * 2 ^ k) b, add-mul-div_right b (a * 2 ^ (d + w)) (pow_pos k), pow-add 2 d w, ← mul_assoc a (2 ^ d) (2 ^ w), add-mul-mod_self_right)

-- the word at v, with any bytes behind the table
pub read_back : (w : ℕ) (xs rest : List ℕ) (v : ℕ) → w ≤ 32 → v < length xs → word_at w (pack_of w xs ++ rest) v ≡ get_or xs v 0 % 2 ^ w
unfolding word_at bits_at
read_back w xs rest v l h =
    let r = table_bytes w (length xs) * 8 in
    let k : suc v * w ≤ length xs * w = mul-le-mul_right w h in
    let s : suc v * w ≡ v * w + w = suc-mul v w in
    let e : r - (v * w + w) + w + v * w ≡ r = omega arith in
    let q : min w 32 ≡ w = omega arith in
    rw (q, value_append 8 (pack_of w xs) rest, length_packed w xs, value_packed w xs, ← e, far (value_of 8 rest) (value_of w xs) (r - (v * w + w)) w (v * w))
    (digit w xs v)

-- "last byte padded with zeros": no bit above the last word is set
pub padding_zero : (w : ℕ) (xs : List ℕ) → value_of 8 (pack_of w xs) < 2 ^ (length xs * w)
padding_zero w xs = rw (value_packed w xs) (value_lt w xs)

-- ---- bits that come in above

-- j bits more, above k
pub bits_more : (number s k j : ℕ) → bits number s (j + k) ≡ bits number (s + k) j * 2 ^ k + bits number s k
bits_more number s k j = mod-pow-add (number / 2 ^ s) j k ∙ rw (shr-shr number s k)

-- a byte comes in above the k that have come
pub byte_more : (xs : List ℕ) (k b acc : ℕ) → acc ≡ bits_at (k * 8) xs 0 → b ≡ get_or xs k 0 → b < 2 ^ 8 → b * 2 ^ (k * 8) + acc ≡ bits_at ((k + 1) * 8) xs 0
unfolding bits_at
byte_more xs k b acc e f l =
    let s : (k + 1) * 8 ≡ 8 + k * 8 = omega arith in
    let d : value_of 8 xs / 2 ^ (k * 8) % 2 ^ 8 ≡ b = digit 8 xs k ∙ rw (← f) (mod-eq_of_lt l) in
    rw (s, e, bits_more (value_of 8 xs) 0 (k * 8) 8, zero-add, d)

-- what stands in no byte is 0
pub bits_past : (k n : ℕ) (xs : List ℕ) → length xs ≤ n → bits_at k xs (n * 8) ≡ 0
unfolding bits_at
bits_past k n xs h =
    let z : value_of 8 xs / 2 ^ (n * 8) ≡ 0 = div-eq_of_lt (lt_of_lt_of_le (value_lt 8 xs) (pow_mono (mul-le-mul_right 8 h))) in
    rw z (zero-mod (2 ^ k))

-- no bits are 0
pub bits_none : (xs : List ℕ) → 0 ≡ bits_at (0 * 8) xs 0
unfolding bits_at
bits_none xs = sym (mod-one (value_of 8 xs / 2 ^ 0))

-- up to seven bytes leave room for one more in 64 bits
pub byte_joins : (xs : List ℕ) (k acc b : ℕ) → acc ≡ bits_at (k * 8) xs 0 → b < 2 ^ 8 → k < 8 → (acc < 2 ^ (k * 8)) × (b < 2 ^ (64 - k * 8)) × (k * 8 < 64)
unfolding bits_at
byte_joins xs k acc b e h l =
    (bits_lt (value_of 8 xs) 0 (k * 8) e, lt_of_lt_of_le h (pow_mono {i = 8} {j = 64 - k * 8} (omega arith)), omega arith)

-- up to 32 bits from any bit on stand in the 64 from its byte on
pub bits_in_word : (xs : List ℕ) (s width : ℕ) {word k r : ℕ} → word ≡ bits_at 64 xs (s / 8 * 8) → k ≡ min width 32 → r ≡ word / 2 ^ (s % 8) % 2 ^ k → r ≡ bits_at (min width 32) xs s
unfolding bits_at
bits_in_word xs s width e f g =
    let h : s % 8 + min width 32 ≤ 64 = omega arith in
    let t : s / 8 * 8 + s % 8 ≡ s = omega arith in
    rw (g, e, f, bits_within (value_of 8 xs) (s / 8 * 8) 64 (s % 8) (min width 32) h, t)
