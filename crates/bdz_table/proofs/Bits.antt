-- Single bits of a table's bytes: what setting one does to the others, and the occupancy by its bits. Assumes nothing.
use Rattle.std.proofs.Common.{◌≡◌, ℕ, zero, suc, ◌+◌, ◌-◌, ◌*◌, ◌/◌, ◌%◌, ◌^◌, ◌<◌, ◌≤◌, Bool, true, false, ◌||◌, eqb, List, [], ◌∷◌, ◌++◌, length, get_or, set, replicate, sym, refl, ap, ◌∙◌, subst, not-suc-le-zero, mod-lt, mod-eq_of_lt, one-mul, mul-one, arith, lit<, length-set, get_or-set_other, get_or-set_same, ext_get_or, pow_pos, pow-add, shl_exact, eqb-true}
use native.Mathlib.Nat.{mod-one, zero-div, div_self, div-eq_of_lt}
use native.Mathlib.Decide.{dec_lt}
use borrow.Author.Tests.{eqb-false}
use lib.Pow.{pow-lt, shl-shr, mod-pow-add}
use lib.Bits.{bit_and, bit_or, and_mask, or_shr, or_mod, or_zero_r, or_lt}
use lib.ListN.{length-replicate, get_or-append, get_or-eq_default}
use lib.Seq.{set_out, get_or_at}
use Rattle.bdz_base.specs.Buffer.{tab}
use Rattle.bdz_base.specs.Sizes.{occupancy_bytes, table_bytes}
use Rattle.bdz_base.specs.Pack.{value_of, bytes_of, pack_of, bits, bits_at}
use Rattle.bdz_base.proofs.Buffers.{length_tab}
use Rattle.bdz_base.proofs.Digits.{digit, value_lt, length_packed, value_packed, bits_low, bits_within}
use Rattle.bdz_table.specs.Graph.{has, only_if}
use Rattle.bdz_table.specs.Occupancy.{with_bit, occupancy_of}
use Rattle.bdz_table.proofs.Zeroing.{replicate_zero}

-- ---- a bit, in its byte

-- a byte is a digit of the table's number, so its bits are the number's
pub bit_byte : (bytes : List ℕ) (v : ℕ) → bits_at 1 bytes v ≡ bits (get_or bytes (v / 8) 0) (v % 8) 1
unfolding bits_at
bit_byte bytes v =
    let h : v % 8 + 1 ≤ 8 = omega arith in
    let e : v / 8 * 8 + v % 8 ≡ v = omega arith in
    let b = get_or bytes (v / 8) 0 in
    let d : b % 2 ^ 8 ≡ value_of 8 bytes / 2 ^ (v / 8 * 8) % 2 ^ 8 = sym (digit 8 bytes (v / 8)) in
    let w : bits (b % 2 ^ 8) (v % 8) 1 ≡ bits (value_of 8 bytes) v 1 =
    rw d (bits_within (value_of 8 bytes) (v / 8 * 8) 8 (v % 8) 1 h ∙ rw e) in
    sym w ∙ bits_low b 8 (v % 8) 1 h

-- bytes behind it do not matter
bit_append : (bytes rest : List ℕ) (v : ℕ) → v / 8 < length bytes → bits_at 1 (bytes ++ rest) v ≡ bits_at 1 bytes v
bit_append bytes rest v h =
    bit_byte (bytes ++ rest) v ∙ rw (get_or-append bytes rest 0 (v / 8) h) (sym (bit_byte bytes v))

-- the bit as code reads it
pub bit_read : (bytes : List ℕ) (v : ℕ) → bit_and (get_or bytes (v / 8) 0 / 2 ^ (v % 8)) 1 ≡ bits_at 1 bytes v
bit_read bytes v = and_mask (get_or bytes (v / 8) 0 / 2 ^ (v % 8)) 1 ∙ sym (bit_byte bytes v)

-- and as it is set: 1 moved up loses nothing
pub one_moved : (k w : ℕ) → k < w → 1 * 2 ^ k % 2 ^ w ≡ 2 ^ k
one_moved k w h = shl_exact {a = 1} 1 k w (lit< tt) (omega arith) ∙ one-mul (2 ^ k)

-- ---- a byte with one bit more

-- a power of two has no other bit
other_bit : (k j : ℕ) → (j ≡ k → ⊥) → bits (2 ^ k) j 1 ≡ 0
other_bit k j n = go (dec_lt j k)
  where
    go : Dec (j < k) → bits (2 ^ k) j 1 ≡ 0
    go (yes h) =
        let e : k - j - 1 + 1 + j ≡ k = omega arith in
        subst (λ (i : ℕ). bits (2 ^ i) j 1 ≡ 0) e
        (rw (pow-add 2 (k - j - 1 + 1) j, shl-shr (2 ^ (k - j - 1 + 1)) j, pow-add 2 (k - j - 1) 1) (omega arith))
    go (no h) =
        let l : k < j = omega arith in
        rw (div-eq_of_lt (pow-lt l))

-- a bit of two numbers joined
or_bit : (b c j : ℕ) → bits (bit_or b c) j 1 ≡ bit_or (bits b j 1) (bits c j 1)
or_bit b c j = rw (or_shr b c j) (or_mod (b / 2 ^ j) (c / 2 ^ j) 1)

-- a bit that is set stays so
or_one : (x : ℕ) → x < 2 → bit_or x 1 ≡ 1
or_one zero h = refl
or_one (suc zero) h = refl
or_one (suc (suc x)) h = absurd (omega arith)

-- v's byte with v's bit set
abbrev byte_with : ℕ → List ℕ → ℕ
byte_with v bytes = bit_or (get_or bytes (v / 8) 0) (2 ^ (v % 8))

-- there are as many bytes as before
pub length_with_bit : (v : ℕ) (bytes : List ℕ) → length (with_bit v bytes) ≡ length bytes
unfolding with_bit
length_with_bit v bytes = length-set bytes (v / 8) (byte_with v bytes)

-- its own bit is set
pub bit_same : (bytes : List ℕ) (v : ℕ) → v / 8 < length bytes → bits_at 1 (with_bit v bytes) v ≡ 1
unfolding with_bit
bit_same bytes v h =
    let b = get_or bytes (v / 8) 0 in
    let k = v % 8 in
    let one : bits (2 ^ k) k 1 ≡ 1 = ap (λ (x : ℕ). x % 2) (div_self (pow_pos k)) in
    bit_byte (with_bit v bytes) v
    ∙ rw (get_or-set_same bytes (v / 8) (byte_with v bytes) 0 h, or_bit b (2 ^ k) k, one) (or_one (bits b k 1) (mod-lt (b / 2 ^ k) (omega arith)))

-- every other is as it was; where the bytes have no such bit, nothing was set at all
pub bit_other : (bytes : List ℕ) (u v : ℕ) → (u ≡ v → ⊥) → bits_at 1 (with_bit v bytes) u ≡ bits_at 1 bytes u
unfolding with_bit
bit_other bytes u v n = there (dec_lt (v / 8) (length bytes))
  where
    byte : v / 8 < length bytes → (t : Bool) → eqb (u / 8) (v / 8) ≡ t → bits (get_or (with_bit v bytes) (u / 8) 0) (u % 8) 1 ≡ bits (get_or bytes (u / 8) 0) (u % 8) 1
    byte h true t =
        let e = eqb-true (u / 8) (v / 8) t in
        let d : u % 8 ≡ v % 8 → ⊥ = λ (q : u % 8 ≡ v % 8). n (omega arith) in
        let b = get_or bytes (v / 8) 0 in
        rw (e, get_or-set_same bytes (v / 8) (byte_with v bytes) 0 h, or_bit b (2 ^ (v % 8)) (u % 8), other_bit (v % 8) (u % 8) d) (or_zero_r (bits b (u % 8) 1))
    byte h false t = rw (get_or-set_other bytes (v / 8) (u / 8) (byte_with v bytes) 0 (eqb-false (u / 8) (v / 8) t))

    there : Dec (v / 8 < length bytes) → bits_at 1 (with_bit v bytes) u ≡ bits_at 1 bytes u
    there (yes h) = bit_byte (with_bit v bytes) u ∙ byte h (eqb (u / 8) (v / 8)) refl ∙ sym (bit_byte bytes u)
    there (no h) =
        let l : length bytes ≤ v / 8 = omega arith in
        ap (λ (after : List ℕ). bits_at 1 after u) (set_out bytes (v / 8) (byte_with v bytes) l)

-- ---- bytes stay below 2^8

-- every element is a byte
abbrev pub AllBytes : List ℕ → Type 0
AllBytes bytes = (i : ℕ) → get_or bytes i 0 < 2 ^ 8

-- a number's bytes are
pub bytes_of_small : (n number : ℕ) → AllBytes (bytes_of n number)
unfolding bytes_of
bytes_of_small zero number i = omega arith
bytes_of_small (suc n) number zero = mod-lt number (omega arith)
bytes_of_small (suc n) number (suc i) = bytes_of_small n (number / 2 ^ 8) i

-- and a store of one keeps them so
set_small : (bytes : List ℕ) (j b : ℕ) → AllBytes bytes → b < 2 ^ 8 → AllBytes (set bytes j b)
set_small [] j b h l i = omega arith
set_small (x ∷ bytes) zero b h l zero = l
set_small (x ∷ bytes) zero b h l (suc i) = h (suc i)
set_small (x ∷ bytes) (suc j) b h l zero = h zero
set_small (x ∷ bytes) (suc j) b h l (suc i) = set_small bytes j b (λ k. h (suc k)) l i

-- a bit more keeps them so too
pub bytes_small : (v : ℕ) (bytes : List ℕ) → AllBytes bytes → AllBytes (with_bit v bytes)
unfolding with_bit
bytes_small v bytes h =
    let l : v % 8 < 8 = omega arith in
    set_small bytes (v / 8) (byte_with v bytes) h
    (or_lt 8 (get_or bytes (v / 8) 0) (2 ^ (v % 8)) (h (v / 8)) (pow-lt l))

-- ---- a table is known by its bits

-- numbers with the same bits agree as far as they are looked at
same_low : (a b : ℕ) → ((v : ℕ) → bits a v 1 ≡ bits b v 1) → (k : ℕ) → a % 2 ^ k ≡ b % 2 ^ k
same_low a b h zero = mod-one a ∙ sym (mod-one b)
same_low a b h (suc k) =
    let s : 1 + k ≡ suc k = omega arith in
    let e : a % 2 ^ (1 + k) ≡ b % 2 ^ (1 + k) = rw (mod-pow-add a 1 k, mod-pow-add b 1 k, h k, same_low a b h k) in
    subst (λ (j : ℕ). a % 2 ^ j ≡ b % 2 ^ j) s e

-- bytes with the same bits are the same
pub same_bits : (xs ys : List ℕ) → length xs ≡ length ys → AllBytes xs → AllBytes ys → ((v : ℕ) → bits_at 1 xs v ≡ bits_at 1 ys v) → xs ≡ ys
unfolding bits_at
same_bits xs ys l p q h =
    let m : value_of 8 xs % 2 ^ (length xs * 8) ≡ value_of 8 ys % 2 ^ (length xs * 8) = same_low (value_of 8 xs) (value_of 8 ys) h (length xs * 8) in
    let k : value_of 8 ys < 2 ^ (length xs * 8) = rw l (value_lt 8 ys) in
    let e : value_of 8 xs ≡ value_of 8 ys = sym (mod-eq_of_lt (value_lt 8 xs)) ∙ m ∙ mod-eq_of_lt k in
    ext_get_or 0 xs ys l
    (λ (i : ℕ) (r : i < length xs).
    sym (mod-eq_of_lt (p i)) ∙ sym (digit 8 xs i) ∙ ap (λ (number : ℕ). number / 2 ^ (i * 8) % 2 ^ 8) e ∙ digit 8 ys i ∙ mod-eq_of_lt (q i))

-- ---- the occupancy by its bits

-- no bit of zeros is set
pub bit_zeros : (n v : ℕ) → bits_at 1 (replicate n 0) v ≡ 0
bit_zeros n v = bit_byte (replicate n 0) v ∙ rw (replicate_zero n (v / 8), zero-div (2 ^ (v % 8)))

-- a table of words of one bit has them as its bits
pub bit_packed : (words : List ℕ) (v : ℕ) → bits_at 1 (pack_of 1 words) v ≡ get_or words v 0 % 2
unfolding bits_at
bit_packed words v =
    rw (value_packed 1 words) (ap (λ (s : ℕ). bits (value_of 1 words) s 1) (sym (mul-one v)) ∙ digit 1 words v)

-- what stands in a buffer that was written element by element
pub tab_at : (f : ℕ → ℕ) (n i : ℕ) → i < n → get_or (tab f n) i 0 ≡ f i
unfolding tab
tab_at f zero i h = absurd (not-suc-le-zero h)
tab_at f (suc n) i h = go (eqb i n) refl (λ l. tab_at f n i l)
  where
    go : (t : Bool) → eqb i n ≡ t → (i < n → get_or (tab f n) i 0 ≡ f i) → get_or (tab f n ++ (f n ∷ [])) i 0 ≡ f i
    go true t before = rw (eqb-true i n t) (get_or_at (tab f n) (f n) [] 0 n (length_tab f n))
    go false t before =
        let d : i ≡ n → ⊥ = eqb-false i n t in
        let l : i < n = omega arith in
        get_or-append (tab f n) (f n ∷ []) 0 i (rw (length_tab f n) l) ∙ before l

-- a word of the occupancy fits its one bit
only_small : (t : Bool) → only_if t 1 % 2 ≡ only_if t 1
only_small true = refl
only_small false = refl

-- the words of an occupancy
abbrev occupied : List ℕ → ℕ → ℕ
occupied ats v = only_if (has v ats) 1

-- it has as many bytes as m bits take
pub length_occupancy : (m : ℕ) (ats : List ℕ) → length (occupancy_of m ats) ≡ occupancy_bytes m
unfolding occupancy_of
length_occupancy m ats =
    let words = tab (occupied ats) m in
    length_packed 1 words ∙ rw (length_tab (occupied ats) m, mul-one m)

-- the bit of a vertex tells whether it is occupied
pub occupancy_bit : (m v : ℕ) (ats : List ℕ) → v < m → bits_at 1 (occupancy_of m ats) v ≡ only_if (has v ats) 1
unfolding occupancy_of
occupancy_bit m v ats h =
    bit_packed (tab (occupied ats) m) v
    ∙ rw (tab_at (occupied ats) m v h) (only_small (has v ats))

-- whatever stands behind it
pub occupancy_front : (m v : ℕ) (ats rest : List ℕ) → v < m → bits_at 1 (occupancy_of m ats ++ rest) v ≡ only_if (has v ats) 1
occupancy_front m v ats rest h =
    bit_append (occupancy_of m ats) rest v (rw (length_occupancy m ats) (omega arith)) ∙ occupancy_bit m v ats h

-- and no bit behind the last vertex is set
pub occupancy_past : (m v : ℕ) (ats : List ℕ) → m ≤ v → bits_at 1 (occupancy_of m ats) v ≡ 0
unfolding occupancy_of
occupancy_past m v ats h =
    let words = tab (occupied ats) m in
    let l : length words ≤ v = rw (length_tab (occupied ats) m) h in
    bit_packed words v ∙ rw (get_or-eq_default words 0 l)

-- its elements are bytes
pub occupancy_small : (m : ℕ) (ats : List ℕ) → AllBytes (occupancy_of m ats)
unfolding occupancy_of pack_of
occupancy_small m ats =
    let words = tab (occupied ats) m in
    bytes_of_small (table_bytes 1 (length words)) (value_of 1 words)

-- bytes that tell of every vertex, and nothing behind, are the occupancy
pub occupancy_is : (m : ℕ) (ats bytes : List ℕ) → length bytes ≡ occupancy_bytes m → AllBytes bytes
    → ((v : ℕ) → v < m → bits_at 1 bytes v ≡ only_if (has v ats) 1) → ((v : ℕ) → m ≤ v → bits_at 1 bytes v ≡ 0) → bytes ≡ occupancy_of m ats
occupancy_is m ats bytes l s inside past =
    same_bits bytes (occupancy_of m ats) (l ∙ sym (length_occupancy m ats)) s (occupancy_small m ats) (λ (v : ℕ). go v (dec_lt v m))
  where
    go : (v : ℕ) → Dec (v < m) → bits_at 1 bytes v ≡ bits_at 1 (occupancy_of m ats) v
    go v (yes h) = inside v h ∙ sym (occupancy_bit m v ats h)
    go v (no h) =
        let k : m ≤ v = omega arith in
        past v k ∙ sym (occupancy_past m v ats k)

-- zeros are the occupancy of no vertex
pub occupancy_none : (m : ℕ) → replicate (occupancy_bytes m) 0 ≡ occupancy_of m []
unfolding has
occupancy_none m =
    occupancy_is m [] (replicate (occupancy_bytes m) 0) (length-replicate (occupancy_bytes m) 0)
    (λ (i : ℕ). rw (replicate_zero (occupancy_bytes m) i) (omega arith))
    (λ (v : ℕ) (h : v < m). bit_zeros (occupancy_bytes m) v)
    (λ (v : ℕ) (h : m ≤ v). bit_zeros (occupancy_bytes m) v)

-- a vertex more, whether or not it was there
pub occupancy_more : (m v : ℕ) (ats : List ℕ) → v < m → with_bit v (occupancy_of m ats) ≡ occupancy_of m (v ∷ ats)
unfolding has
occupancy_more m v ats h =
    occupancy_is m (v ∷ ats) (with_bit v (occupancy_of m ats)) (length_with_bit v (occupancy_of m ats) ∙ length_occupancy m ats)
    (bytes_small v (occupancy_of m ats) (occupancy_small m ats))
    (λ (u : ℕ) (l : u < m). go u l (eqb u v) refl)
    (λ (u : ℕ) (l : m ≤ u).
    let d : u ≡ v → ⊥ = λ (e : u ≡ v). omega arith in
    bit_other (occupancy_of m ats) u v d ∙ occupancy_past m u ats l)
  where
    room : v / 8 < length (occupancy_of m ats)
    room = rw (length_occupancy m ats) (omega arith)

    go : (u : ℕ) → u < m → (t : Bool) → eqb u v ≡ t → bits_at 1 (with_bit v (occupancy_of m ats)) u ≡ only_if (t || has u ats) 1
    go u l true t = rw (eqb-true u v t) (bit_same (occupancy_of m ats) v room)
    go u l false t = bit_other (occupancy_of m ats) u v (eqb-false u v t) ∙ occupancy_bit m u ats l
