-- The packer's steps. The table is the number N = value_of w xs; the body holds its bytes below the carry's place, and the
-- carry has the bits of N above them that have come in. Assumes nothing.
use Rattle.std.proofs.Common.{◌≡◌, ℕ, suc, ◌+◌, ◌-◌, ◌*◌, ◌/◌, ◌%◌, ◌^◌, ◌<◌, ◌≤◌, true, false, ◌||◌, eqb, ltb, List, ◌++◌, length, get_or, take, drop, set, sym, refl, ap, ◌∙◌, append_assoc, add-zero, mul-le-mul_right, mod-eq_of_lt, suc-mul, add_comm, zero-mul, div-one, add-one, arith, length-append, length-set, take-append-drop, length-take, drop-cons, drop-drop, take_at, shr-shr, shr_lt}
use native.Mathlib.Nat.{mod-one}
use lib.Pow.{field}
use lib.Seq.{set_at, drop-append-add}
use Rattle.bdz_base.specs.Buffer.{over}
use Rattle.bdz_base.specs.Sizes.{table_bytes}
use Rattle.bdz_base.specs.Carry.{Gave}
use Rattle.bdz_base.specs.declared.pack.Carry.{Carry}
use Rattle.bdz_base.specs.Pack.{value_of, bytes_of, pack_of, bits, pack_no, after_pack, Packed}
use Rattle.bdz_base.proofs.Digits.{digit, value_lt, length_bytes, bytes_append, bytes_more, bytes_mod, bits_more}

-- ---- the bytes of a carry go out

-- one more byte behind the q that stand there
byte_set : (o₀ : List ℕ) (a n q : ℕ) {o : List ℕ} {b : ℕ} → o ≡ take n o₀ ++ (bytes_of q a ++ drop (n + q) o₀) → n + q < length o₀ → b ≡ a / 2 ^ (q * 8) % 2 ^ 8 → set o (n + q) b ≡ take n o₀ ++ (bytes_of (suc q) a ++ drop (n + suc q) o₀)
byte_set o₀ a n q e l f =
    let before = take n o₀ ++ bytes_of q a in
    let at : length before ≡ n + q = rw (length-append, length-take, length_bytes) (omega arith) in
    let s : n + suc q ≡ suc (n + q) = omega arith in
    rw (e, f, ← append_assoc (take n o₀) (bytes_of q a) (drop (n + q) o₀), drop-cons o₀ (n + q) 0 l, set_at before (get_or o₀ (n + q) 0) (drop (suc (n + q)) o₀) (a / 2 ^ (q * 8) % 2 ^ 8) (n + q) at, s, bytes_more q a)
    (simp append_assoc)

pub gave_none : (carry : Carry) (body : List ℕ) → Gave 0 carry body carry body
unfolding bytes_of
gave_none carry body =
    record {
      acc_left = sym (div-one carry.acc);
      bits_left = omega arith;
      place = omega arith;
      bytes = sym (rw add-zero (take-append-drop carry.at body));
    }

-- one byte more
pub gave_more : {carry : Carry} {body : List ℕ} {q acc k n b : ℕ} {o : List ℕ} → Gave q carry body (record { acc = acc; bits = k; at = n }) o → 8 ≤ k → n < length body → b ≡ acc % 2 ^ 8 → Gave (suc q) carry body (record { acc = acc / 2 ^ 8; bits = k - 8; at = n + 1 }) (set o n b)
gave_more {carry} {body} {q} {acc} {k} {n} {b} {o} p h l e =
    let d : q * 8 + 8 ≡ suc q * 8 = omega arith in
    let at : n ≡ carry.at + q = p.place in
    let is : b ≡ carry.acc / 2 ^ (q * 8) % 2 ^ 8 = e ∙ ap (λ (x : ℕ). x % 2 ^ 8) p.acc_left in
    record {
      acc_left = rw (p.acc_left, shr-shr carry.acc (q * 8) 8, d);
      bits_left = omega (arith, p.bits_left);
      place = omega arith;
      bytes = rw at (byte_set body carry.acc carry.at q p.bytes (omega arith) is);
    }

-- some bytes have gone out: what holds between two of them
pub record Giving (carry : Carry) (body : List ℕ) (left : Carry) (o : List ℕ) : Type 0 where
  pub gone : ℕ
  pub gave : Gave gone carry body left o
  pub len : length o ≡ length body

pub giving_none : (carry : Carry) (body : List ℕ) → Giving carry body carry body
giving_none carry body = record { gone = 0; gave = gave_none carry body; len = refl }

pub giving_more : {carry : Carry} {body : List ℕ} {acc k n b : ℕ} {o : List ℕ} → Giving carry body (record { acc = acc; bits = k; at = n }) o → 8 ≤ k → n < length body → b ≡ acc % 2 ^ 8 → Giving carry body (record { acc = acc / 2 ^ 8; bits = k - 8; at = n + 1 }) (set o n b)
giving_more {n = n} {b = b} {o = o} p h l e =
    record { gone = suc p.gone; gave = gave_more p.gave h l e; len = length-set o n b ∙ p.len }

-- the rest of a carry: its whole bytes and, where bits are left, one more
pub rest_whole : {carry left : Carry} {body o : List ℕ} → Gave (carry.bits / 8) carry body left o → left.bits ≡ 0 → o ≡ take carry.at body ++ (bytes_of ((carry.bits + 7) / 8) carry.acc ++ drop (carry.at + (carry.bits + 7) / 8) body)
rest_whole {carry} {left} {body} {o} p z =
    let e : (carry.bits + 7) / 8 ≡ carry.bits / 8 = omega (arith, p.bits_left) in
    rw e p.bytes

pub rest_padded : {carry left : Carry} {body o : List ℕ} {b : ℕ} → Gave (carry.bits / 8) carry body left o → 0 < left.bits → left.at < length body → b ≡ left.acc % 2 ^ 8 → set o left.at b ≡ take carry.at body ++ (bytes_of ((carry.bits + 7) / 8) carry.acc ++ drop (carry.at + (carry.bits + 7) / 8) body)
rest_padded {carry} {left} {body} {o} {b} p h l e =
    let q : (carry.bits + 7) / 8 ≡ suc (carry.bits / 8) = omega (arith, p.bits_left) in
    let is : b ≡ carry.acc / 2 ^ (carry.bits / 8 * 8) % 2 ^ 8 = e ∙ ap (λ (x : ℕ). x % 2 ^ 8) p.acc_left in
    rw (q, p.place) (byte_set body carry.acc carry.at (carry.bits / 8) p.bytes (rw (← p.place) l) is)

-- ---- the words go in

-- the first n bytes are the number's, and the rest is as it was
abbrev begun : ℕ → ℕ → List ℕ → List ℕ
begun N n o = bytes_of n N ++ drop n o

-- what stands behind what was begun
past : (N n k : ℕ) (o : List ℕ) → drop (n + k) (begun N n o) ≡ drop (n + k) o
past N n k o =
    ap (λ (m : ℕ). drop (m + k) (begun N n o)) (sym (length_bytes n N)) ∙ drop-append-add (bytes_of n N) (drop n o) k ∙ drop-drop k n o

-- k bytes more
begun_more : (N n k : ℕ) (o : List ℕ) → take n (begun N n o) ++ (bytes_of k (N / 2 ^ (n * 8)) ++ drop (n + k) (begun N n o)) ≡ begun N (n + k) o
begun_more N n k o =
    rw (take_at (bytes_of n N) (drop n o) n (length_bytes n N), past N n k o, bytes_append n k N, append_assoc)

-- i words have come in
pub record Packing (w : ℕ) (xs o₀ : List ℕ) (i : ℕ) (o : List ℕ) (carry : Carry) : Type 0 where
  pub seen : carry.bits + carry.at * 8 ≡ i * w
  pub holds : carry.acc ≡ bits (value_of w xs) (carry.at * 8) carry.bits
  pub out : o ≡ begun (value_of w xs) carry.at o₀
  pub len : length o ≡ length o₀

pub start : (w : ℕ) (xs o₀ : List ℕ) → Packing w xs o₀ 0 o₀ (record { acc = 0; bits = 0; at = 0 })
unfolding bytes_of
start w xs o₀ =
    record { seen = sym (zero-mul w); holds = sym (mod-one (value_of w xs / 2 ^ 0)); out = refl; len = refl }

module _ {w : ℕ} {xs o₀ : List ℕ} where
  -- there is room for as many bytes as the carry has
  pub room : (i q : ℕ) {o : List ℕ} {carry : Carry} → Packing w xs o₀ i o carry → i ≤ length xs → table_bytes w (length xs) ≤ length o₀ → q * 8 < carry.bits + 8 → carry.at + q ≤ length o
  room i q p h r k =
      let l : i * w ≤ length xs * w = mul-le-mul_right w h in
      omega (arith, p.seen, p.len)

  -- a word comes in above
  pub word_in_lem : (i : ℕ) {o : List ℕ} {carry next : Carry} → Packing w xs o₀ i o carry → (next.acc ≡ get_or xs i 0 % 2 ^ w * 2 ^ carry.bits + carry.acc) × (next.bits ≡ carry.bits + w) × (next.at ≡ carry.at) → Packing w xs o₀ (i + 1) o next
  word_in_lem i {o} {carry} {next} p (a, b, c) =
      let N = value_of w xs in
      let k = carry.bits in
      let n = carry.at in
      let s : n * 8 + k ≡ i * w = omega (arith, p.seen) in
      let is : next.acc ≡ bits N (n * 8) (w + k) = a ∙ sym (rw (bits_more N (n * 8) k w, s, digit w xs i, p.holds)) in
      record {
        seen = let e : (i + 1) * w ≡ i * w + w = rw add-one (suc-mul i w) in omega (arith, p.seen);
        holds = rw (b, c, add_comm k w) is;
        out = rw c p.out;
        len = p.len;
      }

  -- bytes go out below
  pub bytes_out : {i q : ℕ} {o o' : List ℕ} {carry left : Carry} → Packing w xs o₀ i o carry → Gave q carry o left o' → length o' ≡ length o → Packing w xs o₀ i o' left
  bytes_out {i} {q} {o} {o'} {carry} {left} p g l =
      let N = value_of w xs in
      let n = carry.at in
      let is : carry.acc ≡ N / 2 ^ (n * 8) % 2 ^ (left.bits + q * 8) = rw g.bits_left p.holds in
      let d : n * 8 + q * 8 ≡ (n + q) * 8 = omega arith in
      record {
        seen = omega (arith, p.seen, g.bits_left, g.place);
        holds = rw (g.acc_left, is, g.place, field (N / 2 ^ (n * 8)) left.bits (q * 8), shr-shr N (n * 8) (q * 8), d);
        out = rw (g.bytes, is, bytes_mod q left.bits (N / 2 ^ (n * 8)), p.out, g.place) (begun_more N n q o₀);
        len = l ∙ p.len;
      }

  -- all words have come in, and the rest went out
  pub whole : {o o' : List ℕ} {carry : Carry} → Packing w xs o₀ (length xs) o carry → o' ≡ take carry.at o ++ (bytes_of ((carry.bits + 7) / 8) carry.acc ++ drop (carry.at + (carry.bits + 7) / 8) o) → o' ≡ over (pack_of w xs) o₀
  unfolding pack_of
  whole {o} {o'} {carry} p e =
      let N = value_of w xs in
      let n = carry.at in
      let q = (carry.bits + 7) / 8 in
      let v : N < 2 ^ (carry.bits + n * 8) = rw p.seen (value_lt w xs) in
      let is : carry.acc ≡ N / 2 ^ (n * 8) = p.holds ∙ mod-eq_of_lt (shr_lt carry.bits (n * 8) v) in
      let r : n + q ≡ table_bytes w (length xs) = omega (arith, p.seen) in
      rw (e, is, p.out, length_bytes (table_bytes w (length xs)) N, ← r) (begun_more N n q o₀)

-- ---- the packer's returns

pub no_width : (w : ℕ) (xs o : List ℕ) → (eqb w 0 || ltb 32 w) ≡ true → Packed w xs o 10 o
unfolding pack_no after_pack
no_width w xs o h = record { number_is = simp h; after_is = simp h }

pub no_room : (w : ℕ) (xs o : List ℕ) → (eqb w 0 || ltb 32 w) ≡ false → ltb (length o) (table_bytes w (length xs)) ≡ true → Packed w xs o 14 o
unfolding pack_no after_pack
no_room w xs o h r = record { number_is = simp (h, r); after_is = simp (h, r) }

pub packed : (w : ℕ) (xs o : List ℕ) {o' : List ℕ} → (eqb w 0 || ltb 32 w) ≡ false → ltb (length o) (table_bytes w (length xs)) ≡ false → o' ≡ over (pack_of w xs) o → Packed w xs o 0 o'
unfolding pack_no after_pack
packed w xs o h r e = record { number_is = simp (h, r); after_is = simp (h, r) e }
