-- A list is refused with 19 exactly where it is not one that is written record by record. Assumes nothing.
use mathlib.Core.Path.{◌≡◌, refl, sym, ap, ap₂, ◌∙◌}
use mathlib.Core.Bool.{Bool, true, false, true≢false, not, cond, ◌&&◌, ◌||◌}
use mathlib.Core.List.{List, [], ◌∷◌, ◌++◌, append_assoc}
use mathlib.Core.Logic.{◌⊎◌, inl, inr}
use Prim.Native.Nat.{ℕ, zero, suc, ◌+◌, ◌*◌, ◌%◌, ◌^◌, ◌≤◌, ◌<◌}
use native.Mathlib.Nat.{mod-lt, mod-eq_of_lt, not-suc-le-zero, zero-add}
use native.Mathlib.Numerals.{add-one}
use native.Mathlib.Omega.{arith}
use borrow.Author.Tests.{eqb-true, eqb-false, ltb-false, not-true}
use lib.Dec.{eqb, ltb, lit<}
use lib.ListN.{length, get_or, take, drop, length-drop, take-append-drop, drop_of_length-le}
use lib.Pow.{pow_pos, high, low}
use lib.Seq.{drop-cons, drop-drop, get_or-drop, length-take-le}
use Rattle.bdz_base.specs.Pack.{value_of, bytes_of, bits_at}
use Rattle.bdz_base.specs.Refusal.{refuse}
use Rattle.bdz_base.specs.declared.verts.Kind.{Kind}
use Rattle.bdz_base.specs.declared.verts.Kind.TheVariants.{Assigned, Compact}
use Rattle.bdz_base.proofs.Digits.{value_take, value_drop}
use Rattle.bdz_table.proofs.Bits.{AllBytes}
use Rattle.bdz_table.proofs.Has.{or_true}
use Rattle.bdz_list.specs.List.{Listed, place_of, letter_of, list_count, marked, records_are, list_key, list_value, list_modulus, shaped, assigned_list, compact_list, list_kind, lacks_list, list_no, refused_list, listed_of, ReadList}
use Rattle.bdz_list.specs.Written.{Entry, no_entry, assigned_record, compact_record, joined, assigned_bytes, compact_bytes, WrittenAssigned, WrittenCompact}
use Rattle.bdz_list.proofs.Reading.{is_assigned, is_compact}
use Rattle.bdz_list.proofs.Records.{both, shaped_few, shaped_whole, shaped_records}

-- ---- bytes from the numbers that they make

-- the bytes of the number of bytes
rebuilt : (xs : List ℕ) → AllBytes xs → bytes_of (length xs) (value_of 8 xs) ≡ xs
unfolding bytes_of value_of
rebuilt [] h = refl
rebuilt (x ∷ xs) h =
    let l : x % 2 ^ 8 < 2 ^ 8 = mod-lt x (pow_pos 8) in
    ap₂ ◌∷◌ (low (value_of 8 xs) 8 l ∙ mod-eq_of_lt (h 0)) (ap (bytes_of (length xs)) (high (value_of 8 xs) 8 l) ∙ rebuilt xs (λ i. h (suc i)))

take_bytes : (n : ℕ) (xs : List ℕ) → AllBytes xs → AllBytes (take n xs)
take_bytes zero xs h i = omega arith
take_bytes (suc n) [] h i = omega arith
take_bytes (suc n) (x ∷ xs) h zero = h 0
take_bytes (suc n) (x ∷ xs) h (suc i) = take_bytes n xs (λ k. h (suc k)) i

drop_bytes : (n : ℕ) (xs : List ℕ) → AllBytes xs → AllBytes (drop n xs)
drop_bytes n xs h i = rw (get_or-drop n xs i 0) (h (n + i))

-- n bytes at a place are those of the number that is read there
piece : (n at : ℕ) (bytes : List ℕ) → AllBytes bytes → at + n ≤ length bytes → drop at bytes ≡ bytes_of n (bits_at (n * 8) bytes (at * 8)) ++ drop (at + n) bytes
unfolding bits_at
piece n at bytes h k =
    let xs = take n (drop at bytes) in
    let room : n ≤ length (drop at bytes) = rw (length-drop at bytes) (omega arith) in
    let l : length xs ≡ n = length-take-le n (drop at bytes) room in
    let v : value_of 8 xs ≡ bits_at (n * 8) bytes (at * 8) = value_take 8 n (drop at bytes) ∙ ap (λ (x : ℕ). x % 2 ^ (n * 8)) (value_drop 8 at bytes) in
    let back : bytes_of n (bits_at (n * 8) bytes (at * 8)) ≡ xs = ap₂ bytes_of (sym l) (sym v) ∙ rebuilt xs (take_bytes n (drop at bytes) (drop_bytes at bytes h)) in
    sym (take-append-drop n (drop at bytes)) ∙ ap₂ ◌++◌ (sym back) (drop-drop n at bytes)

-- the two bytes before it
mark : (bytes : List ℕ) (at letter : ℕ) → at + 2 ≤ length bytes → marked bytes at letter ≡ true → drop at bytes ≡ 0x4b ∷ letter ∷ drop (at + 2) bytes
unfolding marked
mark bytes at letter l e =
    let m = both (eqb (get_or bytes at 0) 0x4b) (eqb (get_or bytes (at + 1) 0) letter) e in
    let first : get_or bytes at 0 ≡ 0x4b = eqb-true (get_or bytes at 0) 0x4b m.0 in
    let second : get_or bytes (suc at) 0 ≡ letter = ap (λ (i : ℕ). get_or bytes i 0) (sym (add-one at)) ∙ eqb-true (get_or bytes (at + 1) 0) letter m.1 in
    let next : suc (suc at) ≡ at + 2 = omega arith in
    drop-cons bytes at 0 (omega arith)
    ∙ ap₂ ◌∷◌ first (drop-cons bytes (suc at) 0 (omega arith) ∙ ap₂ ◌∷◌ second (ap (λ (i : ℕ). drop i bytes) next))

-- each record of them all
each_marked : (kind : Kind) (bytes : List ℕ) (n : ℕ) → records_are kind bytes n ≡ true → (i : ℕ) → i < n → marked bytes (place_of kind i) (letter_of kind) ≡ true
unfolding records_are
each_marked kind bytes zero e i h = absurd (not-suc-le-zero h)
each_marked kind bytes (suc n) e i h = go (eqb i n) refl (λ p l. each_marked kind bytes n p i l)
  where
    go : (t : Bool) → eqb i n ≡ t → (records_are kind bytes n ≡ true → i < n → marked bytes (place_of kind i) (letter_of kind) ≡ true) → marked bytes (place_of kind i) (letter_of kind) ≡ true
    go true t before =
        let q : i ≡ n = eqb-true i n t in
        rw q (both (records_are kind bytes n) (marked bytes (place_of kind n) (letter_of kind)) e).1
    go false t before =
        let d : i ≡ n → ⊥ = eqb-false i n t in
        before (both (records_are kind bytes n) (marked bytes (place_of kind n) (letter_of kind)) e).0 (omega arith)

-- ---- records one behind the other

-- a i, a (i + 1), .., k in all
unfoldable from : {A : Type 0} → (ℕ → A) → ℕ → ℕ → List A
from a i zero = []
from a i (suc k) = a i ∷ from a (suc i) k

module _ {A : Type 0} (a : ℕ → A) where
  length_from : (i k : ℕ) → length (from a i k) ≡ k
  unfolding from
  length_from i zero = refl
  length_from i (suc k) = ap suc (length_from (suc i) k)

  each_from : (P : A → Type 0) (none : A) → P none → ((i : ℕ) → P (a i)) → (k i j : ℕ) → P (get_or (from a i k) j none)
  unfolding from
  each_from P none p h zero i j = p
  each_from P none p h (suc k) i zero = h i
  each_from P none p h (suc k) i (suc j) = each_from P none p h k (suc i) j

  joined_from : (f : A → List ℕ) (place : ℕ → ℕ) (bytes : List ℕ) (n : ℕ) → ((i : ℕ) → i < n → drop (place i) bytes ≡ f (a i) ++ drop (place (suc i)) bytes) → drop (place n) bytes ≡ [] → (k i : ℕ) → i + k ≡ n → drop (place i) bytes ≡ joined f (from a i k)
  unfolding from joined
  joined_from f place bytes n each end zero i e =
      let q : i ≡ n = omega arith in
      ap (λ (x : ℕ). drop (place x) bytes) q ∙ end
  joined_from f place bytes n each end (suc k) i e =
      each i (omega arith) ∙ ap (λ (xs : List ℕ). f (a i) ++ xs) (joined_from f place bytes n each end k (suc i) (omega arith))

-- ---- assigned lists

module _ (bytes : List ℕ) (small : AllBytes bytes) (is : assigned_list bytes ≡ true) where
  abbrev n : ℕ
  n = list_count Assigned bytes

  abbrev entry_at : ℕ → Entry
  entry_at i = record { key = list_key Assigned bytes i; value = list_value bytes i }

  is_shape : shaped Assigned bytes ≡ true
  unfolding assigned_list
  is_shape = (both (shaped Assigned bytes) (marked bytes 0 0x4d && not (ltb 65536 (list_modulus Assigned bytes))) is).0

  start : (marked bytes 0 0x4d ≡ true) × (not (ltb 65536 (list_modulus Assigned bytes)) ≡ true)
  unfolding assigned_list
  start = both (marked bytes 0 0x4d) (not (ltb 65536 (list_modulus Assigned bytes))) (both (shaped Assigned bytes) (marked bytes 0 0x4d && not (ltb 65536 (list_modulus Assigned bytes))) is).1

  whole : place_of Assigned n ≡ length bytes
  whole = shaped_whole Assigned bytes is_shape

  entry_here : (i : ℕ) → i < n → drop (place_of Assigned i) bytes ≡ assigned_record (entry_at i) ++ drop (place_of Assigned (suc i)) bytes
  unfolding assigned_record list_key list_value
  entry_here i h =
      let at = place_of Assigned i in
      let room : at + 14 ≤ length bytes = omega (arith, whole) in
      let key = bits_at 64 bytes ((at + 2) * 8) in
      let value = bits_at 32 bytes ((at + 10) * 8) in
      let ten : at + 2 + 8 ≡ at + 10 = omega arith in
      let next : at + 10 + 4 ≡ place_of Assigned (suc i) = omega arith in
      mark bytes at 0x56 (omega arith) (each_marked Assigned bytes n (shaped_records Assigned bytes is_shape) i h)
      ∙ ap (λ (xs : List ℕ). 0x4b ∷ 0x56 ∷ xs)
      (piece 8 (at + 2) bytes small (omega arith)
      ∙ ap (λ (k : ℕ). bytes_of 8 key ++ drop k bytes) ten
      ∙ ap (λ (xs : List ℕ). bytes_of 8 key ++ xs) (piece 4 (at + 10) bytes small (omega arith) ∙ ap (λ (k : ℕ). bytes_of 4 value ++ drop k bytes) next)
      ∙ sym (append_assoc (bytes_of 8 key) (bytes_of 4 value) (drop (place_of Assigned (suc i)) bytes)))

  entry_range : (i : ℕ) → ((entry_at i).key < 2 ^ 64) × ((entry_at i).value < 2 ^ 32)
  unfolding list_key list_value bits_at
  entry_range i = (mod-lt _ (pow_pos 64), mod-lt _ (pow_pos 32))

  start_bytes : bytes ≡ assigned_bytes (list_modulus Assigned bytes) (from entry_at 0 n)
  unfolding assigned_bytes list_modulus
  start_bytes =
      let room : 6 ≤ length bytes = omega (arith, whole) in
      let end : length bytes ≤ place_of Assigned n = omega (arith, whole) in
      mark bytes 0 0x4d (omega arith) start.0
      ∙ ap (λ (xs : List ℕ). 0x4b ∷ 0x4d ∷ xs)
      (piece 4 2 bytes small (omega arith)
      ∙ ap (λ (xs : List ℕ). bytes_of 4 (bits_at 32 bytes 16) ++ xs)
      (joined_from entry_at assigned_record (place_of Assigned) bytes n entry_here (drop_of_length-le bytes end) n 0 (zero-add n)))

  written_assigned : WrittenAssigned bytes
  written_assigned =
      record {
        modulus = list_modulus Assigned bytes;
        entries = from entry_at 0 n;
        fits = ltb-false 65536 (list_modulus Assigned bytes) (not-true (ltb 65536 (list_modulus Assigned bytes)) start.1);
        few = rw (length_from entry_at 0 n) (shaped_few Assigned bytes is_shape);
        range = each_from entry_at (λ entry. (entry.key < 2 ^ 64) × (entry.value < 2 ^ 32)) no_entry (lit< tt, lit< tt) entry_range n 0;
        is = start_bytes;
      }

-- ---- compact lists

module _ (bytes : List ℕ) (small : AllBytes bytes) (is : compact_list bytes ≡ true) where
  abbrev count : ℕ
  count = list_count Compact bytes

  parts : (not (eqb (length bytes) 0) ≡ true) × (shaped Compact bytes ≡ true)
  unfolding compact_list
  parts = both (not (eqb (length bytes) 0)) (shaped Compact bytes) is

  filled : place_of Compact count ≡ length bytes
  filled = shaped_whole Compact bytes parts.1

  key_at : (i : ℕ) → i < count → drop (place_of Compact i) bytes ≡ compact_record (list_key Compact bytes i) ++ drop (place_of Compact (suc i)) bytes
  unfolding compact_record list_key
  key_at i h =
      let at = place_of Compact i in
      let room : at + 10 ≤ length bytes = omega (arith, filled) in
      let key = bits_at 64 bytes ((at + 2) * 8) in
      let next : at + 2 + 8 ≡ place_of Compact (suc i) = omega arith in
      mark bytes at 0x43 (omega arith) (each_marked Compact bytes count (shaped_records Compact bytes parts.1) i h)
      ∙ ap (λ (xs : List ℕ). 0x4b ∷ 0x43 ∷ xs) (piece 8 (at + 2) bytes small (omega arith) ∙ ap (λ (k : ℕ). bytes_of 8 key ++ drop k bytes) next)

  key_range : (i : ℕ) → list_key Compact bytes i < 2 ^ 64
  unfolding list_key bits_at
  key_range i = mod-lt _ (pow_pos 64)

  key_bytes : bytes ≡ compact_bytes (from (list_key Compact bytes) 0 count)
  unfolding compact_bytes
  key_bytes =
      let end : length bytes ≤ place_of Compact count = omega (arith, filled) in
      joined_from (list_key Compact bytes) compact_record (place_of Compact) bytes count key_at (drop_of_length-le bytes end) count 0 (zero-add count)

  written_compact : WrittenCompact bytes
  written_compact =
      let long = length_from (list_key Compact bytes) 0 count in
      let ne = eqb-false (length bytes) 0 (not-true (eqb (length bytes) 0) parts.0) in
      let one : 1 ≤ count = omega (arith, filled) in
      record {
        keys = from (list_key Compact bytes) 0 count;
        some = rw long one;
        few = rw long (shaped_few Compact bytes parts.1);
        range = each_from (list_key Compact bytes) (λ key. key < 2 ^ 64) 0 (lit< tt) key_range count 0;
        is = key_bytes;
      }

-- ---- 19 and nothing else

abbrev pub Written : List ℕ → Type 0
Written bytes = WrittenAssigned bytes ⊎ WrittenCompact bytes

-- what is written has one of the two shapes, and what has is written
written_shaped : (bytes : List ℕ) → Written bytes → (assigned_list bytes || compact_list bytes) ≡ true
written_shaped bytes (inl w) = rw (w.is, is_assigned w.modulus w.entries w.fits w.few w.range)
written_shaped bytes (inr w) = rw (w.is, is_compact w.keys w.few w.range w.some) (or_true (assigned_list (compact_bytes w.keys)))

shaped_written : (bytes : List ℕ) → AllBytes bytes → (assigned_list bytes || compact_list bytes) ≡ true → Written bytes
shaped_written bytes small e = go (assigned_list bytes) refl e
  where
    go : (t : Bool) → assigned_list bytes ≡ t → (t || compact_list bytes) ≡ true → Written bytes
    go true a e = inl (written_assigned bytes small a)
    go false a e = inr (written_compact bytes small e)

-- the answer's number is the cascade's
number_is : (number : ℕ) (kind : Kind) (bytes : List ℕ) → (listed_of number kind bytes).no ≡ number
unfolding listed_of
number_is number kind bytes = go (eqb number 0) refl
  where
    go : (t : Bool) → eqb number 0 ≡ t → (cond t (record { no = 0; kind = kind; modulus = list_modulus kind bytes; count = list_count kind bytes }) (refused_list number)).no ≡ number
    go true e = sym (eqb-true number 0 e)
    go false e = refl

bad_is : (good lacks : Bool) → refuse 19 (not good) (refuse 14 lacks 0) ≡ 19 → good ≡ false
bad_is true true e = absurd (omega arith)
bad_is true false e = absurd (omega arith)
bad_is false lacks e = refl

good_is : (good lacks : Bool) → (refuse 19 (not good) (refuse 14 lacks 0) ≡ 19 → ⊥) → good ≡ true
good_is true lacks h = refl
good_is false lacks h = absurd (h refl)

-- a list that is written is not refused with 19, and every other is
pub bad_exactly : (bytes keys values : List ℕ) → AllBytes bytes → (r : Listed) (keys' values' : List ℕ) → ReadList bytes keys values r keys' values' → (Written bytes → r.no ≡ 19 → ⊥) × ((r.no ≡ 19 → ⊥) → Written bytes)
unfolding list_no
bad_exactly bytes keys values small r keys' values' p =
    let number = list_no bytes (length keys) (length values) in
    let is : r.no ≡ number = ap (λ (x : Listed). x.no) p.answer_is ∙ number_is number (list_kind bytes) bytes in
    let good = assigned_list bytes || compact_list bytes in
    let lacks = lacks_list (list_kind bytes) (list_count (list_kind bytes) bytes) (length keys) (length values) in
    (λ w e. true≢false (sym (written_shaped bytes w) ∙ bad_is good lacks (sym is ∙ e)), λ h. shaped_written bytes small (good_is good lacks (λ e. h (is ∙ e))))
