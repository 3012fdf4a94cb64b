-- A list that is written record by record is read back: its kind, its modulus, its keys and its values. Assumes nothing.
use mathlib.Core.Path.{◌≡◌, refl, sym, ap, ◌∙◌}
use mathlib.Core.Bool.{Bool, true, false, ◌&&◌}
use mathlib.Core.List.{List, [], ◌∷◌, ◌++◌, map, append_assoc}
use Prim.Native.Nat.{ℕ, zero, suc, ◌+◌, ◌*◌, ◌%◌, ◌^◌, ◌≤◌, ◌<◌}
use native.Mathlib.Nat.{add-zero, zero-add, suc-mul, zero-mul, add_comm, div-one, mod-eq_of_lt, not-suc-le-zero}
use native.Mathlib.Omega.{arith}
use borrow.Author.Tests.{eq-eqb, ne_eqb, le-ltb}
use lib.Dec.{eqb}
use lib.ListN.{length, get_or, drop, length-append, length-map, get_or-map}
use lib.Seq.{drop-append-add, drop_at, take_at, drop-cons, drop-drop, get_or-drop, ext_get_or}
use Rattle.bdz_base.specs.Buffer.{tab, over}
use Rattle.bdz_base.specs.Pack.{value_of, bytes_of, bits_at}
use Rattle.bdz_base.specs.declared.verts.Kind.{Kind}
use Rattle.bdz_base.specs.declared.verts.Kind.TheVariants.{Assigned, Compact}
use Rattle.bdz_base.proofs.Buffers.{length_tab}
use Rattle.bdz_base.proofs.Digits.{length_bytes, value_bytes, value_take, bits_drop}
use Rattle.bdz_table.proofs.Bits.{tab_at}
use Rattle.bdz_list.specs.List.{Listed, place_of, letter_of, list_count, marked, records_are, list_key, list_value, list_modulus, shaped, assigned_list, compact_list, list_no, listed_of, ReadList}
use Rattle.bdz_list.specs.Written.{Entry, no_entry, assigned_record, compact_record, joined, assigned_bytes, compact_bytes}

-- ---- bytes at a place

-- the number of the bytes at the front
front : (n v : ℕ) (rest : List ℕ) → v < 2 ^ (n * 8) → bits_at (n * 8) (bytes_of n v ++ rest) 0 ≡ v
unfolding bits_at
front n v rest h =
    let xs = bytes_of n v ++ rest in
    ap (λ (x : ℕ). x % 2 ^ (n * 8)) (div-one (value_of 8 xs))
    ∙ sym (value_take 8 n xs)
    ∙ ap (value_of 8) (take_at (bytes_of n v) rest n (length_bytes n v))
    ∙ value_bytes n v
    ∙ mod-eq_of_lt h

-- and of those at a place
number_at : (n v at : ℕ) (bytes rest : List ℕ) → drop at bytes ≡ bytes_of n v ++ rest → v < 2 ^ (n * 8) → bits_at (n * 8) bytes (at * 8) ≡ v
number_at n v at bytes rest e h =
    ap (bits_at (n * 8) bytes) (sym (add-zero (at * 8)))
    ∙ sym (bits_drop (n * 8) at 0 bytes)
    ∙ ap (λ (xs : List ℕ). bits_at (n * 8) xs 0) e
    ∙ front n v rest h

-- two bytes at a place
marked_at : (bytes rest : List ℕ) (at letter : ℕ) → drop at bytes ≡ 0x4b ∷ letter ∷ rest → marked bytes at letter ≡ true
unfolding marked
marked_at bytes rest at letter e =
    let first : get_or bytes at 0 ≡ 0x4b = ap (λ (i : ℕ). get_or bytes i 0) (sym (add-zero at)) ∙ sym (get_or-drop at bytes 0 0) ∙ ap (λ (xs : List ℕ). get_or xs 0 0) e in
    let second : get_or bytes (at + 1) 0 ≡ letter = sym (get_or-drop at bytes 1 0) ∙ ap (λ (xs : List ℕ). get_or xs 1 0) e in
    rw (first, second) (eq-eqb letter letter refl)

-- what stands further on
further : (m n : ℕ) (bytes xs ys : List ℕ) → drop n bytes ≡ xs ++ ys → length xs ≡ m → drop (n + m) bytes ≡ ys
further m n bytes xs ys e l = sym (drop-drop m n bytes) ∙ ap (drop m) e ∙ drop_at xs ys m l

-- ---- records of one length

module _ {A : Type 0} (bytes : A → List ℕ) (step : ℕ) (long : (x : A) → length (bytes x) ≡ step) where
  length_joined : (xs : List A) → length (joined bytes xs) ≡ length xs * step
  unfolding joined
  length_joined [] = sym (zero-mul step)
  length_joined (x ∷ xs) =
      rw (length-append (bytes x) (joined bytes xs), long x, length_joined xs, suc-mul (length xs) step) (add_comm step (length xs * step))

  drop_joined : (i : ℕ) (xs : List A) → i ≤ length xs → drop (i * step) (joined bytes xs) ≡ joined bytes (drop i xs)
  unfolding joined
  drop_joined zero xs h = rw (zero-mul step)
  drop_joined (suc i) [] h = absurd (not-suc-le-zero h)
  drop_joined (suc i) (x ∷ xs) h =
      let e : suc i * step ≡ length (bytes x) + i * step = suc-mul i step ∙ rw (long x) (add_comm (i * step) step) in
      let l : i ≤ length xs = omega arith in
      ap (λ (n : ℕ). drop n (bytes x ++ joined bytes xs)) e ∙ drop-append-add (bytes x) (joined bytes xs) (i * step) ∙ drop_joined i xs l

  -- record i and what stands behind it
  record_at : (i : ℕ) (xs : List A) (none : A) → i < length xs → drop (i * step) (joined bytes xs) ≡ bytes (get_or xs i none) ++ joined bytes (drop (suc i) xs)
  unfolding joined
  record_at i xs none h =
      let l : i ≤ length xs = omega arith in
      drop_joined i xs l ∙ ap (joined bytes) (drop-cons xs i none h)

-- words that are known one by one
tab_is : (f : ℕ → ℕ) (xs : List ℕ) → ((i : ℕ) → i < length xs → f i ≡ get_or xs i 0) → tab f (length xs) ≡ xs
tab_is f xs h =
    ext_get_or 0 (tab f (length xs)) xs (length_tab f (length xs))
    (λ (i : ℕ) (l : i < length (tab f (length xs))).
    let k : i < length xs = rw (length_tab f (length xs)) at l in
    tab_at f (length xs) i k ∙ h i k)

-- all records start as they should
all_marked : (kind : Kind) (bytes : List ℕ) (n : ℕ) → ((i : ℕ) → i < n → marked bytes (place_of kind i) (letter_of kind) ≡ true) → records_are kind bytes n ≡ true
unfolding records_are
all_marked kind bytes zero h = refl
all_marked kind bytes (suc n) h =
    rw (all_marked kind bytes n (λ i l. h i (omega arith))) (h n (omega arith))

-- n records that fill the bytes are a shape
is_shaped : (kind : Kind) (bytes : List ℕ) (n : ℕ) → list_count kind bytes ≡ n → n ≤ 1000 → place_of kind n ≡ length bytes → records_are kind bytes n ≡ true → shaped kind bytes ≡ true
unfolding shaped
is_shaped kind bytes n c few whole records = rw (c, le-ltb 1000 n few, eq-eqb (place_of kind n) (length bytes) whole) records

never : (b : Bool) → (b && false) ≡ false
never true = refl
never false = refl

-- a modulus that is not refused fits its bytes
small : (modulus : ℕ) → modulus ≤ 65536 → modulus < 2 ^ 32
small modulus h = omega arith

-- ---- assigned lists

module _ (modulus : ℕ) (entries : List Entry) (fits : modulus ≤ 65536) (few : length entries ≤ 1000) (range : (i : ℕ) → ((get_or entries i no_entry).key < 2 ^ 64) × ((get_or entries i no_entry).value < 2 ^ 32)) where
  abbrev bytes : List ℕ
  bytes = assigned_bytes modulus entries

  long : (entry : Entry) → length (assigned_record entry) ≡ 14
  unfolding assigned_record bytes_of
  long entry = refl

  behind : drop 6 bytes ≡ joined assigned_record entries
  unfolding assigned_bytes bytes_of
  behind = refl

  assigned_length : length bytes ≡ 6 + length entries * 14
  unfolding assigned_bytes
  assigned_length =
      let e : length (bytes_of 4 modulus ++ joined assigned_record entries) ≡ 4 + length entries * 14 = length-append (bytes_of 4 modulus) (joined assigned_record entries) ∙ rw (length_bytes 4 modulus, length_joined assigned_record 14 long entries) in
      omega (arith, e)

  assigned_count : list_count Assigned bytes ≡ length entries
  assigned_count = rw assigned_length (omega arith)

  module _ (i : ℕ) (h : i < length entries) where
    abbrev key : ℕ
    key = (get_or entries i no_entry).key

    abbrev value : ℕ
    value = (get_or entries i no_entry).value

    abbrev rest : List ℕ
    rest = joined assigned_record (drop (suc i) entries)

    -- the record at its place
    here : drop (place_of Assigned i) bytes ≡ 0x4b ∷ 0x56 ∷ ((bytes_of 8 key ++ bytes_of 4 value) ++ rest)
    unfolding assigned_record
    here =
        sym (drop-drop (i * 14) 6 bytes) ∙ ap (drop (i * 14)) behind ∙ record_at assigned_record 14 long i entries no_entry h

    entry_marked : marked bytes (place_of Assigned i) 0x56 ≡ true
    entry_marked = marked_at bytes ((bytes_of 8 key ++ bytes_of 4 value) ++ rest) (place_of Assigned i) 0x56 here

    after_two : drop (place_of Assigned i + 2) bytes ≡ bytes_of 8 key ++ (bytes_of 4 value ++ rest)
    after_two =
        further 2 (place_of Assigned i) bytes (0x4b ∷ 0x56 ∷ []) ((bytes_of 8 key ++ bytes_of 4 value) ++ rest) here refl
        ∙ append_assoc (bytes_of 8 key) (bytes_of 4 value) rest

    after_ten : drop (place_of Assigned i + 10) bytes ≡ bytes_of 4 value ++ rest
    after_ten =
        let e : place_of Assigned i + 10 ≡ place_of Assigned i + 2 + 8 = omega arith in
        ap (λ (n : ℕ). drop n bytes) e
        ∙ further 8 (place_of Assigned i + 2) bytes (bytes_of 8 key) (bytes_of 4 value ++ rest) after_two (length_bytes 8 key)

    key_is : list_key Assigned bytes i ≡ key
    unfolding list_key
    key_is = number_at 8 key (place_of Assigned i + 2) bytes (bytes_of 4 value ++ rest) after_two (range i).0

    value_is : list_value bytes i ≡ value
    unfolding list_value
    value_is = number_at 4 value (place_of Assigned i + 10) bytes rest after_ten (range i).1

  modulus_is : list_modulus Assigned bytes ≡ modulus
  unfolding list_modulus assigned_bytes
  modulus_is = number_at 4 modulus 2 bytes (joined assigned_record entries) refl (small modulus fits)

  start_marked : marked bytes 0 0x4d ≡ true
  unfolding assigned_bytes
  start_marked = marked_at bytes (bytes_of 4 modulus ++ joined assigned_record entries) 0 0x4d refl

  pub is_assigned : assigned_list bytes ≡ true
  unfolding assigned_list
  is_assigned =
      let records = all_marked Assigned bytes (length entries) entry_marked in
      rw (is_shaped Assigned bytes (length entries) assigned_count few (sym assigned_length) records, start_marked, modulus_is, le-ltb 65536 modulus fits)

  all_keys : tab (list_key Assigned bytes) (length entries) ≡ map (λ (entry : Entry). entry.key) entries
  all_keys =
      let xs = map (λ (entry : Entry). entry.key) entries in
      let l : length xs ≡ length entries = length-map entries (λ (entry : Entry). entry.key) in
      ap (tab (list_key Assigned bytes)) (sym l)
      ∙ tab_is (list_key Assigned bytes) xs (λ i h. key_is i (rw l at h) ∙ sym (get_or-map (λ (entry : Entry). entry.key) entries i no_entry))

  all_values : tab (list_value bytes) (length entries) ≡ map (λ (entry : Entry). entry.value) entries
  all_values =
      let xs = map (λ (entry : Entry). entry.value) entries in
      let l : length xs ≡ length entries = length-map entries (λ (entry : Entry). entry.value) in
      ap (tab (list_value bytes)) (sym l)
      ∙ tab_is (list_value bytes) xs (λ i h. value_is i (rw l at h) ∙ sym (get_or-map (λ (entry : Entry). entry.value) entries i no_entry))

  no_refusal : (keys values : ℕ) → length entries ≤ keys → length entries ≤ values → list_no bytes keys values ≡ 0
  unfolding list_no
  no_refusal keys values k v = rw (is_assigned, assigned_count, le-ltb keys (length entries) k, le-ltb values (length entries) v)

-- for any modulus up to 65,536 and any list of at most 1,000 keys and values in range, the bytes that are written record by record
-- are read back to just these keys, values and modulus
pub reads_assigned : (modulus : ℕ) (entries : List Entry) → modulus ≤ 65536 → length entries ≤ 1000 → ((i : ℕ) → ((get_or entries i no_entry).key < 2 ^ 64) × ((get_or entries i no_entry).value < 2 ^ 32))
    → (keys values : List ℕ) → length entries ≤ length keys → length entries ≤ length values
    → (r : Listed) (keys' values' : List ℕ) → ReadList (assigned_bytes modulus entries) keys values r keys' values'
    → (r ≡ record { no = 0; kind = Assigned; modulus = modulus; count = length entries }) × (keys' ≡ over (map (λ (entry : Entry). entry.key) entries) keys) × (values' ≡ over (map (λ (entry : Entry). entry.value) entries) values)
unfolding listed_of
reads_assigned modulus entries fits few range keys values k v r keys' values' p =
    let no = no_refusal modulus entries fits few range (length keys) (length values) k v in
    let assigned = is_assigned modulus entries fits few range in
    let count = assigned_count modulus entries fits few range in
    (p.answer_is ∙ rw (no, assigned, modulus_is modulus entries fits few range, count), p.keys_are ∙ rw (no, assigned, count, all_keys modulus entries fits few range), p.values_are ∙ rw (no, assigned, count, all_values modulus entries fits few range))

-- ---- compact lists

module _ (keys : List ℕ) (few : length keys ≤ 1000) (range : (i : ℕ) → get_or keys i 0 < 2 ^ 64) where
  abbrev compact : List ℕ
  compact = compact_bytes keys

  ten : (key : ℕ) → length (compact_record key) ≡ 10
  unfolding compact_record bytes_of
  ten key = refl

  compact_length : length compact ≡ length keys * 10
  unfolding compact_bytes
  compact_length = length_joined compact_record 10 ten keys

  compact_count : list_count Compact compact ≡ length keys
  compact_count = rw compact_length (omega arith)

  compact_whole : place_of Compact (length keys) ≡ length compact
  compact_whole = rw compact_length (zero-add (length keys * 10))

  module _ (i : ℕ) (h : i < length keys) where
    abbrev rests : List ℕ
    rests = joined compact_record (drop (suc i) keys)

    there : drop (place_of Compact i) compact ≡ 0x4b ∷ 0x43 ∷ (bytes_of 8 (get_or keys i 0) ++ rests)
    unfolding compact_record compact_bytes
    there = ap (λ (n : ℕ). drop n compact) (zero-add (i * 10)) ∙ record_at compact_record 10 ten i keys 0 h

    key_marked : marked compact (place_of Compact i) 0x43 ≡ true
    key_marked = marked_at compact (bytes_of 8 (get_or keys i 0) ++ rests) (place_of Compact i) 0x43 there

    compact_key : list_key Compact compact i ≡ get_or keys i 0
    unfolding list_key
    compact_key =
        number_at 8 (get_or keys i 0) (place_of Compact i + 2) compact rests
        (further 2 (place_of Compact i) compact (0x4b ∷ 0x43 ∷ []) (bytes_of 8 (get_or keys i 0) ++ rests) there refl) (range i)

  compact_shaped : shaped Compact compact ≡ true
  compact_shaped = is_shaped Compact compact (length keys) compact_count few compact_whole (all_marked Compact compact (length keys) key_marked)

  all_compact : tab (list_key Compact compact) (length keys) ≡ keys
  all_compact = tab_is (list_key Compact compact) keys compact_key

  module _ (some : 0 < length keys) where
    -- it does not start with 4B 4D
    other_start : marked compact 0 0x4d ≡ false
    unfolding marked
    other_start =
        let second : get_or compact 1 0 ≡ 0x43 = ap (λ (xs : List ℕ). get_or xs 1 0) (there 0 some) in
        rw second (never (eqb (get_or compact 0 0) 0x4b))

    not_assigned : assigned_list compact ≡ false
    unfolding assigned_list
    not_assigned = rw other_start (never (shaped Assigned compact))

    pub is_compact : compact_list compact ≡ true
    unfolding compact_list
    is_compact =
        let ne : length compact ≡ 0 → ⊥ = λ (e : length compact ≡ 0). omega (arith, compact_length) in
        rw (ne_eqb (length compact) 0 ne, compact_shaped)

    no_compact_refusal : (room values : ℕ) → length keys ≤ room → list_no compact room values ≡ 0
    unfolding list_no
    no_compact_refusal room values k = rw (not_assigned, is_compact, compact_count, le-ltb room (length keys) k, le-ltb values 0 (omega arith))

-- the same of 1 to 1,000 compact keys; the lent values stay as they are
pub reads_compact : (keys : List ℕ) → 1 ≤ length keys → length keys ≤ 1000 → ((i : ℕ) → get_or keys i 0 < 2 ^ 64)
    → (room values : List ℕ) → length keys ≤ length room
    → (r : Listed) (room' values' : List ℕ) → ReadList (compact_bytes keys) room values r room' values'
    → (r ≡ record { no = 0; kind = Compact; modulus = 0; count = length keys }) × (room' ≡ over keys room) × (values' ≡ values)
unfolding listed_of list_modulus tab
reads_compact keys some few range room values k r room' values' p =
    let no = no_compact_refusal keys few range some (length room) (length values) k in
    let kind = not_assigned keys few range some in
    let count = compact_count keys few range in
    (p.answer_is ∙ rw (no, kind, count), p.keys_are ∙ rw (no, kind, count, all_compact keys few range), p.values_are ∙ rw (no, kind))
