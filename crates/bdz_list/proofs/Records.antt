-- The records of a list, the two shapes, and the returns of its reader. Assumes nothing.
use Rattle.std.proofs.Common.{◌≡◌, refl, sym, ap, ◌∙◌, Bool, true, false, not, ◌&&◌, ◌||◌, List, ℕ, zero, suc, ◌+◌, ◌*◌}
use Rattle.std.proofs.Common.{◌≤◌, ◌<◌, not-suc-le-zero, add-one, arith, ne_eqb, ltb-false, eqb-true, eqb, ltb, length}
use borrow.Author.Tests.{eqb-false, not-true, not-false}
use Rattle.bdz_base.specs.Buffer.{tab, over}
use Rattle.bdz_base.specs.Pack.{bits_at}
use Rattle.bdz_base.specs.Refusal.{refuse}
use Rattle.bdz_base.specs.declared.verts.Kind.{Kind}
use Rattle.bdz_base.specs.declared.verts.Kind.TheVariants.{Assigned, Compact}
use Rattle.bdz_table.proofs.Fold.{clash}
use Rattle.bdz_list.specs.List.{Listed, place_of, letter_of, list_count, marked, records_are, list_key, list_value, list_modulus, shaped, assigned_list, compact_list, kind_if, list_kind, value_count, lacks_list, list_no, refused_list, listed_of, ReadList, kind_no}

-- ---- tests

-- both halves of a test that holds
pub both : (a b : Bool) → (a && b) ≡ true → (a ≡ true) × (b ≡ true)
both true b e = (refl, e)
both false b e = clash e refl

-- both halves of one that does not
pub neither : (a b : Bool) → (a || b) ≡ false → (a ≡ false) × (b ≡ false)
neither true b e = clash refl e
neither false b e = (refl, e)

-- ---- the records one by one

-- one that does not start as it should
broken : (kind : Kind) (bytes : List ℕ) (i n : ℕ) → marked bytes (place_of kind i) (letter_of kind) ≡ false → i < n → records_are kind bytes n ≡ false
unfolding records_are
broken kind bytes i zero e h = absurd (not-suc-le-zero h)
broken kind bytes i (suc n) e h = go (eqb i n) refl (λ l. broken kind bytes i n e l)
  where
    last : (a : Bool) → (a && false) ≡ false
    last true = refl
    last false = refl

    go : (t : Bool) → eqb i n ≡ t → (i < n → records_are kind bytes n ≡ false) → (records_are kind bytes n && marked bytes (place_of kind n) (letter_of kind)) ≡ false
    go true t before =
        let q : i ≡ n = eqb-true i n t in
        rw (rw q at e) (last (records_are kind bytes n))
    go false t before =
        let d : i ≡ n → ⊥ = eqb-false i n t in
        rw (before (omega arith))

module _ (kind : Kind) (bytes : List ℕ) (i : ℕ) {at second : ℕ} {t : Bool} (s : second ≡ letter_of kind) (p : at ≡ place_of kind i) (m : t ≡ marked bytes at second) where
  told : t ≡ marked bytes (place_of kind i) (letter_of kind)
  told = rw (s, p) at m

  pub records_broken : {n : ℕ} → t ≡ false → i < n → false ≡ records_are kind bytes n
  records_broken {n} e h = sym (broken kind bytes i n (sym told ∙ e) h)

  pub records_more : t ≡ true → records_are kind bytes i ≡ true → records_are kind bytes (i + 1) ≡ true
  unfolding records_are
  records_more e before = rw (add-one i, before) (sym told ∙ e)

-- a record's key
pub key_here : (kind : Kind) (bytes : List ℕ) (i : ℕ) {at x : ℕ} → at ≡ place_of kind i → x ≡ bits_at 64 bytes ((at + 2) * 8) → x ≡ list_key kind bytes i
unfolding list_key
key_here kind bytes i p e = rw p at e

-- ---- the two shapes

-- what a shape tells
module _ (kind : Kind) (bytes : List ℕ) (s : shaped kind bytes ≡ true) where
  parts : (not (ltb 1000 (list_count kind bytes)) ≡ true) × ((eqb (place_of kind (list_count kind bytes)) (length bytes) && records_are kind bytes (list_count kind bytes)) ≡ true)
  unfolding shaped
  parts = both (not (ltb 1000 (list_count kind bytes))) (eqb (place_of kind (list_count kind bytes)) (length bytes) && records_are kind bytes (list_count kind bytes)) s

  rest : (eqb (place_of kind (list_count kind bytes)) (length bytes) ≡ true) × (records_are kind bytes (list_count kind bytes) ≡ true)
  rest = both (eqb (place_of kind (list_count kind bytes)) (length bytes)) (records_are kind bytes (list_count kind bytes)) parts.1

  pub shaped_few : list_count kind bytes ≤ 1000
  shaped_few = ltb-false 1000 (list_count kind bytes) (not-true (ltb 1000 (list_count kind bytes)) parts.0)

  pub shaped_whole : place_of kind (list_count kind bytes) ≡ length bytes
  shaped_whole = eqb-true (place_of kind (list_count kind bytes)) (length bytes) rest.0

  pub shaped_records : records_are kind bytes (list_count kind bytes) ≡ true
  shaped_records = rest.1

pub assigned_long : (bytes : List ℕ) {t : Bool} → t ≡ shaped Assigned bytes → t ≡ true → 0 + 1 < length bytes
assigned_long bytes {t} e h =
    let w = shaped_whole Assigned bytes (sym e ∙ h) in
    omega (arith, w)

-- ---- refusals

-- a list that is not refused
pub record Passed (bytes : List ℕ) (keys values : ℕ) : Type 0 where
  pub few : list_count (list_kind bytes) bytes ≤ 1000
  pub keys_fit : list_count (list_kind bytes) bytes ≤ keys
  pub few_values : value_count (list_kind bytes) (list_count (list_kind bytes) bytes) ≤ 1000
  pub values_fit : value_count (list_kind bytes) (list_count (list_kind bytes) bytes) ≤ values

value_few : (kind : Kind) (n : ℕ) → value_count kind n ≤ n
value_few Assigned n = omega arith
value_few Compact n = omega arith

-- either shape is the one that the kind names
kind_shaped : (bytes : List ℕ) → (assigned_list bytes || compact_list bytes) ≡ true → shaped (list_kind bytes) bytes ≡ true
unfolding assigned_list compact_list
kind_shaped bytes e = go (assigned_list bytes) refl e
  where
    go : (t : Bool) → assigned_list bytes ≡ t → (t || compact_list bytes) ≡ true → shaped (kind_if t) bytes ≡ true
    go true a e = (both (shaped Assigned bytes) (marked bytes 0 0x4d && not (ltb 65536 (list_modulus Assigned bytes))) a).0
    go false a e = (both (not (eqb (length bytes) 0)) (shaped Compact bytes) e).1

-- the number 0 is the end of the cascade
judged : (bad lacks : Bool) → refuse 19 bad (refuse 14 lacks 0) ≡ 0 → (bad ≡ false) × (lacks ≡ false)
judged true lacks e = absurd (omega arith)
judged false true e = absurd (omega arith)
judged false false e = (refl, refl)

pub passed : (bytes : List ℕ) (keys values : ℕ) → list_no bytes keys values ≡ 0 → Passed bytes keys values
unfolding list_no
passed bytes keys values e =
    let kind = list_kind bytes in
    let count = list_count kind bytes in
    let j = judged (not (assigned_list bytes || compact_list bytes)) (lacks_list kind count keys values) e in
    let s = kind_shaped bytes (not-false (assigned_list bytes || compact_list bytes) j.0) in
    let room = neither (ltb keys count) (ltb values (value_count kind count)) j.1 in
    record {
      few = shaped_few kind bytes s;
      keys_fit = ltb-false keys count room.0;
      few_values = omega (arith, value_few kind count, shaped_few kind bytes s);
      values_fit = ltb-false values (value_count kind count) room.1;
    }

-- the two refusals, and none
-- what is no list, and a list whose keys or values have no room
pub no_list : (bytes : List ℕ) (keys values : ℕ) {number : ℕ} → number ≡ kind_no bytes → (number ≡ 0 → ⊥) → number ≡ list_no bytes keys values
unfolding kind_no list_no
no_list bytes keys values {number} e some = e ∙ go (not (assigned_list bytes || compact_list bytes)) (λ z. some (e ∙ z))
  where
    go : (bad : Bool) → (refuse 19 bad 0 ≡ 0 → ⊥) → refuse 19 bad 0 ≡ refuse 19 bad (refuse 14 (lacks_list (list_kind bytes) (list_count (list_kind bytes) bytes) keys values) 0)
    go true h = refl
    go false h = absurd (h refl)

-- a list is the only thing that is judged further
good_list : (bytes : List ℕ) → 0 ≡ kind_no bytes → not (assigned_list bytes || compact_list bytes) ≡ false
unfolding kind_no
good_list bytes e = go (not (assigned_list bytes || compact_list bytes)) e
  where
    go : (bad : Bool) → 0 ≡ refuse 19 bad 0 → bad ≡ false
    go true h = absurd (omega (arith, h))
    go false h = refl

module _ (bytes : List ℕ) (keys values : ℕ) {lacks : Bool} {kind : Kind} {n : ℕ} (good : 0 ≡ kind_no bytes) (k : kind ≡ list_kind bytes) (e : n ≡ list_count kind bytes) (l : lacks ≡ lacks_list kind n keys values) where
  lacks_is : lacks ≡ lacks_list (list_kind bytes) (list_count (list_kind bytes) bytes) keys values
  lacks_is = rw (e, k) at l

  pub no_room : lacks ≡ true → 14 ≡ list_no bytes keys values
  unfolding list_no
  no_room h = rw (good_list bytes good, ← lacks_is, h)

  pub no_refusal : lacks ≡ false → 0 ≡ list_no bytes keys values
  unfolding list_no
  no_refusal h = rw (good_list bytes good, ← lacks_is, h)

-- ---- the returns of the reader

pub list_refused : (bytes keys values : List ℕ) {number : ℕ} {r : Listed} → number ≡ list_no bytes (length keys) (length values) → (number ≡ 0 → ⊥) → r ≡ refused_list number → ReadList bytes keys values r keys values
unfolding listed_of
list_refused bytes keys values {number} e h is =
    let ne = ne_eqb number 0 h in
    record { answer_is = rw (← e, ne) is; keys_are = rw (← e, ne); values_are = rw (← e, ne) }

module _ (bytes keys values : List ℕ) {kind : Kind} {n : ℕ} (is_kind : kind ≡ list_kind bytes) (e : n ≡ list_count kind bytes) where
  is_count : n ≡ list_count (list_kind bytes) bytes
  is_count = e ∙ ap (λ (x : Kind). list_count x bytes) is_kind

  module _ {number : ℕ} (judge : number ≡ list_no bytes (length keys) (length values)) (accepted : number ≡ 0) where
    passes : Passed bytes (length keys) (length values)
    passes = passed bytes (length keys) (length values) (sym judge ∙ accepted)

    pub keys_room : (n ≤ 1000) × (n ≤ length keys)
    keys_room = rw is_count (passes.few, passes.keys_fit)

    pub values_room : {v : ℕ} → v ≡ value_count kind n → (v ≤ 1000) × (v ≤ length values)
    values_room q = rw (q, is_count, is_kind) (passes.few_values, passes.values_fit)

    pub list_read : {v modulus : ℕ} {keys' values' : List ℕ} → v ≡ value_count kind n → keys' ≡ over (tab (list_key kind bytes) n) keys → values' ≡ over (tab (list_value bytes) v) values → modulus ≡ list_modulus kind bytes → ReadList bytes keys values (record { no = 0; kind = kind; modulus = modulus; count = n }) keys' values'
    unfolding listed_of
    list_read q ks vs mo =
        let zero_is : list_no bytes (length keys) (length values) ≡ 0 = sym judge ∙ accepted in
        record {
          answer_is = rw (zero_is, mo, is_count, is_kind);
          keys_are = rw (zero_is, ks, is_count, is_kind);
          values_are = rw (zero_is, vs, q, is_count, is_kind);
        }
