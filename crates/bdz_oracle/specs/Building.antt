-- Keys and values that come as bytes, and the builds told in numbers: what is answered, and what each lent buffer then holds.
-- Assumes nothing.
use Rattle.std.specs.Prelude.{◌≡◌, cond, List, [], ◌∷◌, ℕ, ◌*◌, ◌/◌, eqb, ltb, length}
use Rattle.bdz_base.specs.Buffer.{tab, over, written}
use Rattle.bdz_base.specs.Pack.{bits_at}
use Rattle.bdz_base.specs.Refusal.{refuse}
use Rattle.bdz_table.specs.Build.{assigned_early, compact_early, lengths_of, AssignedFrom, CompactFrom}
use Rattle.bdz_table.specs.declared.index.Built.{Built}
use Rattle.bdz_table.specs.Told.{Answer, refused_build}
use Rattle.bdz_table.specs.Rank.{answered}
use Rattle.bdz_table.specs.declared.index.Index.{Index}
use Rattle.bdz_table.specs.declared.needs.Lengths.{Lengths}
use Rattle.bdz_table.specs.declared.pairs.Pair.{Pair}
use Rattle.bdz_oracle.specs.Keys.{key_count, key_at}

-- ---- what comes as bytes

-- "keys as little-endian bytes", eight bytes a key
abbrev pub keys_in : List ℕ → List ℕ
keys_in bytes = tab (key_at bytes) (key_count bytes)

-- values too, four bytes a value: how many there are, the i-th of them, and all
abbrev pub value_count : List ℕ → ℕ
value_count bytes = length bytes / 4

unfoldable pub value_at : List ℕ → ℕ → ℕ
value_at bytes i = bits_at 32 bytes (i * 4 * 8)

abbrev pub values_in : List ℕ → List ℕ
values_in bytes = tab (value_at bytes) (value_count bytes)

-- ---- what is told

-- the numbers of an index, in the order of the answer's words
abbrev pub fields_of : Index → List ℕ
fields_of index = index.n ∷ index.m ∷ index.seed ∷ index.modulus ∷ index.width ∷ []

-- "a lent buffer is shorter than its stated need": 14, and it stays as it is; else the number, and the words at its front
pub record Told (need : ℕ) (no : ℕ) (words answer : List ℕ) (number : ℕ) (answer' : List ℕ) : Type 0 where
  pub number_is : number ≡ refuse 14 (ltb (length answer) need) no
  pub answer_is : answer' ≡ cond (ltb (length answer) need) answer (over words answer)

-- ---- what comes before a build

-- what is lent, by lengths alone
abbrev pub lengths_for : ℕ → ℕ → ℕ → ℕ → ℕ → ℕ → ℕ → ℕ → Lengths
lengths_for table degrees xors queue order marks occupancy seen =
    record {
      table = table;
      degrees = degrees;
      xors = xors;
      queue = queue;
      order = order;
      marks = marks;
      occupancy = occupancy;
      seen = seen;
    }

-- 14 "a lent buffer is shorter than its stated need": a word a key and a word a value; then the build's own checks. "Refusals before
-- that .. touch nothing"
unfoldable pub assigned_no : ℕ → ℕ → ℕ → ℕ → ℕ → Lengths → ℕ
assigned_no keys values modulus key_room value_room lent =
    refuse 14 (ltb key_room keys)
    (refuse 14 (ltb value_room values)
    (assigned_early keys values modulus lent))

unfoldable pub compact_no : ℕ → ℕ → Lengths → ℕ
compact_no keys key_room lent = refuse 14 (ltb key_room keys) (compact_early keys lent)

-- what is told of it: the number, and how many keys were read, none of a refusal
pub record ReadAssigned (early : ℕ) (keys values key_room value_room : List ℕ) (r : Answer) (key_room' value_room' : List ℕ) : Type 0 where
  pub read_is : r ≡ answered early (key_count keys)
  pub key_room_is : key_room' ≡ written early (keys_in keys) key_room
  pub value_room_is : value_room' ≡ written early (values_in values) value_room

pub record ReadCompact (early : ℕ) (keys key_room : List ℕ) (r : Answer) (key_room' : List ℕ) : Type 0 where
  pub read_is : r ≡ answered early (key_count keys)
  pub key_room_is : key_room' ≡ written early (keys_in keys) key_room

-- ---- the builds

-- what a build came to, unless it was refused before
abbrev pub settled : ℕ → Built → Built
settled early built = cond (eqb early 0) built (refused_build early)

-- a build's answer in six words
abbrev pub told_built : Built → List ℕ
told_built built = built.no ∷ fields_of built.index

-- the rooms by the number of the early checks, the build's own promise from it on, and the answer told
pub record AssignedTold (early : ℕ) (keys values : List ℕ) (modulus : ℕ) (key_room value_room table degrees xors queue : List ℕ) (order : List Pair) (marks seen key_room' value_room' table' degrees' xors' queue' : List ℕ) (order' : List Pair) (marks' seen' answer' : List ℕ) : Type 0 where
  pub built : Built
  pub key_room_is : key_room' ≡ written early (keys_in keys) key_room
  pub value_room_is : value_room' ≡ written early (values_in values) value_room
  pub is_built : AssignedFrom early (keys_in keys) (values_in values) modulus table degrees xors queue order marks seen built table' degrees' xors' queue' order' marks' seen'
  pub answer_is : answer' ≡ told_built built

abbrev pub ToldAssigned : List ℕ → List ℕ → ℕ → List ℕ → List ℕ → List ℕ → List ℕ → List ℕ → List ℕ → List Pair → List ℕ → List ℕ → List ℕ → List ℕ → List ℕ → List ℕ → List ℕ → List ℕ → List Pair → List ℕ → List ℕ → List ℕ → Type 0
ToldAssigned keys values modulus key_room value_room table degrees xors queue order marks seen =
    AssignedTold (assigned_no (key_count keys) (value_count values) modulus (length key_room) (length value_room) (lengths_of table degrees xors queue order marks [] seen)) keys values modulus key_room value_room table degrees xors queue order marks seen

pub record CompactTold (early : ℕ) (keys key_room table occupancy degrees xors queue : List ℕ) (order : List Pair) (marks key_room' table' occupancy' degrees' xors' queue' : List ℕ) (order' : List Pair) (marks' answer' : List ℕ) : Type 0 where
  pub built : Built
  pub key_room_is : key_room' ≡ written early (keys_in keys) key_room
  pub is_built : CompactFrom early (keys_in keys) table occupancy degrees xors queue order marks built table' occupancy' degrees' xors' queue' order' marks'
  pub answer_is : answer' ≡ told_built built

abbrev pub ToldCompact : List ℕ → List ℕ → List ℕ → List ℕ → List ℕ → List ℕ → List ℕ → List Pair → List ℕ → List ℕ → List ℕ → List ℕ → List ℕ → List ℕ → List ℕ → List Pair → List ℕ → List ℕ → Type 0
ToldCompact keys key_room table occupancy degrees xors queue order marks =
    CompactTold (compact_no (key_count keys) (length key_room) (lengths_of table degrees xors queue order marks occupancy [])) keys key_room table occupancy degrees xors queue order marks
