-- The key list of the programs: its two shapes, and what reading it answers and leaves. Assumes nothing.
use Rattle.std.specs.Prelude.{◌≡◌, Bool, true, not, cond, ◌&&◌, ◌||◌, List, ℕ, zero, suc, ◌+◌, ◌-◌, ◌*◌, ◌/◌, eqb, ltb, length, get_or, Result, Ok, Err}
use Rattle.bdz_base.specs.Buffer.{tab, written}
use Rattle.bdz_base.specs.Pack.{bits_at}
use Rattle.bdz_base.specs.Refusal.{number, refuse}
use Rattle.bdz_base.specs.declared.refusal.Refusal.{Refusal}
use Rattle.bdz_base.specs.declared.verts.Kind.{Kind}
use Rattle.bdz_base.specs.declared.verts.Kind.TheVariants.{Assigned, Compact}
use Rattle.bdz_list.specs.declared.list.KeyList.{KeyList}

-- ---- the records

-- "A list starts with 4B 4D and the modulus (4 bytes), then records 4B 56, key (8), value (4); or it is only records 4B 43, key (8),
-- for compact": where the records start, how many bytes a record has, and its second byte
abbrev pub start_of : Kind → ℕ
start_of Assigned = 6
start_of Compact = 0

abbrev pub step_of : Kind → ℕ
step_of Assigned = 14
step_of Compact = 10

abbrev pub letter_of : Kind → ℕ
letter_of Assigned = 0x56
letter_of Compact = 0x43

-- where record i starts
abbrev pub place_of : Kind → ℕ → ℕ
place_of kind i = start_of kind + i * step_of kind

-- how many records so many bytes have room for
abbrev pub records_in : Kind → ℕ → ℕ
records_in kind bytes = (bytes - start_of kind) / step_of kind

-- how many the list has
abbrev pub list_count : Kind → List ℕ → ℕ
list_count kind bytes = records_in kind (length bytes)

-- 4B and a second byte stand at a place
unfoldable pub marked : List ℕ → ℕ → ℕ → Bool
marked bytes at letter = eqb (get_or bytes at 0) 0x4b && eqb (get_or bytes (at + 1) 0) letter

-- each of the first n records starts with its two bytes; a list that is "mixed" has one that does not
unfoldable pub records_are : Kind → List ℕ → ℕ → Bool
records_are kind bytes zero = true
records_are kind bytes (suc n) = records_are kind bytes n && marked bytes (place_of kind n) (letter_of kind)

-- the numbers of a record, and the modulus; "All fields little-endian"
unfoldable pub list_key : Kind → List ℕ → ℕ → ℕ
list_key kind bytes i = bits_at 64 bytes ((place_of kind i + 2) * 8)

unfoldable pub list_value : List ℕ → ℕ → ℕ
list_value bytes i = bits_at 32 bytes ((place_of Assigned i + 10) * 8)

unfoldable pub list_modulus : Kind → List ℕ → ℕ
list_modulus Assigned bytes = bits_at 32 bytes 16
list_modulus Compact bytes = 0

-- ---- the two shapes

-- "cut, of another shape, over 1,000 records" is none: whole records, at most 1,000, up to the last byte
unfoldable pub shaped : Kind → List ℕ → Bool
shaped kind bytes =
    not (ltb 1000 (list_count kind bytes))
    && (eqb (place_of kind (list_count kind bytes)) (length bytes)
    && records_are kind bytes (list_count kind bytes))

-- "or of modulus over 65,536" is none
unfoldable pub assigned_list : List ℕ → Bool
assigned_list bytes = shaped Assigned bytes && (marked bytes 0 0x4d && not (ltb 65536 (list_modulus Assigned bytes)))

-- "A file that is empty" is none
unfoldable pub compact_list : List ℕ → Bool
compact_list bytes = not (eqb (length bytes) 0) && shaped Compact bytes

abbrev pub kind_if : Bool → Kind
kind_if assigned = cond assigned Assigned Compact

abbrev pub list_kind : List ℕ → Kind
list_kind bytes = kind_if (assigned_list bytes)

-- ---- refusals

-- a compact list has no values
abbrev pub value_count : Kind → ℕ → ℕ
value_count Assigned n = n
value_count Compact n = 0

-- "a lent buffer is shorter than its stated need": a word a key, and a word a value
abbrev pub lacks_list : Kind → ℕ → ℕ → ℕ → Bool
lacks_list kind n keys values = ltb keys n || ltb values (value_count kind n)

-- 19 "bad list"
unfoldable pub kind_no : List ℕ → ℕ
kind_no bytes = refuse 19 (not (assigned_list bytes || compact_list bytes)) 0

-- 19 "bad list", then 14
unfoldable pub list_no : List ℕ → ℕ → ℕ → ℕ
list_no bytes keys values =
    refuse 19 (not (assigned_list bytes || compact_list bytes))
    (refuse 14 (lacks_list (list_kind bytes) (list_count (list_kind bytes) bytes) keys values)
    0)

-- ---- the answer

-- what reading tells: "A refused call answers its number, with every other field zero"
pub record Listed : Type 0 where
  pub no : ℕ
  pub kind : Kind
  pub modulus : ℕ
  pub count : ℕ

abbrev pub refused_list : ℕ → Listed
refused_list number = record { no = number; kind = Assigned; modulus = 0; count = 0 }

abbrev pub told_list : Result KeyList Refusal → Listed
told_list (Ok list) = record { no = 0; kind = list.kind; modulus = list.modulus; count = list.count }
told_list (Err refusal) = refused_list (number refusal)

unfoldable pub listed_of : ℕ → Kind → List ℕ → Listed
listed_of number kind bytes =
    cond (eqb number 0)
    (record { no = 0; kind = kind; modulus = list_modulus kind bytes; count = list_count kind bytes })
    (refused_list number)

-- the whole promise: the answer, and the lent buffers afterwards
pub record ReadList (bytes keys values : List ℕ) (r : Listed) (keys' values' : List ℕ) : Type 0 where
  pub answer_is : r ≡ listed_of (list_no bytes (length keys) (length values)) (list_kind bytes) bytes
  pub keys_are : keys' ≡ written (list_no bytes (length keys) (length values)) (tab (list_key (list_kind bytes) bytes) (list_count (list_kind bytes) bytes)) keys
  pub values_are : values' ≡ written (list_no bytes (length keys) (length values)) (tab (list_value bytes) (value_count (list_kind bytes) (list_count (list_kind bytes) bytes))) values
