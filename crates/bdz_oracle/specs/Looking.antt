-- Lookups of keys that come as bytes: what is answered, and what each lent buffer then holds. Assumes nothing.
use Rattle.std.specs.Prelude.{◌≡◌, Bool, List, ℕ, ltb, length}
use Rattle.bdz_base.specs.Buffer.{written}
use Rattle.bdz_base.specs.Refusal.{refuse}
use Rattle.bdz_table.specs.Lookup.{lookup_no, answers_of}
use Rattle.bdz_table.specs.declared.index.Index.{Index}
use Rattle.bdz_oracle.specs.Keys.{kind_of, key_count}
use Rattle.bdz_oracle.specs.Building.{keys_in}

-- an index from its numbers; a lookup does not read the width
abbrev pub index_of : ℕ → ℕ → ℕ → ℕ → ℕ → Index
index_of compact n m seed modulus = record { kind = kind_of compact; n = n; m = m; seed = seed; modulus = modulus; width = 0 }

-- "a lent buffer is shorter than its stated need": a word a key
abbrev pub lacks_keys : List ℕ → List ℕ → Bool
lacks_keys bytes key_room = ltb (length key_room) (key_count bytes)

-- 14 where the keys have no room, else the lookup's own number
unfoldable pub look_no : Index → List ℕ → List ℕ → List ℕ → List ℕ → List ℕ → List ℕ → ℕ
look_no index bytes table occ supers key_room out =
    refuse 14 (lacks_keys bytes key_room)
    (lookup_no index (key_count bytes) (length table) (length occ) (length supers) (length out))

-- the whole promise: the number, the room for the keys, and the answers; "Any other refused call changes nothing"
pub record ToldLookup (index : Index) (bytes table occ supers key_room out : List ℕ) (number : ℕ) (key_room' out' : List ℕ) : Type 0 where
  pub number_is : number ≡ look_no index bytes table occ supers key_room out
  pub key_room_is : key_room' ≡ written number (keys_in bytes) key_room
  pub out_is : out' ≡ written number (answers_of index table occ supers (keys_in bytes)) out
