-- A key list that is read, its numbers told in words: what is answered, and what each lent buffer then holds. Assumes nothing.
use Rattle.std.specs.Prelude.{◌≡◌, Bool, cond, List, [], ◌∷◌, ℕ, ltb, length}
use Rattle.bdz_base.specs.Buffer.{tab, over, written}
use Rattle.bdz_base.specs.Refusal.{refuse}
use Rattle.bdz_base.specs.declared.verts.Kind.{Kind}
use Rattle.bdz_base.specs.declared.verts.Kind.TheVariants.{Assigned, Compact}
use Rattle.bdz_list.specs.List.{Listed, list_no, list_kind, list_count, list_key, list_value, value_count, listed_of}

-- a number as a kind's, the other way round: assigned is 0
abbrev pub kind_number : Kind → ℕ
kind_number Assigned = 0
kind_number Compact = 1

-- "a lent buffer is shorter than its stated need": three words for the list's numbers
abbrev pub lacks_told : List ℕ → Bool
lacks_told told = ltb (length told) 3

abbrev pub read_no : List ℕ → List ℕ → List ℕ → ℕ
read_no bytes keys values = list_no bytes (length keys) (length values)

abbrev pub read_of : List ℕ → List ℕ → List ℕ → Listed
read_of bytes keys values = listed_of (read_no bytes keys values) (list_kind bytes) bytes

-- its kind, its modulus and how many keys it has
abbrev pub told_listed : Listed → List ℕ
told_listed listed = kind_number listed.kind ∷ listed.modulus ∷ listed.count ∷ []

-- the whole promise: 14 and every buffer as it was, or the list as `read_list` reads it, with its three numbers
pub record ToldList (bytes keys values told : List ℕ) (number : ℕ) (keys' values' told' : List ℕ) : Type 0 where
  pub number_is : number ≡ refuse 14 (lacks_told told) (read_of bytes keys values).no
  pub keys_are : keys' ≡ cond (lacks_told told) keys (written (read_no bytes keys values) (tab (list_key (list_kind bytes) bytes) (list_count (list_kind bytes) bytes)) keys)
  pub values_are : values' ≡ cond (lacks_told told) values (written (read_no bytes keys values) (tab (list_value bytes) (value_count (list_kind bytes) (list_count (list_kind bytes) bytes))) values)
  pub told_is : told' ≡ cond (lacks_told told) told (over (told_listed (read_of bytes keys values)) told)
