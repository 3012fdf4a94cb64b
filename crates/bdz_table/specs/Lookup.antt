-- The lookup of many keys: every refusal in document 01's order, and the answers. Assumes nothing.
use Rattle.std.specs.Prelude.{◌≡◌, ℕ, ◌+◌, ◌-◌, ◌%◌, ◌^◌, min, cond, List, length, ◌==◌, nat_lt, slice_index}
use Rattle.bdz_base.specs.Buffer.{tab, written}
use Rattle.bdz_base.specs.Refusal.{refuse, accept}
use Rattle.bdz_base.specs.Sizes.{occupancy_bytes, super_count}
use Rattle.bdz_base.specs.Verts.{verts_of}
use Rattle.bdz_base.specs.declared.verts.Kind.{Kind}
use Rattle.bdz_base.specs.declared.verts.Kind.TheVariants.{Assigned, Compact}
use Rattle.bdz_table.specs.Assign.{sum_at}
use Rattle.bdz_table.specs.Keys.{listed}
use Rattle.bdz_table.specs.Rank.{rank_with, answered}
use Rattle.bdz_table.specs.Told.{Answer}
use Rattle.bdz_table.specs.declared.index.Index.{Index}

-- ---- refusals

-- "Lookup: .. table m words; compact also ceil(m/512)+1 super counts": "12; 14", by the lengths of what is lent
unfoldable pub room_no : Kind → ℕ → ℕ → ℕ → ℕ → ℕ
room_no Assigned m table occ supers = refuse 14 (nat_lt table m) 0
room_no Compact m table occ supers =
    refuse 12 (nat_lt occ (occupancy_bytes m))
    (refuse 14 (nat_lt table m)
    (refuse 14 (nat_lt supers (super_count m))
    0))

-- "Lookup: no keys accepted; 14 (answers); n = 0 answers 0; n = 1; 11 (m or modulus 0); 12; 14"
unfoldable pub lookup_no : Index → ℕ → ℕ → ℕ → ℕ → ℕ → ℕ
lookup_no index keys table occ supers out =
    accept (keys == 0)
    (refuse 14 (nat_lt out keys)
    (accept (nat_lt index.n 2)
    (refuse 11 (index.m == 0)
    (refuse 11 (index.modulus == 0)
    (room_no index.kind index.m table occ supers)))))

-- ---- answers

-- "sum of three words modulo 2^32", of the words at a key's vertices
unfoldable pub sum_of : List ℕ → List ℕ → ℕ
sum_of table vertices = sum_at table vertices % 2 ^ 32

-- "then mod modulus"
unfoldable pub assigned_answer : ℕ → ℕ → ℕ → List ℕ → ℕ → ℕ
assigned_answer seed m modulus table key = sum_of table (listed (verts_of Assigned key seed m)) % modulus

-- "sum mod 3 picks the vertex"
unfoldable pub picked_of : List ℕ → ℕ → ℕ
picked_of vertices sum = slice_index vertices (sum % 3)

-- "the answer is min(ones below it, n-1)"
unfoldable pub compact_from : ℕ → List ℕ → List ℕ → List ℕ → ℕ → ℕ
compact_from n occ supers vertices sum = min (rank_with occ supers (picked_of vertices sum)) (n - 1)

unfoldable pub compact_answer : ℕ → ℕ → ℕ → List ℕ → List ℕ → List ℕ → ℕ → ℕ
compact_answer seed m n table occ supers key =
    compact_from n occ supers (listed (verts_of Compact key seed m)) (sum_of table (listed (verts_of Compact key seed m)))

abbrev pub many_answer : Kind → Index → List ℕ → List ℕ → List ℕ → ℕ → ℕ
many_answer Assigned index table occ supers = assigned_answer index.seed index.m index.modulus table
many_answer Compact index table occ supers = compact_answer index.seed index.m index.n table occ supers

-- "n = 1: compact 0, assigned the stored word (0 if the lent table is empty)"
abbrev pub one_answer : Kind → ℕ → ℕ
one_answer Assigned word = word
one_answer Compact word = 0

-- "n = 0 answers 0"
unfoldable pub few_answer : Kind → ℕ → ℕ → ℕ
few_answer kind n word = cond (n == 0) 0 (one_answer kind word)

unfoldable pub answer_of : Index → List ℕ → List ℕ → List ℕ → ℕ → ℕ
answer_of index table occ supers key =
    cond (nat_lt index.n 2) (few_answer index.kind index.n (slice_index table 0)) (many_answer index.kind index table occ supers key)

-- "one answer word a key"
abbrev pub answers_of : Index → List ℕ → List ℕ → List ℕ → List ℕ → List ℕ
answers_of index table occ supers keys = tab (λ i. answer_of index table occ supers (slice_index keys i)) (length keys)

-- the lookup's whole promise: the number, and the answers' buffer afterwards
pub record LookedUp (index : Index) (keys table occ supers out : List ℕ) (number : ℕ) (after : List ℕ) : Type 0 where
  pub number_is : number ≡ lookup_no index (length keys) (length table) (length occ) (length supers) (length out)
  pub after_is : after ≡ written (lookup_no index (length keys) (length table) (length occ) (length supers) (length out)) (answers_of index table occ supers keys) out

-- ---- an answer from a key's three words, wherever they were read

abbrev pub many_from : Kind → Index → List ℕ → List ℕ → ℕ → ℕ → ℕ
many_from Assigned index occ supers key sum = sum % index.modulus
many_from Compact index occ supers key sum = compact_from index.n occ supers (listed (verts_of Compact key index.seed index.m)) sum

unfoldable pub finished_of : Index → ℕ → ℕ → ℕ → ℕ → List ℕ → List ℕ → ℕ
finished_of index key a b c occ supers =
    cond (nat_lt index.n 2) (few_answer index.kind index.n a) (many_from index.kind index occ supers key ((a + b + c) % 2 ^ 32))

-- refused as the lookup of one key is, where table and answer have their room
abbrev pub finish_no : Index → ℕ → ℕ → ℕ
finish_no index occ supers = lookup_no index 1 index.m occ supers 1

unfoldable pub finish_of : Index → ℕ → ℕ → ℕ → ℕ → List ℕ → List ℕ → Answer
finish_of index key a b c occ supers = answered (finish_no index (length occ) (length supers)) (finished_of index key a b c occ supers)
