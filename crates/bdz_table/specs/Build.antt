-- The builds: every refusal in document 01's order, the answer, and what each lent buffer then holds. Assumes nothing.
use Rattle.std.specs.Prelude.{◌≡◌, ℕ, ◌^◌, Bool, cond, not, ◌&&◌, ◌||◌, List, [], ◌∷◌, length, replicate, ◌==◌, nat_lt, slice_index}
use Rattle.bdz_base.specs.Buffer.{over, written}
use Rattle.bdz_base.specs.Mix.{seed_at}
use Rattle.bdz_base.specs.Refusal.{refuse, accept}
use Rattle.bdz_base.specs.Sizes.{assigned_size, compact_size, occupancy_bytes}
use Rattle.bdz_base.specs.Width.{width_of}
use Rattle.bdz_base.specs.declared.verts.Kind.{Kind}
use Rattle.bdz_base.specs.declared.verts.Kind.TheVariants.{Assigned, Compact}
use Rattle.bdz_table.specs.Assign.{assign, part_of}
use Rattle.bdz_table.specs.Keys.{graph_of}
use Rattle.bdz_table.specs.Occupancy.{occupancy_of}
use Rattle.bdz_table.specs.Order.{no_pair}
use Rattle.bdz_table.specs.Peel.{Cut, ats_of, peel}
use Rattle.bdz_table.specs.Seeds.{first_seed}
use Rattle.bdz_table.specs.declared.index.Built.{Built}
use Rattle.bdz_table.specs.Told.{refused_build}
use Rattle.bdz_table.specs.Values.{values_no}
use Rattle.bdz_table.specs.declared.index.Index.{Index}
use Rattle.bdz_table.specs.declared.index.Needs.{Needs}
use Rattle.bdz_table.specs.declared.needs.Lengths.{Lengths}
use Rattle.bdz_table.specs.declared.pairs.Pair.{Pair}

-- ---- sizes

-- "for n of 2 or more"
abbrev pub size_for : Kind → ℕ → ℕ
size_for Assigned n = assigned_size n
size_for Compact n = compact_size n

-- "n = 0: m 0 .. n = 1: m 1"
unfoldable pub vertices_for : Kind → ℕ → ℕ
vertices_for kind n = cond (n == 0) 0 (cond (n == 1) 1 (size_for kind n))

-- "Needs for n of 2 or more .. For n = 1 only the table, seen values and occupancy are needed"; an empty build needs nothing
abbrev pub if_many : ℕ → ℕ → ℕ
if_many n need = cond (nat_lt n 2) 0 need

abbrev pub occupancy_need : Kind → ℕ → ℕ
occupancy_need Assigned m = 0
occupancy_need Compact m = occupancy_bytes m

abbrev pub seen_need : Kind → ℕ → ℕ → ℕ
seen_need Assigned n modulus = cond (n == 0) 0 (occupancy_bytes modulus)
seen_need Compact n modulus = 0

unfoldable pub needs_of : Kind → ℕ → ℕ → Needs
needs_of kind n modulus =
    record {
      table = vertices_for kind n;
      vertices = if_many n (vertices_for kind n);
      order = if_many n n;
      occupancy = occupancy_need kind (vertices_for kind n);
      seen = seen_need kind n modulus;
    }

-- ---- refusals

-- 14 "a lent buffer is shorter than its stated need"
unfoldable pub lacks_room : Needs → Lengths → Bool
lacks_room need lent =
    nat_lt lent.table need.table
    || (nat_lt lent.degrees need.vertices
    || (nat_lt lent.xors need.vertices
    || (nat_lt lent.queue need.vertices
    || (nat_lt lent.order need.order
    || (nat_lt lent.marks need.vertices
    || (nat_lt lent.occupancy need.occupancy
    || nat_lt lent.seen need.seen))))))

-- "Assigned build: 1; no keys is accepted with any modulus; 2; 13; 14": the checks before anything is touched
unfoldable pub assigned_early : ℕ → ℕ → ℕ → Lengths → ℕ
assigned_early n values modulus lent =
    refuse 1 (not (n == values))
    (accept (n == 0)
    (refuse 2 (modulus == 0)
    (refuse 13 (nat_lt (2 ^ 30) n || nat_lt (2 ^ 30) modulus)
    (refuse 14 (lacks_room (needs_of Assigned n modulus) lent)
    0))))

-- "Compact build: no keys accepted; 13; 14"
unfoldable pub compact_early : ℕ → Lengths → ℕ
compact_early n lent =
    accept (n == 0)
    (refuse 13 (nat_lt (2 ^ 30) n)
    (refuse 14 (lacks_room (needs_of Compact n n) lent)
    0))

-- "Once check 14 is passed": the build has begun. "Refusals before that, and an empty build, touch nothing."
abbrev pub begun : ℕ → ℕ → Bool
begun n early = early == 0 && not (n == 0)

-- "5": with two keys or more, none of the 256 seeds works
unfoldable pub stuck : Kind → List ℕ → Bool
stuck kind keys = nat_lt 1 (length keys) && first_seed kind keys (vertices_for kind (length keys)) == 256

-- "then values first to last, 3 before 4 for each; 5"; a compact build has no values to judge
unfoldable pub late_no : Kind → List ℕ → ℕ → ℕ
late_no kind keys verdict = cond (verdict == 0) (refuse 5 (stuck kind keys) 0) verdict

abbrev pub build_no : Kind → List ℕ → ℕ → ℕ → ℕ
build_no kind keys early verdict = cond (begun (length keys) early) (late_no kind keys verdict) early

-- ---- the answer

-- "n = 0: .. seed 0"; "n = 1: .. seed 1"; else "the first that works is kept"
unfoldable pub seed_for : Kind → List ℕ → ℕ
seed_for kind keys =
    cond (length keys == 0) 0
    (cond (length keys == 1) 1
    (seed_at (first_seed kind keys (vertices_for kind (length keys)))))

-- the width of the table's words: from the modulus, and 2 in a compact index
abbrev pub width_for : Kind → ℕ → ℕ
width_for Assigned modulus = width_of modulus
width_for Compact modulus = 2

unfoldable pub index_for : Kind → List ℕ → ℕ → Index
index_for kind keys modulus =
    record {
      kind = kind;
      n = length keys;
      m = vertices_for kind (length keys);
      seed = seed_for kind keys;
      modulus = modulus;
      width = width_for kind modulus;
    }

abbrev pub built_for : ℕ → Index → Built
built_for number index = cond (number == 0) (record { no = 0; index = index }) (refused_build number)

-- ---- the table and the occupancy

-- the cuts of the seed that is kept
unfoldable pub cuts_for : Kind → List ℕ → List Cut
cuts_for kind keys =
    let m = vertices_for kind (length keys) in
    (peel (graph_of kind keys (seed_for kind keys) m) (length keys) m).done

-- for two keys or more
unfoldable pub words_for : Kind → List ℕ → ℕ → (Cut → ℕ) → List ℕ
words_for kind keys modulus val =
    let m = vertices_for kind (length keys) in
    assign (graph_of kind keys (seed_for kind keys) m) modulus val (cuts_for kind keys) (replicate m 0)

-- "n = 1: .. table [value] or [0]"
unfoldable pub assigned_table : List ℕ → List ℕ → ℕ → List ℕ
assigned_table keys values modulus =
    cond (length keys == 0) []
    (cond (length keys == 1) (slice_index values 0 ∷ [])
    (words_for Assigned keys modulus (λ p. slice_index values p.key)))

unfoldable pub compact_table : List ℕ → List ℕ
compact_table keys =
    cond (length keys == 0) []
    (cond (length keys == 1) (0 ∷ [])
    (words_for Compact keys 3 (λ p. part_of (vertices_for Compact (length keys)) p.at)))

-- "n = 1: .. compact occupancy bit 0 set"
unfoldable pub compact_occupancy : List ℕ → List ℕ
compact_occupancy keys =
    cond (length keys == 0) []
    (cond (length keys == 1) (1 ∷ [])
    (occupancy_of (vertices_for Compact (length keys)) (ats_of (cuts_for Compact keys))))

-- ---- the lent buffers afterwards

-- "Once check 14 is passed, the needed part of each scratch buffer ends as zeros, accepted or not"
abbrev pub cleared : Bool → ℕ → List ℕ → List ℕ
cleared begun need old = cond begun (over (replicate need 0) old) old

abbrev pub cleared_pairs : Bool → ℕ → List Pair → List Pair
cleared_pairs begun need old = cond begun (over (replicate need no_pair) old) old

-- ---- the promises

-- what is lent, where the order is so long
abbrev pub lengths_with : List ℕ → List ℕ → List ℕ → List ℕ → ℕ → List ℕ → List ℕ → List ℕ → Lengths
lengths_with table degrees xors queue order marks occupancy seen =
    record {
      table = length table;
      degrees = length degrees;
      xors = length xors;
      queue = length queue;
      order = order;
      marks = length marks;
      occupancy = length occupancy;
      seen = length seen;
    }

abbrev pub lengths_of : List ℕ → List ℕ → List ℕ → List ℕ → List Pair → List ℕ → List ℕ → List ℕ → Lengths
lengths_of table degrees xors queue order = lengths_with table degrees xors queue (length order)

-- what a build answers, and what its lent buffers then hold, from its number and whether it has begun
pub record BuiltTo (number : ℕ) (go : Bool) (index : Index) (need : Needs) (words table degrees xors queue : List ℕ) (order : List Pair) (marks : List ℕ) (r : Built) (table' degrees' xors' queue' : List ℕ) (order' : List Pair) (marks' : List ℕ) : Type 0 where
  pub answer_is : r ≡ built_for number index
  pub table_is : table' ≡ written number words table
  pub degrees_are : degrees' ≡ cleared go need.vertices degrees
  pub xors_are : xors' ≡ cleared go need.vertices xors
  pub queue_is : queue' ≡ cleared go need.vertices queue
  pub order_is : order' ≡ cleared_pairs go need.order order
  pub marks_are : marks' ≡ cleared go need.vertices marks

-- the assigned build's whole promise, from the number of its early checks
pub record AssignedFrom (early : ℕ) (keys values : List ℕ) (modulus : ℕ) (table degrees xors queue : List ℕ) (order : List Pair) (marks seen : List ℕ) (r : Built) (table' degrees' xors' queue' : List ℕ) (order' : List Pair) (marks' seen' : List ℕ) : Type 0 where
  pub to : BuiltTo (build_no Assigned keys early (values_no modulus [] values)) (begun (length keys) early) (index_for Assigned keys modulus) (needs_of Assigned (length keys) modulus) (assigned_table keys values modulus) table degrees xors queue order marks r table' degrees' xors' queue' order' marks'
  pub seen_is : seen' ≡ cleared (begun (length keys) early) (needs_of Assigned (length keys) modulus).seen seen

abbrev pub BuiltAssigned : List ℕ → List ℕ → ℕ → List ℕ → List ℕ → List ℕ → List ℕ → List Pair → List ℕ → List ℕ → Built → List ℕ → List ℕ → List ℕ → List ℕ → List Pair → List ℕ → List ℕ → Type 0
BuiltAssigned keys values modulus table degrees xors queue order marks seen =
    AssignedFrom (assigned_early (length keys) (length values) modulus (lengths_of table degrees xors queue order marks [] seen)) keys values modulus table degrees xors queue order marks seen

-- the compact build's
pub record CompactFrom (early : ℕ) (keys table occupancy degrees xors queue : List ℕ) (order : List Pair) (marks : List ℕ) (r : Built) (table' occupancy' degrees' xors' queue' : List ℕ) (order' : List Pair) (marks' : List ℕ) : Type 0 where
  pub to : BuiltTo (build_no Compact keys early 0) (begun (length keys) early) (index_for Compact keys (length keys)) (needs_of Compact (length keys) (length keys)) (compact_table keys) table degrees xors queue order marks r table' degrees' xors' queue' order' marks'
  pub occupancy_is : occupancy' ≡ written (build_no Compact keys early 0) (compact_occupancy keys) occupancy

abbrev pub BuiltCompact : List ℕ → List ℕ → List ℕ → List ℕ → List ℕ → List ℕ → List Pair → List ℕ → Built → List ℕ → List ℕ → List ℕ → List ℕ → List ℕ → List Pair → List ℕ → Type 0
BuiltCompact keys table occupancy degrees xors queue order marks =
    CompactFrom (compact_early (length keys) (lengths_of table degrees xors queue order marks occupancy [])) keys table occupancy degrees xors queue order marks
