-- What the peeler's own steps promise one another of the lent buffers. No public promise cites it. Assumes nothing.
use Rattle.std.specs.Prelude.{◌≡◌, ℕ, zero, suc, ◌+◌, ◌^◌, ◌<◌, ◌≤◌, Bool, true, false, cond, Option, Some, None, List, [], ◌∷◌, ◌++◌, length, take, drop, replicate, ◌==◌, ◌≢◌, bit_xor, slice_index, slice_index_or, slice_set, Result, Ok, Err}
use Rattle.bdz_base.specs.Buffer.{over, written}
use Rattle.bdz_base.specs.Mix.{seed_at}
use Rattle.bdz_base.specs.Refusal.{number}
use Rattle.bdz_base.specs.Sizes.{occupancy_bytes}
use Rattle.bdz_base.specs.declared.refusal.Refusal.{Refusal}
use Rattle.bdz_base.specs.declared.verts.Kind.{Kind}
use Rattle.bdz_base.specs.declared.verts.Kind.TheVariants.{Assigned, Compact}
use Rattle.bdz_table.specs.Graph.{has, Distinct, only_if, degree, xor_at, Crowded, Peelable}
use Rattle.bdz_table.specs.Peel.{Cut, keep_if, ones, up_to, peel}
use Rattle.bdz_table.specs.Keys.{graph_of}
use Rattle.bdz_table.specs.Seeds.{Fails, first_seed}
use Rattle.bdz_table.specs.Assign.{sum_at, word_for}
use Rattle.bdz_table.specs.Build.{vertices_for, needs_of, assigned_early, compact_early, begun, late_no, build_no, seed_for, cuts_for, index_for, built_for, assigned_table, compact_table, compact_occupancy, cleared, lengths_with}
use Rattle.bdz_table.specs.Told.{told_index}
use Rattle.bdz_table.specs.Values.{values_no}
use Rattle.bdz_table.specs.declared.build.Ready.{Ready}
use Rattle.bdz_table.specs.declared.build.Run.{Run}
use Rattle.bdz_table.specs.declared.index.Index.{Index}
use Rattle.bdz_table.specs.declared.index.Needs.{Needs}

-- the vertices us are different, and the two tables reach over them
pub record Places (us ds xs : List ℕ) : Type 0 where
  pub distinct : Distinct us
  pub inside : (v : ℕ) → has v us ≡ true → v < length ds
  pub same : length xs ≡ length ds

-- key e was put on the vertices us
pub record Added (us : List ℕ) (e : ℕ) (ds xs ds' xs' : List ℕ) : Type 0 where
  pub degrees : (v : ℕ) → slice_index ds' v ≡ slice_index ds v + only_if (has v us) 1
  pub xors : (v : ℕ) → slice_index xs' v ≡ bit_xor (slice_index xs v) (only_if (has v us) e)

-- a vertex of us has 255 keys already
pub record Full (us ds : List ℕ) : Type 0 where
  pub at : ℕ
  pub on : has at us ≡ true
  pub full : slice_index_or ds at 0 ≡ 255

abbrev pub AddedOr : Bool → List ℕ → ℕ → List ℕ → List ℕ → List ℕ → List ℕ → Type 0
AddedOr true us e ds xs ds' xs' = Added us e ds xs ds' xs'
AddedOr false us e ds xs ds' xs' = Full us ds

-- of the vertices us, those that carry k keys
unfoldable pub carrying : ℕ → List ℕ → List ℕ → List ℕ
carrying k ds [] = []
carrying k ds (u ∷ us) = keep_if (slice_index ds u == k) u (carrying k ds us)

-- a key lies on the vertices us, each of which it can leave, and the queue has room for those that come to one key
pub record Leaves (us ds xs q : List ℕ) (qn : ℕ) : Type 0 where
  pub places : Places us ds xs
  pub carried : (v : ℕ) → has v us ≡ true → 1 ≤ slice_index ds v
  pub room : qn + length (carrying 2 ds us) ≤ length q

-- key e was taken off the vertices us, and those that came to one key are in the queue
pub record Left (us : List ℕ) (e : ℕ) (ds xs q : List ℕ) (qn : ℕ) (ds' xs' q' : List ℕ) (r : ℕ) : Type 0 where
  pub degrees : (v : ℕ) → slice_index ds' v + only_if (has v us) 1 ≡ slice_index ds v
  pub xors : (v : ℕ) → slice_index xs' v ≡ bit_xor (slice_index xs v) (only_if (has v us) e)
  pub count : r ≡ qn + length (carrying 2 ds us)
  pub queue : take r q' ≡ take qn q ++ carrying 2 ds us

-- the two tables are those of the graph once the keys of gone are removed
pub record Tables (vs : ℕ → List ℕ) (n : ℕ) (gone ds xs : List ℕ) : Type 0 where
  pub degrees : (v : ℕ) → slice_index ds v ≡ degree vs n gone v
  pub xors : (v : ℕ) → slice_index xs v ≡ xor_at vs n gone v

pub record Sizes (n m : ℕ) : Type 0 where
  pub keys : n ≤ 2 ^ 30
  pub some : 3 ≤ m
  pub few : m ≤ 2 ^ 31

pub record Clear (n m : ℕ) (ds xs : List ℕ) : Type 0 where
  pub sizes : Sizes n m
  pub longd : length ds ≡ m
  pub longx : length xs ≡ m
  pub zerod : (v : ℕ) → slice_index ds v ≡ 0
  pub zerox : (v : ℕ) → slice_index xs v ≡ 0

abbrev pub CountedOr : Bool → (ℕ → List ℕ) → ℕ → List ℕ → List ℕ → Type 0
CountedOr true vs n ds xs = Tables vs n [] ds xs
CountedOr false vs n ds xs = Crowded vs n

-- the queue holds r entries: the vertices that carry one key, rising
pub record Queued (ds q : List ℕ) (r : ℕ) : Type 0 where
  pub queue : take r q ≡ carrying 1 ds (up_to (length ds))
  pub count : r ≡ length (carrying 1 ds (up_to (length ds)))

-- the cuts that the front of the queue and the xor words hold, newest first: the first c entries of the queue are the
-- cut vertices, and the xor word of a cut vertex is the number of the key that was removed by it
unfoldable pub cuts_of : List ℕ → List ℕ → ℕ → List Cut
cuts_of xs q zero = []
cuts_of xs q (suc c) = record { key = slice_index xs (slice_index q c); at = slice_index q c } ∷ cuts_of xs q c

-- the tables are counted, the queue is filled with qn entries, and the buffers are as long as they need be
pub record Turnable (vs : ℕ → List ℕ) (n m : ℕ) (ds xs q : List ℕ) (qn : ℕ) : Type 0 where
  pub sizes : Sizes n m
  pub longd : length ds ≡ m
  pub longx : length xs ≡ m
  pub longq : length q ≡ m
  pub tables : Tables vs n [] ds xs
  pub count : qn ≡ length (ones vs n [] (up_to m))
  pub queue : take qn q ≡ ones vs n [] (up_to m)

-- the order is the peel's
pub record Turned (vs : ℕ → List ℕ) (n m : ℕ) (xs q : List ℕ) (r : ℕ) : Type 0 where
  pub order : cuts_of xs q r ≡ (peel vs n m).done
  pub count : r ≡ length (peel vs n m).done

pub record Room (n m : ℕ) (ds xs q : List ℕ) : Type 0 where
  pub clear : Clear n m ds xs
  pub longq : length q ≡ m

-- the seed works: no vertex has over 255 keys, there is an order, and the order found is the peel's
pub record Works (vs : ℕ → List ℕ) (n m : ℕ) (xs q : List ℕ) : Type 0 where
  pub loose : Crowded vs n → ⊥
  pub peels : Peelable vs n
  pub order : cuts_of xs q n ≡ (peel vs n m).done

pub record PeelAnswer (r : Bool) (vs : ℕ → List ℕ) (n m : ℕ) (xs q : List ℕ) : Type 0 where
  pub yes : r ≡ true → Works vs n m xs q
  pub no : r ≡ false → Fails vs n

-- lent buffers for m vertices
pub record Lent (n m : ℕ) (ds xs q : List ℕ) : Type 0 where
  pub sizes : Sizes n m
  pub longd : length ds ≡ m
  pub longx : length xs ≡ m
  pub longq : length q ≡ m

-- the first try that works is one of the 256, and gave this seed and this order
pub record SeedFound (kind : Kind) (keys : List ℕ) (m : ℕ) (xs q : List ℕ) (seed : ℕ) : Type 0 where
  pub limit : first_seed kind keys m < 256
  pub seed_is : seed ≡ seed_at (first_seed kind keys m)
  pub works : Works (graph_of kind keys (seed_at (first_seed kind keys m)) m) (length keys) m xs q

-- the first of the 256 seeds that works, with the order that it gave, or none where each fails
abbrev pub SeedAnswer : Kind → List ℕ → ℕ → List ℕ → List ℕ → Option ℕ → Type 0
SeedAnswer kind keys m xs q (Some seed) = SeedFound kind keys m xs q seed
SeedAnswer kind keys m xs q None = first_seed kind keys m ≡ 256

-- ---- the assigns

-- the words at the unmarked places are 0, and all are below M
pub record Marked (M : ℕ) (ms g : List ℕ) : Type 0 where
  pub same : length ms ≡ length g
  pub zero : (v : ℕ) → slice_index ms v ≡ 0 → slice_index g v ≡ 0
  pub small : (v : ℕ) → slice_index g v < M
  pub limit : M ≤ 2 ^ 30

pub record Reach (us g : List ℕ) : Type 0 where
  pub few : length us ≤ 3
  pub inside : (v : ℕ) → has v us ≡ true → v < length g

-- one word is assigned
pub record Word (M x v : ℕ) (us ms g ms' g' : List ℕ) : Type 0 where
  pub words : g' ≡ slice_set g v (word_for M x (sum_at g us))
  pub marks : ms' ≡ slice_set ms v 1

-- ---- the builds, up to their pairs

-- buffers of just the length that two keys or more need
pub record Many (kind : Kind) (keys : List ℕ) (m : ℕ) (table ds xs q ms : List ℕ) : Type 0 where
  pub count : 2 ≤ length keys
  pub is : m ≡ vertices_for kind (length keys)
  pub longt : length table ≡ m
  pub longm : length ms ≡ m
  pub lent : Lent (length keys) m ds xs q

-- buffers of just the length that the keys need
pub record Shaped (kind : Kind) (keys : List ℕ) (m : ℕ) (table ds xs q ms : List ℕ) : Type 0 where
  pub some : 1 ≤ length keys
  pub is : m ≡ vertices_for kind (length keys)
  pub longt : length table ≡ m
  pub many : 2 ≤ length keys → Many kind keys m table ds xs q ms

-- what a run came to, told by number: one that was refused has no seed and no pairs
pub record Ran : Type 0 where
  pub no : ℕ
  pub seed : ℕ
  pub pairs : ℕ

abbrev pub told_run : Result Run Refusal → Ran
told_run (Ok run) = record { no = 0; seed = run.seed; pairs = run.pairs }
told_run (Err refusal) = record { no = number refusal; seed = 0; pairs = 0 }

-- its number, and its seed
pub record RanTo (kind : Kind) (keys : List ℕ) (verdict : ℕ) (r : Ran) : Type 0 where
  pub no_is : r.no ≡ late_no kind keys verdict
  pub seed_is : r.no ≡ 0 → r.seed ≡ seed_for kind keys

-- a buffer that is new if the run was accepted
abbrev pub new_if : ℕ → List ℕ → List ℕ → List ℕ
new_if number new old = cond (number == 0) new old

-- the order stands where the peeler left it, and names keys and vertices
pub record OrderLeft (kind : Kind) (keys : List ℕ) (m : ℕ) (xs q : List ℕ) : Type 0 where
  pub order : cuts_of xs q (length keys) ≡ cuts_for kind keys
  pub edges : (i : ℕ) → i < length keys → slice_index xs (slice_index q i) < length keys
  pub vertices : (i : ℕ) → i < length keys → slice_index q i < m

-- the pairs of two keys or more are still to be noted and assigned: the words and the marks are zeros
pub record Pending (kind : Kind) (keys : List ℕ) (m : ℕ) (r : Ran) (table xs q ms : List ℕ) : Type 0 where
  pub accepted : r.no ≡ 0
  pub many : 2 ≤ length keys
  pub all : r.pairs ≡ length keys
  pub left : OrderLeft kind keys m xs q
  pub words : table ≡ replicate m 0
  pub marks : ms ≡ replicate m 0

-- pairs are pending, or none are and the run was refused
pub record SoughtMany (kind : Kind) (keys : List ℕ) (m : ℕ) (table : List ℕ) (r : Ran) (table' xs' q' ms' : List ℕ) : Type 0 where
  pub pending : 0 < r.pairs → Pending kind keys m r table' xs' q' ms'
  pub refused : r.pairs ≡ 0 → r.no ≢ 0
  pub same : r.pairs ≡ 0 → table' ≡ table

-- pairs are pending, or the table is what it ends as
pub record Sought (kind : Kind) (keys : List ℕ) (m : ℕ) (new table : List ℕ) (r : Ran) (table' xs' q' ms' : List ℕ) : Type 0 where
  pub pending : 0 < r.pairs → Pending kind keys m r table' xs' q' ms'
  pub done : r.pairs ≡ 0 → table' ≡ new_if r.no new table

-- zeros if the run was accepted
abbrev pub cleared_if : ℕ → List ℕ → List ℕ
cleared_if number old = new_if number (replicate (length old) 0) old

-- and the occupancy likewise
pub record OccupancySought (keys : List ℕ) (m : ℕ) (r : Ran) (occ occ' : List ℕ) : Type 0 where
  pub pending : 0 < r.pairs → occ' ≡ replicate (occupancy_bytes m) 0
  pub done : r.pairs ≡ 0 → occ' ≡ new_if r.no (compact_occupancy keys) occ

-- ---- in the whole of what is lent

-- at most the first v entries have changed
pub record Used (v : ℕ) (old new : List ℕ) : Type 0 where
  pub room : v ≤ length old
  pub long : length new ≡ length old
  pub behind : drop v new ≡ drop v old

-- the first k entries are zeros, and behind them nothing has changed
pub record Zeroed (k : ℕ) (old new : List ℕ) : Type 0 where
  pub room : k ≤ length old
  pub zeros : take k new ≡ replicate k 0
  pub behind : drop k new ≡ drop k old

-- a build whose pairs are pending
pub record Awaiting (kind : Kind) (keys : List ℕ) (number : ℕ) (r : Ready) (table xs q ms table' : List ℕ) : Type 0 where
  pub accepted : number ≡ 0
  pub many : 2 ≤ length keys
  pub all : r.pairs ≡ length keys
  pub is : r.m ≡ vertices_for kind (length keys)
  pub entries : r.vertices ≡ r.m
  pub order_all : r.order ≡ length keys
  pub seed_is : r.seed ≡ seed_for kind keys
  pub left : OrderLeft kind keys r.m xs q
  pub words : Zeroed r.m table table'
  pub marks_room : r.m ≤ length ms
  pub marks : take r.m ms ≡ replicate r.m 0

-- a build up to its pairs: the answer, how much of the scratch and of the order it uses, and the table if no pairs are pending
pub record ReadyTo (kind : Kind) (keys : List ℕ) (number : ℕ) (go : Bool) (index : Index) (need : Needs) (order : ℕ) (new table ds xs q ms : List ℕ) (r : Ready) (table' ds' xs' q' ms' : List ℕ) : Type 0 where
  pub answer_is : told_index r.built ≡ built_for number index
  pub vertices_is : r.vertices ≡ cond go need.vertices 0
  pub order_is : r.order ≡ cond go need.order 0
  pub order_room : r.order ≤ order
  pub order_fits : r.order ≤ r.vertices
  pub degrees : Used r.vertices ds ds'
  pub xors : Used r.vertices xs xs'
  pub queue : Used r.vertices q q'
  pub marks : Used r.vertices ms ms'
  pub pending : 0 < r.pairs → Awaiting kind keys number r table xs' q' ms' table'
  pub done : r.pairs ≡ 0 → table' ≡ written number new table

-- the assigned build up to its pairs, from the number of its early checks
pub record AssignedReady (early : ℕ) (keys values : List ℕ) (modulus order : ℕ) (table ds xs q ms seen : List ℕ) (r : Ready) (table' ds' xs' q' ms' seen' : List ℕ) : Type 0 where
  pub to : ReadyTo Assigned keys (build_no Assigned keys early (values_no modulus [] values)) (begun (length keys) early) (index_for Assigned keys modulus) (needs_of Assigned (length keys) modulus) order (assigned_table keys values modulus) table ds xs q ms r table' ds' xs' q' ms'
  pub seen_is : seen' ≡ cleared (begun (length keys) early) (needs_of Assigned (length keys) modulus).seen seen
  -- where pairs are pending the values were judged
  pub same : 0 < r.pairs → length values ≡ length keys
  pub values_limit : 0 < r.pairs → modulus ≤ 2 ^ 30
  pub values_below : 0 < r.pairs → (i : ℕ) → i < length values → slice_index values i < modulus

abbrev pub ReadyAssigned : List ℕ → List ℕ → ℕ → ℕ → List ℕ → List ℕ → List ℕ → List ℕ → List ℕ → List ℕ → Ready → List ℕ → List ℕ → List ℕ → List ℕ → List ℕ → List ℕ → Type 0
ReadyAssigned keys values modulus order table ds xs q ms seen =
    AssignedReady (assigned_early (length keys) (length values) modulus (lengths_with table ds xs q order ms [] seen)) keys values modulus order table ds xs q ms seen

-- the compact build up to its pairs
pub record CompactReady (early : ℕ) (keys : List ℕ) (order : ℕ) (table occ ds xs q ms : List ℕ) (r : Ready) (table' occ' ds' xs' q' ms' : List ℕ) : Type 0 where
  pub to : ReadyTo Compact keys (build_no Compact keys early 0) (begun (length keys) early) (index_for Compact keys (length keys)) (needs_of Compact (length keys) (length keys)) order (compact_table keys) table ds xs q ms r table' ds' xs' q' ms'
  pub occupied : 0 < r.pairs → Zeroed (occupancy_bytes r.m) occ occ'
  pub occupancy_done : r.pairs ≡ 0 → occ' ≡ written (build_no Compact keys early 0) (compact_occupancy keys) occ

abbrev pub ReadyCompact : List ℕ → ℕ → List ℕ → List ℕ → List ℕ → List ℕ → List ℕ → List ℕ → Ready → List ℕ → List ℕ → List ℕ → List ℕ → List ℕ → List ℕ → Type 0
ReadyCompact keys order table occ ds xs q ms =
    CompactReady (compact_early (length keys) (lengths_with table ds xs q order ms occ [])) keys order table occ ds xs q ms

-- a build that touches nothing, with its answer
abbrev pub untouched_of : Result Index Refusal → Ready
untouched_of built = record { built = built; seed = 0; m = 0; pairs = 0; vertices = 0; order = 0 }

-- the first v entries of every scratch buffer end as zeros
pub record Cleared (v : ℕ) (ds xs q ms ds' xs' q' ms' : List ℕ) : Type 0 where
  pub degrees : ds' ≡ over (replicate v 0) ds
  pub xors : xs' ≡ over (replicate v 0) xs
  pub queue : q' ≡ over (replicate v 0) q
  pub marks : ms' ≡ over (replicate v 0) ms
