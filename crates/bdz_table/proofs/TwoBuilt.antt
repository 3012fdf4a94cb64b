-- Two named keys, built: a build of either kind that is accepted, with its table, computed from the promises. Assumes nothing.
use Rattle.std.proofs.Common.{◌≡◌, ℕ, zero, suc, Bool, true, false, eqb, List, [], ◌∷◌, get_or, replicate, refl, ap, ◌∙◌, ap₂}
use Rattle.bdz_base.specs.Buffer.{tab, over, written}
use Rattle.bdz_base.specs.Mix.{seed_at}
use Rattle.bdz_base.specs.Pack.{value_of, bytes_of, pack_of}
use Rattle.bdz_base.specs.Sizes.{assigned_size, compact_size}
use Rattle.bdz_base.specs.Width.{bits_of, width_of}
use Rattle.bdz_base.specs.declared.verts.Kind.{Kind}
use Rattle.bdz_base.specs.declared.verts.Kind.TheVariants.{Assigned, Compact}
use Rattle.bdz_base.proofs.TwoKeys.{two_keys}
use Rattle.bdz_table.specs.Assign.{sum_at, word_for, assign, part_of}
use Rattle.bdz_table.specs.Build.{vertices_for, needs_of, lacks_room, assigned_early, compact_early, stuck, late_no, build_no, seed_for, index_for, built_for, cuts_for, words_for, assigned_table, compact_table, compact_occupancy, lengths_of, BuiltAssigned, BuiltCompact}
use Rattle.bdz_table.specs.Graph.{has, fold_to, count_to, live_on, degree, xor_to, xor_at}
use Rattle.bdz_table.specs.Keys.{listed, graph_of}
use Rattle.bdz_table.specs.Occupancy.{occupancy_of}
use Rattle.bdz_table.specs.Peel.{Cut, keys_of, ats_of, ones, turn_if, turn, turns_if, turns, up_to, peel}
use Rattle.bdz_table.specs.Seeds.{any_to, crowded, peels_all, works_at, first_from, first_seed}
use Rattle.bdz_table.specs.Values.{values_no}
use Rattle.bdz_table.specs.declared.index.Index.{Index}
use Rattle.bdz_table.specs.declared.needs.Lengths.{Lengths}
use Rattle.bdz_table.specs.declared.pairs.Pair.{Pair}
use Rattle.bdz_table.specs.declared.index.Built.{Built}

abbrev keys : List ℕ
keys = 7 ∷ 8 ∷ []

-- a graph of which the first two keys' vertices are known
abbrev known : List ℕ → List ℕ → (ℕ → List ℕ) → ℕ → List ℕ
known first second vs zero = first
known first second vs (suc zero) = second
known first second vs (suc (suc e)) = vs (suc (suc e))

is_known : (vs : ℕ → List ℕ) {first second : List ℕ} → vs 0 ≡ first → vs 1 ≡ second → vs ≡ known first second vs
is_known vs {first} {second} p q = λ i e. at e i
  where
    at : (e : ℕ) → vs e ≡ known first second vs e
    at zero = p
    at (suc zero) = q
    at (suc (suc e)) = refl

first_is : (test : ℕ → Bool) (k i : ℕ) → test i ≡ true → first_from test (suc k) i ≡ i
unfolding first_from
first_is test k i e = rw e

-- ---- what the seed's graph comes to, where its first two keys are known and the first try works

module _ (kind : Kind) (m : ℕ) (size : vertices_for kind 2 ≡ m) (works : works_at kind keys m 0 ≡ true) where
  first : first_seed kind keys (vertices_for kind 2) ≡ 0
  unfolding first_seed
  first = ap (λ (v : ℕ). first_seed kind keys v) size ∙ first_is (works_at kind keys m) 255 0 works

  seed_is : seed_for kind keys ≡ seed_at 0
  unfolding seed_for
  seed_is = ap seed_at first

  not_stuck : stuck kind keys ≡ false
  unfolding stuck
  not_stuck = ap (λ (i : ℕ). eqb i 256) first

  abbrev graph : ℕ → List ℕ
  graph = graph_of kind keys (seed_at 0) m

  graph_is : graph_of kind keys (seed_for kind keys) (vertices_for kind 2) ≡ graph
  graph_is = ap (λ (v : ℕ). graph_of kind keys (seed_for kind keys) v) size ∙ ap (λ (s : ℕ). graph_of kind keys s m) seed_is

  module _ {first second : List ℕ} (is : graph ≡ known first second graph) where
    whole : graph_of kind keys (seed_for kind keys) (vertices_for kind 2) ≡ known first second graph
    whole = graph_is ∙ is

    cuts_are : cuts_for kind keys ≡ (peel (known first second graph) 2 m).done
    unfolding cuts_for
    cuts_are = ap₂ (λ (g : ℕ → List ℕ) (v : ℕ). (peel g 2 v).done) whole size

    words_are : (modulus : ℕ) (val : Cut → ℕ) → words_for kind keys modulus val ≡ assign (known first second graph) modulus val (peel (known first second graph) 2 m).done (replicate m 0)
    unfolding words_for
    words_are modulus val =
        ap₂ (λ (g : ℕ → List ℕ) (v : ℕ). assign g modulus val (cuts_for kind keys) (replicate v 0)) whole size
        ∙ ap (λ (c : List Cut). assign (known first second graph) modulus val c (replicate m 0)) cuts_are

-- ---- assigned, with the values 5 and 2 and modulus 6

abbrev assigned_graph : ℕ → List ℕ
assigned_graph = graph_of Assigned keys (seed_at 0) 5

assigned_known : assigned_graph ≡ known (4 ∷ 0 ∷ 1 ∷ []) (0 ∷ 2 ∷ 1 ∷ []) assigned_graph
unfolding graph_of
assigned_known = is_known assigned_graph (ap listed two_keys.seven) (ap listed two_keys.eight)

assigned_works : works_at Assigned keys 5 0 ≡ true
unfolding works_at crowded peels_all any_to has fold_to count_to live_on degree xor_to xor_at keys_of ones turn_if turn turns_if turns up_to peel
assigned_works = rw assigned_known refl

assigned_size_lem : vertices_for Assigned 2 ≡ 5
unfolding vertices_for assigned_size
assigned_size_lem = refl

abbrev values : List ℕ
values = 5 ∷ 2 ∷ []

assigned_words : assigned_table keys values 6 ≡ 0 ∷ 0 ∷ 2 ∷ 0 ∷ 5 ∷ []
unfolding assigned_table has fold_to count_to live_on degree xor_to xor_at keys_of ones turn_if turn turns_if turns up_to peel assign sum_at word_for
assigned_words = words_are Assigned 5 assigned_size_lem assigned_works assigned_known 6 (λ p. get_or values p.key 0)

abbrev assigned_index : Index
assigned_index = record { kind = Assigned; n = 2; m = 5; seed = 0x6e78_9e6a_a1b9_65f4; modulus = 6; width = 3 }

assigned_index_lem : index_for Assigned keys 6 ≡ assigned_index
unfolding index_for width_of bits_of vertices_for assigned_size
assigned_index_lem = rw (seed_is Assigned 5 assigned_size_lem assigned_works, two_keys.seed) refl

assigned_number : (lent : Lengths) → lacks_room (needs_of Assigned 2 6) lent ≡ false → build_no Assigned keys (assigned_early 2 2 6 lent) (values_no 6 [] values) ≡ 0
unfolding assigned_early late_no values_no has
assigned_number lent room = rw (room, not_stuck Assigned 5 assigned_size_lem assigned_works) refl

-- from the promise of the build, in whatever buffers with room
pub two_assigned : {table degrees xors queue : List ℕ} {order : List Pair} {marks seen : List ℕ} {r : Built}
    {table' degrees' xors' queue' : List ℕ} {order' : List Pair} {marks' seen' : List ℕ}
    → BuiltAssigned keys values 6 table degrees xors queue order marks seen r table' degrees' xors' queue' order' marks' seen'
    → lacks_room (needs_of Assigned 2 6) (lengths_of table degrees xors queue order marks [] seen) ≡ false
    → (r ≡ record { no = 0; index = assigned_index }) × (table' ≡ over (0 ∷ 0 ∷ 2 ∷ 0 ∷ 5 ∷ []) table)
two_assigned {table} b room =
    let number = assigned_number _ room in (
      b.to.answer_is ∙ ap₂ built_for number assigned_index_lem,
      b.to.table_is ∙ ap₂ (λ (no : ℕ) (words : List ℕ). written no words table) number assigned_words,
    )

-- ---- compact

abbrev compact_graph : ℕ → List ℕ
compact_graph = graph_of Compact keys (seed_at 0) 6

compact_known : compact_graph ≡ known (1 ∷ 2 ∷ 4 ∷ []) (0 ∷ 2 ∷ 4 ∷ []) compact_graph
unfolding graph_of
compact_known = is_known compact_graph (ap listed two_keys.compact_seven) (ap listed two_keys.compact_eight)

compact_works : works_at Compact keys 6 0 ≡ true
unfolding works_at crowded peels_all any_to has fold_to count_to live_on degree xor_to xor_at keys_of ones turn_if turn turns_if turns up_to peel
compact_works = rw compact_known refl

compact_size_lem : vertices_for Compact 2 ≡ 6
unfolding vertices_for compact_size assigned_size
compact_size_lem = refl

compact_words : compact_table keys ≡ replicate 6 0
unfolding compact_table has fold_to count_to live_on degree xor_to xor_at keys_of ones turn_if turn turns_if turns up_to peel assign sum_at word_for part_of vertices_for compact_size assigned_size
compact_words = words_are Compact 6 compact_size_lem compact_works compact_known 3 (λ p. part_of 6 p.at)

compact_bits : compact_occupancy keys ≡ 3 ∷ []
unfolding compact_occupancy ats_of has fold_to count_to live_on degree xor_to xor_at keys_of ones turn_if turn turns_if turns up_to peel vertices_for compact_size assigned_size occupancy_of pack_of bytes_of value_of tab
compact_bits = ap (λ (c : List Cut). occupancy_of 6 (ats_of c)) (cuts_are Compact 6 compact_size_lem compact_works compact_known)

abbrev compact_index : Index
compact_index = record { kind = Compact; n = 2; m = 6; seed = 0x6e78_9e6a_a1b9_65f4; modulus = 2; width = 2 }

compact_index_lem : index_for Compact keys 2 ≡ compact_index
unfolding index_for vertices_for compact_size assigned_size
compact_index_lem = rw (seed_is Compact 6 compact_size_lem compact_works, two_keys.seed) refl

compact_number : (lent : Lengths) → lacks_room (needs_of Compact 2 2) lent ≡ false → build_no Compact keys (compact_early 2 lent) 0 ≡ 0
unfolding compact_early late_no
compact_number lent room = rw (room, not_stuck Compact 6 compact_size_lem compact_works) refl

pub two_compact : {table occupancy degrees xors queue : List ℕ} {order : List Pair} {marks : List ℕ} {r : Built}
    {table' occupancy' degrees' xors' queue' : List ℕ} {order' : List Pair} {marks' : List ℕ}
    → BuiltCompact keys table occupancy degrees xors queue order marks r table' occupancy' degrees' xors' queue' order' marks'
    → lacks_room (needs_of Compact 2 2) (lengths_of table degrees xors queue order marks occupancy []) ≡ false
    → (r ≡ record { no = 0; index = compact_index }) × (table' ≡ over (replicate 6 0) table) × (occupancy' ≡ over (3 ∷ []) occupancy)
two_compact {table} {occupancy} b room =
    let number = compact_number _ room in (
      b.to.answer_is ∙ ap₂ built_for number compact_index_lem,
      b.to.table_is ∙ ap₂ (λ (no : ℕ) (words : List ℕ). written no words table) number compact_words,
      b.occupancy_is ∙ ap₂ (λ (no : ℕ) (bytes : List ℕ). written no bytes occupancy) number compact_bits,
    )
