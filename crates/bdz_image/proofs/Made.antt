-- What an accepted build owes an image, and that both builds give it, for every number of keys. Assumes nothing.
use mathlib.Core.Path.{◌≡◌, refl, ap, ◌∙◌}
use mathlib.Core.Bool.{Bool, true, false, cond}
use mathlib.Core.List.{List, [], ◌++◌}
use mathlib.Core.Logic.{⊎_elim}
use Prim.Native.Nat.{ℕ, ◌^◌, ◌<◌, ◌≤◌}
use native.Mathlib.Nat.{lt_of_lt_of_le}
use native.Mathlib.Omega.{arith}
use lib.Dec.{eqb, lit<}
use lib.ListN.{length, get_or, drop, length-append, get_or-append}
use Rattle.bdz_base.specs.Buffer.{over, written}
use Rattle.bdz_base.specs.Mix.{seed_at}
use Rattle.bdz_base.specs.Sizes.{occupancy_bytes}
use Rattle.bdz_base.specs.declared.verts.Kind.{Kind}
use Rattle.bdz_base.specs.declared.verts.Kind.TheVariants.{Assigned, Compact}
use Rattle.bdz_base.proofs.VertexLaws.{seed_lt}
use Rattle.bdz_base.proofs.WidthLaws.{width_holds}
use Rattle.bdz_table.specs.Build.{vertices_for, assigned_early, compact_early, build_no, seed_for, width_for, index_for, assigned_table, compact_table, compact_occupancy, lengths_of, BuiltAssigned, BuiltCompact}
use Rattle.bdz_table.specs.Seeds.{first_seed}
use Rattle.bdz_table.specs.Values.{values_no}
use Rattle.bdz_table.specs.declared.index.Index.{Index}
use Rattle.bdz_table.specs.declared.pairs.Pair.{Pair}
use Rattle.bdz_table.proofs.Answered.{built, occupancy_long}
use Rattle.bdz_table.proofs.Begun.{assigned_passed, compact_passed, length_assigned, length_compact, values_below}
use Rattle.bdz_table.proofs.Found.{none_refused, assigned_found, compact_found}
use Rattle.bdz_table.proofs.Has.{lt_or_ge}
use Rattle.bdz_table.proofs.NeedLaws.{vertices_fit, vertices_more, vertices_none, vertices_one}
use Rattle.bdz_table.proofs.Runs.{one_assigned, one_compact}
use Rattle.bdz_table.specs.declared.index.Built.{Built}
use Rattle.bdz_image.specs.Image.{occ_in}

pub record Made (index : Index) (table occ : List ℕ) : Type 0 where
  -- the numbers fit their fields
  pub n_fits : index.n < 2 ^ 32
  pub m_fits : index.m < 2 ^ 32
  pub seed_fits : index.seed < 2 ^ 64
  pub modulus_fits : index.modulus < 2 ^ 32
  -- "n = 0: m 0, seed 0"; "n = 1: m 1"; else there are vertices and a modulus
  pub none : index.n ≡ 0 → (index.m ≡ 0) × (index.seed ≡ 0)
  pub one : index.n ≡ 1 → index.m ≡ 1
  pub more : 2 ≤ index.n → (0 < index.m) × (0 < index.modulus)
  -- "For larger n the compact modulus is n", and for n = 0 and n = 1 too
  pub compact : index.kind ≡ Compact → index.modulus ≡ index.n
  pub width : index.width ≡ width_for index.kind index.modulus
  -- what is lent has at least what is needed
  pub table_room : index.m ≤ length table
  pub occ_room : occ_in index.kind index.m ≤ length occ
  -- and the words fit their width
  pub words : (v : ℕ) → v < index.m → get_or table v 0 < 2 ^ index.width

-- ---- the index that a build gives

module _ (kind : Kind) (keys : List ℕ) where
  seed_below : seed_for kind keys < 2 ^ 64
  unfolding seed_for
  seed_below = go (eqb (length keys) 0) (eqb (length keys) 1)
    where
      kept : ℕ
      kept = first_seed kind keys (vertices_for kind (length keys))

      go : (a b : Bool) → cond a 0 (cond b 1 (seed_at kept)) < 2 ^ 64
      go true b = lit< tt
      go false true = lit< tt
      go false false = seed_lt kept

  seed_none : length keys ≡ 0 → seed_for kind keys ≡ 0
  unfolding seed_for
  seed_none e = rw e

  module _ (modulus : ℕ) (table occ : List ℕ) where
    made : length keys ≤ 2 ^ 30 → modulus < 2 ^ 32 → (2 ≤ length keys → 0 < modulus) → (kind ≡ Compact → modulus ≡ length keys)
        → vertices_for kind (length keys) ≤ length table → occ_in kind (vertices_for kind (length keys)) ≤ length occ
        → ((v : ℕ) → v < vertices_for kind (length keys) → get_or table v 0 < 2 ^ width_for kind modulus) → Made (index_for kind keys modulus) table occ
    unfolding index_for
    made few fits some is t o w =
        record {
          n_fits = omega arith;
          m_fits = omega (arith, vertices_fit kind (length keys) few);
          seed_fits = seed_below;
          modulus_fits = fits;
          none = λ e. (ap (vertices_for kind) e ∙ vertices_none kind, seed_none e);
          one = λ e. ap (vertices_for kind) e ∙ vertices_one kind;
          more = λ l. (omega (arith, vertices_more kind (length keys) l), some l);
          compact = is;
          width = refl;
          table_room = t;
          occ_room = o;
          words = w;
        }

-- ---- the assigned build

pub kinds : {A : Type 0} → Assigned ≡ Compact → A
kinds e = let z : ◌≡◌ {A = ℕ} 0 1 = cc in absurd (omega arith)

module _ (keys values : List ℕ) (modulus : ℕ) (lent : _) (ok : build_no Assigned keys (assigned_early (length keys) (length values) modulus lent) (values_no modulus [] values) ≡ 0) where
  -- every word is below the modulus, that of one key too
  assigned_below : 1 ≤ length keys → (v : ℕ) → v < vertices_for Assigned (length keys) → get_or (assigned_table keys values modulus) v 0 < modulus
  assigned_below h v l = ⊎_elim one many (lt_or_ge (length keys) 2)
    where
      one : length keys < 2 → get_or (assigned_table keys values modulus) v 0 < modulus
      one k =
          let e : length keys ≡ 1 = omega arith in
          let a = none_refused Assigned keys (assigned_early (length keys) (length values) modulus lent) (values_no modulus [] values) h ok in
          let p = assigned_passed (length keys) (length values) modulus lent h a.0 in
          let first : v ≡ 0 = omega (arith, ap (vertices_for Assigned) e ∙ vertices_one Assigned) in
          rw (one_assigned keys values modulus e, first) (values_below modulus [] values a.1 0 (omega (arith, p.same)))

      many : 2 ≤ length keys → get_or (assigned_table keys values modulus) v 0 < modulus
      many k = (assigned_found keys values modulus lent k ok).below v

  made_assigned : modulus < 2 ^ 32 → (rest occ : List ℕ) → Made (index_for Assigned keys modulus) (assigned_table keys values modulus ++ rest) occ
  made_assigned fits rest occ = ⊎_elim none some (lt_or_ge (length keys) 1)
    where
      words : List ℕ
      words = assigned_table keys values modulus ++ rest

      none : length keys < 1 → Made (index_for Assigned keys modulus) words occ
      none l =
          let e : length keys ≡ 0 = omega arith in
          let z : vertices_for Assigned (length keys) ≡ 0 = ap (vertices_for Assigned) e ∙ vertices_none Assigned in
          made Assigned keys modulus words occ (omega arith) fits (λ h. omega arith) kinds (omega arith) (omega arith) (λ v h. absurd (omega arith))

      some : 1 ≤ length keys → Made (index_for Assigned keys modulus) words occ
      some h =
          let table = assigned_table keys values modulus in
          let a = none_refused Assigned keys (assigned_early (length keys) (length values) modulus lent) (values_no modulus [] values) h ok in
          let p = assigned_passed (length keys) (length values) modulus lent h a.0 in
          let positive : modulus ≡ 0 → ⊥ = p.some in
          let long : length table ≡ vertices_for Assigned (length keys) = length_assigned keys values modulus h in
          made Assigned keys modulus words occ p.passed.few fits (λ k. omega arith) kinds (omega (arith, length-append table rest)) (omega arith)
          (λ v l. rw (get_or-append table rest 0 v (rw long l)) (lt_of_lt_of_le (assigned_below h v l) (width_holds modulus (omega arith))))

-- what an accepted build has answered and written
pub assigned_gives : {keys values : List ℕ} {modulus : ℕ} {table degrees xors queue : List ℕ} {order : List Pair} {marks seen : List ℕ} {r : Built} {table' degrees' xors' queue' : List ℕ} {order' : List Pair} {marks' seen' : List ℕ}
    → BuiltAssigned keys values modulus table degrees xors queue order marks seen r table' degrees' xors' queue' order' marks' seen' → r.no ≡ 0
    → (build_no Assigned keys (assigned_early (length keys) (length values) modulus (lengths_of table degrees xors queue order marks [] seen)) (values_no modulus [] values) ≡ 0)
    × (r.index ≡ index_for Assigned keys modulus) × (table' ≡ over (assigned_table keys values modulus) table)
assigned_gives {keys} {values} {modulus} {table} {degrees} {xors} {queue} {order} {marks} {seen} {r} b z =
    let lent = lengths_of table degrees xors queue order marks [] seen in
    let a = built (build_no Assigned keys (assigned_early (length keys) (length values) modulus lent) (values_no modulus [] values)) (index_for Assigned keys modulus) r b.to.answer_is z in
    (a.0, a.1, b.to.table_is ∙ ap (λ (number : ℕ). written number (assigned_table keys values modulus) table) a.0)

-- a build of no keys accepts any modulus, and the header has 32 bits for it
pub assigned_made : {keys values : List ℕ} {modulus : ℕ} {table degrees xors queue : List ℕ} {order : List Pair} {marks seen : List ℕ} {r : Built} {table' degrees' xors' queue' : List ℕ} {order' : List Pair} {marks' seen' : List ℕ}
    → BuiltAssigned keys values modulus table degrees xors queue order marks seen r table' degrees' xors' queue' order' marks' seen' → r.no ≡ 0 → modulus < 2 ^ 32
    → (occ : List ℕ) → Made r.index table' occ
assigned_made {keys} {values} {modulus} {table} b z fits occ =
    let a = assigned_gives b z in
    rw (a.1, a.2) (made_assigned keys values modulus _ a.0 fits (drop (length (assigned_table keys values modulus)) table) occ)

-- ---- the compact build

module _ (keys : List ℕ) (lent : _) (ok : build_no Compact keys (compact_early (length keys) lent) 0 ≡ 0) where
  compact_below : 1 ≤ length keys → (v : ℕ) → v < vertices_for Compact (length keys) → get_or (compact_table keys) v 0 < 3
  compact_below h v l = ⊎_elim one many (lt_or_ge (length keys) 2)
    where
      one : length keys < 2 → get_or (compact_table keys) v 0 < 3
      one k =
          let e : length keys ≡ 1 = omega arith in
          let first : v ≡ 0 = omega (arith, ap (vertices_for Compact) e ∙ vertices_one Compact) in
          rw (one_compact keys e, first) (lit< tt)

      many : 2 ≤ length keys → get_or (compact_table keys) v 0 < 3
      many k = (compact_found keys lent k ok).below v

  made_compact : (trest orest : List ℕ) → Made (index_for Compact keys (length keys)) (compact_table keys ++ trest) (compact_occupancy keys ++ orest)
  made_compact trest orest = ⊎_elim none some (lt_or_ge (length keys) 1)
    where
      words : List ℕ
      words = compact_table keys ++ trest

      occ : List ℕ
      occ = compact_occupancy keys ++ orest

      room : occupancy_bytes (vertices_for Compact (length keys)) ≤ length occ
      room = omega (arith, length-append (compact_occupancy keys) orest, occupancy_long keys)

      none : length keys < 1 → Made (index_for Compact keys (length keys)) words occ
      none l =
          let e : length keys ≡ 0 = omega arith in
          let z : vertices_for Compact (length keys) ≡ 0 = ap (vertices_for Compact) e ∙ vertices_none Compact in
          made Compact keys (length keys) words occ (omega arith) (omega arith) (λ h. omega arith) (λ k. refl) (omega arith) room (λ v h. absurd (omega arith))

      some : 1 ≤ length keys → Made (index_for Compact keys (length keys)) words occ
      some h =
          let table = compact_table keys in
          let a = none_refused Compact keys (compact_early (length keys) lent) 0 h ok in
          let few = (compact_passed (length keys) lent h a.0).few in
          let long : length table ≡ vertices_for Compact (length keys) = length_compact keys h in
          made Compact keys (length keys) words occ few (omega arith) (λ k. omega arith) (λ k. refl) (omega (arith, length-append table trest)) room
          (λ v l. rw (get_or-append table trest 0 v (rw long l)) (omega (arith, compact_below h v l)))

pub compact_gives : {keys table occupancy degrees xors queue : List ℕ} {order : List Pair} {marks : List ℕ} {r : Built} {table' occupancy' degrees' xors' queue' : List ℕ} {order' : List Pair} {marks' : List ℕ}
    → BuiltCompact keys table occupancy degrees xors queue order marks r table' occupancy' degrees' xors' queue' order' marks' → r.no ≡ 0
    → (build_no Compact keys (compact_early (length keys) (lengths_of table degrees xors queue order marks occupancy [])) 0 ≡ 0)
    × (r.index ≡ index_for Compact keys (length keys)) × (table' ≡ over (compact_table keys) table) × (occupancy' ≡ over (compact_occupancy keys) occupancy)
compact_gives {keys} {table} {occupancy} {degrees} {xors} {queue} {order} {marks} {r} b z =
    let lent = lengths_of table degrees xors queue order marks occupancy [] in
    let a = built (build_no Compact keys (compact_early (length keys) lent) 0) (index_for Compact keys (length keys)) r b.to.answer_is z in
    let t = b.to.table_is ∙ ap (λ (number : ℕ). written number (compact_table keys) table) a.0 in
    let o = b.occupancy_is ∙ ap (λ (number : ℕ). written number (compact_occupancy keys) occupancy) a.0 in
    (a.0, a.1, t, o)

pub compact_made : {keys table occupancy degrees xors queue : List ℕ} {order : List Pair} {marks : List ℕ} {r : Built} {table' occupancy' degrees' xors' queue' : List ℕ} {order' : List Pair} {marks' : List ℕ}
    → BuiltCompact keys table occupancy degrees xors queue order marks r table' occupancy' degrees' xors' queue' order' marks' → r.no ≡ 0
    → Made r.index table' occupancy'
compact_made {keys} {table} {occupancy} b z =
    let a = compact_gives b z in
    rw (a.1, a.2, a.3) (made_compact keys _ a.0 (drop (length (compact_table keys)) table) (drop (length (compact_occupancy keys)) occupancy))
