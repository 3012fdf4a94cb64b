-- What is known once super counts or a lookup are not refused, and what the answers then are. Assumes nothing.
use Rattle.std.proofs.Common.{◌≡◌, ℕ, zero, suc, ◌+◌, ◌%◌, ◌^◌, ◌<◌, ◌≤◌, Bool, true, false, eqb, ltb, List, ◌++◌, length, get_or, take, drop, replicate, length-take-le, add-one, refl, ap, ◌∙◌, ⊎_elim, mod-lt, arith, ltb-false, le-ltb, lt-ltb, ne_eqb}
use lib.ListN.{length-replicate}
use Rattle.std.proofs.lemmas.List.{replicate_more}
use native.Mathlib.Nat.{min-eq_left}
use borrow.Author.Tests.{eqb-false}
use Rattle.bdz_base.specs.Buffer.{tab, over}
use Rattle.bdz_base.specs.Refusal.{refuse, accept}
use Rattle.bdz_base.specs.Sizes.{occupancy_bytes, super_count}
use Rattle.bdz_base.specs.Verts.{Below, verts_of}
use Rattle.bdz_base.specs.declared.verts.Kind.{Kind}
use Rattle.bdz_base.specs.declared.verts.Kind.TheVariants.{Assigned, Compact}
use Rattle.bdz_base.specs.declared.verts.Verts.{Verts}
use Rattle.bdz_base.proofs.VertexLaws.{vertices_below}
use Rattle.bdz_table.specs.Assign.{sum_at}
use Rattle.bdz_table.specs.Keys.{listed}
use Rattle.bdz_table.specs.Lookup.{room_no, lookup_no, sum_of, picked_of, assigned_answer, compact_answer, many_answer, few_answer, answer_of, answers_of, many_from, finished_of}
use Rattle.bdz_table.specs.Rank.{supers_no, rank_with, ranked_of}
use Rattle.bdz_table.specs.declared.index.Index.{Index}
use Rattle.bdz_table.proofs.Begun.{refuse_none}
use Rattle.bdz_table.proofs.Has.{lt_or_ge}

pub supers_passed : (m occ supers : ℕ) → supers_no m occ supers ≡ 0 → (occupancy_bytes m ≤ occ) × (super_count m ≤ supers)
unfolding supers_no
supers_passed m occ supers e =
    let a = refuse_none 11 (ltb occ (occupancy_bytes m)) _ e in
    let b = refuse_none 13 (ltb supers (super_count m)) 0 a.1 in
    (ltb-false occ (occupancy_bytes m) a.0, ltb-false supers (super_count m) b.0)

pub supers_accepted : (m occ supers : ℕ) → occupancy_bytes m ≤ occ → super_count m ≤ supers → supers_no m occ supers ≡ 0
unfolding supers_no
supers_accepted m occ supers h k = rw (le-ltb occ (occupancy_bytes m) h, le-ltb supers (super_count m) k)

-- so a rank up to m is what the lent super counts give
pub ranked_inside : (m : ℕ) (occ supers : List ℕ) (v : ℕ) → occupancy_bytes m ≤ length occ → super_count m ≤ length supers → v ≤ m → ranked_of m occ supers v ≡ record { no = 0; answer = rank_with occ supers v }
unfolding ranked_of
ranked_inside m occ supers v h k l = rw (supers_accepted m (length occ) (length supers) h k, min-eq_left l)

-- a table of m words or more has the word of each of a key's vertices
pub words_there : (kind : Kind) (key seed m n : ℕ) → 0 < m → m ≤ n → Below n (verts_of kind key seed m)
words_there kind key seed m n h k =
    let b = vertices_below kind key seed m h in
    record { a_below = omega (arith, b.a_below); b_below = omega (arith, b.b_below); c_below = omega (arith, b.c_below) }

-- the vertex that a sum picks is one of the key's
pub picked_below : (sum : ℕ) {m : ℕ} {v : Verts} → Below m v → picked_of (listed v) sum < m
unfolding picked_of
picked_below sum {m} {v} b = go (sum % 3) (mod-lt sum (omega arith))
  where
    go : (i : ℕ) → i < 3 → get_or (listed v) i 0 < m
    go zero h = b.a_below
    go (suc zero) h = b.b_below
    go (suc (suc zero)) h = b.c_below
    go (suc (suc (suc i))) h = absurd (omega arith)

-- an answer for each key has room
pub answers_fit : (index : Index) (keys table occ supers out : ℕ) → (keys ≡ 0 → ⊥) → lookup_no index keys table occ supers out ≡ 0 → keys ≤ out
unfolding lookup_no
answers_fit index keys table occ supers out some e =
    let a = refuse_none 13 (ltb out keys) _ (rw (ne_eqb keys 0 some) at e) in
    ltb-false out keys a.0

-- what the checks ask of an index of two keys or more, and of the lengths that are lent with it
pub record Fits (index : Index) (table occ supers : ℕ) : Type 0 where
  pub vertices : 0 < index.m
  pub modulus : 0 < index.modulus
  pub room : room_no index.kind index.m table occ supers ≡ 0

pub fits : (index : Index) (keys table occ supers out : ℕ) → (keys ≡ 0 → ⊥) → 2 ≤ index.n → lookup_no index keys table occ supers out ≡ 0 → Fits index table occ supers
unfolding lookup_no
fits index keys table occ supers out some many e =
    let a = refuse_none 13 (ltb out keys) _ (rw (ne_eqb keys 0 some) at e) in
    let b = refuse_none 10 (eqb index.m 0) _ (rw (le-ltb index.n 2 many) at a.1) in
    let c = refuse_none 10 (eqb index.modulus 0) _ b.1 in
    let x : index.m ≡ 0 → ⊥ = eqb-false index.m 0 b.0 in
    let y : index.modulus ≡ 0 → ⊥ = eqb-false index.modulus 0 c.0 in
    record { vertices = omega arith; modulus = omega arith; room = c.1 }

-- and what makes a lookup accepted
pub lookup_accepted : (index : Index) (keys table occ supers out : ℕ) → keys ≤ out → (2 ≤ index.n → Fits index table occ supers) → lookup_no index keys table occ supers out ≡ 0
unfolding lookup_no
lookup_accepted index keys table occ supers out h fit = go (eqb keys 0)
  where
    next : ℕ
    next =
        accept (ltb index.n 2)
        (refuse 11 (eqb index.m 0)
        (refuse 11 (eqb index.modulus 0)
        (room_no index.kind index.m table occ supers)))

    many : 2 ≤ index.n → next ≡ 0
    many l =
        let p = fit l in
        rw (le-ltb index.n 2 l, ne_eqb index.m 0 (omega (arith, p.vertices)), ne_eqb index.modulus 0 (omega (arith, p.modulus))) p.room

    go : (b : Bool) → accept b (refuse 14 (ltb out keys) next) ≡ 0
    go true = refl
    go false = rw (le-ltb out keys h) (⊎_elim (λ l. rw (lt-ltb index.n 2 l)) many (lt_or_ge index.n 2))

pub room_assigned : (m table occ supers : ℕ) → room_no Assigned m table occ supers ≡ 0 → m ≤ table
unfolding room_no
room_assigned m table occ supers e = ltb-false table m (refuse_none 13 (ltb table m) 0 e).0

pub room_compact : (m table occ supers : ℕ) → room_no Compact m table occ supers ≡ 0 → (occupancy_bytes m ≤ occ) × (m ≤ table) × (super_count m ≤ supers)
unfolding room_no
room_compact m table occ supers e =
    let a = refuse_none 11 (ltb occ (occupancy_bytes m)) _ e in
    let b = refuse_none 13 (ltb table m) _ a.1 in
    let c = refuse_none 13 (ltb supers (super_count m)) 0 b.1 in
    (ltb-false occ (occupancy_bytes m) a.0, ltb-false table m b.0, ltb-false supers (super_count m) c.0)

-- ---- the answers

module _ (index : Index) (table occ supers : List ℕ) (key : ℕ) where
  pub few_answer_lem : index.n < 2 → answer_of index table occ supers key ≡ few_answer index.kind index.n (get_or table 0 0)
  unfolding answer_of
  few_answer_lem h = rw (lt-ltb index.n 2 h)

  pub many_answer_lem : 2 ≤ index.n → answer_of index table occ supers key ≡ many_answer index.kind index table occ supers key
  unfolding answer_of
  many_answer_lem h = rw (le-ltb index.n 2 h)

  -- three words that are the table's at the key's vertices (of one key or none: the first is its first word) make the lookup's answer
  module _ (a b c : ℕ) where
    pub finish_few : index.n < 2 → a ≡ get_or table 0 0 → finished_of index key a b c occ supers ≡ answer_of index table occ supers key
    unfolding finished_of answer_of
    finish_few h e = rw (lt-ltb index.n 2 h, e)

    finish_sum : (v : Verts) → a ≡ get_or table v.a 0 → b ≡ get_or table v.b 0 → c ≡ get_or table v.c 0 → (a + b + c) % 2 ^ 32 ≡ sum_of table (listed v)
    unfolding sum_of sum_at
    finish_sum v x y z = ap (λ (s : ℕ). s % 2 ^ 32) (omega (arith, x, y, z))

    finish_kind : (kind : Kind) → (a + b + c) % 2 ^ 32 ≡ sum_of table (listed (verts_of kind key index.seed index.m)) → many_from kind index occ supers key ((a + b + c) % 2 ^ 32) ≡ many_answer kind index table occ supers key
    unfolding assigned_answer compact_answer
    finish_kind Assigned e = rw e
    finish_kind Compact e = rw e

    pub finish_many : 2 ≤ index.n → {v : Verts} → v ≡ verts_of index.kind key index.seed index.m → a ≡ get_or table v.a 0 → b ≡ get_or table v.b 0 → c ≡ get_or table v.c 0 → finished_of index key a b c occ supers ≡ answer_of index table occ supers key
    unfolding finished_of answer_of
    finish_many h {v} e x y z =
        rw (le-ltb index.n 2 h) (finish_kind index.kind (finish_sum v x y z ∙ ap (λ (u : Verts). sum_of table (listed u)) e))

module _ (index : Index) (table occ supers keys : List ℕ) where
  pub answers_none : (old : List ℕ) → length keys ≡ 0 → old ≡ over (answers_of index table occ supers keys) old
  unfolding tab
  answers_none old e = rw e

  pub answers_few : index.n < 2 → answers_of index table occ supers keys ≡ tab (λ i. few_answer index.kind index.n (get_or table 0 0)) (length keys)
  unfolding answer_of
  answers_few h = rw (lt-ltb index.n 2 h)

  pub answers_assigned : 2 ≤ index.n → index.kind ≡ Assigned → answers_of index table occ supers keys ≡ tab (λ i. assigned_answer index.seed index.m index.modulus table (get_or keys i 0)) (length keys)
  unfolding answer_of
  answers_assigned h e = rw (le-ltb index.n 2 h, e)

  pub answers_compact : 2 ≤ index.n → index.kind ≡ Compact → answers_of index table occ supers keys ≡ tab (λ i. compact_answer index.seed index.m index.n table occ supers (get_or keys i 0)) (length keys)
  unfolding answer_of
  answers_compact h e = rw (le-ltb index.n 2 h, e)

tab_same : (x n : ℕ) → tab (λ i. x) n ≡ replicate n x
unfolding tab
tab_same x zero = refl
tab_same x (suc n) = rw (tab_same x n) (rw add-one at (replicate_more {X = ℕ} n x))

-- one answer for all keys
pub same_answers : (x n : ℕ) (old some : List ℕ) → n ≤ length old → some ≡ replicate (length (take n old)) x → some ++ drop n old ≡ over (tab (λ i. x) n) old
same_answers x n old some h e = rw (tab_same x n, e, length-take-le n old h, length-replicate {A = ℕ} n x)
