-- Pairs of zeros that are lent to a build are zeros afterwards. Assumes nothing.
use Rattle.std.proofs.Common.{◌≡◌, ℕ, zero, suc, ◌≤◌, Bool, true, false, not, ◌&&◌, eqb, List, [], ◌∷◌, ◌++◌, length, drop, replicate, refl, ap, ◌∙◌, subst, arith, eqb-true}
use Rattle.bdz_base.specs.declared.verts.Kind.TheVariants.{Assigned, Compact}
use Rattle.bdz_table.specs.Build.{needs_of, assigned_early, compact_early, begun, cleared_pairs, lengths_of, BuiltAssigned, BuiltCompact}
use Rattle.bdz_table.specs.Order.{no_pair, own_pairs}
use Rattle.bdz_table.specs.declared.pairs.Pair.{Pair}
use Rattle.bdz_table.specs.declared.index.Built.{Built}
use Rattle.bdz_table.proofs.Begun.{assigned_passed, compact_passed}
use Rattle.bdz_table.proofs.Fold.{clash}

zeros_over : (k n : ℕ) → k ≤ n → replicate k no_pair ++ drop (length (replicate k no_pair)) (replicate n no_pair) ≡ replicate n no_pair
zeros_over zero n h = refl
zeros_over (suc k) zero h = absurd (omega arith)
zeros_over (suc k) (suc n) h = ap (λ (l : List Pair). no_pair ∷ l) (zeros_over k n (omega arith))

begun_some : (n early : ℕ) → begun n early ≡ true → (early ≡ 0) × (1 ≤ n)
begun_some n early e = go (eqb early 0) refl e
  where
    some : (n : ℕ) → not (eqb n 0) ≡ true → 1 ≤ n
    some zero e = clash e refl
    some (suc n) e = omega arith

    go : (b : Bool) → eqb early 0 ≡ b → (b && not (eqb n 0)) ≡ true → (early ≡ 0) × (1 ≤ n)
    go true t e = (eqb-true early 0 t, some n e)
    go false t e = clash e refl

stays : (go : Bool) (k : ℕ) → (go ≡ true → k ≤ 1000) → cleared_pairs go k own_pairs ≡ own_pairs
stays true k h = zeros_over k 1000 (h refl)
stays false k h = refl

pub assigned_owns : {keys values : List ℕ} {modulus : ℕ} {table degrees xors queue marks seen : List ℕ} {r : Built} {table' degrees' xors' queue' : List ℕ} {order' : List Pair} {marks' seen' : List ℕ}
    → BuiltAssigned keys values modulus table degrees xors queue own_pairs marks seen r table' degrees' xors' queue' order' marks' seen'
    → BuiltAssigned keys values modulus table degrees xors queue own_pairs marks seen r table' degrees' xors' queue' own_pairs marks' seen'
assigned_owns {keys} {values} {modulus} {table} {degrees} {xors} {queue} {marks} {seen} {r} {table'} {degrees'} {xors'} {queue'} {order'} {marks'} {seen'} b =
    let lent = lengths_of table degrees xors queue own_pairs marks [] seen in
    let n = length keys in
    let early = assigned_early n (length values) modulus lent in
    let room : begun n early ≡ true → (needs_of Assigned n modulus).order ≤ 1000 =
    λ g. let s = begun_some n early g in (assigned_passed n (length values) modulus lent s.1 s.0).passed.room.order in
    let e : order' ≡ own_pairs = b.to.order_is ∙ stays (begun n early) (needs_of Assigned n modulus).order room in
    subst (λ (o : List Pair). BuiltAssigned keys values modulus table degrees xors queue own_pairs marks seen r table' degrees' xors' queue' o marks' seen') e b

pub compact_owns : {keys table occupancy degrees xors queue marks : List ℕ} {r : Built} {table' occupancy' degrees' xors' queue' : List ℕ} {order' : List Pair} {marks' : List ℕ}
    → BuiltCompact keys table occupancy degrees xors queue own_pairs marks r table' occupancy' degrees' xors' queue' order' marks'
    → BuiltCompact keys table occupancy degrees xors queue own_pairs marks r table' occupancy' degrees' xors' queue' own_pairs marks'
compact_owns {keys} {table} {occupancy} {degrees} {xors} {queue} {marks} {r} {table'} {occupancy'} {degrees'} {xors'} {queue'} {order'} {marks'} b =
    let lent = lengths_of table degrees xors queue own_pairs marks occupancy [] in
    let n = length keys in
    let early = compact_early n lent in
    let room : begun n early ≡ true → (needs_of Compact n n).order ≤ 1000 =
    λ g. let s = begun_some n early g in (compact_passed n lent s.1 s.0).room.order in
    let e : order' ≡ own_pairs = b.to.order_is ∙ stays (begun n early) (needs_of Compact n n).order room in
    subst (λ (o : List Pair). BuiltCompact keys table occupancy degrees xors queue own_pairs marks r table' occupancy' degrees' xors' queue' o marks') e b
