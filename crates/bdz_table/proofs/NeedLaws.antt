-- What a build's needs come to. Assumes nothing.
use Rattle.std.proofs.Common.{◌≡◌, ℕ, ◌+◌, ◌^◌, ◌<◌, ◌≤◌, Bool, true, false, cond, eqb, refl, arith, ne_eqb}
use Rattle.bdz_base.specs.declared.verts.Kind.{Kind}
use Rattle.bdz_base.specs.declared.verts.Kind.TheVariants.{Assigned, Compact}
use Rattle.bdz_base.proofs.SizeLaws.{assigned_more, assigned_room, assigned_wide, compact_from_lem, compact_to}
use Rattle.bdz_table.specs.Build.{size_for, vertices_for}

size_wide : (kind : Kind) (n : ℕ) → n < 2 ^ 32 → size_for kind n ≤ 2 ^ 34
size_wide Assigned n h = omega (arith, assigned_wide n h)
size_wide Compact n h = omega (arith, assigned_wide n h, compact_to n)

size_fits : (kind : Kind) (n : ℕ) → n ≤ 2 ^ 30 → size_for kind n ≤ 2 ^ 31
size_fits Assigned n h = omega (arith, assigned_room n h)
size_fits Compact n h = omega (arith, assigned_room n h, compact_to n)

size_more : (kind : Kind) (n : ℕ) → n + 3 ≤ size_for kind n
size_more Assigned n = assigned_more n
size_more Compact n = omega (arith, assigned_more n, compact_from_lem n)

by_count : (kind : Kind) (n bound : ℕ) → 1 ≤ bound → size_for kind n ≤ bound → vertices_for kind n ≤ bound
unfolding vertices_for
by_count kind n bound h l = go (eqb n 0) (eqb n 1)
  where
    go : (a b : Bool) → cond a 0 (cond b 1 (size_for kind n)) ≤ bound
    go true b = omega arith
    go false true = h
    go false false = l

-- for every 32-bit n the vertices fit 64 bits, and for up to 2^30 keys they fit 32
pub vertices_wide : (kind : Kind) (n : ℕ) → n < 2 ^ 32 → vertices_for kind n ≤ 2 ^ 34
vertices_wide kind n h = by_count kind n (2 ^ 34) (omega arith) (size_wide kind n h)

pub vertices_fit : (kind : Kind) (n : ℕ) → n ≤ 2 ^ 30 → vertices_for kind n ≤ 2 ^ 31
vertices_fit kind n h = by_count kind n (2 ^ 31) (omega arith) (size_fits kind n h)

-- two keys or more have more vertices than keys
pub vertices_many : (kind : Kind) (n : ℕ) → 2 ≤ n → vertices_for kind n ≡ size_for kind n
unfolding vertices_for
vertices_many kind n h = simp (ne_eqb n 0 (omega arith), ne_eqb n 1 (omega arith))

pub vertices_more : (kind : Kind) (n : ℕ) → 2 ≤ n → n + 3 ≤ vertices_for kind n
vertices_more kind n h = rw (vertices_many kind n h) (size_more kind n)

pub vertices_none : (kind : Kind) → vertices_for kind 0 ≡ 0
unfolding vertices_for
vertices_none kind = refl

pub vertices_one : (kind : Kind) → vertices_for kind 1 ≡ 1
unfolding vertices_for
vertices_one kind = refl
