-- Three entries a key. Assumes nothing.
use mathlib.Core.Path.{◌≡◌, ◌∙◌}
use mathlib.Core.List.{List}
use Prim.Native.Nat.{ℕ, ◌+◌, ◌*◌, ◌/◌, ◌%◌, ◌^◌}
use native.Mathlib.Omega.{arith}
use lib.ListN.{get_or}
use Rattle.bdz_base.specs.declared.verts.Verts.{Verts}
use Rattle.bdz_base.specs.declared.verts.Kind.{Kind}
use Rattle.bdz_base.specs.Verts.{verts_of}
use Rattle.bdz_table.specs.Keys.{graph_of}
use Rattle.bdz_image.specs.Entry.{vertex_at, entry_at}

module _ (kind : Kind) (keys : List ℕ) (seed m i : ℕ) {v : Verts} (e : v ≡ verts_of kind (get_or keys i 0) seed m) where
  pub entry_a : {r : ℕ} → r ≡ v.a * 2 ^ 32 + 3 * i → r ≡ entry_at kind keys seed m (3 * i)
  unfolding entry_at vertex_at graph_of
  entry_a p =
      let q : 3 * i % 3 ≡ 0 = omega arith in
      let d : 3 * i / 3 ≡ i = omega arith in
      p ∙ rw (q, d, e)

  pub entry_b : {r : ℕ} → r ≡ v.b * 2 ^ 32 + (3 * i + 1) → r ≡ entry_at kind keys seed m (3 * i + 1)
  unfolding entry_at vertex_at graph_of
  entry_b p =
      let q : (3 * i + 1) % 3 ≡ 1 = omega arith in
      let d : (3 * i + 1) / 3 ≡ i = omega arith in
      p ∙ rw (q, d, e)

  pub entry_c : {r : ℕ} → r ≡ v.c * 2 ^ 32 + (3 * i + 2) → r ≡ entry_at kind keys seed m (3 * i + 2)
  unfolding entry_at vertex_at graph_of
  entry_c p =
      let q : (3 * i + 2) % 3 ≡ 2 = omega arith in
      let d : (3 * i + 2) / 3 ≡ i = omega arith in
      p ∙ rw (q, d, e)
