-- The words of each key's vertices, and the returns of `bdz_hash_verts`. Assumes nothing.
use Rattle.std.proofs.Common.{◌≡◌, refl, true, false, List, ℕ, zero, suc, ◌+◌, ◌-◌, ◌*◌, ◌/◌, ◌%◌, add-zero, arith, ltb}
use Rattle.std.proofs.Common.{length, take, drop}
use Rattle.bdz_base.specs.Buffer.{tab, over}
use Rattle.bdz_base.specs.Pack.{bits_at}
use Rattle.bdz_base.specs.Verts.{verts_of}
use Rattle.bdz_base.specs.declared.verts.Verts.{Verts}
use Rattle.bdz_base.specs.declared.verts.Kind.{Kind}
use Rattle.bdz_base.specs.declared.verts.Kind.TheVariants.{Compact}
use Rattle.bdz_base.proofs.Digits.{bits_part}
use Rattle.bdz_oracle.specs.Keys.{kind_of, key_count, key_at, vertex_at, hash_no, after_hash, Hashed}

pub compact_kind : (k : ℕ) → (k ≡ 0 → ⊥) → Compact ≡ kind_of k
compact_kind zero h = absurd (h refl)
compact_kind (suc k) h = refl

-- key i is read from its own eight bytes
pub key_vertices : (kind : Kind) (bytes : List ℕ) (seed m i : ℕ) {key : ℕ} {v : Verts}
    → key ≡ bits_at 64 (take (i * 8 + 8 - i * 8) (drop (i * 8) bytes)) (0 * 8) → v ≡ verts_of kind key seed m
    → v ≡ verts_of kind (key_at bytes i) seed m
unfolding key_at
key_vertices kind bytes seed m i e f =
    let l : i * 8 + 8 - i * 8 ≡ 8 = omega arith in
    let is = rw (l, bits_part 64 8 (i * 8) 0 bytes (omega arith), add-zero (i * 8 * 8)) at e in
    rw (← is) f

-- the three words of key i
module _ (kind : Kind) (bytes : List ℕ) (seed m i : ℕ) {v : Verts} (e : v ≡ verts_of kind (key_at bytes i) seed m) where
  pub word_a : v.a ≡ vertex_at kind bytes seed m (3 * i)
  unfolding vertex_at
  word_a =
      let q : 3 * i % 3 ≡ 0 = omega arith in
      let d : 3 * i / 3 ≡ i = omega arith in
      rw (q, d, e)

  pub word_b : v.b ≡ vertex_at kind bytes seed m (3 * i + 1)
  unfolding vertex_at
  word_b =
      let q : (3 * i + 1) % 3 ≡ 1 = omega arith in
      let d : (3 * i + 1) / 3 ≡ i = omega arith in
      rw (q, d, e)

  pub word_c : v.c ≡ vertex_at kind bytes seed m (3 * i + 2)
  unfolding vertex_at
  word_c =
      let q : (3 * i + 2) % 3 ≡ 2 = omega arith in
      let d : (3 * i + 2) / 3 ≡ i = omega arith in
      rw (q, d, e)

pub no_room : (kind : Kind) (bytes : List ℕ) (seed m : ℕ) (out : List ℕ)
    → ltb (length out) (3 * key_count bytes) ≡ true → Hashed kind bytes seed m out 14 out
unfolding hash_no after_hash
no_room kind bytes seed m out h = record { number_is = simp h; after_is = simp h }

pub hashed : (kind : Kind) (bytes : List ℕ) (seed m : ℕ) (out : List ℕ) {after : List ℕ}
    → ltb (length out) (3 * key_count bytes) ≡ false
    → after ≡ over (tab (vertex_at kind bytes seed m) (3 * key_count bytes)) out → Hashed kind bytes seed m out 0 after
unfolding hash_no after_hash
hashed kind bytes seed m out h e = record { number_is = simp h; after_is = simp h e }
