-- Keys that come as bytes, and what is answered to a list of them. Assumes nothing.
use Rattle.std.specs.Prelude.{◌≡◌, cond, List, ℕ, zero, suc, ◌*◌, ◌/◌, ◌%◌, eqb, ltb, length}
use Rattle.bdz_base.specs.Buffer.{tab, over}
use Rattle.bdz_base.specs.Pack.{bits_at}
use Rattle.bdz_base.specs.Refusal.{refuse}
use Rattle.bdz_base.specs.Verts.{verts_of}
use Rattle.bdz_base.specs.declared.verts.Verts.{Verts}
use Rattle.bdz_base.specs.declared.verts.Kind.{Kind}
use Rattle.bdz_base.specs.declared.verts.Kind.TheVariants.{Assigned, Compact}

-- a kind as a number: 0 is assigned
abbrev pub kind_of : ℕ → Kind
kind_of zero = Assigned
kind_of (suc k) = Compact

-- "keys as little-endian bytes": how many there are, and the i-th of them
abbrev pub key_count : List ℕ → ℕ
key_count bytes = length bytes / 8

unfoldable pub key_at : List ℕ → ℕ → ℕ
key_at bytes i = bits_at 64 bytes (i * 8 * 8)

-- one of three vertices
abbrev pub one_of : ℕ → Verts → ℕ
one_of zero v = v.a
one_of (suc zero) v = v.b
one_of (suc (suc k)) v = v.c

-- three words a key: the s-th of them
unfoldable pub vertex_at : Kind → List ℕ → ℕ → ℕ → ℕ → ℕ
vertex_at kind bytes seed m s = one_of (s % 3) (verts_of kind (key_at bytes (s / 3)) seed m)

-- 14 "a lent buffer is shorter than its stated need"
unfoldable pub hash_no : List ℕ → List ℕ → ℕ
hash_no bytes out = refuse 14 (ltb (length out) (3 * key_count bytes)) 0

unfoldable pub after_hash : Kind → List ℕ → ℕ → ℕ → List ℕ → List ℕ
after_hash kind bytes seed m out =
    cond (eqb (hash_no bytes out) 0) (over (tab (vertex_at kind bytes seed m) (3 * key_count bytes)) out) out

-- the whole promise: the number, and the words afterwards
pub record Hashed (kind : Kind) (bytes : List ℕ) (seed m : ℕ) (out : List ℕ) (number : ℕ) (after : List ℕ) : Type 0 where
  pub number_is : number ≡ hash_no bytes out
  pub after_is : after ≡ after_hash kind bytes seed m out
