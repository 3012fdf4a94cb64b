-- The three vertices of a key. Assumes nothing.
use Rattle.std.specs.Prelude.{◌≡◌, ℕ, ◌+◌, ◌*◌, ◌/◌, ◌%◌, ◌^◌, ◌<◌, ◌≤◌, cond, ◌||◌, ◌==◌, refl}
use Rattle.bdz_base.specs.Mix.{rotl, mix64_of}
use Rattle.bdz_base.specs.declared.verts.Verts.{Verts}
use Rattle.bdz_base.specs.declared.verts.Kind.{Kind}
use Rattle.bdz_base.specs.declared.verts.Kind.TheVariants.{Assigned, Compact}

-- "h = mix64(key + seed modulo 2^64)"
unfoldable pub hash_of : ℕ → ℕ → ℕ
hash_of key seed = mix64_of ((key + seed) % 2 ^ 64)

-- "the high 64 bits of h .. times p"
abbrev pub high : ℕ → ℕ → ℕ
high h p = h * p / 2 ^ 64

-- "if c is a or b, c becomes (c+1) mod m"
unfoldable pub moved_off : ℕ → ℕ → ℕ → ℕ → ℕ
moved_off m a b x = cond (x == a || x == b) ((x + 1) % m) x

-- "if b = a, b becomes (b+1) mod m; if c is a or b, c becomes (c+1) mod m, and once more if still equal to either"
unfoldable pub apart : ℕ → ℕ → ℕ → ℕ → Verts
apart m a b c =
    let b' = moved_off m a a b in
    record { a = a; b = b'; c = moved_off m a b' (moved_off m a b' c) }

-- "For a part size p the three numbers are the high 64 bits of h, h rotated left 21, and h rotated left 42, each times p.
-- Assigned, p = m". No vertices: 0, 0, 0
unfoldable pub hash3_of : ℕ → ℕ → Verts
hash3_of h m =
    cond (m == 0) (record { a = 0; b = 0; c = 0 })
    (apart m (high h m) (high (rotl h 21) m) (high (rotl h 42) m))

-- "Compact, p = floor(m/3): a, p+b, 2p+c"
unfoldable pub hash3_partite_of : ℕ → ℕ → Verts
hash3_partite_of h m =
    let p = m / 3 in
    record { a = high h p; b = p + high (rotl h 21) p; c = 2 * p + high (rotl h 42) p }

-- The vertices of a key, by kind. It is sealed: what stands above this crate has the laws of proofs/VertexLaws and no hash.
pub verts_of : Kind → ℕ → ℕ → ℕ → Verts
verts_of Assigned key seed m = hash3_of (hash_of key seed) m
verts_of Compact key seed m = hash3_partite_of (hash_of key seed) m

-- what the seal holds, for the routine's own proof and the laws'
pub sealed_assigned : (key seed m : ℕ) → verts_of Assigned key seed m ≡ hash3_of (hash_of key seed) m
unfolding verts_of
sealed_assigned key seed m = refl

pub sealed_compact : (key seed m : ℕ) → verts_of Compact key seed m ≡ hash3_partite_of (hash_of key seed) m
unfolding verts_of
sealed_compact key seed m = refl

-- ---- what the laws say of vertices

pub record Below (m : ℕ) (v : Verts) : Type 0 where
  pub a_below : v.a < m
  pub b_below : v.b < m
  pub c_below : v.c < m

pub record Different (v : Verts) : Type 0 where
  pub a_b : v.a ≡ v.b → ⊥
  pub a_c : v.a ≡ v.c → ⊥
  pub b_c : v.b ≡ v.c → ⊥

-- one in each of three parts of p
pub record InParts (p : ℕ) (v : Verts) : Type 0 where
  pub first : v.a < p
  pub second_from : p ≤ v.b
  pub second_to : v.b < 2 * p
  pub third_from : 2 * p ≤ v.c
  pub third_to : v.c < 3 * p
