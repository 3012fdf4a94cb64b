-- The laws of a key's vertices, by kind: below m, different where m is 3 or more, the compact ones each in their part.
-- This is all that crates above see of the hash. Assumes nothing.
use Rattle.std.proofs.Common.{◌≡◌, ℕ, ◌+◌, ◌*◌, ◌/◌, ◌%◌, ◌^◌, ◌<◌, ◌≤◌, Bool, true, false, cond, ◌||◌, eqb, ◌⊎◌, sym, refl, ◌∙◌, subst, inl, inr, ⊎_elim, lt_of_le_of_lt, mod-lt, mod-eq_of_lt, mul-zero, arith, pow_pos, ne_eqb, eqb-true}
use native.Mathlib.Nat.{mod_self, zero-div}
use native.Mathlib.Decide.{dec_lt}
use lib.Bits.{xor_lt}
use lib.Pow.{shr_le}
use borrow.Author.Tests.{eqb-false}
use Rattle.bdz_base.specs.Mix.{xor_shift, times, rotl, mix64_of, next_of, seed_of, step_of, state_at, seed_at}
use Rattle.bdz_base.specs.Verts.{hash_of, high, moved_off, apart, hash3_of, hash3_partite_of, verts_of, sealed_assigned, sealed_compact, Below, Different, InParts}
use Rattle.bdz_base.specs.declared.verts.Kind.{Kind}
use Rattle.bdz_base.specs.declared.verts.Kind.TheVariants.{Assigned, Compact}
use Rattle.bdz_base.proofs.Halves.{high_le, rotl_lt}

-- ---- mixed words have 64 bits

shifted_lt : (k x : ℕ) → x < 2 ^ 64 → xor_shift k x < 2 ^ 64
shifted_lt k x h = xor_lt 64 x (x / 2 ^ k) h (lt_of_le_of_lt (shr_le x k) h)

pub hash_lt : (key seed : ℕ) → hash_of key seed < 2 ^ 64
unfolding hash_of mix64_of
hash_lt key seed =
    let x = xor_shift 33 (times 0xff51_afd7_ed55_8ccd (xor_shift 33 ((key + seed) % 2 ^ 64))) in
    shifted_lt 33 (times 0xc4ce_b9fe_1a85_ec53 x) (mod-lt (x * 0xc4ce_b9fe_1a85_ec53) (pow_pos 64))

pub seed_lt : (i : ℕ) → seed_at i < 2 ^ 64
unfolding seed_at step_of seed_of
seed_lt i =
    let x = xor_shift 27 (times 0xbf58_476d_1ce4_e5b9 (xor_shift 30 (next_of (state_at i)))) in
    shifted_lt 31 (times 0x94d0_49bb_1331_11eb x) (mod-lt (x * 0x94d0_49bb_1331_11eb) (pow_pos 64))

-- ---- what moving on does

-- the next number modulo m
next_cases : (m x : ℕ) → x < m → (((x + 1) % m ≡ x + 1) × (x + 1 < m)) ⊎ (((x + 1) % m ≡ 0) × (x + 1 ≡ m))
next_cases m x h = go (dec_lt (x + 1) m)
  where
    go : Dec (x + 1 < m) → (((x + 1) % m ≡ x + 1) × (x + 1 < m)) ⊎ (((x + 1) % m ≡ 0) × (x + 1 ≡ m))
    go (yes l) = inl (mod-eq_of_lt l, l)
    go (no n) = let e : x + 1 ≡ m = omega arith in inr (subst (λ (k : ℕ). k % m ≡ 0) (sym e) (mod_self m), e)

-- what `moved_off` does, told by what x is
record Moved (m a b x y : ℕ) : Type 0 where
  low : y < m
  how : ((y ≡ x) × (x ≡ a → ⊥) × (x ≡ b → ⊥)) ⊎ ((y ≡ (x + 1) % m) × ((x ≡ a) ⊎ (x ≡ b)))

moved_is : (m a b x : ℕ) → x < m → Moved m a b x (moved_off m a b x)
unfolding moved_off
moved_is m a b x h = go (eqb x a) (eqb x b) refl refl
  where
    go : (s t : Bool) → eqb x a ≡ s → eqb x b ≡ t → Moved m a b x (cond (s || t) ((x + 1) % m) x)
    go true true p q = record { low = mod-lt (x + 1) (omega arith); how = inr (refl, inl (eqb-true x a p)) }
    go true false p q = record { low = mod-lt (x + 1) (omega arith); how = inr (refl, inl (eqb-true x a p)) }
    go false true p q = record { low = mod-lt (x + 1) (omega arith); how = inr (refl, inr (eqb-true x b q)) }
    go false false p q = record { low = h; how = inl (refl, eqb-false x a p, eqb-false x b q) }

-- b, moved moved_off a, is not a
moved_one : (m a b y : ℕ) → 2 ≤ m → b < m → Moved m a a b y → y ≡ a → ⊥
moved_one m a b y l h o = go o.how
  where
    moved : y ≡ (b + 1) % m → b ≡ a → y ≡ a → ⊥
    moved e q = ⊎_elim (λ n. omega arith) (λ n. omega arith) (next_cases m b h)

    go : ((y ≡ b) × (b ≡ a → ⊥) × (b ≡ a → ⊥)) ⊎ ((y ≡ (b + 1) % m) × ((b ≡ a) ⊎ (b ≡ a))) → y ≡ a → ⊥
    go (inl n) = omega arith
    go (inr (e, inl q)) = moved e q
    go (inr (e, inr q)) = moved e q

-- c, moved moved_off two that are apart, and once more, is neither
moved_two : (m a b x y z : ℕ) → 3 ≤ m → x < m → (a ≡ b → ⊥) → Moved m a b x y → Moved m a b y z → (z ≡ a → ⊥) × (z ≡ b → ⊥)
moved_two m a b x y z l h d o p = go o.how p.how
  where
    moved : y ≡ (x + 1) % m → (x ≡ a) ⊎ (x ≡ b) → z ≡ (y + 1) % m → (y ≡ a) ⊎ (y ≡ b) → (z ≡ a → ⊥) × (z ≡ b → ⊥)
    moved e s f t =
        ⊎_elim (λ u. ⊎_elim (λ v. both u v s t) (λ v. both' u v s t) (next_cases m y o.low))
        (λ u. ⊎_elim (λ v. both'' u v s t) (λ v. omega arith) (next_cases m y o.low)) (next_cases m x h)
      where
        both : ((x + 1) % m ≡ x + 1) × (x + 1 < m) → ((y + 1) % m ≡ y + 1) × (y + 1 < m) → (x ≡ a) ⊎ (x ≡ b) → (y ≡ a) ⊎ (y ≡ b) → (z ≡ a → ⊥) × (z ≡ b → ⊥)
        both u v (inl p) (inl q) = omega arith
        both u v (inl p) (inr q) = omega arith
        both u v (inr p) (inl q) = omega arith
        both u v (inr p) (inr q) = omega arith

        both' : ((x + 1) % m ≡ x + 1) × (x + 1 < m) → ((y + 1) % m ≡ 0) × (y + 1 ≡ m) → (x ≡ a) ⊎ (x ≡ b) → (y ≡ a) ⊎ (y ≡ b) → (z ≡ a → ⊥) × (z ≡ b → ⊥)
        both' u v (inl p) (inl q) = omega arith
        both' u v (inl p) (inr q) = omega arith
        both' u v (inr p) (inl q) = omega arith
        both' u v (inr p) (inr q) = omega arith

        both'' : ((x + 1) % m ≡ 0) × (x + 1 ≡ m) → ((y + 1) % m ≡ y + 1) × (y + 1 < m) → (x ≡ a) ⊎ (x ≡ b) → (y ≡ a) ⊎ (y ≡ b) → (z ≡ a → ⊥) × (z ≡ b → ⊥)
        both'' u v (inl p) (inl q) = omega arith
        both'' u v (inl p) (inr q) = omega arith
        both'' u v (inr p) (inl q) = omega arith
        both'' u v (inr p) (inr q) = omega arith

    go : ((y ≡ x) × (x ≡ a → ⊥) × (x ≡ b → ⊥)) ⊎ ((y ≡ (x + 1) % m) × ((x ≡ a) ⊎ (x ≡ b))) → ((z ≡ y) × (y ≡ a → ⊥) × (y ≡ b → ⊥)) ⊎ ((z ≡ (y + 1) % m) × ((y ≡ a) ⊎ (y ≡ b))) → (z ≡ a → ⊥) × (z ≡ b → ⊥)
    go (inl n) (inl k) = omega arith
    go (inl n) (inr (f, inl q)) = absurd (n.1 (sym n.0 ∙ q))
    go (inl n) (inr (f, inr q)) = absurd (n.2 (sym n.0 ∙ q))
    go (inr n) (inl k) = omega arith
    go (inr (e, s)) (inr (f, t)) = moved e s f t

-- ---- the assigned kind

high_lt : (h p : ℕ) → h < 2 ^ 64 → 0 < p → high h p < p
high_lt h p l k = omega (arith, high_le h p l)

turned_lt : (h k p : ℕ) → k ≤ 64 → h < 2 ^ 64 → 0 < p → high (rotl h k) p < p
turned_lt h k p t l q = high_lt (rotl h k) p (rotl_lt h k t l) q

apart_below : (m a b c : ℕ) → a < m → b < m → c < m → Below m (apart m a b c)
unfolding apart
apart_below m a b c ha hb hc =
    let b' = moved_off m a a b in
    let once = moved_is m a b' c hc in
    record {
      a_below = ha;
      b_below = (moved_is m a a b hb).low;
      c_below = (moved_is m a b' (moved_off m a b' c) once.low).low;
    }

apart_different : (m a b c : ℕ) → 3 ≤ m → a < m → b < m → c < m → Different (apart m a b c)
unfolding apart
apart_different m a b c l ha hb hc =
    let b' = moved_off m a a b in
    let c₁ = moved_off m a b' c in
    let once = moved_is m a b' c hc in
    let one = moved_one m a b b' (omega arith) hb (moved_is m a a b hb) in
    let two = moved_two m a b' c c₁ (moved_off m a b' c₁) l hc (λ e. one (sym e)) once (moved_is m a b' c₁ once.low) in
    record { a_b = λ e. one (sym e); a_c = λ e. two.0 (sym e); b_c = λ e. two.1 (sym e) }

hash3_below : (h m : ℕ) → h < 2 ^ 64 → 0 < m → Below m (hash3_of h m)
unfolding hash3_of
hash3_below h m l k =
    rw (ne_eqb m 0 (omega arith))
    (apart_below m (high h m) (high (rotl h 21) m) (high (rotl h 42) m) (high_lt h m l k) (turned_lt h 21 m (omega arith) l k) (turned_lt h 42 m (omega arith) l k))

hash3_different : (h m : ℕ) → h < 2 ^ 64 → 3 ≤ m → Different (hash3_of h m)
unfolding hash3_of
hash3_different h m l k =
    let p : 0 < m = omega arith in
    rw (ne_eqb m 0 (omega arith))
    (apart_different m (high h m) (high (rotl h 21) m) (high (rotl h 42) m) k (high_lt h m l p) (turned_lt h 21 m (omega arith) l p) (turned_lt h 42 m (omega arith) l p))

-- ---- the compact kind

partite_in_parts : (h m : ℕ) → h < 2 ^ 64 → 3 ≤ m → InParts (m / 3) (hash3_partite_of h m)
unfolding hash3_partite_of
partite_in_parts h m l k =
    let p = m / 3 in
    let q : 0 < p = omega arith in
    omega (arith, high_lt h p l q, turned_lt h 21 p (omega arith) l q, turned_lt h 42 p (omega arith) l q)

no_part : (x p : ℕ) → p ≡ 0 → x * p / 2 ^ 64 ≡ 0
no_part x p e = rw (e, mul-zero, zero-div)

partite_below : (h m : ℕ) → h < 2 ^ 64 → 0 < m → Below m (hash3_partite_of h m)
unfolding hash3_partite_of
partite_below h m l k = go (dec_lt m 3)
  where
    go : Dec (m < 3) → Below m (hash3_partite_of h m)
    go (yes s) =
        let p : m / 3 ≡ 0 = omega arith in
        omega (arith, no_part h (m / 3) p, no_part (rotl h 21) (m / 3) p, no_part (rotl h 42) (m / 3) p)
    go (no s) =
        let q = partite_in_parts h m l (omega arith) in
        record { a_below = omega (arith, q.first); b_below = omega (arith, q.second_to); c_below = omega (arith, q.third_to) }

-- ---- the laws

pub vertices_below : (kind : Kind) (key seed m : ℕ) → 0 < m → Below m (verts_of kind key seed m)
vertices_below Assigned key seed m h = rw (sealed_assigned key seed m) (hash3_below (hash_of key seed) m (hash_lt key seed) h)
vertices_below Compact key seed m h = rw (sealed_compact key seed m) (partite_below (hash_of key seed) m (hash_lt key seed) h)

pub vertices_in_parts : (key seed m : ℕ) → 3 ≤ m → InParts (m / 3) (verts_of Compact key seed m)
vertices_in_parts key seed m h = rw (sealed_compact key seed m) (partite_in_parts (hash_of key seed) m (hash_lt key seed) h)

pub vertices_different : (kind : Kind) (key seed m : ℕ) → 3 ≤ m → Different (verts_of kind key seed m)
vertices_different Assigned key seed m h = rw (sealed_assigned key seed m) (hash3_different (hash_of key seed) m (hash_lt key seed) h)
vertices_different Compact key seed m h =
    let q = vertices_in_parts key seed m h in
    record { a_b = omega (arith, q.first, q.second_from); a_c = omega (arith, q.first, q.third_from); b_c = omega (arith, q.second_to, q.third_from) }
