-- Document 01's "Numbers to hold it to", the rows marked P that this crate's definitions make, as one statement. Assumes nothing.
use Rattle.std.proofs.Common.{◌≡◌, ℕ, ◌+◌, ◌-◌, ◌^◌, [], ◌∷◌, refl, arith}
use Rattle.bdz_base.specs.declared.verts.Verts.{Verts}
use Rattle.bdz_base.specs.Verts.{moved_off, apart, hash3_of, hash3_partite_of}
use Rattle.bdz_base.specs.Sizes.{assigned_size, compact_size}
use Rattle.bdz_base.specs.Width.{bits_of, width_of}
use Rattle.bdz_base.specs.Pack.{value_of, bytes_of, pack_of}
use Rattle.bdz_base.specs.Pages.{start_byte, start_bit, first_page, last_page}

-- both vertex counts of n
abbrev counts : ℕ → ℕ → ℕ → Type 0
counts n assigned compact = (assigned_size n ≡ assigned) × (compact_size n ≡ compact)

abbrev three : ℕ → ℕ → ℕ → Verts
three a b c = record { a = a; b = b; c = c }

-- the word at v crosses to the page behind the one in which it starts
abbrev crosses : ℕ → ℕ → Type 0
crosses w v = last_page w v ≡ first_page w v + 1

abbrev stays : ℕ → ℕ → Type 0
stays w v = last_page w v ≡ first_page w v

pub record BaseNumbers : Type 0 where
  -- "vertices for n: 2 gives 5 and 6; 3: 6, 6; 13: 16, 18; 14: 18, 18; 15: 19, 21; 101: 125, 126"
  pub vertex_counts : counts 2 5 6 × counts 3 6 6 × counts 13 16 18 × counts 14 18 18 × counts 15 19 21 × counts 101 125 126
  -- "h = 0: m 5 gives 0,1,2; m 2 gives 0,1,0; compact m 6 gives 0,2,4"
  pub from_zero : (hash3_of 0 5 ≡ three 0 1 2) × (hash3_of 0 2 ≡ three 0 1 0) × (hash3_partite_of 0 6 ≡ three 0 2 4)
  -- "h = 2^63, m 5: 2,0,1. h = 2^64-1, m 5: 4,0,1; compact m 6: 1,3,5"
  pub from_high : (hash3_of (2 ^ 63) 5 ≡ three 2 0 1) × (hash3_of (2 ^ 64 - 1) 5 ≡ three 4 0 1) × (hash3_partite_of (2 ^ 64 - 1) 6 ≡ three 1 3 5)
  -- "width for modulus 0,1,2,3,4,5: 1,1,1,2,2,3; 2^30: 30; 2^30+1: 31"
  pub widths : (width_of 0 ≡ 1) × (width_of 1 ≡ 1) × (width_of 2 ≡ 1) × (width_of 3 ≡ 2) × (width_of 4 ≡ 2) × (width_of 5 ≡ 3) × (width_of (2 ^ 30) ≡ 30) × (width_of (2 ^ 30 + 1) ≡ 31)
  -- "words 1,2,3,4 at width 3: D1 08. Words 1,2,0,2,1 at width 2: 89 01"
  pub packings : (pack_of 3 (1 ∷ 2 ∷ 3 ∷ 4 ∷ []) ≡ 0xd1 ∷ 0x08 ∷ []) × (pack_of 2 (1 ∷ 2 ∷ 0 ∷ 2 ∷ 1 ∷ []) ≡ 0x89 ∷ 0x01 ∷ [])
  -- "width 3, vertex 10922 starts at byte 4095 bit 6 and crosses to page 1"
  pub crossing_3 : (start_byte 3 10922 ≡ 4095) × (start_bit 3 10922 ≡ 6) × (first_page 3 10922 ≡ 0) × crosses 3 10922
  -- "width 30, vertex 1092 at byte 4095 bit 0"
  pub crossing_30 : (start_byte 30 1092 ≡ 4095) × (start_bit 30 1092 ≡ 0) × crosses 30 1092
  -- "Widths 1, 2, 4, 8, 16, 32 never cross"
  pub never_1 : (v : ℕ) → stays 1 v
  pub never_2 : (v : ℕ) → stays 2 v
  pub never_4 : (v : ℕ) → stays 4 v
  pub never_8 : (v : ℕ) → stays 8 v
  pub never_16 : (v : ℕ) → stays 16 v
  pub never_32 : (v : ℕ) → stays 32 v

pub base_numbers : BaseNumbers
unfolding assigned_size compact_size moved_off apart hash3_of hash3_partite_of bits_of width_of value_of bytes_of pack_of
base_numbers =
    record {
      vertex_counts = ((refl, refl), (refl, refl), (refl, refl), (refl, refl), (refl, refl), (refl, refl));
      from_zero = (refl, refl, refl);
      from_high = (refl, refl, refl);
      widths = (refl, refl, refl, refl, refl, refl, refl, refl);
      packings = (refl, refl);
      crossing_3 = (refl, refl, refl, refl);
      crossing_30 = (refl, refl, refl);
      never_1 = omega arith;
      never_2 = omega arith;
      never_4 = omega arith;
      never_8 = omega arith;
      never_16 = omega arith;
      never_32 = omega arith;
    }
