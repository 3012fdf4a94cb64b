-- Ranks: the ones of an occupancy below a vertex, and the super counts by which a lookup finds them. Assumes nothing.
use Rattle.std.specs.Prelude.{◌≡◌, ℕ, ◌+◌, ◌-◌, ◌*◌, ◌/◌, ◌%◌, ◌^◌, min, cond, List, length, ◌==◌, nat_lt, slice_index}
use Rattle.std.specs.Int.Count.{ones_in}
use Rattle.bdz_base.specs.Buffer.{tab, written}
use Rattle.bdz_base.specs.Pack.{value_of}
use Rattle.bdz_base.specs.Refusal.{refuse}
use Rattle.bdz_base.specs.Sizes.{occupancy_bytes, super_count}
use Rattle.bdz_table.specs.Told.{Answer}

-- ---- ones

-- "ones below it". The bytes are one number whose binary digit v is the bit of v: "vertex v at bit v mod 8 of byte v/8"; a byte that
-- is not there has no ones
unfoldable pub ones_below : List ℕ → ℕ → ℕ
ones_below occ v = ones_in v (value_of 8 occ)

-- the ones from lo on, below hi
unfoldable pub ones_between : List ℕ → ℕ → ℕ → ℕ
ones_between occ lo hi = ones_in (hi - lo) (value_of 8 occ / 2 ^ lo)

-- ---- super counts

-- "ones before each block of 512 bits, and last the ones below m"
unfoldable pub super_at : ℕ → List ℕ → ℕ → ℕ
super_at m occ i = ones_below occ (min (i * 512) m)

unfoldable pub super_counts : ℕ → List ℕ → List ℕ
super_counts m occ = tab (super_at m occ) (super_count m)

-- "Writer and super counts: 12, 14", by the lengths of what is lent
unfoldable pub supers_no : ℕ → ℕ → ℕ → ℕ
supers_no m occ supers =
    refuse 12 (nat_lt occ (occupancy_bytes m))
    (refuse 14 (nat_lt supers (super_count m))
    0)

-- the whole promise of the super counts: the number, and the lent buffer afterwards
pub record SuperCounted (m : ℕ) (occ supers : List ℕ) (number : ℕ) (after : List ℕ) : Type 0 where
  pub number_is : number ≡ supers_no m (length occ) (length supers)
  pub after_is : after ≡ written (supers_no m (length occ) (length supers)) (super_counts m occ) supers

-- ---- ranks

-- "Lookup adds the lent ones modulo 2^32"
unfoldable pub rank_with : List ℕ → List ℕ → ℕ → ℕ
rank_with occ supers v = (slice_index supers (v / 512) + ones_between occ (v / 512 * 512) v) % 2 ^ 32

-- "A refused call answers its number, with every other field zero"
abbrev pub answered : ℕ → ℕ → Answer
answered number answer = cond (number == 0) (record { no = 0; answer = answer }) (record { no = number; answer = 0 })

-- a rank is refused where super counts would be; a vertex past m has the rank of m
unfoldable pub ranked_of : ℕ → List ℕ → List ℕ → ℕ → Answer
ranked_of m occ supers v = answered (supers_no m (length occ) (length supers)) (rank_with occ supers (min v m))
