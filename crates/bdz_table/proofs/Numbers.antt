-- Document 01's "Numbers to hold it to", the row marked P that this crate's definitions make. Assumes nothing.
use Rattle.std.proofs.Common.{◌≡◌, ℕ, List, [], ◌∷◌, refl}
use lib.Count.{ones_in}
use Rattle.bdz_base.specs.Buffer.{tab}
use Rattle.bdz_base.specs.Pack.{value_of}
use Rattle.bdz_table.specs.Lookup.{picked_of, compact_from}
use Rattle.bdz_table.specs.Rank.{ones_below, ones_between, super_at, super_counts, rank_with}

abbrev occupancy : List ℕ
occupancy = 0xb2 ∷ 0x00 ∷ []

-- what a lookup of four keys answers to a key whose vertices are 2, 5 and 8 and whose words have this sum
abbrev answer : ℕ → ℕ
answer sum = compact_from 4 occupancy (super_counts 9 occupancy) (2 ∷ 5 ∷ 8 ∷ []) sum

pub record TableNumbers : Type 0 where
  -- "occupancy B2 00, m 9, n 4: ones below 2, 5, 8 are 1, 2, 4; the last answers 3"
  pub ranks : (ones_below occupancy 2 ≡ 1) × (ones_below occupancy 5 ≡ 2) × (ones_below occupancy 8 ≡ 4)
  pub supers : super_counts 9 occupancy ≡ 0 ∷ 4 ∷ []
  pub answers : (answer 0 ≡ 1) × (answer 1 ≡ 2) × (answer 2 ≡ 3)

pub table_numbers : TableNumbers
unfolding compact_from picked_of rank_with ones_between super_counts super_at ones_below ones_in value_of tab
table_numbers = record { ranks = (refl, refl, refl); supers = refl; answers = (refl, refl, refl) }
