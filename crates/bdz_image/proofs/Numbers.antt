-- Document 01's "Numbers to hold it to": the row marked P that this crate's definitions make, the compact one beside it, and every
-- row marked P as one statement. Assumes nothing.
use mathlib.Core.Path.{◌≡◌, refl}
use mathlib.Core.List.{List, [], ◌∷◌}
use Prim.Native.Nat.{ℕ}
use lib.ListN.{length, drop}
use Rattle.bdz_base.specs.Pack.{value_of, bytes_of, pack_of, bits_at}
use Rattle.bdz_base.specs.Width.{bits_of, width_of}
use Rattle.bdz_base.specs.declared.verts.Kind.TheVariants.{Assigned, Compact}
use Rattle.bdz_table.specs.Build.{vertices_for, seed_for, index_for, assigned_table, compact_table, compact_occupancy}
use Rattle.bdz_table.specs.declared.index.Index.{Index}
use Rattle.bdz_base.proofs.Numbers.{BaseNumbers, base_numbers}
use Rattle.bdz_table.proofs.Numbers.{TableNumbers, table_numbers}
use Rattle.bdz_image.specs.Header.{header_bytes, header_at}
use Rattle.bdz_image.specs.Image.{header_of, body_of, image_of}
use Rattle.bdz_image.specs.Open.{packed_no, packed_index, open_packed, open_file}

-- what a build of one key gives
abbrev one_key : Index
one_key = record { kind = Assigned; n = 1; m = 1; seed = 1; modulus = 6; width = 3 }

abbrev bytes33 : List ℕ
bytes33 =
    0x42 ∷ 0x44 ∷ 0x5a ∷ 0x32 ∷ 0x01 ∷ 0x00 ∷ 0x00 ∷ 0x00
    ∷ 0x01 ∷ 0x00 ∷ 0x00 ∷ 0x00 ∷ 0x01 ∷ 0x00 ∷ 0x00 ∷ 0x00
    ∷ 0x01 ∷ 0x00 ∷ 0x00 ∷ 0x00 ∷ 0x00 ∷ 0x00 ∷ 0x00 ∷ 0x00
    ∷ 0x06 ∷ 0x00 ∷ 0x00 ∷ 0x00 ∷ 0x03 ∷ 0x00 ∷ 0x00 ∷ 0x00
    ∷ 0x05 ∷ []

-- the image of one compact key, whichever it is
abbrev one_compact : ℕ → List ℕ
one_compact key = image_of (index_for Compact (key ∷ []) 1) (compact_table (key ∷ [])) (compact_occupancy (key ∷ []))

pub record ImageNumbers : Type 0 where
  -- "key 7, value 5, modulus 6"
  pub index : index_for Assigned (7 ∷ []) 6 ≡ one_key
  pub row : image_of one_key (assigned_table (7 ∷ []) (5 ∷ []) 6) [] ≡ bytes33
  pub opens : open_file Assigned bytes33 ≡ record { no = 0; index = one_key }
  -- "One compact key: 34 bytes, the last two 00 01"
  pub compact : (key : ℕ) → (length (one_compact key) ≡ 34) × (drop 32 (one_compact key) ≡ 0x00 ∷ 0x01 ∷ [])

pub image_numbers : ImageNumbers
unfolding index_for vertices_for seed_for assigned_table compact_table compact_occupancy image_of header_bytes header_of body_of pack_of bytes_of value_of width_of bits_of open_file open_packed packed_no packed_index header_at bits_at
image_numbers = record { index = refl; row = refl; opens = refl; compact = λ key. (refl, refl) }

-- "Marked P: proved of the definitions together, as a single statement over the table"
pub record Numbers : Type 0 where
  pub base : BaseNumbers
  pub table : TableNumbers
  pub image : ImageNumbers

pub numbers : Numbers
numbers = record { base = base_numbers; table = table_numbers; image = image_numbers }
