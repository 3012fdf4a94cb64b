-- The image of an index, a table and an occupancy, as one list of bytes. Assumes nothing.
use Rattle.std.specs.Prelude.{cond, List, ◌++◌, ℕ, ◌+◌, eqb, take}
use Rattle.bdz_base.specs.Pack.{pack_of}
use Rattle.bdz_base.specs.Sizes.{table_bytes, occupancy_bytes}
use Rattle.bdz_base.specs.declared.verts.Kind.{Kind}
use Rattle.bdz_base.specs.declared.verts.Kind.TheVariants.{Assigned, Compact}
use Rattle.bdz_table.specs.Build.{width_for}
use Rattle.bdz_table.specs.declared.index.Index.{Index}
use Rattle.bdz_image.specs.declared.header.Header.{Header}
use Rattle.bdz_image.specs.Header.{header_bytes}

-- ---- the header

-- BDZ2 and BDZ3: 42 44 5A 32 and 42 44 5A 33
abbrev pub magic_of : Kind → ℕ
magic_of Assigned = 0x325a_4442
magic_of Compact = 0x335a_4442

-- "modulus 4 (0 in BDZ3)"
abbrev pub modulus_in : Kind → ℕ → ℕ
modulus_in Assigned modulus = modulus
modulus_in Compact modulus = 0

-- "The writer takes the width from the modulus"; "BDZ3 uses 2"
unfoldable pub header_of : Index → Header
header_of index =
    record {
      magic = magic_of index.kind;
      version = 1;
      n = index.n;
      m = index.m;
      seed = index.seed;
      modulus = modulus_in index.kind index.modulus;
      width = width_for index.kind index.modulus;
    }

-- ---- the body

-- "for n = 0 it needs and writes the header alone": how many words of the table an image holds
abbrev pub words_in : ℕ → ℕ → ℕ
words_in n m = cond (eqb n 0) 0 m

-- "BDZ3 then ceil(m/8) occupancy bytes"
abbrev pub occ_in : Kind → ℕ → ℕ
occ_in Assigned words = 0
occ_in Compact words = occupancy_bytes words

-- "then the table, low bits first, last byte padded with zeros; BDZ3 then ceil(m/8) occupancy bytes"
unfoldable pub body_of : Index → List ℕ → List ℕ → List ℕ
body_of index table occ =
    let words = words_in index.n index.m in
    pack_of (width_for index.kind index.modulus) (take words table) ++ take (occ_in index.kind words) occ

unfoldable pub image_of : Index → List ℕ → List ℕ → List ℕ
image_of index table occ = header_bytes (header_of index) ++ body_of index table occ

-- ---- lengths

-- how many bytes an image of so many words takes
abbrev pub size_of : Kind → ℕ → ℕ → ℕ
size_of kind width words = 32 + table_bytes width words + occ_in kind words

unfoldable pub image_len : Index → ℕ
image_len index = size_of index.kind (width_for index.kind index.modulus) (words_in index.n index.m)

-- where a BDZ3 image ends
unfoldable pub trailer_off : Index → ℕ
trailer_off index = size_of Compact 2 (words_in index.n index.m)
