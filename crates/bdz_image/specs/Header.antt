-- The 32 bytes that an image starts with. Assumes nothing.
use Rattle.std.specs.Prelude.{List, ◌++◌, ℕ, ◌*◌}
use Rattle.bdz_base.specs.Pack.{bytes_of, bits_at}
use Rattle.bdz_image.specs.declared.header.Header.{Header}

-- "magic 4, version 1 (4), n 4, m 4, seed 8, modulus 4 (0 in BDZ3), width 4", "All fields little-endian"
unfoldable pub header_bytes : Header → List ℕ
header_bytes h =
    bytes_of 4 h.magic
    ++ (bytes_of 4 h.version
    ++ (bytes_of 4 h.n
    ++ (bytes_of 4 h.m
    ++ (bytes_of 8 h.seed
    ++ (bytes_of 4 h.modulus
    ++ bytes_of 4 h.width)))))

-- the number of the k bytes from `at` on; a byte that is not there counts as 0
abbrev pub field_at : ℕ → ℕ → List ℕ → ℕ
field_at k at bytes = bits_at (k * 8) bytes (at * 8)

-- the fields at their places
unfoldable pub header_at : List ℕ → Header
header_at bytes =
    record {
      magic = field_at 4 0 bytes;
      version = field_at 4 4 bytes;
      n = field_at 4 8 bytes;
      m = field_at 4 12 bytes;
      seed = field_at 8 16 bytes;
      modulus = field_at 4 24 bytes;
      width = field_at 4 28 bytes;
    }
