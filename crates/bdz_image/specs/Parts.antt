-- Where the parts of an image stand, by the width of its own record: a header may hold another width than the writer takes for its
-- modulus. Assumes nothing.
use Rattle.std.specs.Prelude.{ℕ, ◌+◌}
use Rattle.bdz_base.specs.Sizes.{table_bytes}
use Rattle.bdz_table.specs.declared.index.Index.{Index}
use Rattle.bdz_image.specs.Image.{words_in, size_of}

-- the fields; "then the table": where it starts
unfoldable pub body_off : Index → ℕ
body_off index = 32

-- where the table ends; "BDZ3 then ceil(m/8) occupancy bytes": where they start
unfoldable pub occ_off : Index → ℕ
occ_off index = 32 + table_bytes index.width (words_in index.n index.m)

-- where the image ends; "Extra bytes behind an image are allowed"
unfoldable pub end_off : Index → ℕ
end_off index = size_of index.kind index.width (words_in index.n index.m)
