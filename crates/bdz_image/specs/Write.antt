-- What the writer answers, and what the lent image then holds. Assumes nothing.
use Rattle.std.specs.Prelude.{◌≡◌, List, ℕ, ltb, length}
use Rattle.bdz_base.specs.Buffer.{written}
use Rattle.bdz_base.specs.Refusal.{refuse}
use Rattle.bdz_table.specs.declared.index.Index.{Index}
use Rattle.bdz_image.specs.Image.{words_in, occ_in, image_of, image_len}

-- "Writer and super counts: 12, 14"; "Writer: the table and the whole image", by the lengths of what is lent
unfoldable pub write_no : Index → ℕ → ℕ → ℕ → ℕ
write_no index table occ image =
    let words = words_in index.n index.m in
    refuse 12 (ltb occ (occ_in index.kind words))
    (refuse 14 (ltb table words)
    (refuse 14 (ltb image (image_len index))
    0))

-- the writer's whole promise: its number, and the image afterwards
pub record Wrote (index : Index) (table occ image : List ℕ) (number : ℕ) (after : List ℕ) : Type 0 where
  pub number_is : number ≡ write_no index (length table) (length occ) (length image)
  pub after_is : after ≡ written (write_no index (length table) (length occ) (length image)) (image_of index table occ) image
