-- `bdz_image::header::read_header` meets its contract. Assumes nothing.
use Rattle.bdz_base.specs.Pack.{word_at}
use Rattle.bdz_image.specs.Header.{header_at}
use Rattle.bdz_image.proofs.header.read_header.Goals as goal

pub returns : goal.returns
unfolding header_at word_at
returns c =
    rw (
      c.unpack_g_at-6.ensures,
      c.unpack_g_at-5.ensures,
      c.le64.ensures,
      c.unpack_g_at-4.ensures,
      c.unpack_g_at-3.ensures,
      c.unpack_g_at-2.ensures,
      c.unpack_g_at.ensures,
    )
