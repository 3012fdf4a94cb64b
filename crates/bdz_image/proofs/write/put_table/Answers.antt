-- `bdz_image::write::put_table` meets its contract. Assumes nothing.
use mathlib.Core.Path.{sym}
use Rattle.bdz_image.proofs.Writing.{packed_whole}
use Rattle.bdz_image.proofs.write.put_table.Goals as goal

pub returns : goal.returns
returns c =
    let a = c.args in
    let w = c.bits.ensures in
    rw (sym w.0) (packed_whole c.bits.result a.words.now a.out.now c.pack_g.ensures w.1 w.2 (rw w.0 c.requires))
