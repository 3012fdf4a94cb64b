-- `bdz_image::header::put_header` meets its contract. Assumes nothing.
use Rattle.std.proofs.Common.{◌∙◌, arith}
use Rattle.bdz_base.proofs.Refusals.{accepted_ok}
use Rattle.bdz_image.proofs.Fields.{header_packed}
use Rattle.bdz_image.proofs.Writing.{packed_whole, packed_accepted}
use Rattle.bdz_image.proofs.header.put_header.Goals as goal

pub unwrap-requires : goal.unwrap-requires
unwrap-requires c =
    accepted_ok c.pack_g.result
    (packed_accepted 32 _ c.args.out.now c.pack_g.ensures (omega arith) (omega arith) (omega arith))

pub returns : goal.returns
returns c =
    let a = c.args in
    let packed = packed_whole 32 _ a.out.now c.pack_g.ensures (omega arith) (omega arith) (omega arith) in
    rw (c.low.ensures, c.high.ensures) at packed ∙ header_packed a.h
