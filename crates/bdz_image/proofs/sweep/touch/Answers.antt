-- `bdz_image::sweep::touch` meets its contract. Assumes nothing.
use Rattle.std.proofs.Common.{sym, ◌/◌, ◌%◌, ◌^◌, ◌≤◌, arith, length, get_or}
use lib.Bits.{and_mask}
use lib.Seq.{set_out}
use Rattle.bdz_image.specs.Feed.{taken_of}
use Rattle.bdz_image.specs.Sweep.{touch_of}
use Rattle.bdz_image.proofs.sweep.touch.Goals as goal

pub returns-then-s-slots : goal.returns-then-s-slots
unfolding touch_of
returns-then-s-slots c = cc (and_mask c.args.e 32)

pub returns-else-s-slots : goal.returns-else-s-slots
unfolding touch_of
returns-else-s-slots c =
    let a = c.args in
    let s = a.e % 2 ^ 32 in
    let l : length a.slots.now ≤ s = omega (arith, and_mask a.e 32) in
    let word = taken_of a.width.bits a.page a.bytes.now (a.e / 2 ^ 32) (get_or a.slots.now s 0) in
    sym (set_out a.slots.now s word l)
