-- `bdz_image::entry::entries` meets its contract. Assumes nothing.
use Rattle.std.proofs.Common.{◌≡◌, ◌∙◌, ◌*◌, length, append-nil, arith}
use lib.Seq.{drop-length}
use Rattle.bdz_base.proofs.Buffers.{length_tab, tab_none, tab_three}
use Rattle.bdz_image.specs.Entry.{entry_at}
use Rattle.bdz_image.proofs.Entries.{entry_a, entry_b, entry_c}
use Rattle.bdz_image.proofs.entry.entries.Goals as goal

pub loop-i-init : goal.loop-i-init
loop-i-init c = let a = c.args in tab_none (entry_at a.kind a.keys.now a.seed a.m) a.order.now

pub loop-i-preserved : goal.loop-i-preserved
loop-i-preserved c =
    let l = c.loop-i in
    let a = c.args in
    let v = c.hash_verts-v.ensures in
    rw l.invariant
    (tab_three (entry_at a.kind a.keys.now a.seed a.m) l.i a.order.now (omega arith)
    (entry_a a.kind a.keys.now a.seed a.m l.i v c.entry.ensures)
    (entry_b a.kind a.keys.now a.seed a.m l.i v c.entry-in-loop-i.ensures)
    (entry_c a.kind a.keys.now a.seed a.m l.i v c.entry-in-loop-i-2.ensures))

pub returns : goal.returns
returns c =
    let l = c.loop-i in
    let a = c.args in
    let f = entry_at a.kind a.keys.now a.seed a.m in
    let o = a.order.now in
    let e : 3 * l.i ≡ length o = omega arith in
    l.invariant ∙ rw (length_tab f (3 * l.i), e, drop-length o, append-nil)
