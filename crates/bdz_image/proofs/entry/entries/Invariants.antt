-- `bdz_image::entry::entries` meets its contract. Assumes nothing.
use Rattle.std.proofs.Common.{◌≡◌, ◌*◌}
use Rattle.bdz_base.specs.Buffer.{tab, over}
use Rattle.bdz_image.specs.Entry.{entry_at}
use Rattle.bdz_image.proofs.entry.entries.Given as goal

abbrev pub invariant-loop-i : goal.invariant-loop-i
invariant-loop-i l = l.order ≡ over (tab (entry_at l.kind l.keys l.seed l.m) (3 * l.i)) l.initial.order
