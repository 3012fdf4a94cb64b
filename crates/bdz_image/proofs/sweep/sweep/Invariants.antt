-- `bdz_image::sweep::sweep` meets its contract. Assumes nothing.
use Rattle.std.proofs.Common.{◌≡◌, drop}
use Rattle.bdz_image.specs.Sweep.{sweep_of}
use Rattle.bdz_image.proofs.sweep.sweep.Given as goal

abbrev pub invariant-loop-j : goal.invariant-loop-j
invariant-loop-j l =
    sweep_of l.width.bits l.page l.bytes (drop l.j l.order) l.slots
    ≡ sweep_of l.width.bits l.page l.bytes (drop l.lo l.order) l.initial.slots
