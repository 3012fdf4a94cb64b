-- `bdz_table::rank::fill_supers` meets its contract. The loop's invariant: i super counts stand in supers, and acc is the next. Assumes nothing.
use Rattle.std.proofs.Common.{◌≡◌}
use Rattle.bdz_base.specs.Sizes.{super_count}
use Rattle.bdz_base.proofs.Buffers.{Filled}
use Rattle.bdz_table.specs.Rank.{super_at}
use Rattle.bdz_table.proofs.rank.fill_supers.Given as goal

abbrev pub invariant-loop-i : goal.invariant-loop-i
invariant-loop-i l = Filled (super_at l.m l.occ) (super_count l.m) l.i l.initial.supers l.supers × (l.acc ≡ super_at l.m l.occ l.i)
