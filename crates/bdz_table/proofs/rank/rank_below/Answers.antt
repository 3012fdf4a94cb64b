-- `bdz_table::rank::rank_below` meets its contract. Assumes nothing.
use Rattle.std.proofs.Common.{◌*◌, ◌/◌, ◌^◌, get_or}
use native.Mathlib.Nat.{add-mod-mod}
use Rattle.bdz_table.specs.Rank.{rank_with, ones_between}
use Rattle.bdz_table.proofs.rank.rank_below.Goals as goal

pub returns : goal.returns
unfolding rank_with
returns c =
    let a = c.args in
    rw c.popcount_bits-ones.ensures (add-mod-mod (get_or a.supers.now (a.v / 512) 0) (ones_between a.occ.now (a.v / 512 * 512) a.v) (2 ^ 32))
