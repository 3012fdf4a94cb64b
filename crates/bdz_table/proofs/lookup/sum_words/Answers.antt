-- `bdz_table::lookup::sum_words` meets its contract. Assumes nothing.
use Rattle.std.proofs.Common.{◌+◌, ◌^◌, get_or, add-zero, add_assoc}
use native.Mathlib.Nat.{mod-add-mod}
use Rattle.bdz_table.specs.Lookup.{sum_of}
use Rattle.bdz_table.specs.Assign.{sum_at}
use Rattle.bdz_table.proofs.lookup.sum_words.Goals as goal

pub returns : goal.returns
unfolding sum_of sum_at
returns c =
    let a = c.args in
    let g = a.table.now in
    rw (mod-add-mod (get_or g a.v.a 0 + get_or g a.v.b 0) (2 ^ 32) (get_or g a.v.c 0), add-zero, add_assoc)
