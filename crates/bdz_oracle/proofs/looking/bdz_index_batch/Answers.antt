-- `bdz_oracle::looking::bdz_index_batch` meets its contract. Assumes nothing.
use Rattle.std.proofs.Common.{refl}
use Rattle.bdz_base.proofs.Refusals.{refused_test}
use Rattle.bdz_oracle.specs.Looking.{index_of}
use Rattle.bdz_oracle.proofs.Telling.{no_lookup, some_lookup}
use Rattle.bdz_oracle.proofs.looking.bdz_index_batch.Goals as goal

pub returns-in-Err : goal.returns-in-Err
returns-in-Err c =
    let a = c.args in
    let index = index_of a.compact a.n a.m a.seed a.modulus in
    let judged = rw c.record_of-index.ensures at c.lookup_no-judged.ensures in
    rw c.from.ensures
    (no_lookup index a.keys.now a.table.now a.occ.now a.supers.now a.key_room.now a.out.now judged
    c.in-Err.ensures (refused_test c.in-Err.refusal))

pub returns : goal.returns
returns c =
    let a = c.args in
    let index = index_of a.compact a.n a.m a.seed a.modulus in
    let judged = rw c.record_of-index.ensures at c.lookup_no-judged.ensures in
    rw c.number_of.ensures
    (some_lookup index a.keys.now a.table.now a.occ.now a.supers.now a.key_room.now a.out.now judged
    c.in_default.ensures refl c.read_keys.ensures (rw c.record_of-index.ensures at c.index_batch.ensures))
