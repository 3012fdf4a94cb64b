-- `bdz_oracle::hashing::bdz_hash_verts` meets its contract. Assumes nothing.
use Rattle.std.proofs.Common.{ap, lt-ltb, le-ltb}
use Rattle.bdz_oracle.proofs.Answers.{compact_kind, no_room, hashed}
use Rattle.bdz_oracle.specs.Keys.{kind_of}
use Rattle.bdz_oracle.proofs.hashing.bdz_hash_verts.Goals as goal

pub returns-then-out-n : goal.returns-then-out-n
returns-then-out-n c =
    let a = c.args in
    rw c.from.ensures (no_room (kind_of a.compact) a.keys.now a.seed a.m a.out.now (lt-ltb _ _ c.if-out-n.true))

pub returns-then-compact-eq0 : goal.returns-then-compact-eq0
returns-then-compact-eq0 c =
    let a = c.args in
    let room = le-ltb _ _ c.if-out-n.false in
    hashed (kind_of a.compact) a.keys.now a.seed a.m a.out.now room
    (rw (ap kind_of c.if-compact-eq0.true) c.hash_all.ensures)

pub returns : goal.returns
returns c =
    let a = c.args in
    let room = le-ltb _ _ c.if-out-n.false in
    hashed (kind_of a.compact) a.keys.now a.seed a.m a.out.now room
    (rw (← compact_kind a.compact c.if-compact-eq0.false) c.hash_all-2.ensures)
