-- `bdz_base::verts::hash_verts` meets its contract. Assumes nothing.
use Rattle.bdz_base.specs.Verts.{sealed_assigned, sealed_compact}
use Rattle.bdz_base.proofs.verts.hash_verts.Goals as goal

pub returns-in-Assigned : goal.returns-in-Assigned
returns-in-Assigned c =
    let a = c.args in
    cc (sealed_assigned a.key a.seed a.m)

pub returns-in-Compact : goal.returns-in-Compact
returns-in-Compact c =
    let a = c.args in
    cc (sealed_compact a.key a.seed a.m)
