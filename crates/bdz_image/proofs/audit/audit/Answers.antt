-- `bdz_image::audit::audit` meets its contract. Assumes nothing.
use Rattle.std.proofs.Common.{arith, le-ltb}
use Rattle.std.proofs.lemmas.Bool.Decides.{nat_tests}
use Rattle.bdz_image.specs.Audit.{audit_of}
use Rattle.bdz_image.proofs.Auditing.{halves}
use Rattle.bdz_image.proofs.audit.audit.Goals as goal

pub returns-then-occ-need : goal.returns-then-occ-need
unfolding audit_of
returns-then-occ-need c = grind (arith, nat_tests)

pub returns : goal.returns
unfolding audit_of
returns c =
    let a = c.args in
    let need = c.occ_packed_bytes-need in
    let ones = halves a.occ.now need.result (omega (arith, need.ensures))
    c.popcount_bits-low.ensures c.popcount_bits-high.ensures in
    rw (le-ltb _ _ (rw need.ensures at c.if-occ-need.false), ones, need.ensures)
