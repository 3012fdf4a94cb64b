-- `bdz_table::build::work_assigned` meets its contract. Assumes nothing.
use Rattle.std.proofs.Common.{◌≡◌, Err, length, sym, refl, ◌∙◌, arith, rules}
use Rattle.bdz_base.specs.Refusal.{number}
use Rattle.bdz_base.specs.declared.verts.Kind.TheVariants.{Assigned}
use Rattle.bdz_base.proofs.Refusals.{number_some}
use Rattle.bdz_table.specs.Build.{vertices_for, assigned_table}
use Rattle.bdz_table.proofs.NeedLaws.{vertices_one}
use Rattle.bdz_table.proofs.Readying.{sought_done}
use Rattle.bdz_table.proofs.Runs.{ran_refused, old_stays, ran_one, one_word, one_assigned}
use Rattle.bdz_table.proofs.build.work_assigned.Goals as goal

pub returns-in_err-verdict : goal.returns-in_err-verdict
returns-in_err-verdict c =
    let a = c.args in
    let refusal = c.in_err-verdict.field-0.0 in
    let some : number refusal ≡ 0 → ⊥ = λ z. absurd (omega (arith, number_some refusal)) in
    let is : c.from_residual.result ≡ Err refusal = search rules in
    rw is (record {
      ran_to = rw c.in_err-verdict.was (ran_refused Assigned a.keys.now (number refusal) some);
      sought = sought_done refl (old_stays (number refusal) (assigned_table a.keys.now a.values.now a.modulus) a.table.now some);
    })

pub bounds-table-0 : goal.bounds-table-0
bounds-table-0 c =
    let a = c.args in
    let one : vertices_for Assigned (length a.keys.now) ≡ 1 = rw c.if-keys-eq1.true (vertices_one Assigned) in
    omega (arith, c.requires.shaped.longt, c.requires.shaped.is)

pub returns-then-keys-eq1 : goal.returns-then-keys-eq1
returns-then-keys-eq1 c =
    let a = c.args in
    let p = c.requires.shaped in
    let n = c.if-keys-eq1.true in
    let one : vertices_for Assigned (length a.keys.now) ≡ 1 = rw n (vertices_one Assigned) in
    record { ran_to = rw c.in_ok-verdict.was (ran_one Assigned a.keys.now n); sought = sought_done refl (one_word a.table.now _ (p.longt ∙ p.is ∙ one) ∙ sym (one_assigned a.keys.now a.values.now a.modulus n)) }
