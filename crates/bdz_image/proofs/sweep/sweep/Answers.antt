-- `bdz_image::sweep::sweep` meets its contract. Assumes nothing.
use Rattle.std.proofs.Common.{ℕ, ◌*◌, ◌/◌, ◌^◌, get_or, ap, sym, ◌∙◌, arith}
use Rattle.bdz_image.proofs.Place.{sweep_step, sweep_stop, sweep_done}
use Rattle.bdz_image.proofs.sweep.sweep.Goals as goal

pub returns-then-e-bits : goal.returns-then-e-bits
returns-then-e-bits c =
    let l = c.loop-j in
    let a = c.args in
    let at = ap (λ (n : ℕ). get_or a.order.now l.j 0 / 2 ^ 32 * n) c.bits.ensures.0 in
    sweep_stop a.width.bits a.page a.bytes.now a.order.now l.j l.slots (omega arith) (omega arith) ∙ l.invariant

pub loop-j-preserved : goal.loop-j-preserved
loop-j-preserved c =
    let l = c.loop-j in
    let a = c.args in
    let at = ap (λ (n : ℕ). get_or a.order.now l.j 0 / 2 ^ 32 * n) c.bits.ensures.0 in
    rw c.touch.ensures
    (sym (sweep_step a.width.bits a.page a.bytes.now a.order.now l.j l.slots (omega arith) (omega arith)) ∙ l.invariant)

pub returns : goal.returns
returns c =
    let l = c.loop-j in
    let a = c.args in
    sweep_done a.width.bits a.page a.bytes.now a.order.now l.j l.slots (omega arith) ∙ l.invariant
