-- `bdz_base::words::le64_across` meets its contract. The loop's invariant: the accumulator has the first i bytes.
-- Assumes nothing.
use Rattle.std.proofs.Common.{◌∙◌, arith}
use Rattle.bdz_base.proofs.Digits.{bits_none, byte_more, byte_joins}
use Rattle.bdz_base.proofs.words.le64_across.Goals as goal

pub loop-i-init : goal.loop-i-init
loop-i-init c = (omega arith, bits_none c.args.part.now)

pub join-acc-requires : goal.join-acc-requires
join-acc-requires c =
    let l = c.loop-i in
    let a = c.args in
    byte_joins a.part.now l.i l.acc c.byte_at.result l.invariant.1 c.byte_at.ensures.1 (omega arith)

pub loop-i-preserved : goal.loop-i-preserved
loop-i-preserved c =
    let l = c.loop-i in
    let a = c.args in
    let b = c.byte_at in
    (omega arith, c.join-acc.ensures ∙ byte_more a.part.now l.i b.result l.acc l.invariant.1 b.ensures.0 b.ensures.1)
