-- `bdz_base::words::le64` meets its contract. Assumes nothing.
use Rattle.bdz_base.proofs.Digits.{bits_past, bits_tail}
use Rattle.std.proofs.Common.{sym, ◌∙◌, arith}
use Rattle.bdz_base.proofs.words.le64.Goals as goal

pub returns-then-saturating_add-len : goal.returns-then-saturating_add-len
returns-then-saturating_add-len c =
    let a = c.args in
    c.le64_inside.ensures ∙ bits_tail 64 a.at a.bytes.now (omega arith)

pub returns-then-len-at : goal.returns-then-len-at
returns-then-len-at c =
    let a = c.args in
    sym (bits_past 64 a.at a.bytes.now (omega arith))

pub returns : goal.returns
returns c =
    let a = c.args in
    c.le64_across.ensures ∙ bits_tail 64 a.at a.bytes.now (omega arith)
