-- `bdz_base::pack::extract_g_window` meets its contract. Assumes nothing.
use Rattle.std.proofs.Common.{◌≡◌, min, rules}
use Rattle.bdz_base.proofs.Digits.{bits_in_word}
use Rattle.bdz_base.proofs.pack.extract_g_window.Goals as goal

pub returns : goal.returns
returns c =
    let a = c.args in
    let width : c.min.result ≡ min a.width 32 = search rules in
    bits_in_word a.part.now a.start a.width c.le64.ensures width c.low_bits.ensures.0
