-- `bdz_base::pack::pack_words` meets its contract. The loop's invariant: so many words have come in. Assumes nothing.
use Rattle.bdz_base.proofs.Packing.{start, word_in_lem, bytes_out, whole}
use Rattle.std.proofs.Common.{◌≡◌, length, arith}
use Rattle.bdz_base.proofs.pack.pack_words.Goals as goal

pub loop-word-init : goal.loop-word-init
loop-word-init c =
    let a = c.args in
    (omega arith, omega arith, start a.width.bits a.g.now a.body.now)

pub loop-word-preserved : goal.loop-word-preserved
loop-word-preserved c =
    let l = c.loop-word in
    let t = c.take_word.ensures in
    let g = c.give_fours-carry.ensures in
    let came = word_in_lem l.word-index l.invariant.2 t in
    (omega arith, omega (arith, g.bits_left), bytes_out came g c.give_fours-carry.auto.body)

pub returns : goal.returns
returns c =
    let l = c.loop-word in
    let a = c.args in
    let e : l.word-index ≡ length a.g.now = omega arith in
    whole (rw e at l.invariant.2) c.give_rest.ensures
