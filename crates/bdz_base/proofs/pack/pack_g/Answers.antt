-- `bdz_base::pack::pack_g` meets its contract. Assumes nothing.
use Rattle.bdz_base.proofs.Packing.{no_width, no_room, packed}
use Rattle.bdz_base.proofs.Refusals.{test_held, test_passed}
use Rattle.std.proofs.Common.{◌≡◌, ◌||◌, eqb, ltb, false, Err, rules, sym, ◌∙◌}
use Rattle.bdz_base.proofs.pack.pack_g.Goals as goal

pub returns-in_err-width : goal.returns-in_err-width
returns-in_err-width c =
    let a = c.args in
    let refusal = c.in_err-width.field-0.0 in
    let is : c.from_residual.result ≡ Err refusal = search rules in
    let held = test_held refusal 10 (eqb a.width 0 || ltb 32 a.width) c.in_err-width.ensures.number_is in
    rw (is, held.1) (no_width a.width a.g.now a.body.now held.0)

pub returns-then-lacks_room : goal.returns-then-lacks_room
returns-then-lacks_room c =
    let a = c.args in
    let w = c.in_ok-width in
    let fits : (eqb a.width 0 || ltb 32 a.width) ≡ false = test_passed 9 _ w.ensures.number_is in
    no_room a.width a.g.now a.body.now fits
    (rw (sym w.ensures.bits_are) (sym c.lacks_room.ensures ∙ c.if-lacks_room.true))

pub returns : goal.returns
returns c =
    let a = c.args in
    let w = c.in_ok-width in
    let fits : (eqb a.width 0 || ltb 32 a.width) ≡ false = test_passed 9 _ w.ensures.number_is in
    packed a.width a.g.now a.body.now fits
    (rw (sym w.ensures.bits_are) (sym c.lacks_room.ensures ∙ c.if-lacks_room.false))
    (rw (sym w.ensures.bits_are) c.pack_words.ensures)
