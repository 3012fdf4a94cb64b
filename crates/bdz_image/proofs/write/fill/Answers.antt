-- `bdz_image::write::fill` meets its contract. Assumes nothing.
use mathlib.Core.Path.{sym, ◌∙◌, ap, ap₂}
use mathlib.Core.List.{List, ◌++◌}
use Prim.Native.Nat.{ℕ, ◌+◌}
use lib.ListN.{length, drop}
use Rattle.bdz_base.proofs.Digits.{length_packed}
use Rattle.bdz_image.proofs.Writing.{three_parts}
use Rattle.bdz_image.proofs.Fields.{length_header}
use Rattle.bdz_image.proofs.write.fill.Goals as goal

pub returns : goal.returns
returns c =
    let a = c.args in
    let at_header = c.put_header in
    let at_table = c.put_table in
    let at_copy = c.copy in
    three_parts a.image.now at_header.new.out at_table.new.out at_copy.new.dst a.occ.now a.room
    (ap length at_header.ensures ∙ length_header a.h)
    (ap length at_table.ensures ∙ length_packed a.width.bits a.words.now ∙ sym c.requires.0) at_copy.ensures
    ∙ ap₂ (λ (h p : List ℕ). h ++ (p ++ (a.occ.now ++ drop (32 + a.room + length a.occ.now) a.image.now)))
    at_header.ensures at_table.ensures
