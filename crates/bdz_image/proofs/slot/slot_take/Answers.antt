-- `bdz_image::slot::slot_take` meets its contract. Assumes nothing.
use Rattle.std.proofs.Common.{arith, ap, ℕ, ◌*◌}
use Rattle.std.proofs.lemmas.Bool.Decides.{nat_tests}
use native.Mathlib.Nat.{min-eq_left}
use Rattle.bdz_image.specs.Feed.{taken_low, taken_of}
use Rattle.bdz_image.proofs.slot.slot_take.Goals as goal

pub returns-then-bit-bits-le32768 : goal.returns-then-bit-bits-le32768
unfolding taken_of taken_low
returns-then-bit-bits-le32768 c = grind (arith, nat_tests, min-eq_left)

pub returns-then-page-first : goal.returns-then-page-first
unfolding taken_of
returns-then-page-first c =
    let at = ap (λ (n : ℕ). c.args.v * n) c.bits-bits.ensures.0 in
    grind (arith, nat_tests)

pub returns-then-page-first-2 : goal.returns-then-page-first-2
unfolding taken_of
returns-then-page-first-2 c =
    let at = ap (λ (n : ℕ). c.args.v * n) c.bits-bits.ensures.0 in
    grind (arith, nat_tests)

pub returns : goal.returns
unfolding taken_of
returns c =
    let at = ap (λ (n : ℕ). c.args.v * n) c.bits-bits.ensures.0 in
    grind (arith, nat_tests)
