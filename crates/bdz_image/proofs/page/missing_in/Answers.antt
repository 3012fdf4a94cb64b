-- `bdz_image::page::missing_in` meets its contract. Assumes nothing.
use Rattle.std.proofs.Common.{arith, ap, ℕ, ◌*◌}
use Rattle.std.proofs.lemmas.Bool.Decides.{nat_tests}
use Rattle.bdz_image.specs.Page.{missing_in}
use Rattle.bdz_image.proofs.page.missing_in.Goals as goal

pub returns-then-page-first : goal.returns-then-page-first
unfolding missing_in
returns-then-page-first c =
    let at = ap (λ (n : ℕ). c.args.v * n) c.bits.ensures.0 in
    grind (arith, nat_tests)

pub returns-then-page-first-2 : goal.returns-then-page-first-2
unfolding missing_in
returns-then-page-first-2 c =
    let at = ap (λ (n : ℕ). c.args.v * n) c.bits.ensures.0 in
    grind (arith, nat_tests)

pub returns : goal.returns
unfolding missing_in
returns c =
    let at = ap (λ (n : ℕ). c.args.v * n) c.bits.ensures.0 in
    grind (arith, nat_tests)
