-- `bdz_image::page::entry_no` meets its contract. Assumes nothing.
use Rattle.std.proofs.lemmas.Bool.Decides.{nat_tests}
use Rattle.bdz_image.specs.Page.{entry_no}
use Rattle.std.proofs.Common.{ap, ℕ, ◌*◌, ◌/◌, ◌^◌, arith}
use lib.Bits.{and_mask}
use Rattle.bdz_image.proofs.page.entry_no.Goals as goal

pub returns-then-e-bits : goal.returns-then-e-bits
unfolding entry_no
returns-then-e-bits c =
    let at = ap (λ (n : ℕ). c.args.e / 2 ^ 32 * n) c.bits-bits.ensures.0 in
    grind (arith, nat_tests, and_mask c.args.e 32)

pub returns-then-missing_in-eq0 : goal.returns-then-missing_in-eq0
unfolding entry_no
returns-then-missing_in-eq0 c =
    let at = ap (λ (n : ℕ). c.args.e / 2 ^ 32 * n) c.bits-bits.ensures.0 in
    grind (arith, nat_tests, and_mask c.args.e 32)

pub returns-then-len-g_page_need : goal.returns-then-len-g_page_need
unfolding entry_no
returns-then-len-g_page_need c =
    let at = ap (λ (n : ℕ). c.args.e / 2 ^ 32 * n) c.bits-bits.ensures.0 in
    let size = ap (λ (n : ℕ). c.args.m * n) c.bits-bits.ensures.0 in
    grind (arith, nat_tests, and_mask c.args.e 32)

pub returns : goal.returns
unfolding entry_no
returns c =
    let at = ap (λ (n : ℕ). c.args.e / 2 ^ 32 * n) c.bits-bits.ensures.0 in
    let size = ap (λ (n : ℕ). c.args.m * n) c.bits-bits.ensures.0 in
    grind (arith, nat_tests, and_mask c.args.e 32)
