-- `bdz_base::pack::give_four` meets its contract. Assumes nothing.
use Rattle.std.proofs.Common.{◌≡◌, List, [], ◌∷◌, ◌++◌, ℕ, ◌+◌, ◌/◌, ◌%◌, ◌^◌, ◌∙◌, ap, ap₂, refl, take, arith}
use borrow.Rule.Slice.PartMut.{Post-is}
use Rattle.bdz_base.specs.Pack.{bytes_of}
use Rattle.bdz_base.proofs.pack.give_four.Goals as goal

pub returns : goal.returns
unfolding bytes_of
returns c =
    let acc = c.args.carry.acc in
    let at = c.args.carry.at in
    let two : acc / 65536 ≡ acc / 2 ^ 8 / 2 ^ 8 = omega arith in
    let three : acc / 16777216 ≡ acc / 2 ^ 8 / 2 ^ 8 / 2 ^ 8 = omega arith in
    let four : c.copy_from_slice.new.self ≡ bytes_of 4 acc =
    c.copy_from_slice.ensures.after ∙ ap (take 4) c.to_le_bytes.ensures
    ∙ ap₂ (λ (x y : ℕ). acc % 256 ∷ acc / 256 % 256 ∷ x % 256 ∷ y % 256 ∷ []) two three in
    record {
      acc_left = refl;
      bits_left = omega arith;
      place = refl;
      bytes = ap₂ (λ (new rest : List ℕ). take at c.args.body.now ++ (new ++ rest)) four (Post-is at (at + 4) c.args.body.now (omega arith));
    }
