-- `bdz_image::write::copy` meets its contract. The loop's invariant: i bytes are copied. Assumes nothing.
use mathlib.Core.Path.{◌∙◌, ap, refl}
use mathlib.Core.List.{List, ◌++◌, append-nil}
use Prim.Native.Nat.{ℕ}
use native.Mathlib.Omega.{arith}
use lib.ListN.{length, get_or, drop_of_length-le}
use Rattle.bdz_base.specs.Buffer.{over}
use Rattle.bdz_base.proofs.Buffers.{filled_none, filled_more, filled_all}
use Rattle.bdz_image.proofs.Writing.{tab_self}
use Rattle.bdz_image.proofs.write.copy.Goals as goal

pub loop-i-init : goal.loop-i-init
loop-i-init c = filled_none (λ k. get_or c.args.src.now k 0) (length c.args.src.now) c.args.dst.now

pub loop-i-preserved : goal.loop-i-preserved
loop-i-preserved c = filled_more c.loop-i.invariant (omega arith) (omega arith) refl

pub returns : goal.returns
returns c =
    let a = c.args in
    let whole = ap (λ (new : List ℕ). over new a.dst.now) (tab_self a.src.now) in
    let none = drop_of_length-le a.dst.now {i = length a.src.now} (omega arith) in
    filled_all c.loop-i.invariant (omega arith) ∙ whole
    ∙ ap (λ (l : List ℕ). a.src.now ++ l) none ∙ append-nil a.src.now
