-- `bdz_base::size::compact_vertex_count` meets its contract. Assumes nothing.
use Rattle.std.proofs.Common.{arith}
use Rattle.bdz_base.specs.Sizes.{compact_size}
use Rattle.bdz_base.proofs.SizeLaws.{assigned_wide}
use Rattle.bdz_base.proofs.size.compact_vertex_count.Goals as goal

pub overflow_add-result : goal.overflow_add-result
overflow_add-result c = omega (arith, c.vertex_count.ensures, assigned_wide c.args.n (omega arith))

pub returns : goal.returns
unfolding compact_size
returns c = omega (arith, c.vertex_count.ensures)
