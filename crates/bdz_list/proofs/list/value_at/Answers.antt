-- `bdz_list::list::value_at` meets its contract. Assumes nothing.
use Rattle.bdz_list.specs.List.{list_value}
use Rattle.bdz_list.proofs.list.value_at.Goals as goal

pub returns : goal.returns
unfolding list_value
returns c = rw c.place-at.ensures at c.extract_g_window.ensures
