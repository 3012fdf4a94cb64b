-- What a feed's start leaves in the lent buffers. Assumes nothing.
use Rattle.std.specs.Prelude.{◌≡◌, List, ℕ, ◌-◌, ◌*◌, ◌^◌, length, replicate}
use Rattle.bdz_base.specs.Buffer.{tab}
use Rattle.bdz_base.specs.declared.verts.Kind.{Kind}
use Rattle.bdz_image.specs.Feed.{slot}
use Rattle.bdz_image.specs.Entry.{entry_at}
use Rattle.bdz_image.specs.Sort.{Same, Sorted}
use Rattle.bdz_image.specs.Pages.{list_of, padded}

pub record Started (kind : Kind) (keys : List ℕ) (seed m w count : ℕ) (order slots pages : List ℕ) : Type 0 where
  pub sorted : Sorted order
  pub same : Same (tab (entry_at kind keys seed m) (3 * length keys)) order
  pub fresh : slots ≡ replicate (3 * length keys) (slot (2 ^ w - 1) 0)
  pub counted : count ≡ length (list_of w order)
  pub listed : pages ≡ padded (6 * length keys) (list_of w order)
