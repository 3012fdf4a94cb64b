-- Each byte of the literal is below 128.
use Rattle.std.proofs.Common.{◌≡◌, ℕ, List, [], ◌∷◌, Bool, true, ◌&&◌, nat_lt, refl, arith}
use Rattle.std.proofs.lemmas.Grind.{common_steps}
use Rattle.std.proofs.lemmas.Str.Ascii.{IsAscii-nil, IsAscii-cons}
use Rattle.std.specs.Str.{IsAscii}
use Rattle.std.specs.Prelude.{codes}
use Rattle.build_index.proofs.name_of.Goals as goal

all_below : List ℕ → Bool
all_below [] = true
all_below (b ∷ bs) = nat_lt b 128 && all_below bs

from_test : (bs : List ℕ) → all_below bs ≡ true → IsAscii bs
unfolding all_below
from_test [] e = IsAscii-nil
from_test (b ∷ bs) e = IsAscii-cons b bs (grind (arith, common_steps)) (from_test bs (grind (arith, common_steps)))

pub loop-i-init : goal.loop-i-init
unfolding all_below
loop-i-init c = from_test (codes "index.bdz.0000000000000000.new") refl
