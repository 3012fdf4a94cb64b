-- What the packer's own steps promise one another. No public promise cites it. Assumes nothing.
use Rattle.std.specs.Prelude.{◌≡◌, ℕ, ◌+◌, ◌*◌, ◌/◌, ◌^◌, List, ◌++◌, take, drop}
use Rattle.bdz_base.specs.Pack.{bytes_of}
use Rattle.bdz_base.specs.declared.pack.Carry.{Carry}

-- the q lowest bytes of a carry went out to their place
pub record Gave (q : ℕ) (carry : Carry) (body : List ℕ) (left : Carry) (after : List ℕ) : Type 0 where
  pub acc_left : left.acc ≡ carry.acc / 2 ^ (q * 8)
  pub bits_left : left.bits + q * 8 ≡ carry.bits
  pub place : left.at ≡ carry.at + q
  pub bytes : after ≡ take carry.at body ++ (bytes_of q carry.acc ++ drop (carry.at + q) body)
