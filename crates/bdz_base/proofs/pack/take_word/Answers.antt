-- `bdz_base::pack::take_word` meets its contract. Assumes nothing.
use Rattle.std.proofs.Common.{ℕ, ◌-◌, ◌^◌, ◌<◌, lt_of_lt_of_le, arith, pow_mono}
use Rattle.bdz_base.proofs.pack.take_word.Goals as goal

-- 32 bits have room above fewer than 32
above : (x k : ℕ) → x < 2 ^ 32 → k < 32 → x < 2 ^ (64 - k)
above x k h l = lt_of_lt_of_le h (pow_mono {i = 32} {j = 64 - k} (omega arith))

pub join-requires : goal.join-requires
join-requires c =
    let k = c.args.carry.bits in
    (c.requires.0, above c.low_bits.result k c.low_bits.ensures.1 c.requires.1, omega arith)
