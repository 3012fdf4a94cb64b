-- What mixes a key, and what gives the seeds. Assumes nothing.
use Rattle.std.specs.Prelude.{ℕ, zero, suc, ◌+◌, ◌-◌, ◌*◌, ◌/◌, ◌%◌, ◌^◌, bit_xor}
use Rattle.bdz_base.specs.declared.mix.Step.{Step}

-- x ^ (x >> k)
abbrev pub xor_shift : ℕ → ℕ → ℕ
xor_shift k x = bit_xor x (x / 2 ^ k)

-- "multiply modulo 2^64"
abbrev pub times : ℕ → ℕ → ℕ
times b a = (a * b) % 2 ^ 64

-- "rotated left": the bits that leave above come in below
abbrev pub rotl : ℕ → ℕ → ℕ
rotl x k = (x * 2 ^ k) % 2 ^ 64 + x / 2 ^ (64 - k)

-- "`mix64` is MurmurHash3's 64-bit finalizer"
unfoldable pub mix64_of : ℕ → ℕ
mix64_of k =
    xor_shift 33 (times 0xc4ce_b9fe_1a85_ec53 (xor_shift 33 (times 0xff51_afd7_ed55_8ccd (xor_shift 33 k))))

-- "`splitmix64` follows the public splitmix64 step": the state moves on, and is mixed to a seed
unfoldable pub next_of : ℕ → ℕ
next_of state = (state + 0x9e37_79b9_7f4a_7c15) % 2 ^ 64

unfoldable pub seed_of : ℕ → ℕ
seed_of z =
    xor_shift 31 (times 0x94d0_49bb_1331_11eb (xor_shift 27 (times 0xbf58_476d_1ce4_e5b9 (xor_shift 30 z))))

unfoldable pub step_of : ℕ → Step
step_of state = record { state = next_of state; seed = seed_of (next_of state) }

-- "Seeds: state starts at 0x9e3779b97f4a7c15, one `splitmix64` step per try": the state before try i, counted from 0
unfoldable pub state_at : ℕ → ℕ
state_at zero = 0x9e37_79b9_7f4a_7c15
state_at (suc i) = (step_of (state_at i)).state

-- the seed of try i
unfoldable pub seed_at : ℕ → ℕ
seed_at i = (step_of (state_at i)).seed
