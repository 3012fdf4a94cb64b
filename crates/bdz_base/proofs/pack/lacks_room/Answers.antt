-- `bdz_base::pack::lacks_room` meets its contract: the bytes of eights of words, and then of the words that are left,
-- make the bytes of all. Assumes nothing.
use Rattle.std.proofs.Common.{◌≡◌, ℕ, ◌+◌, ◌-◌, ◌*◌, ◌/◌, ◌%◌, ◌<◌, ◌≤◌, ltb, sym, ap, ◌∙◌, div-lt_iff_lt-mul, add-mul}
use Rattle.std.proofs.Common.{div-add-mod', le-div_iff_mul-le, mul_right_comm, arith, le-ltb, lt-ltb}
use native.Mathlib.Decide.{dec_lt}
use Rattle.bdz_base.specs.Sizes.{table_bytes}
use Rattle.bdz_base.proofs.pack.lacks_room.Goals as goal

in_eights : (words w : ℕ) → words * w ≡ words / 8 * w * 8 + words % 8 * w
in_eights words w =
    ap (λ (x : ℕ). x * w) (sym (div-add-mod' words 8))
    ∙ rw (add-mul (words / 8 * 8) (words % 8) w, mul_right_comm (words / 8) 8 w)

bytes_in_eights : (words w : ℕ) → table_bytes w words ≡ words / 8 * w + (words % 8 * w + 7) / 8
bytes_in_eights words w = omega (arith, in_eights words w)

too_many : (words w bytes : ℕ) → 0 < w → bytes / w < words / 8 → bytes < table_bytes w words
too_many words w bytes p h =
    omega (arith, bytes_in_eights words w, (div-lt_iff_lt-mul {k = w} {x = bytes} {y = words / 8} p).0 h)

enough_eights : (words w bytes : ℕ) → 0 < w → words / 8 ≤ bytes / w → words / 8 * w ≤ bytes
enough_eights words w bytes p h = (le-div_iff_mul-le {k = w} {x = words / 8} {y = bytes} p).0 h

less_left : (taken rest bytes : ℕ) → taken ≤ bytes → ltb (bytes - taken) rest ≡ ltb bytes (taken + rest)
less_left taken rest bytes h = go (dec_lt bytes (taken + rest))
  where
    go : Dec (bytes < taken + rest) → ltb (bytes - taken) rest ≡ ltb bytes (taken + rest)
    go (yes l) = lt-ltb (bytes - taken) rest (omega arith) ∙ sym (lt-ltb bytes (taken + rest) l)
    go (no l) = le-ltb (bytes - taken) rest (omega arith) ∙ sym (le-ltb bytes (taken + rest) (omega arith))

pub returns-then-eights-bytes : goal.returns-then-eights-bytes
returns-then-eights-bytes c =
    let a = c.args in
    let w = c.bits-w.result in
    rw (sym c.bits-w.ensures.0)
    (sym (lt-ltb a.bytes (table_bytes w a.words)
    (too_many a.words w a.bytes c.bits-w.ensures.1 c.if-eights-bytes.true)))

pub returns : goal.returns
returns c =
    let a = c.args in
    let w = c.bits-w.result in
    rw (sym c.bits-w.ensures.0, bytes_in_eights a.words w)
    (less_left (a.words / 8 * w) ((a.words % 8 * w + 7) / 8) a.bytes
    (enough_eights a.words w a.bytes c.bits-w.ensures.1 c.if-eights-bytes.false))
