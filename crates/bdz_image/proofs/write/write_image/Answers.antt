-- `bdz_image::write::write_image` meets its contract. Assumes nothing.
use Rattle.std.proofs.Common.{◌≡◌, sym, ◌∙◌, ◌+◌, ◌≤◌, length}
use Rattle.bdz_image.specs.Image.{image_len}
use Rattle.bdz_table.specs.Build.{width_for}
use Rattle.bdz_image.proofs.Writing.{width_for_le, length_part, write_passed, image_filled}
use Rattle.bdz_base.proofs.Refusals.{accepted_ok}
use Rattle.bdz_base.proofs.Widths.{width_none}
use Rattle.bdz_image.proofs.write.write_image.Goals as goal
use Rattle.bdz_image.proofs.write.write_image.Goals.{After-header_of}

-- what the checks leave, in the words of the code
lent : (c : After-header_of)
    → (c.occ_in-bytes.result ≤ length c.args.occ.now) × (c.words_in-words.result ≤ length c.args.table.now)
    × (image_len c.args.index ≤ length c.args.image.now)
lent c =
    let a = c.args in
    let words = c.words_in-words.ensures in
    let passed = write_passed a.index (length a.table.now) (length a.occ.now) (length a.image.now)
    (sym c.in_ok-write_no.ensures) in
    (rw (c.occ_in-bytes.ensures.0, words) passed.0, rw words passed.1, passed.2)

width_is : (c : After-header_of) → c.unwrap-width.result.bits ≡ width_for c.args.index.kind c.args.index.modulus
width_is c = rw c.unwrap-width.ensures at c.new.ensures.bits_are ∙ c.width_for.ensures

pub unwrap-width-requires : goal.unwrap-width-requires
unwrap-width-requires c =
    let a = c.args in
    let fits = width_for_le a.index.kind a.index.modulus in
    accepted_ok c.new.result (c.new.ensures.number_is ∙ rw c.width_for.ensures (width_none _ fits.0 fits.1))

pub slice_bounds-fill-end : goal.slice_bounds-fill-end
slice_bounds-fill-end c = (lent c).1

pub slice_bounds-fill-end-2 : goal.slice_bounds-fill-end-2
slice_bounds-fill-end-2 c = (lent (goal.at.slice_bounds-fill-end-2 c).After-header_of).0

pub fill-requires : goal.fill-requires
unfolding image_len
fill-requires c =
    let a = c.args in
    let words = c.words_in-words in
    let bytes = c.occ_in-bytes in
    let here = (goal.at.fill-requires c).After-header_of in
    let room = rw c.bits.ensures.0 at c.packed_g_bytes-room.ensures in
    let there = lent here in
    let l = length_part words.result a.table.now there.1 in
    let k = length_part bytes.result a.occ.now there.0 in
    let size : 32 + c.packed_g_bytes-room.result + bytes.result ≤ length a.image.now =
    rw (room, bytes.ensures.0, width_is here, words.ensures) there.2 in
    (rw l room, rw k size)

pub returns : goal.returns
returns c =
    let a = c.args in
    let no = c.in_ok-write_no.ensures in
    let here = (goal.at.returns c).After-header_of in
    let room = rw c.bits.ensures.0 at c.packed_g_bytes-room.ensures in
    let there = lent here in
    let filled = image_filled a.index a.table.now a.occ.now a.image.now c.words_in-words.ensures
    c.occ_in-bytes.ensures.0 (width_is here) room c.header_of.ensures there.0 there.1 c.fill.ensures in
    record { number_is = no; after_is = rw (← no) filled }
