-- What is known once an ask passes its checks, and what it then answers. Assumes nothing.
use Rattle.std.proofs.Common.{◌≡◌, sym, true, List, ℕ, ◌*◌, ◌^◌, ◌≤◌, ◌<◌, arith, ltb-false, ne_eqb, lt-ltb}
use Rattle.std.proofs.Common.{le-ltb, eqb, ltb, length, get_or}
use borrow.Author.Tests.{eqb-false}
use Rattle.bdz_base.specs.Sizes.{occupancy_bytes, super_count}
use Rattle.bdz_base.specs.declared.verts.Kind.{Kind}
use Rattle.bdz_base.specs.declared.verts.Kind.TheVariants.{Assigned, Compact}
use Rattle.bdz_table.specs.Lookup.{room_no, finish_no, finish_of}
use Rattle.bdz_table.specs.declared.index.Index.{Index}
use Rattle.bdz_table.proofs.Begun.{refuse_none}
use Rattle.bdz_table.proofs.Passed.{lookup_accepted}
use Rattle.bdz_image.specs.Ask.{words_of}
use Rattle.bdz_image.specs.Feeding.{lists_pages, occupancy_no, feed_no, super_no, ask_room, ask_early, finish_words, asked_no, asked_of}
use Rattle.bdz_image.proofs.Starting.{lists_some, feed_passed}

-- ---- the checks

-- what the checks ask of an index of two keys or more
pub feed_many : (index : Index) (keys occ room : ℕ) → lists_pages index keys ≡ true → feed_no index keys occ room ≡ 0 → 2 ≤ index.n → (0 < index.m) × (0 < index.modulus) × (occupancy_no index.kind index.m occ room ≡ 0)
unfolding feed_no
feed_many index keys occ room l e h =
    let s = lists_some index keys l in
    let a = refuse_none 9 (eqb index.width 0) _ (rw (s.0, s.1) at e) in
    let b = refuse_none 9 (ltb 32 index.width) _ a.1 in
    let c = refuse_none 10 (eqb index.m 0) _ (rw (s.2, ne_eqb index.n 1 (omega arith)) at b.1) in
    let d = refuse_none 10 (eqb index.modulus 0) _ c.1 in
    let vertices : index.m ≡ 0 → ⊥ = eqb-false index.m 0 c.0 in
    let modulus : index.modulus ≡ 0 → ⊥ = eqb-false index.modulus 0 d.0 in
    (omega arith, omega arith, d.1)

-- the slots and super counts that an ask has
pub slots_there : (index : Index) (keys slots supers : ℕ) → ask_room index keys slots supers ≡ 0 → (3 * keys ≤ slots) × (super_no index.kind index.m supers 0 ≡ 0)
unfolding ask_room
slots_there index keys slots supers e =
    let a = refuse_none 12 (ltb (2 ^ 30) keys) _ e in
    let b = refuse_none 13 (ltb slots (3 * keys)) _ a.1 in
    (ltb-false slots (3 * keys) b.0, b.1)

-- so what a lookup of one key needs is there
finish_room : (kind : Kind) (m occ supers room : ℕ) → occupancy_no kind m occ room ≡ 0 → super_no kind m supers 0 ≡ 0 → room_no kind m m occ supers ≡ 0
unfolding room_no
finish_room Assigned m occ supers room p q = rw (le-ltb m m (omega arith))
finish_room Compact m occ supers room p q =
    let a = refuse_none 11 (ltb occ (occupancy_bytes m)) room p in
    let b = refuse_none 13 (ltb supers (super_count m)) 0 q in
    rw (a.0, le-ltb m m (omega arith), b.0)

pub finish_passes : (index : Index) (keys occ supers slots : ℕ) → lists_pages index keys ≡ true → ask_early index keys occ supers slots ≡ 0 → finish_no index occ supers ≡ 0
finish_passes index keys occ supers slots l e =
    let room = (feed_passed index keys occ (ask_room index keys slots supers) l e).room_is in
    lookup_accepted index 1 index.m occ supers 1 (omega arith)
    (λ h.
    let p = feed_many index keys occ (ask_room index keys slots supers) l e h in
    record {
      vertices = p.0;
      modulus = p.1;
      room = finish_room index.kind index.m occ supers (ask_room index keys slots supers) p.2 (slots_there index keys slots supers room).1;
    })

-- ---- what is then answered

pub asked_words : (index : Index) (keys : ℕ) (lent : List ℕ) (position : ℕ) (occ supers slots : List ℕ)
    → position < keys → position < length lent
    → 0 ≡ ask_early index keys (length occ) (length supers) (length slots) → lists_pages index keys ≡ true
    → finish_words index (get_or lent position 0) (words_of slots position) occ supers
    ≡ asked_of index keys lent position occ supers slots
unfolding asked_of asked_no finish_of
asked_words index keys lent position occ supers slots h k early l =
    let passes = finish_passes index keys (length occ) (length supers) (length slots) l (sym early) in
    rw (lt-ltb position keys h, lt-ltb position (length lent) k, ← early, l, passes)
