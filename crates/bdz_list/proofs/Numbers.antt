-- Document 01's list for key 7: its bytes, and what is read from them and counted. Assumes nothing.
use mathlib.Core.Path.{◌≡◌, refl}
use mathlib.Core.List.{List, [], ◌∷◌}
use Prim.Native.Nat.{ℕ, zero, suc, ◌^◌, ◌≤◌, ◌<◌}
use lib.Dec.{lit<, lit≤}
use lib.ListN.{length, get_or}
use Rattle.bdz_base.specs.Buffer.{over}
use Rattle.bdz_base.specs.Pack.{bytes_of}
use Rattle.bdz_base.specs.declared.verts.Kind.TheVariants.{Assigned}
use Rattle.bdz_list.specs.List.{Listed, ReadList}
use Rattle.bdz_list.specs.Tally.{same_count}
use Rattle.bdz_list.specs.Written.{Entry, no_entry, assigned_record, joined, assigned_bytes}
use Rattle.bdz_list.proofs.Reading.{reads_assigned}

-- key 7 with the value 5
abbrev seven : Entry
seven = record { key = 7; value = 5 }

-- "`4B 4D 06 00 00 00 4B 56 07 00 00 00 00 00 00 00 05 00 00 00`"
abbrev pub list_of_seven : List ℕ
list_of_seven = 0x4b ∷ 0x4d ∷ 6 ∷ 0 ∷ 0 ∷ 0 ∷ 0x4b ∷ 0x56 ∷ 7 ∷ 0 ∷ 0 ∷ 0 ∷ 0 ∷ 0 ∷ 0 ∷ 0 ∷ 5 ∷ 0 ∷ 0 ∷ 0 ∷ []

seven_bytes : assigned_bytes 6 (seven ∷ []) ≡ list_of_seven
unfolding assigned_bytes assigned_record joined bytes_of
seven_bytes = refl

in_range : (i : ℕ) → ((get_or (seven ∷ []) i no_entry).key < 2 ^ 64) × ((get_or (seven ∷ []) i no_entry).value < 2 ^ 32)
in_range zero = (lit< tt, lit< tt)
in_range (suc i) = (lit< tt, lit< tt)

-- it is read to modulus 6, key 7 and value 5; with the answer 5 "keys=1 same=1 other=0"
pub list_numbers : (keys values : List ℕ) → 1 ≤ length keys → 1 ≤ length values → (r : Listed) (keys' values' : List ℕ) → ReadList list_of_seven keys values r keys' values'
    → (r ≡ record { no = 0; kind = Assigned; modulus = 6; count = 1 }) × (keys' ≡ over (7 ∷ []) keys) × (values' ≡ over (5 ∷ []) values) × (same_count (5 ∷ []) (5 ∷ []) ≡ 1)
unfolding same_count
list_numbers keys values k v r keys' values' p =
    let read = reads_assigned 6 (seven ∷ []) (lit≤ tt) (lit≤ tt) in_range keys values k v r keys' values' (rw seven_bytes p) in
    (read.0, read.1, read.2, refl)
