-- The page feed with keys that come as bytes, its numbers told in words: what is answered, and what each lent buffer then holds.
-- Assumes nothing.
use Rattle.std.specs.Prelude.{◌≡◌, cond, List, [], ◌∷◌, ℕ, ◌*◌, ltb, length}
use Rattle.bdz_base.specs.Buffer.{over, written}
use Rattle.bdz_base.specs.Refusal.{refuse}
use Rattle.bdz_table.specs.Told.{Answer}
use Rattle.bdz_table.specs.declared.index.Index.{Index}
use Rattle.bdz_image.specs.Feeding.{Feed, start_no, order_of, pages_of, fresh_slots, begun, feed_of}
use Rattle.bdz_image.specs.Pages.{padded}
use Rattle.bdz_oracle.specs.Building.{keys_in, Told}
use Rattle.bdz_oracle.specs.Keys.{kind_of, key_count}

-- an index from all its numbers
abbrev pub record_of : ℕ → ℕ → ℕ → ℕ → ℕ → ℕ → Index
record_of compact n m seed modulus width = record { kind = kind_of compact; n = n; m = m; seed = seed; modulus = modulus; width = width }

-- 14 "a lent buffer is shorter than its stated need": two words for the feed's numbers, and a word a key; else the start's own number
unfoldable pub started_no : Index → List ℕ → ℕ → List ℕ → List ℕ → List ℕ → List ℕ → List ℕ → ℕ
started_no index bytes occ key_room order slots pages told =
    refuse 14 (ltb (length told) 2)
    (refuse 14 (ltb (length key_room) (key_count bytes))
    (start_no index (key_count bytes) occ (length order) (length slots) (length pages)))

-- how many keys and pages a feed has
abbrev pub told_feed : Feed → List ℕ
told_feed feed = feed.keys ∷ feed.pages ∷ []

-- the whole promise: the number; the room for the keys; the feed's buffers, as its start leaves them; and its two numbers, where they
-- have room: "A refused call answers its number, with every other field zero"
pub record ToldStart (index : Index) (bytes : List ℕ) (occ : ℕ) (key_room order slots pages told : List ℕ) (number : ℕ) (key_room' order' slots' pages' told' : List ℕ) : Type 0 where
  pub number_is : number ≡ started_no index bytes occ key_room order slots pages told
  pub key_room_is : key_room' ≡ written number (keys_in bytes) key_room
  pub order_is : order' ≡ begun index (key_count bytes) number (order_of index (keys_in bytes)) order
  pub slots_are : slots' ≡ begun index (key_count bytes) number (fresh_slots index (key_count bytes)) slots
  pub pages_are : pages' ≡ begun index (key_count bytes) number (padded (6 * key_count bytes) (pages_of index (keys_in bytes))) pages
  pub told_is : told' ≡ cond (ltb (length told) 2) told (over (told_feed (feed_of index (keys_in bytes) number)) told)

-- an answer, told in one word
abbrev pub ToldAnswer : Answer → List ℕ → ℕ → List ℕ → Type 0
ToldAnswer asked = Told 1 asked.no (asked.answer ∷ [])
