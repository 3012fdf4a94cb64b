-- A feed's start, a page that is fed and a key that is asked for: every refusal in document 01's order, and what the lent buffers then hold. Assumes nothing.
use Rattle.std.specs.Prelude.{◌≡◌, Bool, true, false, cond, List, ℕ, ◌-◌, ◌*◌, ◌^◌, eqb, ltb, length, get_or, take, replicate, Result, Ok, Err}
use Rattle.bdz_base.specs.Buffer.{tab, over, written}
use Rattle.bdz_base.specs.Refusal.{number, refuse, accept}
use Rattle.bdz_base.specs.Sizes.{occupancy_bytes, super_count}
use Rattle.bdz_base.specs.declared.refusal.Refusal.{Refusal}
use Rattle.bdz_base.specs.declared.verts.Kind.{Kind}
use Rattle.bdz_base.specs.declared.verts.Kind.TheVariants.{Assigned, Compact}
use Rattle.bdz_table.specs.Lookup.{finished_of, finish_of}
use Rattle.bdz_table.specs.Rank.{answered}
use Rattle.bdz_table.specs.Told.{Answer}
use Rattle.bdz_table.specs.declared.index.Index.{Index}
use Rattle.bdz_image.specs.declared.feed.Counts.{Counts}
use Rattle.bdz_image.specs.Ask.{Words, words_of}
use Rattle.bdz_image.specs.Entry.{entry_at}
use Rattle.bdz_image.specs.Feed.{slot}
use Rattle.bdz_image.specs.Page.{page_no, page_slots}
use Rattle.bdz_image.specs.Pages.{list_of, padded}
use Rattle.bdz_image.specs.Sort.{in_order}

-- n = 1 is one word, whatever m says
abbrev pub feed_m : Index → ℕ
feed_m index = cond (eqb index.n 1) 1 index.m

-- "n = 1 assigned: page 0; n = 1 compact: none"
abbrev pub lists_none : Kind → ℕ → Bool
lists_none Assigned n = false
lists_none Compact n = eqb n 1

-- pages are listed for keys that wait for words
unfoldable pub lists_pages : Index → ℕ → Bool
lists_pages index keys = cond (eqb keys 0) false (cond (eqb index.n 0) false (cond (lists_none index.kind index.n) false true))

-- ---- the start

-- "12": "compact: lent occupancy under ceil(m/8) bytes"
abbrev pub occupancy_no : Kind → ℕ → ℕ → ℕ → ℕ
occupancy_no Assigned m occ next = next
occupancy_no Compact m occ next = refuse 12 (ltb occ (occupancy_bytes m)) next

-- "no keys accepted; .. n = 0 ..; n = 1; 11 (m or modulus 0); 12; 14. Feed start: the same without answers, with 10 (width 0 or over
-- 32) before n = 1, and 14 for n = 1 assigned too"; what 14 takes in is the caller's
unfoldable pub feed_no : Index → ℕ → ℕ → ℕ → ℕ
feed_no index keys occ room =
    accept (eqb keys 0)
    (accept (eqb index.n 0)
    (refuse 10 (eqb index.width 0)
    (refuse 10 (ltb 32 index.width)
    (accept (lists_none index.kind index.n)
    (cond (eqb index.n 1) room
    (refuse 11 (eqb index.m 0)
    (refuse 11 (eqb index.modulus 0)
    (occupancy_no index.kind index.m occ room))))))))

-- "13: over 2^30 keys"; "14": "three slots and six page entries a key"
unfoldable pub start_room : ℕ → ℕ → ℕ → ℕ → ℕ
start_room keys order slots pages =
    refuse 13 (ltb (2 ^ 30) keys)
    (refuse 14 (ltb order (3 * keys))
    (refuse 14 (ltb slots (3 * keys))
    (refuse 14 (ltb pages (6 * keys))
    0)))

abbrev pub start_no : Index → ℕ → ℕ → ℕ → ℕ → ℕ → ℕ
start_no index keys occ order slots pages = feed_no index keys occ (start_room keys order slots pages)

-- the keys' slots in the order of their vertices
abbrev pub order_of : Index → List ℕ → List ℕ
order_of index keys = in_order (tab (entry_at index.kind keys index.seed (feed_m index)) (3 * length keys))

-- "lists their pages, rising, each once"
abbrev pub pages_of : Index → List ℕ → List ℕ
pages_of index keys = list_of index.width (order_of index keys)

-- three slots a key, with every bit of a word missing
abbrev pub fresh_slots : Index → ℕ → List ℕ
fresh_slots index keys = replicate (3 * keys) (slot (2 ^ index.width - 1) 0)

-- the lent buffers are written where the start is accepted and lists pages
abbrev pub begun : Index → ℕ → ℕ → List ℕ → List ℕ → List ℕ
begun index keys number new old = cond (lists_pages index keys) (written number new old) old

-- what a start tells: "A refused call answers its number, with every other field zero"
pub record Feed : Type 0 where
  pub no : ℕ
  pub keys : ℕ
  pub pages : ℕ

abbrev pub told_counts : Result Counts Refusal → Feed
told_counts (Ok counts) = record { no = 0; keys = counts.keys; pages = counts.pages }
told_counts (Err refusal) = record { no = number refusal; keys = 0; pages = 0 }

unfoldable pub feed_of : Index → List ℕ → ℕ → Feed
feed_of index keys number =
    cond (eqb number 0)
    (record { no = 0; keys = length keys; pages = cond (lists_pages index (length keys)) (length (pages_of index keys)) 0 })
    (record { no = number; keys = 0; pages = 0 })

-- the whole promise: the feed, and the three lent buffers; "unused entries zero"
pub record Opened (index : Index) (keys : List ℕ) (occ : ℕ) (order slots pages : List ℕ) (feed : Feed) (order-after slots-after pages-after : List ℕ) : Type 0 where
  pub feed_is : feed ≡ feed_of index keys (start_no index (length keys) occ (length order) (length slots) (length pages))
  pub order_is : order-after ≡ begun index (length keys) (start_no index (length keys) occ (length order) (length slots) (length pages)) (order_of index keys) order
  pub slots_are : slots-after ≡ begun index (length keys) (start_no index (length keys) occ (length order) (length slots) (length pages)) (fresh_slots index (length keys)) slots
  pub pages_are : pages-after ≡ begun index (length keys) (start_no index (length keys) occ (length order) (length slots) (length pages)) (padded (6 * length keys) (pages_of index keys)) pages

-- ---- a page

-- "Page feed: 10 and 14 where the start tests them, 15": where no page is listed every page is 15
unfoldable pub page_early : Index → ℕ → ℕ → ℕ → ℕ
page_early index keys order slots =
    refuse 15 (eqb keys 0)
    (refuse 15 (eqb index.n 0)
    (refuse 10 (eqb index.width 0)
    (refuse 10 (ltb 32 index.width)
    (refuse 15 (lists_none index.kind index.n)
    (refuse 14 (ltb order (3 * keys))
    (refuse 14 (ltb slots (3 * keys))
    0))))))

-- "15, 16, 17" by the needed parts of what is lent
unfoldable pub feed_page_no : Index → ℕ → ℕ → ℕ → List ℕ → List ℕ → ℕ
feed_page_no index keys page bytes order slots =
    cond (eqb (page_early index keys (length order) (length slots)) 0)
    (page_no index.width (feed_m index) page bytes (take (3 * keys) slots) (take (3 * keys) order))
    (page_early index keys (length order) (length slots))

-- the whole promise: the number, and the slots; "a refused page changes nothing"
pub record PageFed (index : Index) (keys page : ℕ) (bytes order slots : List ℕ) (number : ℕ) (after : List ℕ) : Type 0 where
  pub number_is : number ≡ feed_page_no index keys page (length bytes) order slots
  pub slots_are : after ≡ cond (eqb (page_early index keys (length order) (length slots)) 0) (over (page_slots index.width (feed_m index) page bytes (take (3 * keys) slots) (take (3 * keys) order)) slots) slots

-- ---- asking

-- "14 there taking in compact super counts"
abbrev pub super_no : Kind → ℕ → ℕ → ℕ → ℕ
super_no Assigned m supers next = next
super_no Compact m supers next = refuse 14 (ltb supers (super_count m)) next

unfoldable pub ask_room : Index → ℕ → ℕ → ℕ → ℕ
ask_room index keys slots supers =
    refuse 13 (ltb (2 ^ 30) keys)
    (refuse 14 (ltb slots (3 * keys))
    (super_no index.kind index.m supers
    0))

-- "the start's checks"
abbrev pub ask_early : Index → ℕ → ℕ → ℕ → ℕ → ℕ
ask_early index keys occ supers slots = feed_no index keys occ (ask_room index keys slots supers)

-- "20": "a feed is asked for a position not in its key list", by the keys that it was started with and by those that are lent
abbrev pub position_no : ℕ → ℕ → ℕ → ℕ → ℕ
position_no keys lent position next = cond (ltb position keys) (cond (ltb position lent) next 20) 20

-- the key's three words, where pages are listed
abbrev pub wait_no : Index → ℕ → List ℕ → ℕ → ℕ
wait_no index keys slots position = cond (lists_pages index keys) (words_of slots position).no 0

-- "Asking a feed: 20, the start's checks, .. 18"
unfoldable pub asked_no : Index → ℕ → ℕ → ℕ → ℕ → ℕ → List ℕ → ℕ
asked_no index keys lent position occ supers slots =
    position_no keys lent position
    (cond (eqb (ask_early index keys occ supers (length slots)) 0)
    (wait_no index keys slots position)
    (ask_early index keys occ supers (length slots)))

-- lookup's own answer from a key's words, once they are there
abbrev pub finish_words : Index → ℕ → Words → List ℕ → List ℕ → Answer
finish_words index key words occ supers =
    cond (eqb words.no 0) (finish_of index key words.a words.b words.c occ supers) (record { no = words.no; answer = 0 })

-- where no pages are listed the answer is 0
abbrev pub asked_from : Index → ℕ → ℕ → Words → List ℕ → List ℕ → ℕ
asked_from index keys key words occ supers = cond (lists_pages index keys) (finished_of index key words.a words.b words.c occ supers) 0

unfoldable pub asked_of : Index → ℕ → List ℕ → ℕ → List ℕ → List ℕ → List ℕ → Answer
asked_of index keys lent position occ supers slots =
    answered (asked_no index keys (length lent) position (length occ) (length supers) slots)
    (asked_from index keys (get_or lent position 0) (words_of slots position) occ supers)
