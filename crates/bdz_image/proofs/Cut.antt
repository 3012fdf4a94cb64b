-- Every proper prefix of an image is refused at opening; the whole image opens, with any bytes behind it, to the index that it was
-- written from, and holds its table and its occupancy. Then the same from the promises of a build and of the writer. Assumes nothing.
use mathlib.Core.Path.{◌≡◌, refl, sym, ap, ◌∙◌}
use mathlib.Core.List.{List, ◌++◌, append_assoc}
use mathlib.Core.Logic.{⊎_elim}
use Prim.Native.Nat.{ℕ, ◌+◌, ◌-◌, ◌%◌, ◌^◌, ◌<◌, ◌≤◌}
use native.Mathlib.Nat.{mod-eq_of_lt, le_of_lt}
use native.Mathlib.Omega.{arith}
use borrow.Author.Tests.{lt-ltb, le-ltb}
use lib.Dec.{ltb}
use lib.ListN.{length, take, drop, get_or, length-append}
use lib.Seq.{take_at, drop_at, take_all, take-append-le, take-append-add, length-take-le, get_or-take}
use Rattle.bdz_base.specs.Buffer.{written}
use Rattle.bdz_base.specs.Pack.{pack_of, word_at}
use Rattle.bdz_base.specs.Sizes.{table_bytes, occupancy_bytes}
use Rattle.bdz_base.specs.declared.verts.Kind.{Kind}
use Rattle.bdz_base.specs.declared.verts.Kind.TheVariants.{Assigned, Compact}
use Rattle.bdz_base.proofs.Digits.{length_packed, read_back}
use Rattle.bdz_table.specs.Build.{vertices_for, width_for, index_for, built_for, compact_occupancy, BuiltAssigned, BuiltCompact}
use Rattle.bdz_table.specs.Rank.{ones_below, super_counts}
use Rattle.bdz_table.specs.declared.index.Index.{Index}
use Rattle.bdz_table.specs.declared.pairs.Pair.{Pair}
use Rattle.bdz_table.proofs.Answered.{occupancy_long}
use Rattle.bdz_table.proofs.Has.{lt_or_ge}
use Rattle.bdz_table.proofs.Ranks.{below_front, supers_front}
use Rattle.bdz_table.specs.declared.index.Built.{Built}
use Rattle.bdz_table.specs.Told.{refused_build}
use Rattle.bdz_image.specs.Header.{header_bytes}
use Rattle.bdz_image.specs.Image.{occ_in, header_of, body_of, image_of, image_len}
use Rattle.bdz_image.specs.Open.{packed_no, compact_no, open_packed, open_compact, open_file}
use Rattle.bdz_image.specs.Write.{write_no, Wrote}
use Rattle.bdz_image.proofs.Fields.{length_header, fields_first}
use Rattle.bdz_image.proofs.Judged.{number_by, index_by, open_short, length_headed, open_headed, width_fits, all_fit, all_words, opened}
use Rattle.bdz_image.proofs.Made.{Made, assigned_gives, assigned_made, compact_gives, compact_made}

pub record Cut (index : Index) (table occ : List ℕ) : Type 0 where
  pub long : length (image_of index table occ) ≡ image_len index
  -- "Extra bytes behind an image are allowed"
  pub whole : (rest : List ℕ) → open_file index.kind (image_of index table occ ++ rest) ≡ record { no = 0; index = index }
  pub cut : (k : ℕ) → k < length (image_of index table occ) → (open_file index.kind (take k (image_of index table occ))).no ≡ 0 → ⊥
  -- the table's words stand behind the header, and the occupancy behind them
  pub word : (rest : List ℕ) (v : ℕ) → v < index.m → word_at index.width (drop 32 (image_of index table occ ++ rest)) v ≡ get_or table v 0
  pub bits : (rest : List ℕ) → take (occ_in index.kind index.m) (drop (32 + table_bytes index.width index.m) (image_of index table occ ++ rest)) ≡ take (occ_in index.kind index.m) occ

-- ---- the image of an index that a build made

module _ (index : Index) (table occ : List ℕ) (made : Made index table occ) where
  abbrev header : List ℕ
  header = header_bytes (header_of index)

  abbrev body : List ℕ
  body = body_of index table occ

  abbrev image : List ℕ
  image = image_of index table occ

  abbrev width : ℕ
  width = width_for index.kind index.modulus

  abbrev words : List ℕ
  words = take index.m table

  -- the occupancy's bytes, of which the assigned kind has none
  abbrev bytes : List ℕ
  bytes = take (occ_in index.kind index.m) occ

  words_long : length words ≡ index.m
  words_long = length-take-le index.m table made.table_room

  bytes_long : length bytes ≡ occ_in index.kind index.m
  bytes_long = length-take-le (occ_in index.kind index.m) occ made.occ_room

  body_is : body ≡ pack_of width words ++ bytes
  unfolding body_of
  body_is = rw (all_words index table occ made)

  image_is : (rest : List ℕ) → image ++ rest ≡ header ++ (pack_of width words ++ (bytes ++ rest))
  unfolding image_of
  image_is rest = rw (body_is, append_assoc header (pack_of width words ++ bytes) rest, append_assoc (pack_of width words) bytes rest)

  body_long : 32 + length body ≡ image_len index
  unfolding image_len
  body_long =
      rw (body_is, length-append (pack_of width words) bytes, length_packed width words, words_long, bytes_long, all_words index table occ made) (omega arith)

  long : length image ≡ image_len index
  unfolding image_of
  long = length_headed (header_of index) body ∙ body_long

  opened_long : (rest : List ℕ) → image_len index ≤ 32 + length rest → open_file index.kind (header ++ rest) ≡ record { no = 0; index = index }
  opened_long rest h = opened index table occ made rest ∙ rw (le-ltb (32 + length rest) (image_len index) h)

  opened_short : (rest : List ℕ) → 32 + length rest < image_len index → open_file index.kind (header ++ rest) ≡ refused_build 7
  opened_short rest h = opened index table occ made rest ∙ rw (lt-ltb (32 + length rest) (image_len index) h)

  whole : (rest : List ℕ) → open_file index.kind (image ++ rest) ≡ record { no = 0; index = index }
  unfolding image_of
  whole rest =
      rw (append_assoc header body rest) (opened_long (body ++ rest) (omega (arith, length-append body rest, body_long)))

  -- a prefix of less than 32 bytes has no header
  cut_header : (k : ℕ) → k < 32 → k < length image → (open_file index.kind (take k image)).no ≡ 0 → ⊥
  cut_header k h l = open_short index.kind (take k image) (rw (length-take-le k image (le_of_lt l)) h)

  -- a longer one has the header, and less than the body
  cut_body : (k : ℕ) → 32 ≤ k → k < length image → open_file index.kind (take k image) ≡ refused_build 7
  unfolding image_of
  cut_body k h l =
      let e : 32 + (k - 32) ≡ k = omega arith in
      let t : take k (header ++ body) ≡ header ++ take (k - 32) body =
      ap (λ (i : ℕ). take i (header ++ body)) (sym (ap (λ (i : ℕ). i + (k - 32)) (length_header (header_of index)) ∙ e)) ∙ take-append-add header body (k - 32) in
      let s : length (take (k - 32) body) ≡ k - 32 = length-take-le (k - 32) body (omega (arith, length_headed (header_of index) body)) in
      rw t (opened_short (take (k - 32) body) (omega (arith, long)))

  cut : (k : ℕ) → k < length image → (open_file index.kind (take k image)).no ≡ 0 → ⊥
  cut k l e =
      ⊎_elim (λ h. cut_header k h l e)
      (λ h. let z : ◌≡◌ {A = ℕ} 7 0 = sym (ap (λ (r : Built). r.no) (cut_body k h l)) ∙ e in omega arith) (lt_or_ge k 32)

  word : (rest : List ℕ) (v : ℕ) → v < index.m → word_at index.width (drop 32 (image ++ rest)) v ≡ get_or table v 0
  word rest v h =
      let fits : get_or table v 0 < 2 ^ width = rw made.width at (made.words v h) in
      rw (image_is rest, drop_at header (pack_of width words ++ (bytes ++ rest)) 32 (length_header (header_of index)), made.width)
      (read_back width words (bytes ++ rest) v (width_fits index.kind index.modulus) (rw words_long h)
      ∙ ap (λ (x : ℕ). x % 2 ^ width) (get_or-take index.m table v 0 h)
      ∙ mod-eq_of_lt fits)

  bits : (rest : List ℕ) → take (occ_in index.kind index.m) (drop (32 + table_bytes index.width index.m) (image ++ rest)) ≡ bytes
  bits rest =
      let room = 32 + table_bytes index.width index.m in
      let front : length (header ++ pack_of width words) ≡ room =
      length_headed (header_of index) (pack_of width words)
      ∙ ap (λ (k : ℕ). 32 + k) (length_packed width words ∙ ap (table_bytes width) words_long ∙ ap (λ (w : ℕ). table_bytes w index.m) (sym made.width)) in
      rw (image_is rest, ← append_assoc header (pack_of width words) (bytes ++ rest), drop_at (header ++ pack_of width words) (bytes ++ rest) room front)
      (take_at bytes rest (occ_in index.kind index.m) bytes_long)

-- an image that is cut is refused, a whole one opens
pub cut_image : {index : Index} {table occ : List ℕ} → Made index table occ → Cut index table occ
cut_image {index} {table} {occ} made =
    record {
      long = long index table occ made;
      whole = whole index table occ made;
      cut = cut index table occ made;
      word = word index table occ made;
      bits = bits index table occ made;
    }

-- ---- an image of the other kind

abbrev pub other : Kind → Kind
other Assigned = Compact
other Compact = Assigned

other_magic : (index : Index) (len : ℕ) (kind : Kind) → index.kind ≡ kind → number_by (other kind) (header_of index) len ≡ 8
unfolding packed_no compact_no header_of
other_magic index len Assigned e = rw e
other_magic index len Compact e = rw e

-- "its kind names the opener, so an image of the other kind is 8"
pub other_kind : {index : Index} {table occ : List ℕ} → Made index table occ → (rest : List ℕ) → open_file (other index.kind) (image_of index table occ ++ rest) ≡ refused_build 8
unfolding image_of
other_kind {index} {table} {occ} made rest =
    let behind = body_of index table occ ++ rest in
    rw (append_assoc (header_bytes (header_of index)) (body_of index table occ) rest)
    (open_headed (other index.kind) (header_of index) behind (all_fit index table occ made)
    ∙ ap (λ (number : ℕ). built_for number (index_by (other index.kind) (header_of index))) (other_magic index (32 + length behind) index.kind refl))

-- ---- what is lent past the header

-- "The opener takes the first 32 bytes, or all if fewer": what is lent past them does not matter
pub first_bytes : (xs : List ℕ) (len : ℕ) → (open_packed (take 32 xs) len ≡ open_packed xs len) × (open_compact (take 32 xs) len ≡ open_compact xs len)
unfolding open_packed open_compact
first_bytes xs len = (rw (fields_first xs, same), rw (fields_first xs, same))
  where
    same : ltb (length (take 32 xs)) 32 ≡ ltb (length xs) 32
    same =
        ⊎_elim (λ h. ap (λ (ys : List ℕ). ltb (length ys) 32) (take_all 32 xs (le_of_lt h)))
        (λ h. rw (length-take-le 32 xs h, le-ltb (length xs) 32 h)) (lt_or_ge (length xs) 32)

-- ---- what the writer leaves

-- an image that was written: accepted, whole, refused wherever it is cut, and opened, with any of the bytes behind it, to the index
pub record WrittenImage (kind : Kind) (index : Index) (table occ image : List ℕ) (number : ℕ) (after : List ℕ) : Type 0 where
  pub accepted : number ≡ 0
  pub holds : after ≡ image_of index table occ ++ drop (image_len index) image
  pub cuts : Cut index table occ
  pub refused : (k : ℕ) → k < image_len index → (open_file kind (take k after)).no ≡ 0 → ⊥
  pub opens : (j : ℕ) → open_file kind (take (image_len index + j) after) ≡ record { no = 0; index = index }
  pub opens_all : open_file kind after ≡ record { no = 0; index = index }
  pub words : (v : ℕ) → v < index.m → word_at index.width (drop 32 after) v ≡ get_or table v 0

module _ {index : Index} {table occ image : List ℕ} {number : ℕ} {after : List ℕ} (made : Made index table occ) (w : Wrote index table occ image number after) (room : image_len index ≤ length image) where
  write_accepted : write_no index (length table) (length occ) (length image) ≡ 0
  unfolding write_no
  write_accepted =
      rw (
        all_words index table occ made,
        le-ltb (length occ) (occ_in index.kind index.m) made.occ_room,
        le-ltb (length table) index.m made.table_room,
        le-ltb (length image) (image_len index) room,
      )

  written_image : (kind : Kind) → index.kind ≡ kind → WrittenImage kind index table occ image number after
  written_image kind e =
      let c = cut_image made in
      let new = image_of index table occ in
      let rest = drop (image_len index) image in
      let holds : after ≡ new ++ rest =
      w.after_is ∙ ap (λ (k : ℕ). written k new image) write_accepted ∙ ap (λ (k : ℕ). new ++ drop k image) c.long in
      record {
        accepted = w.number_is ∙ write_accepted;
        holds = holds;
        cuts = c;
        refused = λ k l.
            let h : k < length new = rw c.long l in
            rw (holds, take-append-le k new rest (le_of_lt h), ← e) (c.cut k h);
        opens = λ j.
            let longer : take (image_len index + j) (new ++ rest) ≡ new ++ take j rest =
            ap (λ (k : ℕ). take (k + j) (new ++ rest)) (sym c.long) ∙ take-append-add new rest j in
            rw (holds, longer, ← e) (c.whole (take j rest));
        opens_all = rw (holds, ← e) (c.whole rest);
        words = λ v h. rw holds (c.word rest v h);
      }

-- ---- from a build to a file

-- an accepted assigned build, of any number of keys, and the writer after it
pub assigned_cut : {keys values : List ℕ} {modulus : ℕ} {table degrees xors queue : List ℕ} {order : List Pair} {marks seen : List ℕ} {r : Built} {table' degrees' xors' queue' : List ℕ} {order' : List Pair} {marks' seen' : List ℕ}
    → BuiltAssigned keys values modulus table degrees xors queue order marks seen r table' degrees' xors' queue' order' marks' seen' → r.no ≡ 0 → modulus < 2 ^ 32
    → {occ image after : List ℕ} {number : ℕ} → Wrote r.index table' occ image number after → image_len r.index ≤ length image
    → WrittenImage Assigned r.index table' occ image number after
unfolding index_for
assigned_cut b z fits {occ} w room =
    written_image (assigned_made b z fits occ) w room Assigned (ap (λ (index : Index). index.kind) (assigned_gives b z).1)

-- the occupancy part of a BDZ3 file
abbrev pub occupancy_in : ℕ → List ℕ → List ℕ
occupancy_in m file = take (occupancy_bytes m) (drop (32 + table_bytes 2 m) file)

-- its occupancy part is that of the keys, so what is counted from the file is what the build has
pub record WrittenCompact (keys : List ℕ) (index : Index) (table occ image : List ℕ) (number : ℕ) (after : List ℕ) : Type 0 where
  pub written : WrittenImage Compact index table occ image number after
  pub occupancy : occupancy_in index.m after ≡ compact_occupancy keys
  pub supers : super_counts index.m (occupancy_in index.m after) ≡ super_counts index.m occ
  pub ranks : (v : ℕ) → v ≤ index.m → ones_below (occupancy_in index.m after) v ≡ ones_below occ v

compact_written : (keys old : List ℕ) {table occ image : List ℕ} {number : ℕ} {after : List ℕ} → Made (index_for Compact keys (length keys)) table occ → occ ≡ compact_occupancy keys ++ old
    → Wrote (index_for Compact keys (length keys)) table occ image number after → image_len (index_for Compact keys (length keys)) ≤ length image
    → WrittenCompact keys (index_for Compact keys (length keys)) table occ image number after
unfolding index_for
compact_written keys old {table} {occ} {image} {number} {after} made is w room =
    let m = vertices_for Compact (length keys) in
    let i = written_image made w room Compact refl in
    let part : occupancy_in m after ≡ take (occupancy_bytes m) occ = ap (occupancy_in m) i.holds ∙ i.cuts.bits (drop (image_len (index_for Compact keys (length keys))) image) in
    record {
      written = i;
      occupancy = part ∙ ap (take (occupancy_bytes m)) is ∙ take_at (compact_occupancy keys) old (occupancy_bytes m) (occupancy_long keys);
      supers = ap (super_counts m) part ∙ supers_front m occ;
      ranks = λ v h. ap (λ (bytes : List ℕ). ones_below bytes v) part ∙ below_front occ (occupancy_bytes m) v (omega arith);
    }

-- an accepted compact build, of any number of keys, and the writer after it
pub compact_cut : {keys table occupancy degrees xors queue : List ℕ} {order : List Pair} {marks : List ℕ} {r : Built} {table' occupancy' degrees' xors' queue' : List ℕ} {order' : List Pair} {marks' : List ℕ}
    → BuiltCompact keys table occupancy degrees xors queue order marks r table' occupancy' degrees' xors' queue' order' marks' → r.no ≡ 0
    → {image after : List ℕ} {number : ℕ} → Wrote r.index table' occupancy' image number after → image_len r.index ≤ length image
    → WrittenCompact keys r.index table' occupancy' image number after
compact_cut {keys} {table} {occupancy} b z w room =
    let a = compact_gives b z in
    rw a.1 (compact_written keys (drop (length (compact_occupancy keys)) occupancy) (rw a.1 at (compact_made b z)) a.3 (rw a.1 at w) (rw a.1 at room))
