-- `bdz_oracle::feeding::bdz_feed_start` meets its contract. Assumes nothing.
use Rattle.std.proofs.Common.{refl, ap, ◌∙◌, length, lt-ltb, le-ltb}
use Rattle.bdz_base.proofs.Refusals.{refused_test}
use Rattle.bdz_image.specs.declared.feed.Counts.{Counts}
use Rattle.bdz_oracle.specs.Feeding.{record_of}
use Rattle.bdz_oracle.proofs.Telling.{two, none_told, refused_start, some_start}
use Rattle.bdz_oracle.proofs.ToldLaws.{no_counts, value_counts}
use Rattle.bdz_oracle.proofs.feeding.bdz_feed_start.Goals as goal

pub returns-then-told-lt2 : goal.returns-then-told-lt2
returns-then-told-lt2 c =
    let a = c.args in
    let index = record_of a.compact a.n a.m a.seed a.modulus a.width in
    rw c.from.ensures
    (none_told index a.keys.now (length a.occ.now) a.key_room.now a.order.now a.slots.now a.pages.now a.told.now
    (lt-ltb _ _ c.if-told-lt2.true))

pub returns-in-Err : goal.returns-in-Err
returns-in-Err c =
    let a = c.args in
    let enough = c.if-told-lt2.false in
    let index = record_of a.compact a.n a.m a.seed a.modulus a.width in
    let judged = rw c.record_of-index.ensures at c.start_no-judged.ensures in
    rw c.from-in-Err.ensures
    (refused_start index a.keys.now (length a.occ.now) a.key_room.now a.order.now a.slots.now a.pages.now a.told.now
    (le-ltb _ _ enough) judged c.in-Err.ensures (refused_test c.in-Err.refusal) (two a.told.now enough))

pub returns : goal.returns
returns c =
    let a = c.args in
    let enough = c.if-told-lt2.false in
    let feed = c.feed_start-feed in
    let told = value_counts feed.result in
    let keys = ap (λ (x : Counts). x.keys) (c.unwrap_or-counts.ensures ∙ told) in
    let pages = ap (λ (x : Counts). x.pages) (c.unwrap_or-counts.ensures ∙ told) in
    let index = record_of a.compact a.n a.m a.seed a.modulus a.width in
    let judged = rw c.record_of-index.ensures at c.start_no-judged.ensures in
    rw (c.number_of.ensures, no_counts feed.result, keys, pages)
    (some_start index a.keys.now (length a.occ.now) a.key_room.now a.order.now a.slots.now a.pages.now a.told.now
    (le-ltb _ _ enough) judged c.in_default.ensures refl c.read_keys.ensures
    (rw c.record_of-index.ensures at feed.ensures) (two a.told.now enough))
