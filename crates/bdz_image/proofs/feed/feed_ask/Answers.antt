-- `bdz_image::feed::feed_ask` meets its contract. Assumes nothing.
use Rattle.std.proofs.lemmas.Bool.Decides.{nat_tests}
use Rattle.bdz_image.specs.Feeding.{asked_of, asked_no}
use Rattle.std.proofs.Common.{◌≡◌, sym, ap, ◌∙◌, arith, length, get_or, Err, rules}
use Rattle.bdz_image.specs.Ask.{Words}
use Rattle.bdz_image.specs.Feeding.{feed_no, ask_early, finish_words}
use Rattle.bdz_image.proofs.Starting.{feed_passed}
use Rattle.bdz_image.proofs.Asking.{slots_there, asked_words}
use Rattle.bdz_base.proofs.Refusals.{refused_test}
use Rattle.bdz_image.proofs.feed.feed_ask.Goals as goal
use Rattle.bdz_image.proofs.feed.feed_ask.Goals.{In_ok-feed_no}

-- what the early checks came to
early : (c : In_ok-feed_no)
    → let a = c.args in 0 ≡ ask_early a.index a.keys (length a.occ.now) (length a.supers.now) (length a.slots.now)
early c =
    let a = c.args in
    c.in_ok-feed_no.ensures ∙ ap (feed_no a.index a.keys (length a.occ.now)) c.ask_room.ensures

pub returns-then-keys-position : goal.returns-then-keys-position
unfolding asked_of asked_no
returns-then-keys-position c = grind (arith, nat_tests)

pub returns-then-lent-position : goal.returns-then-lent-position
unfolding asked_of asked_no
returns-then-lent-position c = grind (arith, nat_tests)

pub returns-in_err-feed_no : goal.returns-in_err-feed_no
unfolding asked_of asked_no
returns-in_err-feed_no c =
    let refusal = c.in_err-feed_no.field-0.0 in
    let is : c.from_residual.result ≡ Err refusal = search rules in
    rw is (grind (arith, nat_tests, refused_test refusal))

pub ask-requires : goal.ask-requires
ask-requires c =
    let a = c.args in
    let lists = sym c.lists_pages.ensures ∙ c.if-lists_pages.true in
    let passed = sym (early (goal.at.ask-requires c).In_ok-feed_no) in
    let ready = feed_passed a.index a.keys (length a.occ.now) _ lists passed in
    let room = slots_there a.index a.keys (length a.slots.now) (length a.supers.now) ready.room_is in
    omega (arith, room.0, c.if-keys-position.false)

pub returns-then-lists_pages : goal.returns-then-lists_pages
returns-then-lists_pages c =
    let a = c.args in
    let lists = sym c.lists_pages.ensures ∙ c.if-lists_pages.true in
    let key = get_or a.lent.now a.position 0 in
    c.finish_words.ensures
    ∙ ap (λ (w : Words). finish_words a.index key w a.occ.now a.supers.now) c.ask.ensures
    ∙ asked_words a.index a.keys a.lent.now a.position a.occ.now a.supers.now a.slots.now
    (omega (arith, c.if-keys-position.false)) (omega (arith, c.if-lent-position.false))
    (early (goal.at.returns-then-lists_pages c).In_ok-feed_no) lists

pub returns : goal.returns
unfolding asked_of asked_no
returns c = grind (arith, nat_tests)
