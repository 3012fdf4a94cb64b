-- Each public promise leaves one answer, and one content of every lent buffer. Assumes nothing.
use mathlib.Core.Path.{sym, ◌∙◌}
use mathlib.Core.List.{[], ◌∷◌}
use Rattle.bdz_base.proofs.OneAnswer.{OneResult, OneOutcome}
use Rattle.bdz_base.proofs.Refusals.{one_answer}
use Rattle.bdz_table.proofs.ToldLaws.{one_told_answer, one_told_index}
use Rattle.bdz_image.proofs.ToldLaws.{one_told_audit, one_told_counts}
use Rattle.bdz_image.proofs.audit.audit.Reads as audit
use Rattle.bdz_image.proofs.feed.feed_ask.Reads as feed-ask
use Rattle.bdz_image.proofs.feed.feed_page.Reads as feed-page
use Rattle.bdz_image.proofs.feed.feed_start.Reads as feed-start
use Rattle.bdz_image.proofs.feed.start_no.Reads as start-no
use Rattle.bdz_image.proofs.open.open_compact.Reads as open-compact
use Rattle.bdz_image.proofs.open.open_packed.Reads as open-packed
use Rattle.bdz_image.proofs.page.g_page_need.Reads as g-page-need
use Rattle.bdz_image.proofs.parts.body_off.Reads as body-off
use Rattle.bdz_image.proofs.parts.end_off.Reads as end-off
use Rattle.bdz_image.proofs.parts.occ_off.Reads as occ-off
use Rattle.bdz_image.proofs.size.image_len.Reads as image-len
use Rattle.bdz_image.proofs.size.trailer_off.Reads as trailer-off
use Rattle.bdz_image.proofs.write.write_image.Reads as write-image

pub one_image_len : (κs : _) (a : _) → OneResult (image-len.Post κs a)
one_image_len κs a x y s t p q = p ∙ sym q

pub one_trailer_off : (κs : _) (a : _) → OneResult (trailer-off.Post κs a)
one_trailer_off κs a x y s t p q = p ∙ sym q

pub one_body_off : (κs : _) (a : _) → OneResult (body-off.Post κs a)
one_body_off κs a x y s t p q = p ∙ sym q

pub one_occ_off : (κs : _) (a : _) → OneResult (occ-off.Post κs a)
one_occ_off κs a x y s t p q = p ∙ sym q

pub one_end_off : (κs : _) (a : _) → OneResult (end-off.Post κs a)
one_end_off κs a x y s t p q = p ∙ sym q

pub one_write_image : (κs : _) (a : _) → OneOutcome (λ s. s.1.1.1.0.now) (write-image.Post κs a)
one_write_image κs a x y s t p q = (one_answer x y (p.number_is ∙ sym q.number_is), p.after_is ∙ sym q.after_is)

pub one_open_packed : (κs : _) (a : _) → OneResult (open-packed.Post κs a)
one_open_packed κs a x y s t p q = one_told_index x y (p ∙ sym q)

pub one_open_compact : (κs : _) (a : _) → OneResult (open-compact.Post κs a)
one_open_compact κs a x y s t p q = one_told_index x y (p ∙ sym q)

pub one_audit : (κs : _) (a : _) → OneResult (audit.Post κs a)
one_audit κs a x y s t p q = one_told_audit x y (p ∙ sym q)

pub one_start_no : (κs : _) (a : _) → OneResult (start-no.Post κs a)
one_start_no κs a x y s t p q = one_answer x y (p ∙ sym q)

pub one_feed_start : (κs : _) (a : _) → OneOutcome (λ s. (s.1.1.1.0.now ∷ s.1.1.1.1.0.now ∷ s.1.1.1.1.1.0.now ∷ [])) (feed-start.Post κs a)
one_feed_start κs a x y s t p q = (one_told_counts x y (p.feed_is ∙ sym q.feed_is), rw (p.order_is, p.slots_are, p.pages_are, q.order_is, q.slots_are, q.pages_are))

pub one_feed_page : (κs : _) (a : _) → OneOutcome (λ s. s.1.1.1.1.1.0.now) (feed-page.Post κs a)
one_feed_page κs a x y s t p q = (one_answer x y (p.number_is ∙ sym q.number_is), p.slots_are ∙ sym q.slots_are)

pub one_feed_ask : (κs : _) (a : _) → OneResult (feed-ask.Post κs a)
one_feed_ask κs a x y s t p q = one_told_answer x y (p ∙ sym q)

pub one_g_page_need : (κs : _) (a : _) → OneResult (g-page-need.Post κs a)
one_g_page_need κs a x y s t p q = p ∙ sym q

-- a text is lent: its bytes are the same, and where they stand is nowhere told
