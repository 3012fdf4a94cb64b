-- The number that a page is answered, by cases. Assumes nothing.
use Rattle.std.proofs.Common.{◌≡◌, List, ℕ, ◌+◌, ◌*◌, ◌≤◌, ◌<◌, length, get_or, drop, eq-eqb, ne_eqb, lt-ltb, le-ltb}
use Rattle.bdz_image.specs.Sweep.{vertex_in, slot_in, sweep_of}
use Rattle.bdz_image.specs.Page.{missing_in, need_of, entry_no, page_no, page_slots, from_at}

module _ (w m p len : ℕ) (slots : List ℕ) (e : ℕ) where
  pub no_word : (p + 1) * 32768 ≤ vertex_in e * w → 15 ≡ entry_no w m p len slots e
  unfolding entry_no
  no_word h = rw (le-ltb (vertex_in e * w) ((p + 1) * 32768) h)

  module _ (l : vertex_in e * w < (p + 1) * 32768) where
    pub given : missing_in w p (vertex_in e) (get_or slots (slot_in e) 0) ≡ 0 → 16 ≡ entry_no w m p len slots e
    unfolding entry_no
    given h = rw (lt-ltb (vertex_in e * w) ((p + 1) * 32768) l, eq-eqb (missing_in w p (vertex_in e) (get_or slots (slot_in e) 0)) 0 h)

    module _ (g : missing_in w p (vertex_in e) (get_or slots (slot_in e) 0) ≡ 0 → ⊥) where
      pub taken : len ≡ need_of w m p → 0 ≡ entry_no w m p len slots e
      unfolding entry_no
      taken h = rw (lt-ltb (vertex_in e * w) ((p + 1) * 32768) l, ne_eqb (missing_in w p (vertex_in e) (get_or slots (slot_in e) 0)) 0 g, eq-eqb len (need_of w m p) h)

module _ (w m p : ℕ) (bytes slots order : List ℕ) where
  pub page_none : length order ≤ from_at w p order → 15 ≡ page_no w m p (length bytes) slots order
  unfolding page_no
  page_none h = rw (le-ltb (from_at w p order) (length order) h)

  pub page_some : from_at w p order < length order → entry_no w m p (length bytes) slots (get_or order (from_at w p order) 0) ≡ page_no w m p (length bytes) slots order
  unfolding page_no
  page_some h = rw (lt-ltb (from_at w p order) (length order) h)

  pub page_taken : page_no w m p (length bytes) slots order ≡ 0 → sweep_of w p bytes (drop (from_at w p order) order) slots ≡ page_slots w m p bytes slots order
  unfolding page_slots
  page_taken h = rw (eq-eqb (page_no w m p (length bytes) slots order) 0 h)
