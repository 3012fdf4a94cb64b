-- DEMAND 3, the feed: from the keys' vertices to the answers. Assumes nothing.
use Rattle.bdz_base.specs.Sizes.{table_bytes}
use mathlib.Core.Path.{◌≡◌, refl}
use mathlib.Core.Bool.{true, false}
use mathlib.Core.List.{List, [], ◌∷◌}
use Prim.Native.Nat.{ℕ, ◌+◌, ◌*◌, ◌≤◌, ◌<◌}
use lib.ListN.{length, get_or, drop, length-take, length-drop}
use Rattle.bdz_image.specs.Feed.{word_in, among, page_of}
use Rattle.bdz_image.specs.Pages.{list_of}
use Rattle.bdz_image.specs.Page.{need_of, page_no, page_slots}
use Rattle.bdz_image.specs.Ask.{ask_no, ask_value, Came}
use Rattle.bdz_image.proofs.Sweeps.{Ordered, Fed}
use Rattle.bdz_image.proofs.Accepts.{accepts, takes}
use Rattle.bdz_image.proofs.Asks.{answered, not_before}

-- pages of the list, none twice; the last of the row is fed first
pub data Row (listed : List ℕ) : List ℕ → Type 0 where
  none : Row listed []
  next : {p : ℕ} {ps : List ℕ} → among listed p ≡ true → among ps p ≡ false → Row listed ps → Row listed (p ∷ ps)

-- the slots after a row of calls
pub run_of : ℕ → ℕ → List ℕ → List ℕ → List ℕ → List ℕ → List ℕ
unfolding page_slots page_of
run_of w m body order [] slots = slots
run_of w m body order (p ∷ ps) slots = page_slots w m p (page_of body p) (run_of w m body order ps slots) order

pub run_none : (w m : ℕ) (body order slots : List ℕ) → run_of w m body order [] slots ≡ slots
unfolding run_of
run_none w m body order slots = refl

pub run_more : (w m : ℕ) (body order : List ℕ) (p : ℕ) (ps slots : List ℕ) → run_of w m body order (p ∷ ps) slots ≡ page_slots w m p (page_of body p) (run_of w m body order ps slots) order
unfolding run_of
run_more w m body order p ps slots = refl

page_length_lem : (w m : ℕ) (body : List ℕ) (p : ℕ) → length body ≡ table_bytes w m → length (page_of body p) ≡ need_of w m p
unfolding page_of
page_length_lem w m body p e = rw (length-take 4096 (drop (p * 4096) body), length-drop (p * 4096) body, e)

module _ (w m : ℕ) (body vs es order slots : List ℕ) (z : 0 < w) (b : w ≤ 32) (e : length body ≡ table_bytes w m) (o : Ordered vs order) (f : Fed w body vs [] slots) where
  pub run : (ps : List ℕ) → Row (list_of w order) ps → Fed w body vs ps (run_of w m body order ps slots)
  unfolding run_of
  run [] r = f
  run (p ∷ ps) (next l n r) = takes w m body vs order (run_of w m body order ps slots) ps p z b o (run ps r) l n (page_length_lem w m body p e)

  -- each call is accepted
  pub accepted : (p : ℕ) (ps : List ℕ) → Row (list_of w order) (p ∷ ps) → page_no w m p (length (page_of body p)) (run_of w m body order ps slots) order ≡ 0
  accepted p ps (next l n r) = accepts w m body vs order (run_of w m body order ps slots) ps p z b o (run ps r) (page_of body p) l n (page_length_lem w m body p e)

  module _ (ps : List ℕ) (r : Row (list_of w order) ps) (i : ℕ) (h : 3 * i + 2 < length vs) where
    -- a key is answered from its three words as soon as its own pages came
    pub as_soon : (finish : ℕ → ℕ → ℕ → ℕ) → Came w ps (get_or vs (3 * i) 0) → Came w ps (get_or vs (3 * i + 1) 0) → Came w ps (get_or vs (3 * i + 2) 0)
        → (ask_no (run_of w m body order ps slots) i ≡ 0) × (ask_value finish (run_of w m body order ps slots) i ≡ finish (word_in w body (get_or vs (3 * i) 0)) (word_in w body (get_or vs (3 * i + 1) 0)) (word_in w body (get_or vs (3 * i + 2) 0)))
    as_soon = answered w body vs (run_of w m body order ps slots) ps z b (run ps r) i h

    -- and before that it is told to wait
    pub not_earlier : ask_no (run_of w m body order ps slots) i ≡ 0 → Came w ps (get_or vs (3 * i) 0) × Came w ps (get_or vs (3 * i + 1) 0) × Came w ps (get_or vs (3 * i + 2) 0)
    not_earlier = not_before w body vs (run_of w m body order ps slots) ps z b (run ps r) i h
