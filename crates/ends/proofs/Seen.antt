-- A client's view takes a write, item by item; after all items the view is `seen`.
use mathlib.Core.List.{List}
use mathlib.Core.Path.{◌≡◌, refl, ap, ◌∙◌}
use Prim.Native.Nat.{ℕ, ◌≤◌}
use lib.Dec.{eqb}
use borrow.Author.Tests.{eqb-true}
use Rattle.basics.proofs.Cases.{by-test, eqb_same}
use Rattle.basics.specs.Fold.{up_to}
use Rattle.itemset.proofs.Pass.{filled-below, pass-fills}
use Rattle.protocol.specs.declared.Entry.{Entry}
use Rattle.protocol.specs.Tables.{Tables, later_of, put, with_view}
use Rattle.protocol.specs.Steps.{seen}
use Rattle.protocol.proofs.Put.{put_same}
use Rattle.layout.specs.Layout.{views, view_at}
use Rattle.layout.specs.Decode.{view_in}
use Rattle.layout.specs.Encodes.{Encodes, HoldsEntry}
use Rattle.layout.proofs.Room.{HasRoom}
use Rattle.layout.proofs.EncodesEntry.{encodes-view}
use Rattle.ends.specs.Ends.{see_item}
use Rattle.layout.proofs.Same.{encodes-same-view}

-- what is read of a view is what the block holds
pub view-held : {b : List ℕ} (d k : ℕ) {e : Entry} → HoldsEntry b views (view_at d k) e
    → view_in b d k ≡ e
view-held d k h = rw (h.stamp, h.set) refl

-- ---- one client's view among all

module _ (view : ℕ → ℕ → Entry) (d : ℕ) where
  put-ext : (r r' : ℕ → Entry) (e k : ℕ) → r k ≡ r' k → put view d r e k ≡ put view d r' e k
  put-ext r r' e k same = by-test (eqb e d) (λ x. rw x same) (λ x. rw x refl)

  put-own : (e k : ℕ) → view e k ≡ put view d (view d) e k
  put-own e k = by-test (eqb e d) (λ x. rw (x, eqb-true e d x) refl) (λ x. rw x refl)

  put-again : (r : ℕ → Entry) (i : ℕ) (v v' : Entry) → v ≡ v' → (e k : ℕ)
      → put (put view d r) d (put (put view d r d) i v) e k ≡ put view d (put r i v') e k
  put-again r i v v' same e k =
      by-test (eqb e d)
      (λ x. rw (x, eqb_same d) (ap (λ (u : Entry). put r i u k) same))
      (λ x. rw x refl)

module _ {b : List ℕ} {t : Tables} (d s stamp : ℕ) (n : Encodes b t) (r : HasRoom t) (first : 1 ≤ d)
    (last : d ≤ t.sizes.clients) where
  -- the later of an entry and this write
  abbrev later : Entry → Entry
  later e = later_of e (record { stamp = stamp; set = s })

  pub encodes-seen : Encodes (up_to (see_item d s stamp) b t.sizes.items)
      (with_view t d (seen (t.view d) s stamp))
  encodes-seen =
      let view = t.view d in
      let items = t.sizes.items in
      encodes-same-view (put t.view d (seen view s stamp))
      (pass-fills s items (λ row x. Encodes x (with_view t d row)) _ b view (λ k. later (view k))
      (encodes-same-view (put t.view d view) n (λ e p q k g. put-own t.view d e k))
      (λ k x row l own h.
      let held : view_in x d k ≡ view k =
      view-held d k (h.view d first last k l)
      ∙ (ap (λ (f : ℕ → Entry). f k) (put_same t.view d row) ∙ own)
      in
      encodes-same-view (put t.view d (put row k (later (view k))))
      (encodes-view d k (later (view_in x d k)) h r first last l)
      (λ e p q j g. put-again t.view d row k _ _ (ap later held) e j)))
      (λ e p q k g. put-ext t.view d _ (seen view s stamp) e k
      (filled-below s view (λ k. later (view k)) items k g))
