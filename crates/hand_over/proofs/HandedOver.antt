-- The receiver's view takes over the giver's, item by item; after all items it is as `handed_over`
-- says. The giver's entries stay, since it is another client, and so do all words past what a block
-- needs.
use mathlib.Core.Bool.{cond}
use mathlib.Core.List.{List}
use mathlib.Core.Logic.{◌≢◌}
use mathlib.Core.Path.{◌≡◌, refl, ap, ap₂, ◌∙◌}
use Prim.Native.Nat.{ℕ, suc, ◌≤◌, ◌<◌}
use native.Mathlib.Omega.{arith}
use lib.Dec.{eqb, ltb}
use borrow.Author.Tests.{eqb-true, eqb-false, ltb-true, ltb-false, lt-ltb, le-ltb}
use Rattle.basics.proofs.Cases.{by-test}
use Rattle.basics.proofs.Fold.{up_to-all}
use Rattle.protocol.specs.declared.Entry.{Entry}
use Rattle.protocol.specs.Tables.{Tables, later_of, put, with_view}
use Rattle.protocol.specs.HandOver.{taken_over, handed_over}
use Rattle.protocol.proofs.Put.{put_same, put_other}
use Rattle.layout.specs.Layout.{views, view_at}
use Rattle.layout.specs.Decode.{view_in}
use Rattle.layout.specs.Encodes.{Encodes}
use Rattle.layout.proofs.Past.{SamePast, past-each, past-entry}
use Rattle.layout.proofs.Room.{HasRoom}
use Rattle.layout.proofs.EncodesEntry.{view-held, encodes-view}
use Rattle.layout.proofs.Same.{encodes-same-view}
use Rattle.hand_over.specs.HandOver.{take_item, handed_over_block}

module _ {b : List ℕ} {t : Tables} (d e : ℕ) (n : Encodes b t) (r : HasRoom t) (first : 1 ≤ d)
    (last : d ≤ t.sizes.clients) (first' : 1 ≤ e) (last' : e ≤ t.sizes.clients)
    (other : d ≢ e) where
  abbrev raised : ℕ → Entry
  raised = taken_over t d e

  -- the receiver's view with the first k items taken over
  abbrev row : ℕ → ℕ → Entry
  row k j = cond (ltb j k) (raised j) (t.view e j)

  abbrev Taken : ℕ → List ℕ → Type 0
  Taken k x = Encodes x (with_view t e (row k))

  -- one item more
  row_next : (k : ℕ) (v : Entry) → v ≡ raised k → (j : ℕ) → put (row k) k v j ≡ row (suc k) j
  row_next k v same j =
      by-test (eqb j k)
      (λ x. rw (x, lt-ltb j (suc k) (omega (arith, eqb-true j k x)), eqb-true j k x) same)
      (λ x. by-test (ltb j k)
      (λ l. rw (x, l, lt-ltb j (suc k) (omega (arith, ltb-true j k l))) refl)
      (λ l. rw (x, l, le-ltb j (suc k) (omega (arith, ltb-false j k l, eqb-false j k x))) refl))

  turn : (k : ℕ) (x : List ℕ) → k < t.sizes.items → Taken k x
      → Taken (suc k) (take_item d e x k)
  turn k x l h =
      let own : view_in x e k ≡ t.view e k =
      view-held h e first' last' k l
      ∙ ap (λ (f : ℕ → Entry). f k) (put_same t.view e (row k))
      ∙ rw (le-ltb k k (omega arith)) in
      let given : view_in x d k ≡ t.view d k =
      view-held h d first last k l
      ∙ ap (λ (f : ℕ → Entry). f k) (put_other t.view e (row k) d other) in
      encodes-same-view (put t.view e (row (suc k)))
      (encodes-view e k (later_of (view_in x e k) (view_in x d k)) h r first' last' l)
      (λ c p q j g. by-test (eqb c e)
      (λ y. rw (y, put_same t.view e (row k)) (row_next k _ (ap₂ later_of own given) j))
      (λ y. rw y refl))

  pub encodes-handed-over : Encodes (handed_over_block b d e t.sizes.items) (handed_over t d e)
  unfolding handed_over_block
  encodes-handed-over =
      encodes-same-view (handed_over t d e).view
      (up_to-all Taken (take_item d e) b t.sizes.items
      (encodes-same-view (put t.view e (row 0)) n
      (λ c p q j g. by-test (eqb c e)
      (λ y. rw (y, eqb-true c e y, le-ltb j 0 (omega arith)) refl) (λ y. rw y refl)))
      turn)
      (λ c p q j g. by-test (eqb c e)
      (λ y. rw (y, lt-ltb j t.sizes.items g) refl) (λ y. rw y refl))

-- it keeps the block's length and every word past what a block needs
pub past-hand-over : (b : List ℕ) (d e items : ℕ) → 1 ≤ e → e ≤ 8 → items ≤ 64
    → SamePast b (handed_over_block b d e items)
unfolding handed_over_block
past-hand-over b d e items first last most =
    past-each (take_item d e) b items (λ k c l.
    past-entry c views (view_at e k) (later_of (view_in c e k) (view_in c d k)) (omega arith))
