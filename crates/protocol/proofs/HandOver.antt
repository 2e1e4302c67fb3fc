-- What a hand-over gives, and what a comparison of two views tells, as plain facts.
use mathlib.Core.Bool.{Bool, true, false}
use mathlib.Core.Logic.{◌↔◌, ◌≢◌}
use mathlib.Core.Path.{◌≡◌, refl, sym, ap, ◌∙◌, subst}
use Prim.Native.Nat.{ℕ, ◌%◌, ◌≤◌, ◌<◌}
use native.Mathlib.Nat.{le_refl, le_of_eq}
use native.Mathlib.Omega.{arith}
use lib.Dec.{eqb, ltb, leb}
use borrow.Author.Tests.{leb-false}
use Rattle.basics.proofs.Cases.{by-test}
use Rattle.basics.proofs.Lists.{not-every}
use Rattle.protocol.specs.declared.Entry.{Entry}
use Rattle.protocol.specs.Tables.{Tables}
use Rattle.protocol.specs.HandOver.{taken_over, handed_over, no_later, standing_by}
use Rattle.protocol.specs.HandOver.{standing}
use Rattle.protocol.proofs.Tells.{tells}
use Rattle.protocol.proofs.Put.{put_same, put_other, put-every}
use Rattle.protocol.proofs.Behaviour.{later-one, later-other}
use Rattle.protocol.proofs.Ranges.Values.{IsClient}

-- ---- a hand-over

module _ (t : Tables) (giver receiver : ℕ) where
  abbrev raised : ℕ → Entry
  raised = taken_over t giver receiver

  abbrev view : ℕ → ℕ → Entry
  view = (handed_over t giver receiver).view

  -- the receiver's view, and everybody else's
  pub handed-receiver : (k : ℕ) → view receiver k ≡ raised k
  handed-receiver k = subst (λ (f : ℕ → Entry). f k ≡ raised k)
      (sym (put_same t.view receiver raised)) refl

  pub handed-others : (d : ℕ) → d ≢ receiver → view d ≡ t.view d
  handed-others d other = put_other t.view receiver raised d other

  -- the receiver has seen all that the giver has
  pub handed-given : (k : ℕ) → (t.view giver k).stamp ≤ (view receiver k).stamp
  handed-given k = subst (λ (e : Entry). (t.view giver k).stamp ≤ e.stamp)
      (sym (handed-receiver k)) (later-other (t.view receiver k) (t.view giver k))

  pub handed-grows : (d k : ℕ) → (t.view d k).stamp ≤ (view d k).stamp
  handed-grows d k =
      put-every (λ e f. (t.view e k).stamp ≤ (f k).stamp) t.view receiver raised
      (later-one (t.view receiver k) (t.view giver k))
      (λ e other. le_refl (t.view e k).stamp) d

  -- each entry was somebody's
  pub handed-taken : IsClient t.sizes giver → (d k : ℕ) → IsClient t.sizes d
      → (e : ℕ) × IsClient t.sizes e × (view d k ≡ t.view e k)
  handed-taken exists d k i =
      put-every (λ e (f : ℕ → Entry). IsClient t.sizes e
      → (h : ℕ) × IsClient t.sizes h × (f k ≡ t.view h k)) t.view receiver raised
      (λ here. by-test (ltb (t.view receiver k).stamp (t.view giver k).stamp)
      (λ e. (giver, exists, rw e refl)) (λ e. (receiver, here, rw e refl)))
      (λ e other here. (e, here, refl)) d i

-- ---- a comparison

module _ (t : Tables) where
  -- an entry of client d is earlier than client e's
  abbrev pub Earlier : ℕ → ℕ → Type 0
  Earlier d e = (k : ℕ) × (k < t.sizes.items) × ((t.view d k).stamp < (t.view e k).stamp)

  abbrev pub NoLater : ℕ → ℕ → Type 0
  NoLater d e = (k : ℕ) → k < t.sizes.items → (t.view d k).stamp ≤ (t.view e k).stamp

  tells-later : (d e : ℕ) → (no_later t d e ≡ true) ↔ NoLater d e
  tells-later d e = (λ h. simp tells at h, λ h. simp tells h)

  tells-earlier : (d e : ℕ) → (no_later t e d ≡ false) ↔ Earlier d e
  tells-earlier d e = (
    λ h.
        let x = not-every t.sizes.items (λ k. leb (t.view e k).stamp (t.view d k).stamp)
        h in
        (x.0, x.1, leb-false (t.view e x.0).stamp (t.view d x.0).stamp x.2),
    λ x. by-test (no_later t e d)
        (λ h. absurd (omega (arith, (tells-later e d).0 h x.0 x.1, x.2))) (λ h. h),
  )

  -- both tests by the answer
  tested : (a b : Bool) → (a ≡ ltb (standing_by a b) 2) × (b ≡ eqb (standing_by a b % 2) 0)
  tested true true = (refl, refl)
  tested true false = (refl, refl)
  tested false true = (refl, refl)
  tested false false = (refl, refl)

  tells-standing : (d e : ℕ) (a b : Bool) → (standing t d e ≡ standing_by a b)
      ↔ ((no_later t d e ≡ a) × (no_later t e d ≡ b))
  unfolding standing
  tells-standing d e a b = (
    λ h.
        let here = tested (no_later t d e) (no_later t e d) in
        let there = tested a b in (
          here.0 ∙ ap (λ (n : ℕ). ltb n 2) h ∙ sym there.0,
          here.1 ∙ ap (λ (n : ℕ). eqb (n % 2) 0) h ∙ sym there.1,
        ),
    λ p. rw (p.0, p.1) refl,
  )

  -- 'same, behind (no entry later, one earlier), ahead, or neither'
  pub standing-same : (d e : ℕ) → (standing t d e ≡ 0)
      ↔ ((k : ℕ) → k < t.sizes.items → (t.view d k).stamp ≡ (t.view e k).stamp)
  standing-same d e = (
    λ h k l.
        let both = (tells-standing d e true true).0 h in
        omega (arith, (tells-later d e).0 both.0 k l, (tells-later e d).0 both.1 k l),
    λ h. (tells-standing d e true true).1 (
      (tells-later d e).1 (λ k l. le_of_eq (h k l)),
      (tells-later e d).1 (λ k l. le_of_eq (sym (h k l))),
    ),
  )

  pub standing-behind : (d e : ℕ) → (standing t d e ≡ 1) ↔ (NoLater d e × Earlier d e)
  standing-behind d e = (
    λ h.
        let both = (tells-standing d e true false).0 h in
        ((tells-later d e).0 both.0, (tells-earlier d e).0 both.1),
    λ p. (tells-standing d e true false).1
        ((tells-later d e).1 p.0, (tells-earlier d e).1 p.1),
  )

  pub standing-ahead : (d e : ℕ) → (standing t d e ≡ 2) ↔ (NoLater e d × Earlier e d)
  standing-ahead d e = (
    λ h.
        let both = (tells-standing d e false true).0 h in
        ((tells-later e d).0 both.1, (tells-earlier e d).0 both.0),
    λ p. (tells-standing d e false true).1
        ((tells-earlier e d).1 p.1, (tells-later e d).1 p.0),
  )

  pub standing-neither : (d e : ℕ) → (standing t d e ≡ 3) ↔ (Earlier d e × Earlier e d)
  standing-neither d e = (
    λ h.
        let both = (tells-standing d e false false).0 h in
        ((tells-earlier d e).0 both.1, (tells-earlier e d).0 both.0),
    λ p. (tells-standing d e false false).1
        ((tells-earlier e d).1 p.1, (tells-earlier d e).1 p.0),
  )

  -- it has four answers
  most : (a b : Bool) → standing_by a b ≤ 3
  most true true = omega arith
  most true false = omega arith
  most false true = omega arith
  most false false = omega arith

  pub standing-most : (d e : ℕ) → standing t d e ≤ 3
  unfolding standing
  standing-most d e = most (no_later t d e) (no_later t e d)

-- after a hand-over the giver is the same or behind
pub handed-behind : (t : Tables) (giver receiver : ℕ) → giver ≢ receiver
    → NoLater (handed_over t giver receiver) giver receiver
handed-behind t giver receiver other k l =
    subst (λ (f : ℕ → Entry). (f k).stamp ≤ ((handed_over t giver receiver).view receiver k).stamp)
    (sym (handed-others t giver receiver giver other)) (handed-given t giver receiver k)
