-- The replies of a fast read by their kinds: first replies in the first part, of which each item
-- has had one when the second begins, and gots in the second.
use mathlib.Core.Bool.{Bool, true, false, cond, ◌&&◌, ◌||◌}
use mathlib.Core.List.{List, [], ◌∷◌, ◌++◌}
use mathlib.Core.Path.{◌≡◌, refl, ◌∙◌}
use Prim.Native.Nat.{ℕ, ◌+◌, ◌≤◌}
use native.Mathlib.Omega.{arith}
use lib.Dec.{eqb}
use borrow.Author.Tests.{eqb-true}
use Rattle.basics.proofs.Cases.{by-test, not-both}
use Rattle.basics.specs.Lists.{In, counted}
use Rattle.basics.proofs.Lists.{in_left, counted-append, counted-ext, none-counted}
use Rattle.itemset.specs.Set.{has}
use Rattle.protocol.specs.declared.Message.{Message}
use Rattle.protocol.specs.Message.{parts_of, kind_of, is_got, is_first_reply, item_of}
use Rattle.condition3.specs.World.{Labelled, is_reply, is_reply_for, is_first_reply_for, is_got_for}

-- ---- each reply is of one kind

by_kind : (b g f c : Bool) → (g && f) ≡ false
    → cond ((b && (g || f)) && c) 1 0
    ≡ cond (((b && (g || f)) && c) && f) 1 0 + cond (((b && (g || f)) && c) && g) 1 0
by_kind false g f c e = refl
by_kind true false false c e = refl
by_kind true true false true e = refl
by_kind true true false false e = refl
by_kind true false true true e = refl
by_kind true false true false e = refl
by_kind true true true c e = not-both refl e

one-kind : (m : Message) → (is_got m && is_first_reply m) ≡ false
one-kind m = by-test (is_got m) (λ e. rw (eqb-true (kind_of m) 5 e) refl) (λ e. rw e refl)

pub counted-kinds : (d k : ℕ) (ls : List Labelled) → counted (is_reply_for d k) ls
    ≡ counted (is_first_reply_for d k) ls + counted (is_got_for d k) ls
unfolding counted
counted-kinds d k [] = refl
counted-kinds d k (l ∷ ls) =
    let m = l.message in
    omega (
      arith,
      counted-kinds d k ls,
      by_kind (eqb l.label.client d) (is_got m) (is_first_reply m) (eqb (item_of m) k) (one-kind m),
    )

-- ---- where all replies are first replies

abbrev pub AllFirst : ℕ → List Labelled → Type 0
AllFirst d ls = (l : Labelled) → In l ls → is_reply d l ≡ true → is_first_reply l.message ≡ true

pub first_counted : (d k : ℕ) (ls : List Labelled) → AllFirst d ls
    → counted (is_first_reply_for d k) ls ≡ counted (is_reply_for d k) ls
first_counted d k ls first =
    counted-ext (is_first_reply_for d k) (is_reply_for d k) ls
    (λ l i. by-test (is_reply d l)
    (λ e. rw (e, first l i e)
    (by-test (eqb (item_of l.message) k) (λ f. rw f refl) (λ f. rw f refl)))
    (λ e. rw e refl))

-- ---- the first replies of a read of s that has had them all, and asks for these stamps

-- one that is no later than `stamp`
pub record FirstCame (d k stamp : ℕ) (left : List Labelled) : Type 0 where
  pub reply : Labelled
  pub is_left : In reply left
  pub is_for : is_first_reply_for d k reply ≡ true
  pub not_later : (parts_of reply.message).stamp ≤ stamp

pub record Firsts (d s : ℕ) (asked : ℕ → ℕ) (left : List Labelled) : Type 0 where
  pub once : (k : ℕ) → counted (is_first_reply_for d k) left ≡ cond (has s k) 1 0
  pub came : (k : ℕ) → has s k ≡ true → FirstCame d k (asked k) left

-- no more of them come
pub firsts-stay : (d s : ℕ) (asked : ℕ → ℕ) (left more : List Labelled)
    → ((k : ℕ) (l : Labelled) → In l more → is_first_reply_for d k l ≡ false)
    → Firsts d s asked left → Firsts d s asked (left ++ more)
firsts-stay d s asked left more none f =
    record {
      once = λ k. counted-append (is_first_reply_for d k) left more
          ∙ omega (arith, none-counted (is_first_reply_for d k) more (none k), f.once k);
      came = λ k m. let y = f.came k m in record {
        reply = y.reply;
        is_left = in_left y.reply left more y.is_left;
        is_for = y.is_for;
        not_later = y.not_later;
      };
    }
