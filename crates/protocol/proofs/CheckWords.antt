-- The check, one version and one message after another: no version is alike one before it, and the
-- items that have a message of a client's part are a set, which grows by an item with a message
-- more, and no item is to come twice.
use mathlib.Core.Bool.{Bool, true, false, cond, not, ◌&&◌, ◌||◌, and-false}
use mathlib.Core.List.{List, [], ◌∷◌, ◌++◌}
use mathlib.Core.Path.{◌≡◌, refl, sym, ap, ◌∙◌}
use Prim.Native.Nat.{ℕ, ◌+◌, ◌^◌, ◌≤◌, ◌<◌}
use native.Mathlib.Omega.{arith}
use lib.Dec.{eqb, ltb}
use borrow.Author.Tests.{eqb-true, eqb-false, eq-eqb, ne_eqb, ltb-true, ltb-false, lt-ltb}
use Rattle.basics.proofs.Cases.{by-test, test-ext, and_left, and_right, and_both, not-true}
use Rattle.basics.proofs.Cases.{eqb_same}
use Rattle.basics.specs.Lists.{In, counted}
use Rattle.basics.proofs.Lists.{every-at, at_every, counted-append, none-counted}
use Rattle.itemset.specs.Set.{has, insert}
use Rattle.itemset.proofs.Laws.{has-empty, has_above, has-insert, set-ext}
use Rattle.protocol.specs.declared.Version.{Version}
use Rattle.protocol.specs.declared.Message.{Message}
use Rattle.protocol.specs.Tables.{Tables, Side, awaited_of}
use Rattle.protocol.specs.Message.{item_of, owner_of, of_side, is_for}
use Rattle.protocol.specs.Steps.{alike, stored}
use Rattle.protocol.specs.Check.{distinct, one_each}
use Rattle.protocol.proofs.Stored.{stored-append}

eqb-sym : (a b : ℕ) → eqb a b ≡ eqb b a
eqb-sym a b =
    by-test (eqb a b)
    (λ e. e ∙ sym (eq-eqb b a (sym (eqb-true a b e))))
    (λ e. e ∙ sym (ne_eqb b a (λ same. eqb-false a b e (sym same))))

-- ---- stored versions: none is alike one before it

shuffle : (a b c d : Bool)
    → (not (a || (b || false)) && (c && not d)) ≡ ((not a && c) && not (b || d))
shuffle true b c d = refl
shuffle false true c d = sym (and-false c)
shuffle false false c d = refl

alike-sym : (u v : Version) → alike u.item u.stamp v ≡ alike v.item v.stamp u
alike-sym u v = rw (eqb-sym v.item u.item, eqb-sym v.stamp u.stamp) refl

pub distinct_append : (vs : List Version) (v : Version)
    → distinct (vs ++ v ∷ []) ≡ (distinct vs && not (stored vs v.item v.stamp))
unfolding distinct stored
distinct_append [] v = refl
distinct_append (u ∷ us) v =
    rw (
      stored-append us (v ∷ []) u.item u.stamp,
      distinct_append us v,
      alike-sym u v,
    )
    (shuffle (stored us u.item u.stamp) (alike v.item v.stamp u) (distinct us)
    (stored us v.item v.stamp))

-- ---- the items that have a message of a client's part

-- a message of part σ of client d
abbrev pub is_of : Side → ℕ → Message → Bool
is_of σ d m = of_side σ m && eqb (owner_of m) d

unfoldable pub items_for : Side → ℕ → List Message → ℕ
items_for σ d [] = 0
items_for σ d (m ∷ ms) =
    let rest = items_for σ d ms in
    cond (is_of σ d m) (insert rest (item_of m)) rest

-- no item has two
unfoldable pub once : Side → ℕ → List Message → Bool
once σ d [] = true
once σ d (m ∷ ms) =
    not (is_of σ d m && has (items_for σ d ms) (item_of m)) && once σ d ms

more-none : (n : ℕ) → ltb 0 n ≡ ltb 0 (0 + n)
more-none n = let e : n ≡ 0 + n = omega arith in ap (ltb 0) e

none_more : (n : ℕ) → ltb 0 (n + (0 + 0)) ≡ ltb 0 n
none_more n = let e : n + (0 + 0) ≡ n = omega arith in ap (ltb 0) e

module _ (σ : Side) (d : ℕ) where
  is-for : (k : ℕ) (m : Message) → is_for σ d k m ≡ (is_of σ d m && eqb (item_of m) k)
  is-for k m = by-test (of_side σ m) (λ e. rw e refl) (λ e. rw e refl)

  pub has-items : (ms : List Message) (k : ℕ)
      → has (items_for σ d ms) k ≡ ltb 0 (counted (is_for σ d k) ms)
  unfolding items_for counted
  has-items [] k = has-empty k
  has-items (m ∷ ms) k =
      by-test (is_of σ d m)
      (λ e. rw (e, has-insert (items_for σ d ms) (item_of m) k, eqb-sym k (item_of m), is-for k m, e)
      (by-test (eqb (item_of m) k)
      (λ f. rw f (sym (lt-ltb 0 (1 + counted (is_for σ d k) ms) (omega arith))))
      (λ f. rw f (has-items ms k ∙ more-none (counted (is_for σ d k) ms)))))
      (λ e. rw (e, is-for k m, e) (has-items ms k ∙ more-none (counted (is_for σ d k) ms)))

  -- has it one message or more
  some_item_lem : (ms : List Message) (k : ℕ) → has (items_for σ d ms) k ≡ true
      → 1 ≤ counted (is_for σ d k) ms
  some_item_lem ms k e = ltb-true 0 (counted (is_for σ d k) ms) (sym (has-items ms k) ∙ e)

  no_item : (ms : List Message) (k : ℕ) → has (items_for σ d ms) k ≡ false
      → counted (is_for σ d k) ms ≡ 0
  no_item ms k e = omega (arith, ltb-false 0 (counted (is_for σ d k) ms) (sym (has-items ms k) ∙ e))

  pub once-few : (ms : List Message) → once σ d ms ≡ true → (k : ℕ)
      → counted (is_for σ d k) ms ≤ 1
  unfolding once counted
  once-few [] e k = omega arith
  once-few (m ∷ ms) e k =
      by-test (is_for σ d k m)
      (λ f. rw f (omega (arith, none f)))
      (λ f. rw f (omega (
        arith,
        once-few ms (and_right
            (not (is_of σ d m && has (items_for σ d ms) (item_of m))) (once σ d ms) e) k,
      )))
    where
      none : is_for σ d k m ≡ true → counted (is_for σ d k) ms ≡ 0
      none f =
          let both = sym (is-for k m) ∙ f in
          let item : item_of m ≡ k =
          eqb-true (item_of m) k (and_right (is_of σ d m) (eqb (item_of m) k) both) in
          let lacks : (is_of σ d m && has (items_for σ d ms) (item_of m)) ≡ false =
          not-true (is_of σ d m && has (items_for σ d ms) (item_of m))
          (and_left (not (is_of σ d m && has (items_for σ d ms) (item_of m))) (once σ d ms) e) in
          no_item ms k (rw (item, and_left (is_of σ d m) (eqb (item_of m) k) both) at lacks)

  pub few-once : (ms : List Message) → ((k : ℕ) → counted (is_for σ d k) ms ≤ 1)
      → once σ d ms ≡ true
  unfolding once counted
  few-once [] few = refl
  few-once (m ∷ ms) few =
      and_both (not (is_of σ d m && has (items_for σ d ms) (item_of m))) (once σ d ms)
      (by-test (is_of σ d m && has (items_for σ d ms) (item_of m))
      (λ e. absurd (twice e)) (λ e. rw e refl))
      (few-once ms (λ k. omega (arith, few k)))
    where
      twice : (is_of σ d m && has (items_for σ d ms) (item_of m)) ≡ true → ⊥
      twice e =
          let k = item_of m in
          let mine : is_for σ d k m ≡ true =
          is-for k m ∙ rw (and_left (is_of σ d m) (has (items_for σ d ms) k) e) (eqb_same k) in
          let here : ◌≡◌ {A = ℕ} (cond (is_for σ d k m) 1 0) 1 = rw mine refl in
          omega (
            arith,
            few k,
            here,
            some_item_lem ms k (and_right (is_of σ d m) (has (items_for σ d ms) k) e),
          )

  -- each grows by a message more
  pub items-for-append : (ms : List Message) (m : Message)
      → items_for σ d (ms ++ m ∷ [])
      ≡ cond (is_of σ d m) (insert (items_for σ d ms) (item_of m)) (items_for σ d ms)
  unfolding counted
  items-for-append ms m =
      set-ext (items_for σ d (ms ++ m ∷ []))
      (cond (is_of σ d m) (insert (items_for σ d ms) (item_of m)) (items_for σ d ms))
      (λ k. has-items (ms ++ m ∷ []) k
      ∙ ap (ltb 0) (counted-append (is_for σ d k) ms (m ∷ []))
      ∙ by-test (is_of σ d m)
      (λ e. rw (
        e,
        has-insert (items_for σ d ms) (item_of m) k,
        eqb-sym k (item_of m),
        is-for k m,
        e,
        has-items ms k,
      )
      (by-test (eqb (item_of m) k)
      (λ f. rw f (lt-ltb 0 (counted (is_for σ d k) ms + 1) (omega arith)))
      (λ f. rw f (none_more (counted (is_for σ d k) ms)))))
      (λ e. rw (e, is-for k m, e, has-items ms k) (none_more (counted (is_for σ d k) ms))))

  pub once-append : (ms : List Message) (m : Message)
      → once σ d (ms ++ m ∷ [])
      ≡ (once σ d ms && not (is_of σ d m && has (items_for σ d ms) (item_of m)))
  unfolding counted
  once-append ms m =
      test-ext (once σ d (ms ++ m ∷ []))
      (once σ d ms && not (is_of σ d m && has (items_for σ d ms) (item_of m)))
      (λ e. and_both (once σ d ms) (not (is_of σ d m && has (items_for σ d ms) (item_of m)))
      (few-once ms (λ k. omega (
        arith,
        counted-append (is_for σ d k) ms (m ∷ []),
        once-few (ms ++ m ∷ []) e k,
      )))
      (by-test (is_of σ d m && has (items_for σ d ms) (item_of m)) (λ f. absurd (twice e f))
      (λ f. rw f refl)))
      (λ e. few-once (ms ++ m ∷ []) (λ k. fits e k))
    where
      twice : once σ d (ms ++ m ∷ []) ≡ true
          → (is_of σ d m && has (items_for σ d ms) (item_of m)) ≡ true → ⊥
      twice e f =
          let k = item_of m in
          let mine : is_for σ d k m ≡ true =
          is-for k m ∙ rw (and_left (is_of σ d m) (has (items_for σ d ms) k) f) (eqb_same k) in
          let here : ◌≡◌ {A = ℕ} (cond (is_for σ d k m) 1 0) 1 = rw mine refl in
          omega (
            arith,
            here,
            counted-append (is_for σ d k) ms (m ∷ []),
            once-few (ms ++ m ∷ []) e k,
            some_item_lem ms k (and_right (is_of σ d m) (has (items_for σ d ms) k) f),
          )

      fits : (once σ d ms && not (is_of σ d m && has (items_for σ d ms) (item_of m))) ≡ true
          → (k : ℕ) → counted (is_for σ d k) (ms ++ m ∷ []) ≤ 1
      fits e k =
          let lacks : (is_of σ d m && has (items_for σ d ms) (item_of m)) ≡ false =
          not-true (is_of σ d m && has (items_for σ d ms) (item_of m))
          (and_right (once σ d ms) (not (is_of σ d m && has (items_for σ d ms) (item_of m))) e) in
          let few = once-few ms (and_left (once σ d ms)
          (not (is_of σ d m && has (items_for σ d ms) (item_of m))) e) k in
          by-test (is_for σ d k m)
          (λ f.
          let both = sym (is-for k m) ∙ f in
          let item : item_of m ≡ k =
          eqb-true (item_of m) k (and_right (is_of σ d m) (eqb (item_of m) k) both) in
          let none : counted (is_for σ d k) ms ≡ 0 =
          no_item ms k (rw (item, and_left (is_of σ d m) (eqb (item_of m) k) both) at lacks) in
          let here : ◌≡◌ {A = ℕ} (cond (is_for σ d k m) 1 0) 1 = rw f refl in
          omega (arith, here, none, counted-append (is_for σ d k) ms (m ∷ [])))
          (λ f. let here : ◌≡◌ {A = ℕ} (cond (is_for σ d k m) 1 0) 0 = rw f refl in
          omega (arith, here, few, counted-append (is_for σ d k) ms (m ∷ [])))

-- an item that doesn't exist has none and isn't awaited
pub one-all : (t : Tables) (σ : Side) (d : ℕ)
    → ((m : Message) → In m t.messages → item_of m < t.sizes.items)
    → awaited_of σ (t.client d) < 2 ^ t.sizes.items
    → one_each t σ d ≡ true → (k : ℕ)
    → counted (is_for σ d k) t.messages ≡ cond (has (awaited_of σ (t.client d)) k) 1 0
one-all t σ d below within e k =
    let n = t.sizes.items in
    let a = awaited_of σ (t.client d) in
    by-test (ltb k n)
    (λ l. eqb-true (counted (is_for σ d k) t.messages) (cond (has a k) 1 0)
    (every-at n (λ j. eqb (counted (is_for σ d j) t.messages) (cond (has a j) 1 0)) e k
    (ltb-true k n l)))
    (λ l. none-counted (is_for σ d k) t.messages
    (λ m i. other m i (ltb-false k n l))
    ∙ sym (rw (has_above a k n within (ltb-false k n l)) refl))
  where
    other : (m : Message) → In m t.messages → t.sizes.items ≤ k → is_for σ d k m ≡ false
    other m i l = is-for σ d k m
        ∙ rw (ne_eqb (item_of m) k (λ same. omega (arith, below m i))) (and-false (is_of σ d m))

-- one message each: none has two, and those that have one are those awaited
pub one-items : (t : Tables) (σ : Side) (d : ℕ)
    → ((m : Message) → In m t.messages → item_of m < t.sizes.items)
    → awaited_of σ (t.client d) < 2 ^ t.sizes.items
    → one_each t σ d
    ≡ (once σ d t.messages && eqb (items_for σ d t.messages) (awaited_of σ (t.client d)))
one-items t σ d below within =
    let ms = t.messages in
    let a = awaited_of σ (t.client d) in
    test-ext (one_each t σ d) (once σ d ms && eqb (items_for σ d ms) a)
    (λ e.
    let one = one-all t σ d below within e in
    and_both (once σ d ms) (eqb (items_for σ d ms) a)
    (few-once σ d ms (λ k. rw (one k)
    (by-test (has a k) (λ h. rw h (omega arith)) (λ h. rw h (omega arith)))))
    (eq-eqb (items_for σ d ms) a (set-ext (items_for σ d ms) a (λ k.
    has-items σ d ms k ∙ ap (ltb 0) (one k)
    ∙ by-test (has a k) (λ h. rw h refl) (λ h. rw h refl)))))
    (λ e.
    let few = once-few σ d ms (and_left (once σ d ms) (eqb (items_for σ d ms) a) e) in
    let same : items_for σ d ms ≡ a =
    eqb-true (items_for σ d ms) a (and_right (once σ d ms) (eqb (items_for σ d ms) a) e) in
    at_every t.sizes.items (λ k. eqb (counted (is_for σ d k) ms) (cond (has a k) 1 0))
    (λ k l. eq-eqb (counted (is_for σ d k) ms) (cond (has a k) 1 0)
    (by-test (has a k)
    (λ h. rw h (omega (arith, few k, some_item_lem σ d ms k (rw same h))))
    (λ h. rw h (no_item σ d ms k (rw same h))))))
