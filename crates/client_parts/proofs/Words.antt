-- A field of a part by the mode or the kind: the part is chosen as a whole, its fields one by one.
use mathlib.Core.Bool.{Bool, true, false, cond, not, ◌&&◌, ◌||◌}
use mathlib.Core.List.{List}
use mathlib.Core.Logic.{◌≢◌}
use mathlib.Core.Path.{◌≡◌, refl, sym, ◌∙◌}
use Prim.Native.Nat.{ℕ}
use lib.Dec.{eqb}
use borrow.Author.Tests.{ne_eqb}
use Rattle.basics.proofs.Cases.{by-test, not-both}
use Rattle.itemset.specs.Set.{has}
use Rattle.itemset.proofs.Laws.{has-empty}
use Rattle.protocol.specs.Tables.{ReadPart, WritePart, no_read, no_write, shows_write}
use Rattle.protocol.specs.Range.{has_first}
use Rattle.layout.specs.Layout.{at, scalars, asked, values, mode_at, stamp_at, last_kind_at, last_stamp_at}
use Rattle.layout.specs.Layout.{item_at, in_first_part, in_second_part, is_write_mode, is_mixed_mode}
use Rattle.layout.specs.Layout.{is_mixed_kind, read_value, written_value}
use Rattle.layout.specs.Decode.{read_in, write_in, last_write_in, client_in}

-- both words may be one
same-either : (t : Bool) (x : ℕ) → cond t x x ≡ x
same-either true x = refl
same-either false x = refl

-- the set's test, where the set is a part's
pub test_of : (s k own : ℕ) {t u : Bool} → t ≡ has s k → s ≡ own → t ≡ u → has own k ≡ u
test_of s k own t-is e f = rw e at (sym t-is ∙ f)

none_has : {P : Type 0} (k : ℕ) → has 0 k ≡ true → P
none_has k t = not-both t (has-empty k)

module _ (b : List ℕ) (d : ℕ) where
  abbrev n : ℕ
  n = at b scalars (mode_at d)

  abbrev kind : ℕ
  kind = at b scalars (last_kind_at d)

  -- ---- the write part

  -- field f of it
  pub write-field : (f : WritePart → ℕ) → f no_write ≡ 0 → {r m x y x' y' : ℕ}
      → r ≡ cond (is_write_mode m || is_mixed_mode m) (cond (is_mixed_mode m) y x) 0 → m ≡ n
      → x ≡ x' → y ≡ y' → cond (is_mixed_mode n) y' x' ≡ f (write_in b d)
      → r ≡ f (client_in b d).write
  unfolding client_in
  write-field f none r-is m-is x-is y-is here =
      rw (m-is, x-is, y-is) at r-is
      ∙ by-test (is_write_mode n || is_mixed_mode n) (λ e. rw e here) (λ e. rw e (sym none))

  -- and of the last ended one
  pub last-field : (f : WritePart → ℕ) → f no_write ≡ 0 → {r m x y x' y' : ℕ}
      → r ≡ cond (shows_write m) (cond (is_mixed_kind m) y x) 0 → m ≡ kind
      → x ≡ x' → y ≡ y' → cond (is_mixed_kind kind) y' x' ≡ f (last_write_in b d)
      → r ≡ f (client_in b d).last.write
  unfolding client_in
  last-field f none r-is m-is x-is y-is here =
      rw (m-is, x-is, y-is) at r-is
      ∙ by-test (shows_write kind) (λ e. rw e here) (λ e. rw e (sym none))

  -- its stamp, in one word
  pub write-stamp : {r m x : ℕ}
      → r ≡ cond (is_write_mode m || is_mixed_mode m) (cond (is_mixed_mode m) x x) 0 → m ≡ n
      → x ≡ at b scalars (stamp_at d) → r ≡ (client_in b d).write.stamp
  write-stamp r-is m-is x-is =
      write-field (λ p. p.stamp) refl r-is m-is x-is x-is
      (same-either (is_mixed_mode n) (at b scalars (stamp_at d)))

  pub last-stamp : {r m x : ℕ} → r ≡ cond (shows_write m) (cond (is_mixed_kind m) x x) 0
      → m ≡ kind → x ≡ at b scalars (last_stamp_at d) → r ≡ (client_in b d).last.write.stamp
  last-stamp r-is m-is x-is =
      last-field (λ p. p.stamp) refl r-is m-is x-is x-is
      (same-either (is_mixed_kind kind) (at b scalars (last_stamp_at d)))

  -- its value, where its set has item k
  pub write-value : (k : ℕ) {r m w : ℕ} → r ≡ written_value (is_mixed_mode m) w → m ≡ n
      → w ≡ at b values (item_at d k) → has (client_in b d).write.set k ≡ true
      → r ≡ (client_in b d).write.values k
  unfolding client_in
  write-value k r-is m-is w-is h =
      rw (m-is, w-is) at r-is
      ∙ by-test (is_write_mode n || is_mixed_mode n) (λ e. rw (e, (rw e at h)) refl)
      (λ e. none_has k (rw e at h))

  pub no-write-value : (k : ℕ) → has (client_in b d).write.set k ≡ false
      → 0 ≡ (client_in b d).write.values k
  unfolding client_in
  no-write-value k h =
      by-test (is_write_mode n || is_mixed_mode n) (λ e. rw (e, (rw e at h)) refl) (λ e. rw e refl)

  -- ---- the read part

  pub read-field : (f : ReadPart → ℕ) → f no_read ≡ 0 → {r m x : ℕ}
      → r ≡ cond (is_write_mode m) 0 x → m ≡ n → x ≡ f (read_in b d) → r ≡ f (client_in b d).read
  unfolding client_in
  read-field f none r-is m-is here =
      rw m-is at r-is ∙ by-test (is_write_mode n) (λ e. rw e (sym none)) (λ e. rw e here)

  pub stage-first : n ≡ in_first_part → 1 ≡ (client_in b d).read.stage
  unfolding client_in
  stage-first e = rw e refl

  pub stage-second : n ≡ in_second_part → 2 ≡ (client_in b d).read.stage
  unfolding client_in
  stage-second e = rw e refl

  pub stage-none : n ≢ in_first_part → n ≢ in_second_part → 0 ≡ (client_in b d).read.stage
  unfolding client_in
  stage-none x y =
      by-test (is_write_mode n) (λ e. rw e refl)
      (λ e. rw (e, ne_eqb n in_first_part x, ne_eqb n in_second_part y) refl)

  -- where its set has item k, and where it hasn't
  module _ (k : ℕ) (h : has (client_in b d).read.set k ≡ true) where
    pub asked-some : at b asked (item_at d k) ≡ (client_in b d).read.asked k
    unfolding client_in
    asked-some =
        by-test (is_write_mode n) (λ e. none_has k (rw e at h)) (λ e. rw (e, (rw e at h)) refl)

    pub answer-some : {r m w : ℕ} → r ≡ read_value (is_mixed_mode m) w → m ≡ n
        → w ≡ at b values (item_at d k) → r ≡ (client_in b d).read.values k
    unfolding client_in
    answer-some r-is m-is w-is =
        rw (m-is, w-is) at r-is
        ∙ by-test (is_write_mode n) (λ e. none_has k (rw e at h)) (λ e. rw (e, (rw e at h)) refl)

  module _ (k : ℕ) (h : has (client_in b d).read.set k ≡ false) where
    pub asked-none : 0 ≡ (client_in b d).read.asked k
    unfolding client_in
    asked-none = by-test (is_write_mode n) (λ e. rw e refl) (λ e. rw (e, (rw e at h)) refl)

    pub answer-none : 0 ≡ (client_in b d).read.values k
    unfolding client_in
    answer-none = by-test (is_write_mode n) (λ e. rw e refl) (λ e. rw (e, (rw e at h)) refl)

  pub come : (k : ℕ) {s a stage : ℕ} {own left : Bool}
      → s ≡ (client_in b d).read.set → a ≡ (client_in b d).read.awaited
      → stage ≡ (client_in b d).read.stage → own ≡ has s k → left ≡ has a k
      → (own && (eqb stage 2 || (eqb stage 1 && not left)))
      ≡ has_first (client_in b d).read k
  unfolding has_first
  come k s a e o l = rw (o, l, s, a, e) refl
