-- The pass that asks: each item of the set gets the stamp chosen from the view, and no value; of a
-- fast read the initial stamp.
use mathlib.Core.Bool.{true}
use mathlib.Core.List.{List}
use mathlib.Core.Path.{◌≡◌, refl, sym, ap, ◌∙◌, subst}
use Prim.Native.Nat.{ℕ, ◌+◌, ◌≤◌, ◌<◌}
use native.Mathlib.Omega.{arith}
use lib.ListN.{length, get_or, replicate, get_or-replicate}
use Rattle.basics.specs.Fold.{up_to}
use Rattle.basics.proofs.Cases.{by-test}
use Rattle.basics.proofs.Fold.{up_to-all, up_to-suc, turn-first}
use Rattle.itemset.specs.Set.{has}
use Rattle.protocol.specs.Steps.{choice}
use Rattle.layout.specs.Layout.{most_items, views, asked, values, needed, view_at}
use Rattle.layout.specs.Decode.{view_in}
use Rattle.layout.proofs.Kept.{Kept}
use Rattle.layout.proofs.ClientWords.{Words, words_of, with_row, rows_same}
use Rattle.layout.proofs.Changed.{Changed, changed-none, changed-rows}
use Rattle.layout.proofs.SameBut.{SameBut, same-but-refl, same-but-trans, same-but-put}
use Rattle.start.specs.Start.{ask_for, ask_from, ask_item}
use Rattle.start.specs.Choice.{entries_from, ChosenAfter}
use Rattle.start.proofs.Choice.{choice-ext, view_from, chosen-view}
use Rattle.itemset.proofs.Pass.{filled, pass-fills-two}

-- the choice looks at the view alone
kept-view : (b x : List ℕ) (d k : ℕ) → Kept views b x → 1 ≤ d → d ≤ 8 → k < 64
    → view_in x d k ≡ view_in b d k
kept-view b x d k h l g r =
    let stamp = h (view_at d k) (omega arith) in
    let set = h (view_at d k + 1) (omega arith) in
    λ i. record { stamp = stamp i; set = set i }

kept-choice : (b x : List ℕ) (d k items : ℕ) → Kept views b x → 1 ≤ d → d ≤ 8 → k < 64 → items ≤ 64
    → choice (view_in x d) k items ≡ choice (view_in b d) k items
kept-choice b x d k items h l g r m =
    choice-ext (view_in x d) (view_in b d) k items (kept-view b x d k h l g r)
    (λ i n. kept-view b x d i h l g (omega arith))

-- the words with these stamps asked for
abbrev pub asked_words : List ℕ → ℕ → ℕ → (ℕ → ℕ) → ℕ → Words
asked_words b d s stamps items =
    let w = words_of b d in
    with_row (with_row w asked (filled s items (w asked) stamps)) values
    (filled s items (w values) (λ k. 0))

-- a pass whose turn asks for such a stamp, as told of the block that it comes upon
module _ (b : List ℕ) (d s items : ℕ) (first : 1 ≤ d) (last : d ≤ 8) (narrow : items ≤ 64)
    (long : needed ≤ length b) where
  asked-row : (stamps : ℕ → ℕ) (told : List ℕ → ℕ → ℕ)
      → ((k : ℕ) (x : List ℕ) → k < items → Kept views b x → told x k ≡ stamps k)
      → Changed d b (up_to (λ x k. ask_for d s (told x k) x k) b items)
      (asked_words b d s stamps items)
  asked-row stamps told same =
      let w = words_of b d in
      pass-fills-two s items
      (λ row row' x. Changed d b x (with_row (with_row w asked row) values row'))
      _ b (w asked) stamps (w values) (λ k. 0)
      (subst (Changed d b b) (sym (rows_same w asked values)) (changed-none d b first last long))
      (λ k x row row' l e c.
      rw (← same k x l (c.same.kept views refl))
      (changed-rows w asked row values row' refl c k (told x k) 0 (omega arith) (omega arith)))

  pub asked-changed : Changed d b (up_to (ask_item d s items) b items)
      (asked_words b d s (λ k. choice (view_in b d) k items) items)
  asked-changed =
      asked-row (λ k. choice (view_in b d) k items) (λ x k. choice (view_in x d) k items)
      (λ k x l h. kept-choice b x d k items h first last (omega arith) narrow)

  pub nothing-changed : Changed d b (up_to (ask_for d s 0) b items)
      (asked_words b d s (λ k. 0) items)
  nothing-changed = asked-row (λ k. 0) (λ x k. 0) (λ k x l h. refl)

-- ---- stamps chosen beforehand are those that each turn would choose: no turn touches a view

asked-keeps : (d s stamp : ℕ) (x : List ℕ) (k : ℕ) → 1 ≤ d → d ≤ 8 → k < 64
    → SameBut d x (ask_for d s stamp x k)
asked-keeps d s stamp x k first last l =
    by-test (has s k)
    (λ e. rw e (same-but-trans (same-but-put d x asked k stamp first last l)
    (same-but-put d _ values k 0 first last l)))
    (λ e. rw e (same-but-refl d x))

module _ (b : List ℕ) (d s items : ℕ) (stamps x : List ℕ) (first : 1 ≤ d) (last : d ≤ 8)
    (narrow : items ≤ 64) (e : x ≡ up_to (ask_from d s stamps) b items) where
  asked-told : (told : List ℕ → ℕ → ℕ)
      → ((k : ℕ) (y : List ℕ) → k < items → has s k ≡ true → Kept views b y
      → get_or stamps k 0 ≡ told y k)
      → x ≡ up_to (λ y k. ask_for d s (told y k) y k) b items
  asked-told told same =
      e
      ∙ (up_to-all (λ k y. (y ≡ up_to turn b k) × SameBut d b y) (ask_from d s stamps) b
      items (turn-first turn b, same-but-refl d b)
      (λ k y l h. (
        by-test (has s k)
            (λ f. ap (λ (v : ℕ). ask_for d s v y k) (same k y l f (h.1.kept views refl)))
            (λ f. rw f)
            ∙ ap (λ (z : List ℕ). turn z k) h.0
            ∙ sym (up_to-suc turn b k),
        same-but-trans h.1 (asked-keeps d s (get_or stamps k 0) y k first last (omega arith)),
      ))).0
    where
      turn : List ℕ → ℕ → List ℕ
      turn y k = ask_for d s (told y k) y k

  pub asked-same : ChosenAfter (entries_from b (view_from d) true s) s items stamps
      → x ≡ up_to (ask_item d s items) b items
  asked-same chosen =
      asked-told (λ y k. choice (view_in y d) k items)
      (λ k y l f h. chosen-view b d s items stamps chosen narrow k l f
      ∙ sym (kept-choice b y d k items h first last (omega arith) narrow))

  pub asked-nothing : stamps ≡ replicate most_items 0 → x ≡ up_to (ask_for d s 0) b items
  asked-nothing blank =
      asked-told (λ y k. 0)
      (λ k y l f h. rw blank (get_or-replicate {A = ℕ} most_items k 0 0 (omega arith)))
