-- The entries that the tests go through are latest, and then the views.
use mathlib.Core.Bool.{◌&&◌}
use mathlib.Core.List.{List}
use mathlib.Core.Path.{◌≡◌, ap, ap₂, ◌∙◌}
use Prim.Native.Nat.{ℕ, suc, ◌+◌, ◌*◌}
use native.Mathlib.Omega.{arith}
use lib.ListN.{get_or}
use Rattle.basics.specs.Lists.{every}
use Rattle.protocol.specs.declared.Entry.{Entry}
use Rattle.protocol.specs.Range.{entry_in_range}
use Rattle.layout.specs.Layout.{entry_words, base, latest, views, latest_at, view_at}
use Rattle.layout.specs.Decode.{latest_in, view_in}
use Rattle.gather.specs.Sized.{sized}
use Rattle.gather.proofs.Tested.{every-same, every_first}
use Rattle.range_client.specs.Entries.{entry_from}
use Rattle.range.specs.Entries.{entries_at}

module _ (b : List ℕ) where
  entry_at : {p q p' q' : ℕ} → p ≡ p' → q ≡ q'
      → ◌≡◌ {A = Entry} (record { stamp = get_or b p 0; set = get_or b q 0 })
      (record { stamp = get_or b p' 0; set = get_or b q' 0 })
  entry_at e f = λ i. record { stamp = get_or b (e i) 0; set = get_or b (f i) 0 }

  entry-latest : (k : ℕ) → entry_from b (entries_at 0) k ≡ latest_in b k
  entry-latest k =
      let p : entries_at 0 + (entry_words * k + 0) ≡ base latest + latest_at k = omega arith in
      let q : entries_at 0 + (entry_words * k + 1) ≡ base latest + (latest_at k + 1) = omega arith in
      entry_at p q

  entry-view : (i k : ℕ) → entry_from b (entries_at (suc i)) k ≡ view_in b (suc i) k
  entry-view i k =
      let n = suc i in
      let p : entries_at n + (entry_words * k + 0) ≡ base views + view_at n k = omega arith in
      let q : entries_at n + (entry_words * k + 1) ≡ base views + (view_at n k + 1) = omega arith in
      entry_at p q

  pub entries-tests : (clients items : ℕ)
      → every (suc clients) (λ i. every items (λ k. entry_in_range (sized clients items)
      (entry_from b (entries_at i) k)))
      ≡ (every items (λ k. entry_in_range (sized clients items) (latest_in b k))
      && every clients (λ i. every items (λ k. entry_in_range (sized clients items)
      (view_in b (suc i) k))))
  entries-tests clients items =
      every_first clients _
      ∙ ap₂ ◌&&◌
      (every-same items _ _ (λ k l. ap (entry_in_range (sized clients items)) (entry-latest k)))
      (every-same clients _ _ (λ i l. every-same items _ _
      (λ k m. ap (entry_in_range (sized clients items)) (entry-view i k))))
