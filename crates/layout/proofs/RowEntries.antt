-- A row of words as entries, two words each: an entry stored there leaves the others as they are.
use mathlib.Core.Path.{◌≡◌, ◌∙◌}
use mathlib.Core.Logic.{◌≢◌}
use Prim.Native.Nat.{ℕ, ◌+◌, ◌*◌, ◌≤◌}
use native.Mathlib.Omega.{arith}
use Rattle.protocol.specs.declared.Entry.{Entry}
use Rattle.protocol.specs.Tables.{put}
use Rattle.protocol.proofs.Put.{put_same, put_other, put-every}
use Rattle.layout.specs.Layout.{entry_words}
use Rattle.layout.proofs.SameEntry.{same-entry}

-- entry k of the row f
abbrev pub entries_of : (ℕ → ℕ) → ℕ → Entry
entries_of f k = record { stamp = f (entry_words * k + 0); set = f (entry_words * k + 1) }

-- f with the words of e for entry k
abbrev pub put_entry : (ℕ → ℕ) → ℕ → Entry → ℕ → ℕ
put_entry f k e = put (put f (entry_words * k + 0) e.stamp) (entry_words * k + 1) e.set

module _ (f : ℕ → ℕ) (k : ℕ) (e : Entry) where
  abbrev one : ℕ → ℕ
  one = put f (entry_words * k + 0) e.stamp

  same : entries_of (put_entry f k e) k ≡ e
  same =
      same-entry
      (put_other one (entry_words * k + 1) e.set (entry_words * k + 0) (omega arith)
      ∙ put_same f (entry_words * k + 0) e.stamp)
      (put_same one (entry_words * k + 1) e.set)

  word-other : (j i : ℕ) → j ≢ k → i ≤ 1 → put_entry f k e (entry_words * j + i)
      ≡ f (entry_words * j + i)
  word-other j i n l =
      put_other one (entry_words * k + 1) e.set (entry_words * j + i) (omega (arith, n))
      ∙ put_other f (entry_words * k + 0) e.stamp (entry_words * j + i) (omega (arith, n))

  pub entries-put : (j : ℕ) → entries_of (put_entry f k e) j ≡ put (entries_of f) k e j
  entries-put =
      put-every (λ (j : ℕ) (x : Entry). entries_of (put_entry f k e) j ≡ x) (entries_of f) k e same
      (λ j n. same-entry (word-other j 0 n (omega arith)) (word-other j 1 n (omega arith)))
