-- Which words of the first replies are fields goes by their client's mode: in a fast read's first
-- part those of the items no longer awaited, in its second part those of all of the set, in any
-- other mode none.
use mathlib.Core.Bool.{Bool, true, false, not, ◌&&◌, and-true}
use mathlib.Core.List.{List}
use mathlib.Core.Logic.{◌≢◌}
use mathlib.Core.Path.{◌≡◌, refl, ◌∙◌}
use Prim.Native.Nat.{ℕ}
use lib.Dec.{eqb}
use borrow.Author.Tests.{eqb-true, ne_eqb}
use Rattle.basics.proofs.Cases.{by-test}
use Rattle.itemset.specs.Set.{has}
use Rattle.protocol.specs.declared.Entry.{Entry}
use Rattle.protocol.specs.Tables.{ReadPart, initial}
use Rattle.protocol.specs.Range.{has_first}
use Rattle.protocol.proofs.FastRead.{no-first, first-same}
use Rattle.layout.specs.Layout.{scalars, at, mode_at, set_at, awaited_at, is_write_mode, stage_of}
use Rattle.layout.specs.Decode.{read_of, read_in}

-- ---- modes and stages

pub stage-first : (mode : ℕ) → eqb (stage_of mode) 1 ≡ eqb mode 3
stage-first mode =
    by-test (eqb mode 3) (λ e. rw e refl)
    (λ e. by-test (eqb mode 4) (λ f. rw (e, f) refl) (λ f. rw (e, f) refl))

pub stage-second : (mode : ℕ) → eqb (stage_of mode) 2 ≡ eqb mode 4
stage-second mode =
    by-test (eqb mode 3) (λ e. rw (eqb-true mode 3 e) refl)
    (λ e. by-test (eqb mode 4) (λ f. rw (e, f) refl) (λ f. rw (e, f) refl))

pub no-fast : (mode : ℕ) → mode ≢ 3 → mode ≢ 4 → stage_of mode ≡ 0
no-fast mode n m = rw (ne_eqb mode 3 n, ne_eqb mode 4 m) refl

pub write-stage : (mode : ℕ) → is_write_mode mode ≡ true → stage_of mode ≡ 0
write-stage mode w = rw (eqb-true mode 2 w) refl

-- ---- which have come

module _ (b : List ℕ) (d k : ℕ) where
  abbrev mode : ℕ
  mode = at b scalars (mode_at d)

  abbrev own : Bool
  own = has (at b scalars (set_at d)) k

  abbrev awaits : Bool
  awaits = has (at b scalars (awaited_at d)) k

  pub come-first : mode ≡ 3 → has_first (read_in b d) k ≡ (own && not awaits)
  unfolding has_first
  come-first e = rw e refl

  pub come-second : mode ≡ 4 → has_first (read_in b d) k ≡ own
  unfolding has_first
  come-second e = rw e (and-true own)

  pub come-none : stage_of mode ≡ 0 → has_first (read_in b d) k ≡ false
  come-none = no-first (read_in b d) k

-- ---- and what the tables have of them

module _ (s awaited stage : ℕ) (stamps vs : ℕ → ℕ) (replies : ℕ → Entry) (k : ℕ) where
  abbrev part : ReadPart
  part = read_of s awaited stage stamps vs replies

  same : has_first (record {
    set = s;
    awaited = awaited;
    asked = stamps;
    values = vs;
    stage = stage;
    firsts = replies;
  }) k ≡ has_first part k
  same = first-same part _ k refl refl refl

  pub reply-come : has_first part k ≡ true → part.firsts k ≡ replies k
  reply-come e = rw (same ∙ e) refl

  pub reply-none : has_first part k ≡ false → part.firsts k ≡ initial
  reply-none e = rw (same ∙ e) refl
