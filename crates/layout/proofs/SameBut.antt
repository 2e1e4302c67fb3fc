-- Two blocks that differ in words of one client alone, its view apart: the relation is reflexive
-- and transitive, and a store to such a word gives it.
use mathlib.Core.List.{List}
use mathlib.Core.Logic.{◌≢◌}
use mathlib.Core.Path.{◌≡◌, refl, sym, ◌∙◌}
use Prim.Native.Nat.{ℕ, ◌≤◌, ◌<◌}
use lib.ListN.{length}
use Rattle.layout.specs.Layout.{Section, store}
use Rattle.layout.proofs.At.{length-store, at-store-other}
use Rattle.layout.proofs.Kept.{Kept, kept_trans}
use Rattle.layout.proofs.Sections.{row_width, row_at}
use Rattle.layout.proofs.ClientWords.{has_words, has-words-trans, has-words-beside}
use Rattle.layout.proofs.ClientWords.{beside-rows, beside-row, KeptClient}

pub record SameBut (d : ℕ) (b b' : List ℕ) : Type 0 where
  pub long : length b' ≡ length b
  pub kept : (s : Section) → row_width s ≡ 0 → Kept s b b'
  pub others : (e : ℕ) → 1 ≤ e → e ≤ 8 → e ≢ d → KeptClient e b b'

pub same-but-refl : (d : ℕ) (b : List ℕ) → SameBut d b b
same-but-refl d b = record {
  long = refl;
  kept = λ s n i l. refl;
  others = λ e l h n. has_words e b;
}

pub same-but-trans : {d : ℕ} {a b c : List ℕ} → SameBut d a b → SameBut d b c → SameBut d a c
same-but-trans {d} {a} {b} {c} p q =
    record {
      long = q.long ∙ p.long;
      kept = λ s n. kept_trans s a b c (p.kept s n) (q.kept s n);
      others = λ e l h n. has-words-trans (p.others e l h n) (q.others e l h n);
    }

-- a store to a word of the client
pub same-but-put : (d : ℕ) (b : List ℕ) (s : Section) (k v : ℕ) → 1 ≤ d → d ≤ 8 → k < row_width s
    → SameBut d b (store b s (row_at s d k) v)
same-but-put d b s k v first last l =
    record {
      long = length-store b s (row_at s d k) v;
      kept = λ r none i g. at-store-other b s (row_at s d k) v r i
          (λ e. (beside-rows d r i first last none g).row s k l (sym e));
      others = λ e p q n.
          has-words-beside s (row_at s d k) v (beside-row d e s k first last p q n l)
          (has_words e b);
    }
