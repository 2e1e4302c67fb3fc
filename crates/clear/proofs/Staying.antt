-- The versions that stay, one after another: their words are a run from the first version's place
-- on, which never reaches a version that is still to come.
use mathlib.Core.Bool.{false, cond}
use mathlib.Core.List.{List, [], ◌∷◌, ◌++◌, append-nil}
use mathlib.Core.Logic.{◌≢◌}
use mathlib.Core.Path.{◌≡◌, refl, sym, ap, ◌∙◌}
use Prim.Native.Nat.{ℕ, suc, ◌+◌, ◌*◌, ◌≤◌, ◌<◌}
use native.Mathlib.Numerals.{add-one}
use native.Mathlib.Omega.{arith}
use lib.ListN.{length, length-append}
use lib.Seq.{sets}
use Rattle.basics.specs.Lists.{table, dropped}
use Rattle.basics.proofs.Cases.{by-test}
use Rattle.basics.proofs.Lists.{length-table, length-dropped, dropped-append}
use Rattle.protocol.specs.declared.Version.{Version}
use Rattle.layout.specs.Layout.{version_words, versions, base, at, version_at}
use Rattle.layout.specs.Decode.{version_in}
use Rattle.layout.specs.Store.{words_of_version, store_version}
use Rattle.slots.proofs.Runs.{get_or-sets-behind}
use Rattle.hexadecimal.proofs.Stores.{sets-append}
use Rattle.clear.specs.Clear.{words_of_versions}
use Rattle.clear.specs.Stamps.{absent, staying, NoneInitial}

-- ---- words of versions

pub length-words : (vs : List Version) → length (words_of_versions vs) ≡ version_words * length vs
unfolding words_of_versions
length-words [] = refl
length-words (v ∷ vs) = omega (arith, length-words vs)

words_append : (us vs : List Version)
    → words_of_versions (us ++ vs) ≡ words_of_versions us ++ words_of_versions vs
unfolding words_of_versions
words_append [] vs = refl
words_append (u ∷ us) vs = rw (words_append us vs) refl

-- one more
words-one : (us : List Version) (v : Version)
    → words_of_versions (us ++ v ∷ []) ≡ words_of_versions us ++ words_of_version v
unfolding words_of_versions
words-one us v = words_append us (v ∷ [])

-- ---- those that stay

module _ (stamps b : List ℕ) where
  staying-le : (n : ℕ) → length (staying stamps b n) ≤ n
  unfolding staying
  staying-le n =
      omega (
        arith,
        length-dropped (λ v. absent stamps v.stamp) (table n (version_in b)),
        length-table n (version_in b),
      )

  pub staying-below : (n kept : ℕ) → kept ≡ length (staying stamps b n) → kept ≤ n
  staying-below n kept e = omega (arith, staying-le n)

  staying-next : (n : ℕ) → staying stamps b (suc n)
      ≡ cond (absent stamps (version_in b n).stamp) (staying stamps b n)
      (staying stamps b n ++ version_in b n ∷ [])
  unfolding staying table dropped
  staying-next n =
      dropped-append (λ v. absent stamps v.stamp) (table n (version_in b)) (version_in b n ∷ [])
      ∙ by-test (absent stamps (version_in b n).stamp) (λ e. rw e (append-nil _)) (λ e. rw e refl)

  abbrev moved : ℕ → List ℕ
  moved n = sets b (base versions) (words_of_versions (staying stamps b n))

  -- the words of a version to come are as they were
  word_kept : (n f : ℕ) → at (moved n) versions (version_at n f) ≡ at b versions (version_at n f)
  word_kept n f =
      get_or-sets-behind b (base versions) (words_of_versions (staying stamps b n))
      (base versions + version_at n f) 0
      (omega (arith, length-words (staying stamps b n), staying-le n))

  version-kept : (n : ℕ) → version_in (moved n) n ≡ version_in b n
  version-kept n = rw (word_kept n 0, word_kept n 1, word_kept n 2, word_kept n 3) refl

  moved-next : (n : ℕ) → absent stamps (version_in b n).stamp ≡ false
      → store_version (moved n) (length (staying stamps b n)) (version_in b n) ≡ moved (suc n)
  unfolding store_version
  moved-next n e = sym (rw (staying-next n, e) (the-run n))
    where
      the-run : (n : ℕ) → sets b (base versions)
          (words_of_versions (staying stamps b n ++ version_in b n ∷ []))
          ≡ sets (moved n) (base versions + version_at (length (staying stamps b n)) 0)
          (words_of_version (version_in b n))
      the-run n =
          ap (sets b (base versions)) (words-one (staying stamps b n) (version_in b n))
          ∙ sets-append b (base versions) (words_of_versions (staying stamps b n))
          (words_of_version (version_in b n))
          ∙ ap (λ (p : ℕ). sets (moved n) p (words_of_version (version_in b n)))
          (omega (arith, length-words (staying stamps b n)))

-- ---- the loop

-- after the first i of n versions
pub record Kept (stamps b₀ : List ℕ) (n : ℕ) (b : List ℕ) (kept i : ℕ) : Type 0 where
  pub few : i ≤ n
  pub count : kept ≡ length (staying stamps b₀ i)
  pub block : b ≡ moved stamps b₀ i
  pub long : length b ≡ length b₀
  pub below : kept ≤ i

pub kept-first : (stamps b : List ℕ) (n : ℕ) → Kept stamps b n b 0 0
unfolding staying table dropped words_of_versions
kept-first stamps b n = record {
  few = omega arith;
  count = refl;
  block = refl;
  long = refl;
  below = omega arith;
}

module _ {stamps b₀ : List ℕ} {n : ℕ} {b : List ℕ} {kept i : ℕ}
    (k : Kept stamps b₀ n b kept i) where
  -- the version to come is still there
  pub kept-version : version_in b i ≡ version_in b₀ i
  kept-version = ap (λ (l : List ℕ). version_in l i) k.block ∙ version-kept stamps b₀ i

  pub kept-stamp : NoneInitial b₀ n → i < n → (version_in b i).stamp ≢ 0
  kept-stamp none l e = none i l (ap (λ (v : Version). v.stamp) (sym kept-version) ∙ e)

  pub kept_next : (b' : List ℕ) (kept' : ℕ) → i < n
      → kept' ≡ cond (absent stamps (version_in b i).stamp) kept (kept + 1)
      → b' ≡ cond (absent stamps (version_in b i).stamp) b (store_version b kept (version_in b i))
      → length b' ≡ length b
      → Kept stamps b₀ n b' kept' (i + 1)
  kept_next b' kept' l e f long =
      let e₀ : kept' ≡ cond (absent stamps (version_in b₀ i).stamp) kept (kept + 1) =
      e ∙ ap (λ (v : Version). cond (absent stamps v.stamp) kept (kept + 1)) kept-version in
      let f₀ : b' ≡ cond (absent stamps (version_in b₀ i).stamp) b
      (store_version b kept (version_in b₀ i)) =
      f ∙ ap (λ (v : Version). cond (absent stamps v.stamp) b (store_version b kept v))
      kept-version in
      by-test (absent stamps (version_in b₀ i).stamp)
      (λ gone.
      let one : staying stamps b₀ (suc i) ≡ staying stamps b₀ i =
      staying-next stamps b₀ i ∙ rw gone refl in
      let e' : kept' ≡ kept = e₀ ∙ rw gone refl in
      let f' : b' ≡ b = f₀ ∙ rw gone refl in
      rw (add-one i) (record {
        few = omega arith;
        count = e' ∙ k.count ∙ ap length (sym one);
        block = f' ∙ k.block
            ∙ ap (λ (vs : List Version). sets b₀ (base versions) (words_of_versions vs)) (sym one);
        long = long ∙ k.long;
        below = omega (arith, k.below);
      }))
      (λ stays.
      let one : staying stamps b₀ (suc i) ≡ staying stamps b₀ i ++ version_in b₀ i ∷ [] =
      staying-next stamps b₀ i ∙ rw stays refl in
      let e' : kept' ≡ kept + 1 = e₀ ∙ rw stays refl in
      let f' : b' ≡ store_version b kept (version_in b₀ i) = f₀ ∙ rw stays refl in
      rw (add-one i) (record {
        few = omega arith;
        count = omega (
          arith,
          e',
          k.count,
          ap length one,
          length-append (staying stamps b₀ i) (version_in b₀ i ∷ []),
        );
        block = f' ∙ rw (k.block, k.count) refl ∙ moved-next stamps b₀ i stays;
        long = long ∙ k.long;
        below = omega (arith, k.below);
      }))
