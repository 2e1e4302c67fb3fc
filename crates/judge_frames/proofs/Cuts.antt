-- Laws of frames cut out of an array of bytes: a search over them, and what storing behind them
-- leaves as it was.
use mathlib.Core.Bool.{Bool}
use mathlib.Core.List.{List, [], ◌∷◌, ◌++◌, append_assoc, append-nil}
use mathlib.Core.Path.{◌≡◌, refl, sym, ap, ap₂, ◌∙◌}
use Prim.Native.Nat.{ℕ, zero, suc, ◌+◌, ◌-◌, ◌≤◌, ◌<◌}
use native.Mathlib.Nat.{not-suc-le-zero, le_of_suc-le-suc, eq-or-lt_of_le}
use native.Mathlib.Omega.{arith}
use mathlib.Core.Logic.{⊎_elim}
use lib.Dec.{leb}
use lib.ListN.{length, get_or, take, drop, set, length-append, length-drop, length-set}
use lib.ListN.{drop_of_length-le, get_or-append}
use lib.Seq.{sets, sets-eq, take_all, take_at, drop_at, drop-drop, get_or_at}
use lib.Seq.{get_or-set_other, drop-set-add, take-set-le, length-take-le, length-sets}
use borrow.Author.Tests.{leb-true, le-leb}
use Rattle.basics.proofs.Cases.{by-test, test-ext}
use Rattle.log_format.specs.Some.{some, some_from}
use Rattle.log_format.proofs.Some.{some_at, at_some, some_from-at, at-some_from}
use Rattle.judge_frames.specs.Cut.{part, frame_in, frames_in}

module _ (bytes starts : List ℕ) where
  pub length-frames_in : (n : ℕ) → length (frames_in bytes starts n) ≡ n
  unfolding frames_in
  length-frames_in zero = refl
  length-frames_in (suc n) =
      length-append (frames_in bytes starts n) (frame_in bytes starts n ∷ [])
      ∙ omega (arith, length-frames_in n)

  pub frames_in-at : (n i : ℕ) → i < n → get_or (frames_in bytes starts n) i [] ≡ frame_in bytes starts i
  unfolding frames_in
  frames_in-at zero i h = absurd (not-suc-le-zero h)
  frames_in-at (suc n) i h =
      let before : i < n → get_or (frames_in bytes starts n ++ frame_in bytes starts n ∷ []) i []
      ≡ frame_in bytes starts i =
      λ l. get_or-append (frames_in bytes starts n) (frame_in bytes starts n
      ∷ []) [] i (omega (arith, length-frames_in n)) ∙ frames_in-at n i l in
      ⊎_elim
      (λ e.
      get_or_at (frames_in bytes starts n) (frame_in bytes starts n) [] [] i (length-frames_in n ∙ sym e)
      ∙ ap (frame_in bytes starts) (sym e))
      before
      (eq-or-lt_of_le (le_of_suc-le-suc h))

  -- ---- a search over the frames is one over their places

  pub frames-some : (p : List ℕ → Bool) (n : ℕ)
      → some_from n 0 (λ j. p (frame_in bytes starts j)) ≡ some p (frames_in bytes starts n)
  frames-some p n =
      let frames = frames_in bytes starts n in
      test-ext (some_from n 0 (λ j. p (frame_in bytes starts j))) (some p frames)
      (λ e.
      let f = some_from-at n 0 (λ j. p (frame_in bytes starts j)) e in
      let inside : f.0 < n = omega (arith, f.2) in
      at_some p frames [] f.0 (omega (arith, length-frames_in n))
      (ap p (frames_in-at n f.0 inside) ∙ f.3))
      (λ e.
      let f = some_at p frames [] e in
      let inside : f.0 < n = omega (arith, f.1, length-frames_in n) in
      at-some_from n 0 (λ j. p (frame_in bytes starts j)) f.0 (omega arith) (omega arith)
      (ap p (sym (frames_in-at n f.0 inside)) ∙ f.2))

-- ---- bytes stored behind the frames

pub part-set : (s : List ℕ) (at x a e : ℕ) → e ≤ at → part (set s at x) a e ≡ part s a e
unfolding part
part-set s at x a e h =
    by-test (leb a e)
    (λ t.
    let l = leb-true a e t in
    let move : set s at x ≡ set s (a + (at - a)) x = ap (λ (i : ℕ). set s i x) (omega arith) in
    let inside : take (e - a) (drop a (set s at x)) ≡ take (e - a) (drop a s) =
    ap (λ (z : List ℕ). take (e - a) (drop a z)) move
    ∙ ap (take (e - a)) (drop-set-add a s (at - a) x)
    ∙ take-set-le (e - a) (drop a s) (at - a) x (omega arith) in
    rw (t, length-set s at x, inside))
    (λ t. rw t)

pub part-sets : (vs s : List ℕ) (at a e : ℕ) → e ≤ at → part (sets s at vs) a e ≡ part s a e
part-sets [] s at a e h = refl
part-sets (v ∷ vs) s at a e h = part-sets vs (set s at v) (suc at) a e (omega arith)
    ∙ part-set s at v a e h

-- stored in the part of s from `at` on, and the part put back
pub put-part : (vs s : List ℕ) (at : ℕ) → at + length vs ≤ length s
    → take at s ++ (sets (take (length s - at) (drop at s)) 0 vs ++ drop (length s - at)
    (drop at s)) ≡ sets s at vs
put-part vs s at h =
    let size = length-drop at s in
    let whole : take (length s - at) (drop at s) ≡ drop at s =
    take_all (length s - at) (drop at s) (omega arith) in
    let none : drop (length s - at) (drop at s) ≡ [] =
    drop_of_length-le (drop at s) {i = length s - at} (omega arith) in
    let same : at + (0 + length vs) ≡ at + length vs = omega arith in
    let inner : sets (drop at s) 0 vs ≡ vs ++ drop (at + length vs) s =
    sets-eq vs (drop at s) 0 (omega arith)
    ∙ ap (λ (l : List ℕ). vs ++ l)
    (drop-drop (0 + length vs) at s ∙ ap (λ (n : ℕ). drop n s) same) in
    rw (whole, none)
    (ap (λ (l : List ℕ). take at s ++ l) (append-nil (sets (drop at s) 0 vs) ∙ inner)
    ∙ sym (append_assoc (take at s) vs (drop (at + length vs) s))
    ∙ sym (sets-eq vs s at h))

-- the bytes stored are the part that they were stored in
pub part-new : (vs s : List ℕ) (at e : ℕ) → e ≡ at + length vs → e ≤ length s
    → part (sets s at vs) at e ≡ vs
unfolding part
part-new vs s at e t h =
    let front : length (take at s) ≡ at = length-take-le at s (omega arith) in
    let inside : take (e - at) (drop at (sets s at vs)) ≡ vs =
    ap (λ (z : List ℕ). take (e - at) (drop at z)) (sets-eq vs s at (omega arith))
    ∙ ap (λ (z : List ℕ). take (e - at) (drop at z))
    (append_assoc (take at s) vs (drop (at + length vs) s))
    ∙ ap (take (e - at)) (drop_at (take at s) (vs ++ drop (at + length vs) s) at front)
    ∙ take_at vs (drop (at + length vs) s) (e - at) (omega arith) in
    rw (le-leb at e (omega arith), length-sets s at vs, le-leb e (length s) h) inside

pub frames_in-sets : (bytes starts vs : List ℕ) (at n : ℕ) → ((j : ℕ) → j ≤ n → get_or starts j 0 ≤ at)
    → frames_in (sets bytes at vs) starts n ≡ frames_in bytes starts n
unfolding frames_in
frames_in-sets bytes starts vs at zero h = refl
frames_in-sets bytes starts vs at (suc n) h =
    ap₂ (λ (fs : List (List ℕ)) (f : List ℕ). fs ++ f ∷ [])
    (frames_in-sets bytes starts vs at n (λ j l. h j (omega arith)))
    (part-sets vs bytes at (get_or starts n 0) (get_or starts (n + 1) 0) (h (n + 1) (omega arith)))

-- a start marked behind them
pub frames_in-mark : (bytes starts : List ℕ) (k x n : ℕ) → n < k
    → frames_in bytes (set starts k x) n ≡ frames_in bytes starts n
unfolding frames_in
frames_in-mark bytes starts k x zero h = refl
frames_in-mark bytes starts k x (suc n) h =
    ap₂ (λ (fs : List (List ℕ)) (f : List ℕ). fs ++ f ∷ [])
    (frames_in-mark bytes starts k x n (omega arith))
    (ap₂ (part bytes) (get_or-set_other starts k n x 0 (omega arith))
    (get_or-set_other starts k (n + 1) x 0 (omega arith)))
