-- What a frame tells of the bytes that it was parsed from.
use mathlib.Core.Bool.{true, false}
use mathlib.Core.List.{List, []}
use mathlib.Core.Path.{◌≡◌, refl, sym, subst}
use Prim.Native.Nat.{ℕ, ◌+◌, ◌*◌, ◌≤◌, ◌<◌}
use Rattle.std.specs.Prelude.{Option, Some, None}
use native.Mathlib.Omega.{arith}
use lib.Dec.{eqb, leb}
use lib.ListN.{length}
use borrow.Author.Tests.{eqb-true, leb-true}
use Rattle.basics.proofs.Cases.{by-test, and_left, and_right}
use Rattle.store_frames.specs.Limits.{most_frame}
use Rattle.store_frames.specs.declared.StoreFrame.{StoreFrame}
use Rattle.store_frames.specs.declared.StoreFrame.TheVariants.{Fresh, Read, Write, Deliver}
use Rattle.store_frames.specs.declared.StoreFrame.TheVariants.{Show, FastRead, Mixed}
use Rattle.store_frames.specs.declared.StoreFrame.TheVariants.{Clear, HandOver, Compare}
use Rattle.store_frames.specs.declared.StoreFrame.TheVariants.{Check}
use Rattle.store_frames.specs.declared.Parsed.{Parsed}
use Rattle.store_frames.specs.StoreFrames.{kind_of, is_store_frame, values_in, is_valued}
use Rattle.store_frames.specs.StoreFrames.{is_write, is_mixed, framed, parsed_later, parsed}

-- ---- the tests

pub is_store_frame-length : (kind n : ℕ) (f : List ℕ) → is_store_frame kind n f ≡ true → length f ≡ n
is_store_frame-length kind n f e = eqb-true (length f) n
    (and_right (eqb (kind_of f) kind) (eqb (length f) n) e)

pub is_valued-length : (kind head : ℕ) (f : List ℕ) → is_valued kind head f ≡ true
    → (head ≤ length f) × (length f ≤ head + 4 * 64)
is_valued-length kind head f e =
    let n = head + 4 * values_in head (length f) in
    let shaped = and_left (is_store_frame kind n f) (leb (values_in head (length f)) 64) e in
    let few = leb-true (values_in head (length f)) 64
    (and_right (is_store_frame kind n f) (leb (values_in head (length f)) 64) e) in
    let long = is_store_frame-length kind n f shaped in
    (omega arith, omega arith)

is_store_frame-other : (kind n : ℕ) (f : List ℕ) → (length f ≡ n → ⊥) → is_store_frame kind n f ≡ false
is_store_frame-other kind n f h = by-test (is_store_frame kind n f)
    (λ e. absurd (h (is_store_frame-length kind n f e)))
    (λ e. e)

is_valued-other : (kind head : ℕ) (f : List ℕ) → head ≤ 18 → most_frame < length f
    → is_valued kind head f ≡ false
is_valued-other kind head f l h =
    by-test (is_valued kind head f) (λ e. absurd (omega (arith, (is_valued-length kind head f e).1)))
    (λ e. e)

-- ---- no frame

pub parsed-none : parsed [] ≡ None
unfolding parsed
parsed-none = refl

-- more bytes than the longest frame has
pub parsed-long : (f : List ℕ) → most_frame < length f → parsed f ≡ None
unfolding parsed
parsed-long f h =
    rw (
      is_store_frame-other 0x01 4 f (λ e. omega arith),
      is_store_frame-other 0x02 10 f
          (λ e. omega arith),
      is_valued-other 0x03 10 f (omega arith) h,
      is_store_frame-other 0x04 3 f
          (λ e. omega arith),
      is_store_frame-other 0x05 2 f (λ e. omega arith),
      is_store_frame-other 0x06 10 f (λ e. omega arith),
      is_store_frame-other 0x40 1 f (λ e. omega arith),
      is_store_frame-other 0x41 3 f (λ e. omega arith),
      is_store_frame-other 0x42 3 f (λ e. omega arith),
      is_valued-other 0x07 18 f (omega arith) h,
      is_store_frame-other 0x43 1 f (λ e. omega arith),
    )

-- ---- a frame: its length is that of the bytes, and a write has ten bytes before its values, a
-- mixed start eighteen

abbrev Headed : List ℕ → StoreFrame → Type 0
Headed f (Fresh clients partitions items) = Unit
Headed f (Read client s) = Unit
Headed f (Write client s) = 10 ≤ length f
Headed f (Deliver place) = Unit
Headed f (Show client) = Unit
Headed f (FastRead client s) = Unit
Headed f (Mixed client r s) = 18 ≤ length f
Headed f Clear = Unit
Headed f (HandOver giver receiver) = Unit
Headed f (Compare first second) = Unit
Headed f Check = Unit

abbrev Sized : List ℕ → Option Parsed → Type 0
Sized f None = Unit
Sized f (Some p) = (p.length ≡ length f) × Headed f p.frame

later-sized : (f : List ℕ) → Sized f (parsed_later f)
later-sized f =
    by-test (is_store_frame 0x06 10 f) (λ a. rw a (refl, tt))
    (λ a. by-test (is_store_frame 0x40 1 f) (λ b. rw (a, b) (refl, tt))
    (λ b. by-test (is_store_frame 0x41 3 f) (λ c. rw (a, b, c) (refl, tt))
    (λ c. by-test (is_store_frame 0x42 3 f) (λ d. rw (a, b, c, d) (refl, tt))
    (λ d. by-test (is_mixed f)
    (λ e. rw (a, b, c, d, e) (refl, (is_valued-length 0x07 18 f e).0))
    (λ e. by-test (is_store_frame 0x43 1 f) (λ g. rw (a, b, c, d, e, g) (refl, tt))
    (λ g. rw (a, b, c, d, e, g) tt))))))

parsed-sized : (f : List ℕ) → Sized f (parsed f)
unfolding parsed
parsed-sized f =
    by-test (is_store_frame 0x01 4 f) (λ a. rw a (refl, tt))
    (λ a. by-test (is_store_frame 0x02 10 f) (λ b. rw (a, b) (refl, tt))
    (λ b. by-test (is_write f) (λ c. rw (a, b, c) (refl, (is_valued-length 0x03 10 f c).0))
    (λ c. by-test (is_store_frame 0x04 3 f) (λ d. rw (a, b, c, d) (refl, tt))
    (λ d. by-test (is_store_frame 0x05 2 f) (λ e. rw (a, b, c, d, e) (refl, tt))
    (λ e. rw (a, b, c, d, e) (later-sized f))))))

pub parsed-length : (f : List ℕ) (p : Parsed) → Some p ≡ parsed f → p.length ≡ length f
parsed-length f p e = (subst (Sized f) (sym e) (parsed-sized f)).0

pub parsed-write : (f : List ℕ) (d s n : ℕ) → framed (Write d s) n ≡ parsed f → 10 ≤ length f
parsed-write f d s n e = (subst (Sized f) (sym e) (parsed-sized f)).1

pub parsed-mixed : (f : List ℕ) (d r s n : ℕ) → framed (Mixed d r s) n ≡ parsed f → 18 ≤ length f
parsed-mixed f d r s n e = (subst (Sized f) (sym e) (parsed-sized f)).1
