-- The law of gathered tests: a test that joined words pass exactly when each of them does may wait
-- for a loop's end. Sizes and bits are such tests, and so are tests side by side.
use Rattle.std.proofs.Common.{◌≡◌, ℕ, ◌+◌, ◌^◌, ◌<◌, Bool, true, false, not, ◌&&◌, ◌||◌, leb, sym, refl, ap, ◌∙◌, subst, ap₂, arith, pow_pos, ltb-true, lt-ltb}
use lib.Bits.{bit_or, bit_and, or_lt, or_add_and, and_le_l, and_le_r}
use Rattle.basics.proofs.Cases.{test-ext, and_left, and_right, and_both, or_right}
use Rattle.itemset.specs.Set.{has, all_below}
use Rattle.itemset.proofs.Laws.{has-empty}
use Rattle.itemset.proofs.Bits.{has-or, has-and}
use Rattle.gather.specs.Words.{stamp_bits, stamps_test, entries_test, owns_test, versions_test}
use Rattle.gather.proofs.Tested.{SoFar, tested-none, tested-next}

-- words W are gathered from `none` on by `join`, and tested at the end
pub record Gathers {W : Type 0} (test : W → Bool) (none : W) (join : W → W → W) : Type 0 where
  pub empty : test none ≡ true
  pub joined : (a b : W) → (test a && test b) ≡ test (join a b)

-- THE LAW: what was gathered passes exactly when each number so far does
module _ {W : Type 0} {test : W → Bool} {none : W} {join : W → W → W}
    (g : Gathers test none join) {n : ℕ} {p : ℕ → Bool} where
  pub gather_none : SoFar n p 0 (test none)
  gather_none = subst (SoFar n p 0) (sym g.empty) tested-none

  pub gather-next : (a b : W) {k : ℕ} → SoFar n p k (test a) → k < n → test b ≡ p k
      → SoFar n p (k + 1) (test (join a b))
  gather-next a b {k = k} s l e = subst (SoFar n p (k + 1)) (g.joined a b) (tested-next s l e)

-- ---- Tests of one word

or-below : (a b n : ℕ) → (all_below a n && all_below b n) ≡ all_below (bit_or a b) n
or-below a b n =
    test-ext _ _
    (λ e. lt-ltb _ _ (or_lt n a b (ltb-true a (2 ^ n) (and_left _ _ e))
    (ltb-true b (2 ^ n) (and_right (all_below a n) _ e))))
    (λ e.
    let l : bit_or a b < 2 ^ n = ltb-true (bit_or a b) (2 ^ n) e in
    and_both _ _ (lt-ltb a (2 ^ n) (omega (arith, or_add_and a b, and_le_r a b)))
    (lt-ltb b (2 ^ n) (omega (arith, or_add_and a b, and_le_l a b))))

-- it is below 2 ^ n
pub below : (n : ℕ) → Gathers (λ a. all_below a n) 0 bit_or
below n = record { empty = lt-ltb 0 (2 ^ n) (pow_pos n); joined = λ a b. or-below a b n }

nor : (a b : Bool) → (not a && not b) ≡ not (a || b)
nor true b = refl
nor false b = refl

-- bit k is clear
pub clear : (k : ℕ) → Gathers (λ a. not (has a k)) 0 bit_or
clear k = record {
  empty = ap not (has-empty k);
  joined = λ a b. nor (has a k) (has b k) ∙ ap not (sym (has-or a b k));
}

-- bit 0 is set
pub low : Gathers (λ a. has a 0) 1 bit_and
unfolding has
low = record { empty = refl; joined = λ a b. sym (has-and a b 0) }

-- ---- Tests together

swap : (a b x y : Bool) → ((a && x) && (b && y)) ≡ ((a && b) && (x && y))
swap true true x y = refl
swap true false true y = refl
swap true false false y = refl
swap false b x y = refl

or-both : (q a b : Bool) → ((q || a) && (q || b)) ≡ (q || (a && b))
or-both true a b = refl
or-both false a b = refl

-- of the same word
pub also : {W : Type 0} {s t : W → Bool} {none : W} {join : W → W → W} → Gathers s none join
    → Gathers t none join → Gathers (λ a. s a && t a) none join
also {s = s} {t = t} g h = record {
  empty = and_both _ _ g.empty h.empty;
  joined = λ a b. swap (s a) (s b) (t a) (t b) ∙ ap₂ ◌&&◌ (g.joined a b) (h.joined a b);
}

-- of words side by side
abbrev pub pairs : {A B : Type 0} → (A → A → A) → (B → B → B) → A × B → A × B → A × B
pairs j k a b = (j a.0 b.0, k a.1 b.1)

pub beside : {A B : Type 0} {s : A → Bool} {t : B → Bool} {x : A} {y : B} {j : A → A → A}
    {k : B → B → B} → Gathers s x j → Gathers t y k
    → Gathers (λ (a : A × B). s a.0 && t a.1) (x, y) (pairs j k)
beside {s = s} {t = t} g h = record {
  empty = and_both _ _ g.empty h.empty;
  joined = λ a b. swap (s a.0) (s b.0) (t a.1) (t b.1)
      ∙ ap₂ ◌&&◌ (g.joined a.0 b.0) (h.joined a.1 b.1);
}

-- only where q is false
pub unless : {W : Type 0} {t : W → Bool} {none : W} {join : W → W → W} (q : Bool)
    → Gathers t none join → Gathers (λ a. q || t a) none join
unless {t = t} q g = record {
  empty = or_right q _ g.empty;
  joined = λ a b. or-both q (t a) (t b) ∙ ap (λ (x : Bool). q || x) (g.joined a b);
}

-- ---- Stamps, entries, versions

pub stamps : (c : ℕ) → Gathers (λ (a : (ℕ × ℕ) × ℕ). stamps_test c a.0.0 a.0.1 a.1)
    ((0, 0), 0) (pairs (pairs bit_or bit_or) bit_or)
unfolding stamps_test
stamps c = beside (beside (below stamp_bits) (clear 3)) (unless (leb 8 c) (clear 3))

pub entries : (c n : ℕ)
    → Gathers (λ (a : ((ℕ × ℕ) × ℕ) × ℕ). entries_test c n a.0.0.0 a.0.0.1 a.0.1
    a.1)
    (((0, 0), 0), 0) (pairs (pairs (pairs bit_or bit_or) bit_or) bit_or)
entries c n = beside (stamps c) (below n)

pub owns : Gathers owns_test 0 bit_or
unfolding owns_test
owns = also (below stamp_bits) (clear 3)

pub versions : (n : ℕ) → Gathers (λ (a : (((ℕ × ℕ) × ℕ) × ℕ) × ℕ).
    versions_test n a.0.0.0.0 a.0.0.0.1 a.0.0.1 a.0.1 a.1)
    ((((0, 0), 0), 0), 1) (pairs (pairs (pairs (pairs bit_or bit_or) bit_or) bit_or) bit_and)
unfolding versions_test
versions n = beside (beside (beside (beside (below 6) (below 32)) owns) (below n)) low
