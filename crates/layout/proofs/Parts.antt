-- What a client's mode tells of its parts, where the client is in range: in mode 2 it reads
-- nothing, in mode 5 it has both parts, in any other mode it writes nothing.
use mathlib.Core.Bool.{true, false, cond, not, ◌||◌}
use mathlib.Core.Logic.{◌≢◌}
use mathlib.Core.Path.{◌≡◌, refl, ◌∙◌}
use Prim.Native.Nat.{ℕ, zero, suc, ◌≤◌, ◌<◌}
use native.Mathlib.Omega.{arith}
use lib.Dec.{eqb}
use borrow.Author.Tests.{eqb-true, eqb-false}
use Rattle.basics.proofs.Cases.{by-test, not-both, and_left, and_right, not-true, not-false}
use Rattle.itemset.specs.Set.{has}
use Rattle.itemset.proofs.Laws.{has-empty, set-empty}
use Rattle.protocol.specs.Tables.{Sizes, Client, Side, of_read, of_write, awaited_of}
use Rattle.protocol.specs.Range.{is_idle, is_writing}
use Rattle.protocol.proofs.Ranges.Clients.{ClientInRange}
use Rattle.layout.specs.Layout.{modes, is_write_mode, is_mixed_mode, stage_of, read_mode}
use Rattle.layout.specs.Encodes.{writes_alone, is_mixed, number_of_mode}

-- a set within an empty one is empty
within_none : (a s : ℕ) → ((k : ℕ) → has a k ≡ true → has s k ≡ true) → s ≡ 0 → a ≡ 0
within_none a s h e =
    set-empty a (λ k. by-test (has a k) (λ x. not-both (h k x) (rw e (has-empty k))) (λ x. x))

-- a mode that is neither idle nor of a write part is that of its stage
pub read-mode : (mode : ℕ) → mode < modes → mode ≢ 0 → is_write_mode mode ≡ false
    → is_mixed_mode mode ≡ false → read_mode (stage_of mode) ≡ mode
read-mode zero l n w m = absurd (n refl)
read-mode (suc zero) l n w m = refl
read-mode (suc (suc zero)) l n w m = not-both refl w
read-mode (suc (suc (suc zero))) l n w m = refl
read-mode (suc (suc (suc (suc zero)))) l n w m = refl
read-mode (suc (suc (suc (suc (suc zero))))) l n w m = not-both refl m
read-mode (suc (suc (suc (suc (suc (suc x)))))) l n w m = absurd (omega arith)

-- the mode of a read part is neither a write's nor a mixed one's
read-mode-none : (stage : ℕ) → stage ≤ 2
    → (is_write_mode (read_mode stage) ≡ false) × (is_mixed_mode (read_mode stage) ≡ false)
read-mode-none zero l = (refl, refl)
read-mode-none (suc zero) l = (refl, refl)
read-mode-none (suc (suc zero)) l = (refl, refl)
read-mode-none (suc (suc (suc n))) l = absurd (omega arith)

-- with a write part: alone or mixed
pub alone-or-mixed : (c : Client) → is_writing c ≡ true → writes_alone c ≡ false → is_mixed c ≡ true
alone-or-mixed c w a =
    by-test (eqb c.read.set 0) (λ e. not-both (rw (w, e) refl) a) (λ e. rw (w, e) refl)

module _ (z : Sizes) (c : Client) (r : ClientInRange z c) where
  module _ (w : is_writing c ≡ true) where
    writes : c.write.set ≢ 0
    writes = eqb-false c.write.set 0 (not-true (eqb c.write.set 0) w)

    pub busy-writing : is_idle c ≡ false
    busy-writing = r.busy writes

    -- no fast read
    pub no-stage : c.read.stage ≡ 0
    no-stage = by-test (eqb c.read.stage 0) (eqb-true c.read.stage 0)
        (λ e. absurd (writes (r.fast (eqb-false c.read.stage 0 e)).0))

  module _ (w : writes_alone c ≡ true) where
    pub alone-writes : is_writing c ≡ true
    alone-writes = and_left (is_writing c) (eqb c.read.set 0) w

    pub reads_nothing : c.read.set ≡ 0
    reads_nothing =
        eqb-true c.read.set 0 (and_right (is_writing c) (eqb c.read.set 0) w)

    pub no-answer-awaited : c.read.awaited ≡ 0
    no-answer-awaited = within_none c.read.awaited c.read.set
        r.read.within reads_nothing

    pub mode-writing : number_of_mode c ≡ 2
    mode-writing = rw (busy-writing alone-writes, alone-writes, reads_nothing) refl

    pub some-reply-awaited : eqb c.write.awaited 0 ≡ false
    some-reply-awaited =
        by-test (eqb c.write.awaited 0)
        (λ e. not-both (rw (no-answer-awaited, e) refl) (busy-writing alone-writes)) (λ e. e)

  module _ (w : is_mixed c ≡ true) where
    pub mixed-writes : is_writing c ≡ true
    mixed-writes = and_left (is_writing c) (not (eqb c.read.set 0)) w

    pub mixed-reads : eqb c.read.set 0 ≡ false
    mixed-reads = not-true (eqb c.read.set 0)
        (and_right (is_writing c) (not (eqb c.read.set 0)) w)

    pub mode-mixed : number_of_mode c ≡ 5
    mode-mixed = rw (busy-writing mixed-writes, mixed-writes, mixed-reads) refl

    pub mixed-not-alone : writes_alone c ≡ false
    mixed-not-alone = rw (mixed-writes, mixed-reads) refl

  module _ (w : is_writing c ≡ false) where
    pub writes_nothing : c.write.set ≡ 0
    writes_nothing = eqb-true c.write.set 0 (not-false (eqb c.write.set 0) w)

    pub no-reply-awaited : c.write.awaited ≡ 0
    no-reply-awaited =
        within_none c.write.awaited c.write.set r.write.within writes_nothing

    pub mode-other : number_of_mode c ≡ cond (eqb c.read.awaited 0) 0 (read_mode c.read.stage)
    mode-other = by-test (eqb c.read.awaited 0)
        (λ e. rw (e, no-reply-awaited) refl) (λ e. rw (e, w) refl)

    pub mode-reading : (is_write_mode (number_of_mode c) ≡ false)
        × (is_mixed_mode (number_of_mode c) ≡ false)
    mode-reading =
        rw mode-other (by-test (eqb c.read.awaited 0) (λ e. rw e (refl, refl))
        (λ e. rw e (read-mode-none c.read.stage r.read.stage)))

  -- the mode tells which parts there are
  pub mode-alone : is_write_mode (number_of_mode c) ≡ writes_alone c
  mode-alone =
      by-test (is_writing c)
      (λ w. rw (busy-writing w, w)
      (by-test (eqb c.read.set 0) (λ e. rw e refl) (λ e. rw e refl)))
      (λ w. (mode-reading w).0 ∙ rw w refl)

  pub mode-both : is_mixed_mode (number_of_mode c) ≡ is_mixed c
  mode-both =
      by-test (is_writing c)
      (λ w. rw (busy-writing w, w)
      (by-test (eqb c.read.set 0) (λ e. rw e refl) (λ e. rw e refl)))
      (λ w. (mode-reading w).1 ∙ rw w refl)

  -- so does either mode of a write
  pub mode-writes : is_write_mode (number_of_mode c) || is_mixed_mode (number_of_mode c) ≡ is_writing c
  mode-writes =
      rw (mode-alone, mode-both) (by-test (is_writing c)
      (λ w. rw w (by-test (eqb c.read.set 0) (λ e. rw e refl) (λ e. rw e refl)))
      (λ w. rw w refl))

  -- an awaited item tells that there is its part
  pub awaits-answer : (k : ℕ) → has c.read.awaited k ≡ true → writes_alone c ≡ false
  awaits-answer k e =
      by-test (writes_alone c) (λ w. not-both e (rw (no-answer-awaited w) (has-empty k))) (λ w. w)

  pub awaits-reply : (k : ℕ) → has c.write.awaited k ≡ true → is_writing c ≡ true
  awaits-reply k e =
      by-test (is_writing c) (λ w. w) (λ w. not-both e (rw (no-reply-awaited w) (has-empty k)))

  -- and that its client is busy
  pub awaits-busy : (σ : Side) (k : ℕ) → has (awaited_of σ c) k ≡ true → is_idle c ≡ false
  awaits-busy σ k e =
      by-test (is_idle c) (λ i. not-both e (none-awaited i σ k)) (λ i. i)
    where
      none-awaited : is_idle c ≡ true → (σ : Side) (k : ℕ) → has (awaited_of σ c) k ≡ false
      none-awaited i of_read k =
          rw (eqb-true c.read.awaited 0
          (and_left (eqb c.read.awaited 0) (eqb c.write.awaited 0) i)) (has-empty k)
      none-awaited i of_write k =
          rw (eqb-true c.write.awaited 0
          (and_right (eqb c.read.awaited 0) (eqb c.write.awaited 0) i)) (has-empty k)
