-- The mode word of a client in a valid block is the number of what the client does: 2 exactly if it
-- has a write part alone, 5 exactly if it has both parts, 0 exactly if it awaits nothing, and else
-- that of its read part's stage.
use mathlib.Core.Bool.{Bool, true, false, cond, not, ◌&&◌, ◌||◌, and-true}
use mathlib.Core.List.{List}
use mathlib.Core.Path.{◌≡◌, refl, sym, ap, ap₂, ◌∙◌}
use Prim.Native.Nat.{ℕ, ◌<◌}
use lib.Dec.{eqb}
use borrow.Author.Tests.{eqb-true, eqb-false}
use Rattle.basics.proofs.Cases.{by-test, not-both, and_left, and_right, and_both}
use Rattle.protocol.specs.Tables.{Sizes}
use Rattle.protocol.specs.Range.{is_writing}
use Rattle.protocol.proofs.Ranges.Clients.{ClientInRange}
use Rattle.layout.specs.Layout.{at, scalars, mode_at, set_at, awaited_at, write_set_at, modes}
use Rattle.layout.specs.Layout.{is_write_mode, is_mixed_mode, stage_of, read_mode}
use Rattle.layout.specs.Decode.{awaits_none, has_parts, client_in}
use Rattle.layout.specs.Encodes.{writes_alone, is_mixed, number_of_mode}
use Rattle.layout.proofs.Parts.{read-mode, mode-writing, mode-mixed, mode-other, no-reply-awaited}

module _ (b : List ℕ) (d : ℕ) where
  abbrev mode : ℕ
  mode = at b scalars (mode_at d)

  abbrev awaited : ℕ
  awaited = at b scalars (awaited_at d)

  -- a write's mode is no mixed one's, nor is any other's
  pub write-unmixed : is_write_mode mode ≡ true → is_mixed_mode mode ≡ false
  write-unmixed m = rw (eqb-true mode 2 m) refl

  pub mixed-unwritten : is_mixed_mode mode ≡ true → is_write_mode mode ≡ false
  mixed-unwritten m = rw (eqb-true mode 5 m) refl

  pub reply-word : is_write_mode mode ≡ true → (client_in b d).write.awaited ≡ awaited
  unfolding client_in
  reply-word m = rw (m, write-unmixed m) refl

  answer_word : is_write_mode mode ≡ false → (client_in b d).read.awaited ≡ awaited
  unfolding client_in
  answer_word m = rw m refl

  stage-word : is_write_mode mode ≡ false → (client_in b d).read.stage ≡ stage_of mode
  unfolding client_in
  stage-word m = rw m refl

  read_none : is_write_mode mode ≡ true → (client_in b d).read.set ≡ 0
  unfolding client_in
  read_none m = rw m refl

  pub none-word : is_write_mode mode || is_mixed_mode mode ≡ false → is_writing (client_in b d) ≡ false
  unfolding client_in
  none-word m = rw m refl

  other_word : is_write_mode mode ≡ false → is_mixed_mode mode ≡ false
      → is_writing (client_in b d) ≡ false
  other_word m n = none-word (rw (m, n) refl)

  module _ (parts : has_parts b d ≡ true) where
    abbrev reads : Bool
    reads = not (eqb (at b scalars (set_at d)) 0)

    abbrev writes : Bool
    writes = not (eqb (at b scalars (write_set_at d)) 0)

    both-parts : is_mixed_mode mode ≡ true → (reads && writes) ≡ true
    unfolding has_parts
    both-parts m = rw m at parts

    pub mixed-word : is_mixed_mode mode ≡ true → is_mixed (client_in b d) ≡ true
    unfolding client_in
    mixed-word m =
        rw (mixed-unwritten m, m)
        (and_both writes reads (and_right reads writes (both-parts m))
        (and_left reads writes (both-parts m)))

  module _ (z : Sizes) (range : ClientInRange z (client_in b d))
      (idle : eqb mode 0 ≡ awaits_none b d) where
    -- of any other mode, the read part's awaited items tell
    idle-word : is_mixed_mode mode ≡ false → eqb mode 0 ≡ eqb awaited 0
    idle-word m = idle ∙ rw m (and-true (eqb awaited 0))

    pub write_word : is_write_mode mode ≡ true → is_writing (client_in b d) ≡ true
    write_word m =
        by-test (is_writing (client_in b d)) (λ w. w)
        (λ w. not-both
        (ap (λ (x : ℕ). eqb x 0) (sym (reply-word m) ∙ no-reply-awaited z (client_in b d) range w))
        (sym (idle-word (write-unmixed m)) ∙ ap (λ (x : ℕ). eqb x 0) (eqb-true mode 2 m)))

    pub alone-word : is_write_mode mode ≡ true → writes_alone (client_in b d) ≡ true
    alone-word m = rw (write_word m, read_none m) refl

    pub mode-word : has_parts b d ≡ true → mode < modes → mode ≡ number_of_mode (client_in b d)
    mode-word parts below =
        by-test (is_write_mode mode)
        (λ m. eqb-true mode 2 m ∙ sym (mode-writing z (client_in b d) range (alone-word m)))
        (λ m. by-test (is_mixed_mode mode)
        (λ x. eqb-true mode 5 x ∙ sym (mode-mixed z (client_in b d) range (mixed-word parts x)))
        (λ x. other m x ∙ sym (mode-other z (client_in b d) range (other_word m x)
        ∙ ap₂ (λ (x y : ℕ). cond (eqb x 0) 0 (read_mode y)) (answer_word m) (stage-word m))))
      where
        other : is_write_mode mode ≡ false → is_mixed_mode mode ≡ false
            → mode ≡ cond (eqb awaited 0) 0 (read_mode (stage_of mode))
        other m x =
            by-test (eqb mode 0)
            (λ e. rw (sym (idle-word x) ∙ e) (eqb-true mode 0 e))
            (λ e. rw (sym (idle-word x) ∙ e) (sym (read-mode mode below (eqb-false mode 0 e) m x)))
