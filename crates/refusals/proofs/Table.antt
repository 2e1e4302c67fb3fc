-- The refusal of each call, test after test, in words that the block holds.
use Rattle.std.proofs.Common.{◌≡◌, ℕ, ◌+◌, Bool, true, false, cond, not, ◌&&◌}
use Rattle.std.proofs.Common.{◌||◌, eqb, ltb, List, length, refl, sym, ap, ◌∙◌}
use Rattle.std.specs.Prelude.{Result, Ok, Err}
use Rattle.std.specs.Result.{IsErrAnd}
use Rattle.std.proofs.lemmas.Result.{err_from_is_err_and}
use Rattle.basics.proofs.Cases.{by-test}
use Rattle.itemset.specs.Set.{all_below, count}
use Rattle.protocol.specs.declared.refusal.Refusal.{Refusal}
use Rattle.protocol.specs.Refusal.{number_of_refusal, refused_by}
use Rattle.protocol.specs.Range.{capacities, is_client, load}
use Rattle.protocol.specs.Check.{sound}
use Rattle.protocol.specs.Calls.{Call, start_read, start_write, start_mixed, show, clear, hand_over}
use Rattle.protocol.specs.Calls.{compare, check, refusal, first}
use Rattle.layout.specs.Layout.{most_messages, header, scalars, at, items_at, mode_at, last_kind_at}
use Rattle.layout.specs.Decode.{sizes_in, tables_of, valid_block}
use Rattle.show.specs.Show.{frame_in}
use Rattle.block_calls.specs.Calls.{refusal_on}
use Rattle.block_calls.proofs.Accepted.{refused-invalid, refusal-valid}
use Rattle.block_calls.proofs.Given.{clear-accepted}
use Rattle.block_calls.proofs.Tested.{read-nobody, write-nobody, mixed-nobody, show-nobody}
use Rattle.block_calls.proofs.Tested.{write-refusal, mixed-refusal, writing-tests}
use Rattle.block_calls.proofs.Tested.{hand-over-nobody, compare-nobody, read-tests, show-tests}
use Rattle.block_calls.proofs.Tested.{hand-over-tests, compare-tests, check-passes, check-fails}
use Rattle.refusals.specs.Tested.{Tested, later_write_tests}

-- the last test's answer is the call's
pub refused-tested : {A : Type 0} (t : Bool) (x : Refusal) (r : Result A Refusal) → Tested t x r
    → refused_by r ≡ cond t (number_of_refusal x) 0
refused-tested t x (Ok a) e = rw e refl
refused-tested t x (Err y) h = rw h.0 (ap number_of_refusal h.1)

-- a refusal that is handed on is the call's
pub refused-exit : {A : Type 0} (r : Result A Refusal) (e x : Refusal) → IsErrAnd r (λ y. y ≡ e)
    → e ≡ x → refused_by r ≡ number_of_refusal x
refused-exit r e x p q =
    let w = err_from_is_err_and r p in rw (w.1, w.2) (ap number_of_refusal q)

-- 1, and then 3
tested-first : (b : List ℕ) (c : Call) (exists : Bool) (rest : ℕ)
    → (valid_block b ≡ true → exists ≡ true → refusal capacities (tables_of b) c ≡ rest)
    → (valid_block b ≡ true → exists ≡ false → refusal capacities (tables_of b) c ≡ 3)
    → refusal_on b c ≡ cond (not (valid_block b)) 1 (cond (not exists) 3 rest)
tested-first b c exists rest whole nobody =
    by-test (valid_block b)
    (λ v. refusal-valid b c v ∙ by-test exists (λ e. whole v e ∙ rw (v, e) refl)
    (λ e. nobody v e ∙ rw (v, e) refl))
    (λ v. refused-invalid b c v ∙ rw v refl)

-- two tests of one refusal
either : (t u : Bool) (n m : ℕ) → cond (t || u) n m ≡ cond t n (cond u n m)
either true u n m = refl
either false u n m = refl

module _ (b : List ℕ) where
  abbrev invalid : Bool
  invalid = not (valid_block b)

  abbrev exists : ℕ → Bool
  exists d = is_client (sizes_in b) d

  abbrev idle : ℕ → Bool
  idle d = eqb (at b scalars (mode_at d)) 0

  abbrev bad : ℕ → Bool
  bad s = eqb s 0 || not (all_below s (at b header items_at))

  pub read-table : (d s : ℕ)
      → refusal_on b (start_read d s) ≡ cond invalid 1 (cond (not (exists d)) 3
      (cond (not (idle d)) 4 (cond (bad s) 5
      (cond (ltb most_messages (load (tables_of b) + count s)) 8 0))))
  read-table d s =
      tested-first b (start_read d s) (exists d) _ (λ v e. read-tests b d v s e)
      (λ v e. read-nobody b d v s e)

  pub write-table : (d s : ℕ) (bytes : List ℕ)
      → refusal_on b (start_write d s bytes) ≡ cond invalid 1 (cond (not (exists d)) 3
      (cond (not (idle d)) 4 (cond (bad s) 5 (first (later_write_tests b d s bytes (count s))))))
  unfolding first
  write-table d s bytes =
      tested-first b (start_write d s bytes) (exists d) _
      (λ v e. sym (write-refusal b d v s bytes refl refl)
      ∙ writing-tests b d v (bad s) s bytes (count s) e)
      (λ v e. write-nobody b d v s bytes e)

  pub mixed-table : (d r s : ℕ) (bytes : List ℕ)
      → refusal_on b (start_mixed d r s bytes) ≡ cond invalid 1 (cond (not (exists d)) 3
      (cond (not (idle d)) 4 (cond (bad r) 5 (cond (bad s) 5
      (first (later_write_tests b d s bytes (count r + count s)))))))
  unfolding first
  mixed-table d r s bytes =
      tested-first b (start_mixed d r s bytes) (exists d) _
      (λ v e. sym (mixed-refusal b d v r s bytes refl refl refl refl)
      ∙ writing-tests b d v (bad r || bad s) s bytes (count r + count s) e
      ∙ ap (λ (n : ℕ). cond (not (idle d)) 4 n) (either (bad r) (bad s) 5 _))
      (λ v e. mixed-nobody b d v r s bytes e)

  pub show-table : (d : ℕ) (out : List ℕ)
      → refusal_on b (show d out) ≡ cond invalid 1 (cond (not (exists d)) 3
      (cond (not (idle d)) 4 (cond (eqb (at b scalars (last_kind_at d)) 0) 13
      (cond (ltb (length out) (length (frame_in b d))) 14 0))))
  show-table d out =
      tested-first b (show d out) (exists d) _ (λ v e. show-tests b d v out e)
      (λ v e. show-nobody b d v out e)

  pub clear-table : refusal_on b clear ≡ cond invalid 1 0
  clear-table =
      by-test (valid_block b) (λ v. clear-accepted b v ∙ rw v refl)
      (λ v. refused-invalid b clear v ∙ rw v refl)

  pub hand-over-table : (d e : ℕ)
      → refusal_on b (hand_over d e) ≡ cond invalid 1 (cond (not (exists d && exists e)) 3
      (cond (eqb d e) 18 (cond (not (idle d && idle e)) 4 0)))
  hand-over-table d e =
      tested-first b (hand_over d e) (exists d && exists e) _
      (λ v c. hand-over-tests b d e v c) (λ v c. hand-over-nobody b d e v c)

  pub compare-table : (d e : ℕ)
      → refusal_on b (compare d e) ≡ cond invalid 1 (cond (not (exists d && exists e)) 3 0)
  compare-table d e =
      tested-first b (compare d e) (exists d && exists e) _
      (λ v c. compare-tests b d e v c) (λ v c. compare-nobody b d e v c)

  pub check-table : refusal_on b check ≡ cond invalid 1 (cond (not (sound (tables_of b))) 19 0)
  check-table =
      by-test (valid_block b)
      (λ v. refusal-valid b check v ∙ by-test (sound (tables_of b))
      (λ e. check-passes b v e ∙ rw (v, e) refl) (λ e. check-fails b v e ∙ rw (v, e) refl))
      (λ v. refused-invalid b check v ∙ rw v refl)
