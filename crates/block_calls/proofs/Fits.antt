-- The parts of every answer fit the bits that tell them.
use mathlib.Core.Bool.{Bool, true, false, ◌||◌}
use mathlib.Core.List.{List, [], ◌∷◌}
use mathlib.Core.Path.{◌≡◌, refl, ap, ◌∙◌, subst}
use Prim.Native.Nat.{ℕ, zero, suc, ◌+◌, ◌%◌, ◌≤◌, ◌<◌, ◌^◌}
use native.Mathlib.Omega.{arith}
use lib.ListN.{length}
use Rattle.basics.proofs.Cases.{by-test}
use Rattle.itemset.specs.Set.{count}
use Rattle.protocol.specs.declared.Answer.{Answer}
use Rattle.protocol.specs.declared.Answer.TheVariants.{Refused, Made, Started, Delivered, Shown}
use Rattle.protocol.specs.declared.Answer.TheVariants.{Cleared, HandedOver, Compared, Checked}
use Rattle.protocol.specs.Tables.{Tables, Sizes}
use Rattle.protocol.specs.Steps.{message_at}
use Rattle.protocol.specs.Calls.{Call, start_read, start_fast_read, start_write, start_mixed, deliver}
use Rattle.protocol.specs.Calls.{show, clear, hand_over, compare, check, Test, test, first, refusal}
use Rattle.protocol.specs.Calls.{effect, reply, step}
use Rattle.protocol.specs.Calls.{pick, bad_set, read_tests, write_tests, number_of_answer}
use Rattle.protocol.proofs.MessageKinds.{kind-within}
use Rattle.protocol.proofs.Delivered.{outcome-most}
use Rattle.protocol.proofs.Refusals.{accepted-clear, accepted-hand-over}
use Rattle.protocol.proofs.Cleared.{length-cleared}
use Rattle.protocol.proofs.Ranges.Tables.{valid-within}
use Rattle.protocol.proofs.Valid.{within-kept}
use Rattle.protocol.specs.Range.{capacities}
use Rattle.layout.specs.Decode.{tables_of, valid_block}
use Rattle.encoding.proofs.Decoded.{few-versions, few-messages}
use Rattle.show.proofs.LogFrames.{length-frame-le}
use Rattle.protocol.proofs.HandOver.{standing-most}
use Rattle.block_calls.specs.Calls.{fresh_refusal_on, fresh_answer_on, refusal_on, answer_on, Fits}
use Rattle.block_calls.proofs.Accepted.{answer-accepted, answer-refused}

-- ---- refusals

-- one more test
more : (n : ℕ) (a : Bool) (xs : List Test) → n ≤ 19 → first xs ≤ 19 → first (test n a ∷ xs) ≤ 19
unfolding first
more n true xs x y = x
more n false xs x y = y

none : first [] ≤ 19
unfolding first
none = omega arith

read-le : (t : Tables) (d s : ℕ) → first (read_tests capacities t d s) ≤ 19
read-le t d s =
    more 1 _ _ (omega arith) (more 3 _ _ (omega arith)
    (more 4 _ _ (omega arith) (more 5 _ _ (omega arith) (more 8 _ _ (omega arith) none))))

write-le : (t : Tables) (d : ℕ) (bad : Bool) (s : ℕ) (bytes : List ℕ) (joining : ℕ)
    → first (write_tests capacities t d bad s bytes joining) ≤ 19
write-le t d bad s bytes joining =
    more 1 _ _ (omega arith)
    (more 3 _ _ (omega arith)
    (more 4 _ _ (omega arith)
    (more 5 _ _ (omega arith)
    (more 6 _ _ (omega arith) (more 17 _ _ (omega arith) (more 7 _ _ (omega arith)
    (more 8 _ _ (omega arith) (more 9 _ _ (omega arith) none))))))))

-- one of the refusal table's numbers, or 0
pub refusal-le : (t : Tables) (c : Call) → refusal capacities t c ≤ 19
unfolding refusal
refusal-le t (start_read d s) = read-le t d s
refusal-le t (start_fast_read d s) = read-le t d s
refusal-le t (start_write d s bytes) = write-le t d (bad_set t s) s bytes (count s)
refusal-le t (start_mixed d r s bytes) =
    write-le t d (bad_set t r || bad_set t s) s bytes (count r + count s)
refusal-le t (deliver i) = more 1 _ _ (omega arith)
    (more 10 _ _ (omega arith) (more 11 _ _ (omega arith) (more 12 _ _ (omega arith) none)))
refusal-le t (show d output) =
    more 1 _ _ (omega arith) (more 3 _ _ (omega arith)
    (more 4 _ _ (omega arith) (more 13 _ _ (omega arith) (more 14 _ _ (omega arith) none))))
refusal-le t clear = more 1 _ _ (omega arith) none
refusal-le t (hand_over d e) = more 1 _ _ (omega arith)
    (more 3 _ _ (omega arith) (more 18 _ _ (omega arith) (more 4 _ _ (omega arith) none)))
refusal-le t (compare d e) = more 1 _ _ (omega arith) (more 3 _ _ (omega arith) none)
refusal-le t check = more 1 _ _ (omega arith) (more 19 _ _ (omega arith) none)

fresh-refusal-le : (b : List ℕ) (z : Sizes) → fresh_refusal_on b z ≤ 19
unfolding fresh_refusal_on
fresh-refusal-le b z = more 2 _ _ (omega arith) (more 1 _ _ (omega arith) none)

-- ---- answers

-- the refusal that an answer tells, 0 for none
unfoldable pub refusal_of : Answer → ℕ
refusal_of (Refused n) = n
refusal_of Made = 0
refusal_of (Started n) = 0
refusal_of (Delivered kind n outcome) = 0
refusal_of (Shown n) = 0
refusal_of (Cleared n) = 0
refusal_of (HandedOver giver receiver) = 0
refusal_of (Compared n) = 0
refusal_of Checked = 0

-- the messages after an accepted call
few : (t : Tables) (c : Call) → refusal capacities t c ≡ 0
    → length (effect t c).messages < 2 ^ 16
few t c e = omega (arith, few-messages (effect t c) (within-kept capacities t c e))

reply-fits : (t : Tables) (c : Call) → refusal capacities t c ≡ 0 → Fits (reply t c)
unfolding reply effect
reply-fits t (start_read d s) e = few t (start_read d s) e
reply-fits t (start_fast_read d s) e = few t (start_fast_read d s) e
reply-fits t (start_write d s bytes) e = few t (start_write d s bytes) e
reply-fits t (start_mixed d r s bytes) e = few t (start_mixed d r s bytes) e
reply-fits t (deliver i) e = (
  omega (arith, kind-within (message_at t i)),
  few t (deliver i) e,
  omega (arith, outcome-most t (message_at t i)),
)
reply-fits t (show d output) e = omega (arith, length-frame-le d (t.client d).last)
reply-fits t clear e =
    let few = few-versions t (valid-within capacities t ((accepted-clear capacities t).0 e)) in
    omega (arith, length-cleared t, few)
reply-fits t (hand_over d e) h =
    let a = (accepted-hand-over capacities t d e).0 h in
    let most = a.valid.in_range.sizes.clients in
    (omega (arith, a.giver.1, most), omega (arith, a.receiver.1, most))
reply-fits t (compare d e) h = omega (arith, standing-most t d e)
reply-fits t check h = tt

step_fits : (t : Tables) (c : Call) → Fits (step capacities t c).answer
unfolding step
step_fits t c = by-refusal (refusal capacities t c) refl
  where
    by-refusal : (r : ℕ) → refusal capacities t c ≡ r → Fits (pick r (reply t c) (Refused r))
    by-refusal zero e = reply-fits t c e
    by-refusal (suc r) e = omega (arith, e, refusal-le t c)

pub answer-fits : (b : List ℕ) (c : Call) → Fits (answer_on b c)
unfolding answer_on
answer-fits b c = by-test (valid_block b) (λ v. rw v (step_fits (tables_of b) c))
    (λ v. rw v (omega arith))

pub fresh-fits : (b : List ℕ) (z : Sizes) → Fits (fresh_answer_on b z)
unfolding fresh_answer_on
fresh-fits b z = by-refusal (fresh_refusal_on b z) refl
  where
    by-refusal : (r : ℕ) → fresh_refusal_on b z ≡ r → Fits (pick r Made (Refused r))
    by-refusal zero e = tt
    by-refusal (suc r) e = omega (arith, e, fresh-refusal-le b z)

-- ---- the lowest byte of a call's number is its refusal, 0 where it is accepted

low_byte : (a : Answer) → Fits a → number_of_answer a % 2 ^ 8 ≡ refusal_of a
unfolding number_of_answer refusal_of
low_byte (Refused n) f = omega arith
low_byte Made f = refl
low_byte (Started n) f = omega arith
low_byte (Delivered kind n outcome) f = omega arith
low_byte (Shown n) f = omega arith
low_byte (Cleared n) f = omega arith
low_byte (HandedOver giver receiver) f = refl
low_byte (Compared n) f = omega arith
low_byte Checked f = refl

reply-accepts : (t : Tables) (c : Call) → refusal_of (reply t c) ≡ 0
unfolding refusal_of reply
reply-accepts t (start_read d s) = refl
reply-accepts t (start_fast_read d s) = refl
reply-accepts t (start_write d s bytes) = refl
reply-accepts t (start_mixed d r s bytes) = refl
reply-accepts t (deliver i) = refl
reply-accepts t (show d output) = refl
reply-accepts t clear = refl
reply-accepts t (hand_over d e) = refl
reply-accepts t (compare d e) = refl
reply-accepts t check = refl

tells-refusal : (b : List ℕ) (c : Call) (r : ℕ) → refusal_on b c ≡ r → refusal_of (answer_on b c) ≡ r
unfolding refusal_of
tells-refusal b c zero e = ap refusal_of (answer-accepted b c e) ∙ reply-accepts (tables_of b) c
tells-refusal b c (suc r) e = ap refusal_of (answer-refused b c r e)

pub lowest-byte : (b : List ℕ) (c : Call) → number_of_answer (answer_on b c) % 2 ^ 8 ≡ refusal_on b c
lowest-byte b c = low_byte (answer_on b c) (answer-fits b c) ∙ tells-refusal b c (refusal_on b c) refl

-- ---- by the answer's case

pub fits-started : (a : Answer) (n : ℕ) → a ≡ Started n → Fits a → n < 2 ^ 16
fits-started a n e f = subst Fits e f

pub fits-delivered : (a : Answer) (kind n outcome : ℕ) → a ≡ Delivered kind n outcome → Fits a
    → (kind < 2 ^ 8) × (n < 2 ^ 16) × (outcome < 2 ^ 8)
fits-delivered a kind n outcome e f = subst Fits e f

pub fits-shown : (a : Answer) (n : ℕ) → a ≡ Shown n → Fits a → n < 2 ^ 16
fits-shown a n e f = subst Fits e f

pub fits-cleared : (a : Answer) (n : ℕ) → a ≡ Cleared n → Fits a → n < 2 ^ 16
fits-cleared a n e f = subst Fits e f

pub fits-compared : (a : Answer) (n : ℕ) → a ≡ Compared n → Fits a → n < 2 ^ 8
fits-compared a n e f = subst Fits e f
