-- The kinds of messages: their numbers, and which messages are answers.
use mathlib.Core.Bool.{true, false}
use mathlib.Core.Logic.{◌⊎◌, inl, inr}
use mathlib.Core.Path.{◌≡◌, refl}
use Prim.Native.Nat.{ℕ, ◌≤◌}
use native.Mathlib.Omega.{arith}
use Rattle.basics.proofs.Cases.{not-both}
use Rattle.protocol.specs.declared.Version.{Version}
use Rattle.protocol.specs.declared.Entry.{Entry}
use Rattle.protocol.specs.declared.Message.{Message}
use Rattle.protocol.specs.declared.Message.TheVariants.{Prepare, Prepared, Commit, Get, Got}
use Rattle.protocol.specs.declared.Message.TheVariants.{FirstGet, FirstReply}
use Rattle.protocol.specs.Message.{kinds, kind_of, is_first_get, is_any_get, item_of, owner_of}
use Rattle.protocol.proofs.Delivered.{is_answer}

pub kind-within : (m : Message) → (1 ≤ kind_of m) × (kind_of m ≤ kinds)
kind-within (Prepare v) = omega arith
kind-within (Prepared k stamp) = omega arith
kind-within (Commit p stamp) = omega arith
kind-within (Get d k stamp) = omega arith
kind-within (Got d v e) = omega arith
kind-within (FirstGet d k) = omega arith
kind-within (FirstReply d v e) = omega arith

-- an answer is a prepared reply, a got or a first reply
pub answer-is : (m : Message) → is_answer m ≡ true
    → ((k : ℕ) × ((stamp : ℕ) × (m ≡ Prepared k stamp)))
    ⊎ (((d : ℕ) × ((v : Version) × ((e : Entry) × (m ≡ Got d v e))))
    ⊎ ((d : ℕ) × ((v : Version) × ((e : Entry) × (m ≡ FirstReply d v e)))))
answer-is (Prepare v) e = not-both e refl
answer-is (Prepared k stamp) e = inl (k, (stamp, refl))
answer-is (Commit p stamp) e = not-both e refl
answer-is (Get d k stamp) e = not-both e refl
answer-is (Got d v x) e = inr (inl (d, (v, (x, refl))))
answer-is (FirstGet d k) e = not-both e refl
answer-is (FirstReply d v x) e = inr (inr (d, (v, (x, refl))))

-- and no get, of either kind
pub answer-asks : (m : Message) → is_answer m ≡ true → is_any_get m ≡ false
answer-asks (Prepare v) e = refl
answer-asks (Prepared k stamp) e = refl
answer-asks (Commit p stamp) e = refl
answer-asks (Get d k stamp) e = not-both e refl
answer-asks (Got d v x) e = refl
answer-asks (FirstGet d k) e = not-both e refl
answer-asks (FirstReply d v x) e = refl

-- a first get is told by its client and item
pub first-get-is : (m : Message) → is_first_get m ≡ true → m ≡ FirstGet (owner_of m) (item_of m)
first-get-is (Prepare v) e = not-both e refl
first-get-is (Prepared k stamp) e = not-both e refl
first-get-is (Commit p stamp) e = not-both e refl
first-get-is (Get d k stamp) e = not-both e refl
first-get-is (Got d v x) e = not-both e refl
first-get-is (FirstGet d k) e = refl
first-get-is (FirstReply d v x) e = not-both e refl
