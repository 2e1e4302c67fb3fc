-- The sorts of accepted calls, with what their tests tell: the start of a read, of a fast read, of
-- a write or of a mixed transaction, a delivery, and a call apart, which leaves messages alone and
-- stores nothing. All laws of accepted calls go by them.
use mathlib.Core.Bool.{true, false}
use mathlib.Core.List.Sublistᴰ
use mathlib.Core.List.{List, [], Sublistᴰ}
use mathlib.Core.Path.{◌≡◌, refl}
use Prim.Native.Nat.{ℕ, ◌≤◌, ◌<◌}
use native.Mathlib.Nat.{le_refl}
use Rattle.protocol.specs.declared.Answer.{Answer}
use Rattle.protocol.specs.declared.Answer.TheVariants.{Cleared, HandedOver, Compared}
use Rattle.protocol.specs.declared.Answer.TheVariants.{Checked}
use Rattle.protocol.specs.declared.Entry.{Entry}
use Rattle.protocol.specs.declared.Version.{Version}
use Rattle.protocol.specs.Tables.{Tables, with_versions}
use Rattle.protocol.specs.Range.{Capacities}
use Rattle.protocol.specs.Steps.{stored}
use Rattle.protocol.specs.Clear.{unused, cleared, gone}
use Rattle.protocol.specs.HandOver.{handed_over, standing}
use Rattle.protocol.specs.Calls.{Call, start_read, start_fast_read, start_write, deliver, show}
use Rattle.protocol.specs.Calls.{clear, hand_over, compare, check, refusal, quiet, effects}
use Rattle.protocol.specs.Calls.{start_mixed}
use Rattle.protocol.proofs.Cleared.{cleared-sublist, stored-cleared}
use Rattle.protocol.proofs.Ranges.Values.{IsClient}
use Rattle.protocol.proofs.Ranges.Tables.{Valid}
use Rattle.protocol.proofs.Refusals.{AcceptedStart, AcceptedWrite, AcceptedDeliver}
use Rattle.protocol.proofs.Refusals.{accepted-read, accepted-fast-read, accepted-write}
use Rattle.protocol.proofs.Refusals.{accepted-deliver, accepted-show, accepted-clear}
use Rattle.protocol.proofs.Refusals.{accepted-hand-over, accepted-compare, accepted-check}
use Rattle.protocol.proofs.Refusals.{AcceptedMixed, accepted-mixed}
use Rattle.protocol.proofs.HandOver.{handed-taken, handed-grows}

-- the tables with other views and stored versions
abbrev pub aside : Tables → (ℕ → ℕ → Entry) → List Version → Tables
aside t view versions =
    record {
      sizes = t.sizes;
      latest = t.latest;
      view = view;
      client = t.client;
      versions = versions;
      messages = t.messages;
    }

-- no stamp of a view falls
abbrev pub ViewGrows : Tables → Tables → Type 0
ViewGrows t u = (d k : ℕ) → (t.view d k).stamp ≤ (u.view d k).stamp

-- and none of a latest
abbrev pub LatestGrows : Tables → Tables → Type 0
LatestGrows t u = (k : ℕ) → (t.latest k).stamp ≤ (u.latest k).stamp

-- a call that answers, and at most gives view entries from client to client and takes out versions
-- of unused stamps
pub record Apart (t : Tables) (c : Call) : Type 0 where
  pub view : ℕ → ℕ → Entry
  pub versions : List Version
  pub output : List ℕ
  pub answer : Answer
  pub does : effects t c ≡ quiet (aside t view versions) output answer
  pub taken : (d k : ℕ) → IsClient t.sizes d → k < t.sizes.items
      → (e : ℕ) × IsClient t.sizes e × (view d k ≡ t.view e k)
  pub grows : ViewGrows t (aside t view versions)
  pub fewer : Sublistᴰ versions t.versions
  pub spares : (s : ℕ) → unused t s ≡ false → (k : ℕ) → stored t.versions k s ≡ true
      → stored versions k s ≡ true

-- a hand-over, a call that leaves the views alone, and one that does nothing but answer
pub handing : (t : Tables) (giver receiver : ℕ) → IsClient t.sizes giver
    → Apart t (hand_over giver receiver)
handing t giver receiver exists =
    record {
      view = (handed_over t giver receiver).view;
      versions = t.versions;
      output = [];
      answer = HandedOver giver receiver;
      does = refl;
      taken = λ d k i l. handed-taken t giver receiver exists d k i;
      grows = handed-grows t giver receiver;
      fewer = Sublistᴰ.refl t.versions;
      spares = λ s used k h. h;
    }

pub unseen : (t : Tables) (c : Call) (versions : List Version) (output : List ℕ) (answer : Answer)
    → effects t c ≡ quiet (with_versions t versions) output answer
    → Sublistᴰ versions t.versions
    → ((s : ℕ) → unused t s ≡ false → (k : ℕ) → stored t.versions k s ≡ true
    → stored versions k s ≡ true) → Apart t c
unseen t c versions output answer e fewer spares =
    record {
      view = t.view;
      versions = versions;
      output = output;
      answer = answer;
      does = e;
      taken = λ d k i l. (d, i, refl);
      grows = λ d k. le_refl (t.view d k).stamp;
      fewer = fewer;
      spares = spares;
    }

pub still : (t : Tables) (c : Call) (output : List ℕ) (answer : Answer)
    → effects t c ≡ quiet t output answer → Apart t c
still t c output answer e =
    unseen t c t.versions output answer e (Sublistᴰ.refl t.versions) (λ s used k h. h)

module _ (caps : Capacities) (t : Tables) where
  pub data Sort : Call → Type 0 where
    reads : (d s : ℕ) → AcceptedStart caps t d s → Sort (start_read d s)
    reads_fast : (d s : ℕ) → AcceptedStart caps t d s → Sort (start_fast_read d s)
    writes : (d s : ℕ) (bytes : List ℕ) → AcceptedWrite caps t d s bytes
        → Sort (start_write d s bytes)
    mixes : (d r s : ℕ) (bytes : List ℕ) → AcceptedMixed caps t d r s bytes
        → Sort (start_mixed d r s bytes)
    delivers : (i : ℕ) → AcceptedDeliver caps t i → Sort (deliver i)
    apart : (c : Call) → Valid caps t → Apart t c → Sort c

  pub sort : (c : Call) → refusal caps t c ≡ 0 → Sort c
  sort (start_read d s) e = reads d s ((accepted-read caps t d s).0 e)
  sort (start_fast_read d s) e = reads_fast d s ((accepted-fast-read caps t d s).0 e)
  sort (start_write d s bytes) e = writes d s bytes ((accepted-write caps t d s bytes).0 e)
  sort (start_mixed d r s bytes) e = mixes d r s bytes ((accepted-mixed caps t d r s bytes).0 e)
  sort (deliver i) e = delivers i ((accepted-deliver caps t i).0 e)
  sort (show d output) e =
      apart (show d output) ((accepted-show caps t d output).0 e).valid
      (still t (show d output) _ _ refl)
  sort clear e =
      apart clear ((accepted-clear caps t).0 e)
      (unseen t clear (cleared t).versions [] (Cleared (gone t)) refl (cleared-sublist t)
      (stored-cleared t))
  sort (hand_over giver receiver) e =
      let a = (accepted-hand-over caps t giver receiver).0 e in
      apart (hand_over giver receiver) a.valid (handing t giver receiver a.giver)
  sort (compare d e) h =
      apart (compare d e) ((accepted-compare caps t d e).0 h).valid
      (still t (compare d e) [] (Compared (standing t d e)) refl)
  sort check e =
      apart check ((accepted-check caps t).0 e).valid (still t check [] Checked refl)
