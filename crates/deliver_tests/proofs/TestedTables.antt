-- What is told of a message from the words of a block is what the tables say: refusals 11 and 12,
-- and the version that answers a get.
use mathlib.Core.Bool.{Bool, true, false, cond, not, ◌&&◌, ◌||◌, and-true, and-false}
use mathlib.Core.List.{List, [], ◌∷◌}
use mathlib.Core.Path.{◌≡◌, refl, sym, ap, ◌∙◌}
use Prim.Native.Nat.{ℕ, zero, suc, ◌≤◌}
use native.Mathlib.Omega.{arith}
use lib.Dec.{eqb}
use borrow.Author.Tests.{eqb-true}
use Rattle.basics.proofs.Cases.{by-test, not-both}
use Rattle.std.specs.Prelude.{Some, None, Ok, Err}
use Rattle.basics.specs.Lists.{table}
use Rattle.itemset.specs.Set.{has}
use Rattle.itemset.proofs.Laws.{has-empty}
use Rattle.protocol.specs.declared.Version.{Version}
use Rattle.protocol.specs.declared.Entry.{Entry}
use Rattle.protocol.specs.declared.Message.{Message}
use Rattle.protocol.specs.declared.Message.TheVariants.{Prepare, Prepared, Commit, Get, Got}
use Rattle.protocol.specs.declared.Message.TheVariants.{FirstGet, FirstReply}
use Rattle.protocol.specs.Tables.{Sizes, Tables, Client, is_first_part, writer_of}
use Rattle.protocol.specs.Message.{is_any_get, item_of}
use Rattle.protocol.specs.Range.{is_writing}
use Rattle.protocol.specs.declared.refusal.Refusal.TheVariants.{Missing}
use Rattle.protocol.specs.Refusal.{refused_by}
use Rattle.protocol.specs.Steps.{version, stored, found}
use Rattle.protocol.specs.Calls.{test, first, unexpected, sought_by, missing}
use Rattle.protocol.proofs.Ranges.Values.{MessageInRange}
use Rattle.protocol.proofs.Ranges.Clients.{ClientInRange}
use Rattle.protocol.proofs.Ranges.Tables.{InRange}
use Rattle.protocol.proofs.Stored.{not_found}
use Rattle.layout.specs.Layout.{header, scalars, asked, at, versions_at, mode_at, awaited_at}
use Rattle.layout.specs.Layout.{stamp_at, item_at, is_write_mode, is_mixed_mode, read_mode}
use Rattle.layout.specs.Decode.{latest_in, version_in}
use Rattle.layout.specs.Encodes.{writes_alone, Encodes, HoldsClient}
use Rattle.layout.proofs.EncodesEntry.{latest-held}
use Rattle.layout.proofs.Parts.{alone-or-mixed, no-stage, no-answer-awaited, no-reply-awaited}
use Rattle.layout.proofs.Parts.{mode-writing, mode-mixed, mode-other, mode-writes}
use Rattle.slots.proofs.ReadBack.{table-versions}
use Rattle.deliver_tests.specs.Tests.{Tested, none, unstored, answer_in, told, prepared_awaited}
use Rattle.deliver_tests.specs.Tests.{tested_in}

-- the version that answers a get, of either kind; no other message has one
unfoldable pub answer_of : Tables → Message → Version
answer_of t m = cond (is_any_get m) (found t.versions (item_of m) (sought_by t m)) none

-- ---- the tests

-- 11 unless it is awaited
unless-awaited : (a : Bool)
    → refused_by (told a) ≡ first (test 11 (not a) ∷ test 12 false ∷ [])
unfolding first
unless-awaited true = refl
unless-awaited false = refl

-- and of a prepare if it is stored
if-stored : (s : Bool) → refused_by (told (not s)) ≡ first (test 11 s ∷ test 12 false ∷ [])
unfolding first
if-stored true = refl
if-stored false = refl

no-answer : (v : Version) (a : Bool) → answer_in v (told a) ≡ v
no-answer v true = refl
no-answer v false = refl

-- what is told of m, where the block is b and the tables are t
pub record Tells (b : List ℕ) (x : Tested) (t : Tables) (m : Message) : Type 0 where
  pub refusal : refused_by x ≡ first (test 11 (unexpected t m) ∷ test 12 (missing t m) ∷ [])
  pub found : answer_in (unstored b m) x ≡ answer_of t m

-- ---- replies

-- by its mode a client reads, awaits gots, or awaits first replies
got-mode : (stage : ℕ) → stage ≤ 2
    → (eqb (read_mode stage) 1 || eqb (read_mode stage) 4 || eqb (read_mode stage) 5)
    ≡ not (eqb stage 1)
got-mode zero l = refl
got-mode (suc zero) l = refl
got-mode (suc (suc zero)) l = refl
got-mode (suc (suc (suc n))) l = absurd (omega arith)

first-mode : (stage : ℕ) → stage ≤ 2 → eqb (read_mode stage) 3 ≡ eqb stage 1
first-mode zero l = refl
first-mode (suc zero) l = refl
first-mode (suc (suc zero)) l = refl
first-mode (suc (suc (suc n))) l = absurd (omega arith)

module _ {b : List ℕ} (z : Sizes) (d k stamp : ℕ) (c : Client) (h : HoldsClient b d c)
    (r : ClientInRange z c) where
  abbrev mode : ℕ
  mode = at b scalars (mode_at d)

  abbrev word : ℕ
  word = at b scalars (awaited_at d)

  writing-word : (is_write_mode mode || is_mixed_mode mode) ≡ is_writing c
  writing-word = ap (λ (x : ℕ). is_write_mode x || is_mixed_mode x) h.mode ∙ mode-writes z c r

  -- a prepared reply is awaited by the words exactly if the write part awaits it
  prepared-awaited :
      (has (prepared_awaited b d) k
      && ((eqb mode 2 || eqb mode 5) && eqb (at b scalars (stamp_at d)) stamp))
      ≡ (has c.write.awaited k && eqb c.write.stamp stamp)
  prepared-awaited =
      by-test (is_writing c)
      (λ w. rw (writing-word ∙ w, (h.write w).awaited, (h.write w).stamp) refl)
      (λ w. rw (writing-word ∙ w, no-reply-awaited z c r w, has-empty k)
      (and-false (has (prepared_awaited b d) k)))

  some : has c.read.awaited k ≡ true → eqb c.read.awaited 0 ≡ false
  some e = by-test (eqb c.read.awaited 0)
      (λ x. not-both e (rw (eqb-true c.read.awaited 0 x) (has-empty k))) (λ x. x)

  -- a mixed transaction's read part is an ordinary read's
  module _ (w : is_writing c ≡ true) (a : writes_alone c ≡ false) where
    mixed-mode : mode ≡ 5
    mixed-mode = h.mode ∙ mode-mixed z c r (alone-or-mixed c w a)

    ordinary : is_first_part c.read ≡ false
    ordinary = rw (no-stage z c r w) refl

  -- and a got, or a first reply, exactly if the read part does
  got-awaited :
      (has word k && ((eqb mode 1 || eqb mode 4 || eqb mode 5)
      && eqb (at b asked (item_at d k)) stamp))
      ≡ (not (is_first_part c.read) && has c.read.awaited k && eqb (c.read.asked k) stamp)
  got-awaited =
      let by_stamp = not (is_first_part c.read) in
      by-test (writes_alone c)
      (λ a. rw (
        h.mode,
        mode-writing z c r a,
        no-answer-awaited z c r a,
        has-empty k,
        and-false (has word k),
        and-false by_stamp,
      ) refl)
      (λ a. by-test (is_writing c)
      (λ w. rw (mixed-mode w a, ordinary w a, (h.read a).awaited)
      (by-test (has c.read.awaited k)
      (λ e. rw (e, (h.read a).asked k (r.read.within k e)) refl) (λ e. rw e refl)))
      (λ w. rw (h.mode, mode-other z c r w, (h.read a).awaited)
      (by-test (has c.read.awaited k)
      (λ e. rw (
        some e,
        e,
        (h.read a).asked k (r.read.within k e),
        got-mode c.read.stage r.read.stage,
        and-true by_stamp,
      ) refl)
      (λ e. rw (e, and-false by_stamp) refl))))

  first-awaited : (has word k && eqb mode 3)
      ≡ (is_first_part c.read && has c.read.awaited k)
  first-awaited =
      by-test (writes_alone c)
      (λ a. rw (h.mode, mode-writing z c r a, no-answer-awaited z c r a, has-empty k)
      (and-false (has word k) ∙ sym (and-false (is_first_part c.read))))
      (λ a. by-test (is_writing c)
      (λ w. rw (mixed-mode w a, ordinary w a) (and-false (has word k)))
      (λ w. rw (h.mode, mode-other z c r w, (h.read a).awaited)
      (by-test (has c.read.awaited k)
      (λ e. rw (some e, e, first-mode c.read.stage r.read.stage)
      (sym (and-true (is_first_part c.read))))
      (λ e. rw e (sym (and-false (is_first_part c.read)))))))

-- ---- the whole

read_back : {b : List ℕ} {t : Tables} → Encodes b t
    → table (at b header versions_at) (version_in b) ≡ t.versions
read_back {b} n = ap (λ (i : ℕ). table i (version_in b)) n.version_count ∙ table-versions n

-- a get of item k with this stamp, of the versions vs
abbrev sought : List Version → ℕ → ℕ → Tested
sought vs k stamp =
    cond (stored vs k stamp) (Ok (Some (found vs k stamp)))
    (cond (eqb stamp 0) (Ok None) (Err Missing))

get-refusal : (vs : List Version) (k stamp : ℕ) → refused_by (sought vs k stamp) ≡ first
    (test 11 false ∷ test 12 (not (eqb stamp 0 || stored vs k stamp)) ∷ [])
unfolding first
get-refusal vs k stamp =
    by-test (stored vs k stamp) (λ s. by-test (eqb stamp 0) (λ z. rw (s, z) refl)
    (λ z. rw (s, z) refl))
    (λ s. by-test (eqb stamp 0) (λ z. rw (s, z) refl) (λ z. rw (s, z) refl))

get-answer : (vs : List Version) (k stamp : ℕ)
    → answer_in (version k 0 stamp 0) (sought vs k stamp) ≡ found vs k stamp
get-answer vs k stamp =
    by-test (stored vs k stamp) (λ s. rw s refl)
    (λ s. by-test (eqb stamp 0) (λ z. rw (s, z) (sym (not_found vs k stamp s)))
    (λ z. rw (s, z) (sym (not_found vs k stamp s))))

pub tested-tables : {b : List ℕ} {t : Tables} (m : Message) → Encodes b t → InRange t
    → MessageInRange t.sizes m → Tells b (tested_in b (at b header versions_at) m) t m
unfolding tested_in unexpected missing answer_of first
tested-tables {b} {t} (Prepare v) n z i = record {
  refusal =
      ap (λ (vs : List Version). refused_by (told (not (stored vs v.item v.stamp)))) (read_back n)
      ∙ if-stored (stored t.versions v.item v.stamp);
  found = no-answer none (not (stored (table (at b header versions_at) (version_in b)) v.item v.stamp));
}
tested-tables {b} {t} (Prepared k stamp) n z i =
    let w = (i.written (omega arith)).writer in
    let d = writer_of stamp in
    let c = t.client d in
    record {
      refusal = rw (prepared-awaited t.sizes d k stamp c (n.client d w.0 w.1)
          (z.client d w))
          (unless-awaited (has c.write.awaited k && eqb c.write.stamp stamp));
      found = no-answer none _;
    }
tested-tables {b} {t} (Commit p stamp) n z i = record { refusal = refl; found = refl }
tested-tables {b} {t} (Get d k stamp) n z i = record {
  refusal =
      ap (λ (vs : List Version). refused_by (sought vs k stamp)) (read_back n)
      ∙ get-refusal t.versions k stamp;
  found =
      ap (λ (vs : List Version). answer_in (version k 0 stamp 0) (sought vs k stamp)) (read_back n)
      ∙ get-answer t.versions k stamp;
}
tested-tables {b} {t} (Got d v latest) n z i =
    let w = i.client (omega arith) in
    let c = t.client d in
    let k = v.item in
    record {
      refusal = rw (got-awaited t.sizes d k v.stamp c (n.client d w.0 w.1)
          (z.client d w))
          (unless-awaited (not (is_first_part c.read) && has c.read.awaited k
          && eqb (c.read.asked k) v.stamp));
      found = no-answer none _;
    }
tested-tables {b} {t} (FirstGet d k) n z i =
    let stamp = (t.latest k).stamp in
    let asks : (latest_in b k).stamp ≡ stamp =
    ap (λ (e : Entry). e.stamp) (latest-held n k i.item) in
    record {
      refusal =
          rw (asks, read_back n) (get-refusal t.versions k stamp);
      found = rw (asks, read_back n) (get-answer t.versions k stamp);
    }
tested-tables {b} {t} (FirstReply d v latest) n z i =
    let w = i.client (omega arith) in
    let c = t.client d in
    record {
      refusal = rw (first-awaited t.sizes d v.item v.stamp c (n.client d w.0 w.1)
          (z.client d w))
          (unless-awaited (is_first_part c.read && has c.read.awaited v.item));
      found = no-answer none _;
    }
