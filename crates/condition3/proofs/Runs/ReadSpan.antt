-- A read under way that awaits gots, an ordinary one, the second part of a fast one or the read
-- part of a mixed transaction: what it asked for stays, and each got brings the value of the write
-- asked for.
use mathlib.Core.Bool.{true, false}
use mathlib.Core.List.{List, [], ◌∷◌, ◌++◌}
use mathlib.Core.Logic.{◌≢◌}
use mathlib.Core.Path.{◌≡◌, sym, ap, ◌∙◌, subst}
use Prim.Native.Nat.{ℕ}
use lib.Dec.{eqb}
use borrow.Author.Tests.{eqb-true, eqb-false}
use Rattle.basics.proofs.Cases.{by-test}
use Rattle.basics.specs.Lists.{In}
use Rattle.itemset.specs.Set.{has, remove}
use Rattle.itemset.proofs.Laws.{has-empty, has-remove-other}
use Rattle.protocol.specs.declared.Version.{Version}
use Rattle.protocol.specs.declared.Entry.{Entry}
use Rattle.protocol.specs.declared.Message.{Message}
use Rattle.protocol.specs.declared.Message.TheVariants.{Got}
use Rattle.protocol.specs.Tables.{Client, ReadPart, of_read, put}
use Rattle.protocol.specs.Message.{parts_of, is_any_got, item_of, owner_of}
use Rattle.protocol.specs.Range.{Capacities, is_idle}
use Rattle.protocol.specs.Steps.{answered, is_last}
use Rattle.condition3.specs.World.{World, Labelled, placed, is_reply, is_prepared_reply}
use Rattle.protocol.proofs.Put.{put_same, put_other}
use Rattle.condition3.proofs.Sound.{Fits, FitsGot}
use Rattle.condition3.proofs.Link.{Inv}
use Rattle.condition3.proofs.Link.Grows.{Grows}
use Rattle.condition3.proofs.Link.Messages.{fits}
use Rattle.condition3.proofs.Link.Asks.{Picked, picked-grows}
use Rattle.condition3.proofs.Runs.Replies.{Answer, Awaiting, answer-grows, no-reply-for}
use Rattle.condition3.proofs.Runs.Replies.{still-awaiting, Beside, still-beside, Reply}
use Rattle.condition3.proofs.Runs.Replies.{Brings, not-for, brought, no-prepared}
use Rattle.condition3.proofs.Runs.Replies.{goes_on as still-awaited}

-- the read of s by client d, at this stage, that asked for these stamps, beside a write of z
pub record Reading (d s stage again z : ℕ) (asked : ℕ → ℕ) (v : World)
    (left : List Labelled) : Type 0 where
  pub awaiting : Awaiting d s again v left
  pub beside : Beside d z v left
  pub busy : is_idle (v.tables.client d) ≡ false
  pub is_stage : (v.tables.client d).read.stage ≡ stage
  pub by_stamp : (v.tables.client d).read.stage ≢ 1
  pub asks : (v.tables.client d).read.asked ≡ asked
  pub picked : Picked v.writes s asked
  pub answered : (k : ℕ) → has s k ≡ true → has (v.tables.client d).read.awaited k ≡ false
      → Answer v d k (asked k) ((v.tables.client d).read.values k) left

-- ---- a call that leaves the read part as it was

pub undisturbed : (d s stage again z : ℕ) (asked : ℕ → ℕ) (v v' : World)
    (left more : List Labelled) → Grows v v'
    → (v'.tables.client d).read ≡ (v.tables.client d).read
    → ((l : Labelled) → In l more → is_reply d l ≡ false)
    → Beside d z v' (left ++ more) → is_idle (v'.tables.client d) ≡ false
    → Reading d s stage again z asked v left → Reading d s stage again z asked v' (left ++ more)
undisturbed d s stage again z asked v v' left more g same none beside busy r =
    record {
      awaiting = still-awaiting d s again v v' left more same none r.awaiting;
      beside = beside;
      busy = busy;
      is_stage = ap (λ (p : ReadPart). p.stage) same ∙ r.is_stage;
      by_stamp = λ e. r.by_stamp (sym (ap (λ (p : ReadPart). p.stage) same) ∙ e);
      asks = ap (λ (p : ReadPart). p.asked) same ∙ r.asks;
      picked = picked-grows v v' g s asked r.picked;
      answered =
          λ k e f. subst
          (λ (p : ReadPart). Answer v' d k (asked k) (p.values k) (left ++ more))
          (sym same)
          (answer-grows v v' d k (asked k) ((v.tables.client d).read.values k) left more g
          (no-reply-for d k more none)
          (r.answered k e (sym (ap (λ (p : ReadPart). has p.awaited k) same) ∙ f)));
    }

-- and the whole record of the client
pub unmoved : (d s stage again z : ℕ) (asked : ℕ → ℕ) (v v' : World)
    (left more : List Labelled) → Grows v v' → v'.tables.client d ≡ v.tables.client d
    → ((l : Labelled) → In l more → is_reply d l ≡ false)
    → ((l : Labelled) → In l more → is_prepared_reply d l ≡ false)
    → Reading d s stage again z asked v left → Reading d s stage again z asked v' (left ++ more)
unmoved d s stage again z asked v v' left more g same none unprepared r =
    undisturbed d s stage again z asked v v' left more g (ap (λ (c : Client). c.read) same) none
    (still-beside d z v v' left more (ap (λ (c : Client). c.write) same) unprepared r.beside)
    (ap is_idle same ∙ r.busy) r

-- ---- the delivery of one of its gots

module _ (caps : Capacities) (v : World) (inv : Inv caps v) (d s stage again z : ℕ)
    (asked : ℕ → ℕ) (left : List Labelled)
    (r : Reading d s stage again z asked v left) (i : ℕ) (here : In (placed v i) v.in_flight)
    (u : Version) (latest : Entry) (is-got : (placed v i).message ≡ Got d u latest) where
  abbrev c : Client
  c = v.tables.client d

  abbrev k : ℕ
  k = u.item

  fit : FitsGot inv.ledger v.tables.versions c u latest
  unfolding Fits
  fit = subst (λ (m : Message). Fits inv.ledger v.tables.versions
      (v.tables.client (owner_of m)) m) is-got (fits caps v inv (placed v i) here)

  pub reply : Reply caps v inv d i u
  reply =
      record {
        here = here;
        owner = ap owner_of is-got;
        item = ap item_of is-got;
        stamp = ap (λ (m : Message). (parts_of m).stamp) is-got;
        bears = ap (λ (m : Message). (parts_of m).value) is-got;
        got = ap is_any_got is-got;
        good = fit.version.good;
        value = fit.value;
      }

  abbrev values : ℕ → ℕ
  values = put c.read.values k u.value

  -- it is of the stamp asked for
  stamp-asked : u.stamp ≡ asked k
  stamp-asked = sym fit.asked ∙ ap (λ (f : ℕ → ℕ). f k) r.asks

  here-answered : (v' : World) → Brings caps v inv d i u reply v'
      → Answer v' d k (asked k) (values k) (left ++ placed v i ∷ [])
  here-answered v' b =
      subst (λ (x : ℕ). Answer v' d k (asked k) x (left ++ placed v i ∷ []))
      (sym (put_same c.read.values k u.value))
      (subst (λ (x : ℕ). Answer v' d k x u.value (left ++ placed v i ∷ [])) stamp-asked
      (brought caps v inv d i u reply v' b left))

  answered-after : (v' : World) → Brings caps v inv d i u reply v' → (j : ℕ) → has s j ≡ true
      → has (remove c.read.awaited k) j ≡ false
      → Answer v' d j (asked j) (values j) (left ++ placed v i ∷ [])
  answered-after v' b j e f =
      by-test (eqb j k)
      (λ t. subst (λ (x : ℕ). Answer v' d x (asked x) (values x) (left ++ placed v i ∷ []))
      (sym (eqb-true j k t)) (here-answered v' b))
      (λ t. let other : j ≡ k → ⊥ = eqb-false j k t in
      subst (λ (x : ℕ). Answer v' d j (asked j) x (left ++ placed v i ∷ []))
      (sym (put_other c.read.values k u.value j other))
      (answer-grows v v' d j (asked j) (c.read.values j) left (placed v i ∷ []) b.grows
      (not-for caps v inv d i u reply j other)
      (r.answered j e (sym (has-remove-other c.read.awaited k j other) ∙ f))))

  -- not the last: the read goes on
  pub goes_on : (v' : World) → Brings caps v inv d i u reply v'
      → v'.tables.client d ≡ answered c k u.value → is_last of_read c k ≡ false
      → Reading d s stage again z asked v' (left ++ placed v i ∷ [])
  goes_on v' b same f =
      record {
        awaiting = still-awaited caps v inv d i u reply s again left r.awaiting v'
            (ap (λ (x : Client). x.read.set) same) (ap (λ (x : Client). x.read.awaited) same);
        beside = still-beside d z v v' left (placed v i ∷ []) (ap (λ (x : Client). x.write) same)
            (no-prepared caps v inv d i u reply) r.beside;
        busy = ap is_idle same ∙ f;
        is_stage = ap (λ (x : Client). x.read.stage) same ∙ r.is_stage;
        by_stamp = λ z. r.by_stamp (sym (ap (λ (x : Client). x.read.stage) same) ∙ z);
        asks = ap (λ (x : Client). x.read.asked) same ∙ r.asks;
        picked = picked-grows v v' b.grows s asked r.picked;
        answered =
            λ j e q. subst
            (λ (x : Client). Answer v' d j (asked j) (x.read.values j) (left ++ placed v i ∷ []))
            (sym same)
            (answered-after v' b j e
            (sym (ap (λ (x : Client). has x.read.awaited j) same) ∙ q));
      }

  -- the last: all items are answered
  pub all-answered : (v' : World) → Brings caps v inv d i u reply v'
      → eqb (remove c.read.awaited k) 0 ≡ true → (j : ℕ) → has s j ≡ true
      → Answer v' d j (asked j) (values j) (left ++ placed v i ∷ [])
  all-answered v' b last j e =
      answered-after v' b j e (subst (λ (x : ℕ). has x j ≡ false)
      (sym (eqb-true (remove c.read.awaited k) 0 last)) (has-empty j))
