-- What an accepted call keeps, whatever its sort: the tables stay valid where transactions that
-- read and write have a stamp, which they keep; sizes stay, counts rise, views and latest grow,
-- versions and prepares by no more than the prepares that join, and the client of a start was idle.
use mathlib.Core.Bool.{true}
use mathlib.Core.Logic.{◌≢◌, inl, inr}
use mathlib.Core.Path.{◌≡◌, refl, sym, ◌∙◌, subst}
use Prim.Native.Nat.{ℕ, ◌+◌, ◌≤◌}
use native.Mathlib.Nat.{le_refl, le_trans}
use native.Mathlib.Omega.{arith}
use lib.Dec.{eqb}
use borrow.Author.Tests.{eqb-true}
use Rattle.basics.proofs.Cases.{not-both}
use Rattle.basics.specs.Lists.{counted}
use Rattle.basics.proofs.Lists.{sublist-in, length-sublist}
use Rattle.protocol.specs.Tables.{Sizes, Tables, Client, put}
use Rattle.protocol.specs.Message.{is_prepare}
use Rattle.protocol.specs.Range.{Capacities, load, occupied}
use Rattle.protocol.specs.FastRead.{fast_reader}
use Rattle.protocol.specs.Steps.{message_at, reader, writer, mixer}
use Rattle.protocol.specs.Calls.{Call, deliver, refusal, Effects, effects, effect, is_start}
use Rattle.protocol.proofs.Put.{put-every}
use Rattle.protocol.proofs.Delivered.{put-rises, delivered-work, KeepsParts}
use Rattle.protocol.proofs.Ranges.Values.{IsClient, EntryInRange}
use Rattle.protocol.proofs.Ranges.Tables.{Valid, Within, valid-within, Stamps}
use Rattle.protocol.proofs.Refusals.{Idle, accepted-message}
use Rattle.protocol.proofs.Load.{load_read, load-fast-read, load-write, load-mixed}
use Rattle.protocol.proofs.Load.{load-deliver}
use Rattle.protocol.proofs.Occupied.{counted-prepares, occupied-read, occupied-write}
use Rattle.protocol.proofs.Occupied.{occupied-fast-read, occupied-deliver, counted-mixed}
use Rattle.protocol.proofs.Occupied.{occupied-mixed}
use Rattle.protocol.proofs.Kept.Starts.{range-read, range-fast-read, range-write}
use Rattle.protocol.proofs.Kept.Starts.{range-mixed}
use Rattle.protocol.proofs.Kept.Deliveries.{range-delivered, range-deliver}
use Rattle.protocol.proofs.Sorts.{aside, ViewGrows, LatestGrows, Apart, Sort, reads}
use Rattle.protocol.proofs.Sorts.{reads_fast, writes, mixes, delivers, apart, sort}

-- ---- one lemma a sort

pub record Keeps (caps : Capacities) (t : Tables) (e : Effects) : Type 0 where
  pub valid : Stamps t → Valid caps e.tables
  pub within : Within caps e.tables
  pub stamps : Stamps t → Stamps e.tables
  pub sizes : e.tables.sizes ≡ t.sizes
  pub rises : (d : ℕ) → (t.client d).count ≤ (e.tables.client d).count
  pub view : ViewGrows t e.tables
  pub latest : LatestGrows t e.tables
  pub occupies : occupied e.tables ≤ occupied t + counted is_prepare e.joins
  pub starter : (d : ℕ) → is_start d e.origin ≡ true → IsClient t.sizes d × Idle (t.client d)

-- fewer versions occupy no more
occupied-apart : (t : Tables) (c : Call) (a : Apart t c)
    → occupied (aside t a.view a.versions) ≤ occupied t
unfolding occupied
occupied-apart t c a = omega (arith, length-sublist a.fewer)

-- views given from client to client are in range, and so are fewer versions
pub valid-apart : (caps : Capacities) (t : Tables) (c : Call) → Valid caps t → (a : Apart t c)
    → Valid caps (aside t a.view a.versions)
unfolding load
valid-apart caps t c v a =
    record {
      in_range = record {
        sizes = v.in_range.sizes;
        latest = v.in_range.latest;
        view = λ d i k l.
            let from = a.taken d k i l in
            subst (EntryInRange t.sizes) (sym from.2)
            (v.in_range.view from.0 from.1 k l);
        client = v.in_range.client;
        versions = λ u i. v.in_range.versions u (sublist-in a.fewer u i);
        messages = v.in_range.messages;
      };
      load = v.load;
      occupied = le_trans (occupied-apart t c a) v.occupied;
    }

-- of one client

abbrev HasStamp : Client → Type 0
HasStamp c = c.read.set ≢ 0 → c.write.set ≢ 0 → c.write.stamp ≢ 0

parts-stamped : (c c' : Client) → KeepsParts c c' → HasStamp c → HasStamp c'
parts-stamped c c' (inl none) h r w z = w none
parts-stamped c c' (inr same) h r w z =
    h (λ e. r (same.0 ∙ e)) (λ e. w (same.1 ∙ e)) (sym same.2 ∙ z)

module _ (caps : Capacities) (t : Tables) where
  started-stamped : (d : ℕ) (c : Client) → HasStamp c → Stamps t → (e : ℕ) → IsClient t.sizes e
      → HasStamp (put t.client d c e)
  started-stamped d c h stamps =
      put-every (λ (e : ℕ) (x : Client). IsClient t.sizes e → HasStamp x) t.client d c
      (λ is. h) (λ e n. stamps e)

  -- the client of a start, by its number
  started-idle : (e d : ℕ) → eqb e d ≡ true → IsClient t.sizes e → Idle (t.client e)
      → IsClient t.sizes d × Idle (t.client d)
  started-idle e d same is idle =
      subst (λ (x : ℕ). IsClient t.sizes x × Idle (t.client x)) (eqb-true e d same) (is, idle)

  sort-keeps : {c : Call} → Sort caps t c → Keeps caps t (effects t c)
  unfolding effect
  sort-keeps (reads d s a) =
      record {
        valid = λ stamps. record {
          in_range = range-read caps t d s a;
          load = omega (arith, load_read caps t d s a);
          occupied = omega (arith, occupied-read caps t d s a);
        };
        within = record {
          client = (range-read caps t d s a).client;
          load = omega (arith, load_read caps t d s a);
          occupied = omega (arith, occupied-read caps t d s a);
        };
        stamps = started-stamped d (reader t d s) (λ r w. absurd (w refl));
        sizes = refl;
        rises = put-rises t.client d (reader t d s) (le_refl (t.client d).count);
        view = λ e k. le_refl (t.view e k).stamp;
        latest = λ k. le_refl (t.latest k).stamp;
        occupies = omega (arith, occupied-read caps t d s a);
        starter = λ e same. started-idle d e same a.client a.idle;
      }
  sort-keeps (reads_fast d s a) =
      record {
        valid = λ stamps. record {
          in_range = range-fast-read caps t d s a;
          load = omega (arith, load-fast-read caps t d s a);
          occupied = omega (arith, occupied-fast-read caps t d s a);
        };
        within = record {
          client = (range-fast-read caps t d s a).client;
          load = omega (arith, load-fast-read caps t d s a);
          occupied = omega (arith, occupied-fast-read caps t d s a);
        };
        stamps = started-stamped d (fast_reader t d s) (λ r w. absurd (w refl));
        sizes = refl;
        rises = put-rises t.client d (fast_reader t d s) (le_refl (t.client d).count);
        view = λ e k. le_refl (t.view e k).stamp;
        latest = λ k. le_refl (t.latest k).stamp;
        occupies = omega (arith, occupied-fast-read caps t d s a);
        starter = λ e same. started-idle d e same a.client a.idle;
      }
  sort-keeps (writes d s bytes a) =
      record {
        valid = λ stamps. record {
          in_range = range-write caps t d s bytes a;
          load = omega (arith, load-write caps t d s a.start bytes);
          occupied = omega (arith, occupied-write caps t d s a.start bytes);
        };
        within = record {
          client = (range-write caps t d s bytes a).client;
          load = omega (arith, load-write caps t d s a.start bytes);
          occupied = omega (arith, occupied-write caps t d s a.start bytes);
        };
        stamps = started-stamped d (writer t d s bytes) (λ r w. absurd (r refl));
        sizes = refl;
        rises = put-rises t.client d (writer t d s bytes) (omega arith);
        view = λ e k. le_refl (t.view e k).stamp;
        latest = λ k. le_refl (t.latest k).stamp;
        occupies = omega (
          arith,
          occupied-write caps t d s a.start bytes,
          counted-prepares t d s bytes a.start.set,
        );
        starter = λ e same. started-idle d e same a.start.client a.start.idle;
      }
  sort-keeps (mixes d r s bytes a) =
      record {
        valid = λ stamps. record {
          in_range = range-mixed caps t d r s bytes a;
          load = omega (arith, load-mixed caps t d r s bytes a, a.load);
          occupied = omega (arith, occupied-mixed caps t d r s bytes a, a.write.occupied);
        };
        within = record {
          client = (range-mixed caps t d r s bytes a).client;
          load = omega (arith, load-mixed caps t d r s bytes a, a.load);
          occupied = omega (arith, occupied-mixed caps t d r s bytes a, a.write.occupied);
        };
        stamps = started-stamped d (mixer t d r s bytes)
            (λ r w z. absurd (omega (arith, a.read.client.0)));
        sizes = refl;
        rises = put-rises t.client d (mixer t d r s bytes) (omega arith);
        view = λ e k. le_refl (t.view e k).stamp;
        latest = λ k. le_refl (t.latest k).stamp;
        occupies = omega (
          arith,
          occupied-mixed caps t d r s bytes a,
          counted-mixed t d r s bytes a.write.start.set,
        );
        starter = λ e same. started-idle d e same a.read.client a.read.idle;
      }
  sort-keeps (delivers i a) =
      record {
        valid = λ stamps. record {
          in_range = range-deliver caps t i a stamps;
          load = omega (arith, load-deliver caps t i a);
          occupied = omega (arith, occupied-deliver caps t i a);
        };
        within = record {
          client = (range-delivered t (message_at t i) a.valid.in_range
              (accepted-message caps t i a) a.expected).client;
          load = omega (arith, load-deliver caps t i a);
          occupied = omega (arith, occupied-deliver caps t i a);
        };
        stamps = λ stamps. subst (λ (z : Sizes). (d : ℕ) → IsClient z d
            → HasStamp ((effect t (deliver i)).client d))
            (sym (delivered-work t (message_at t i)).sizes)
            (λ d is. parts-stamped (t.client d) ((effect t (deliver i)).client d)
            ((delivered-work t (message_at t i)).parts d) (stamps d is));
        sizes = (delivered-work t (message_at t i)).sizes;
        rises = (delivered-work t (message_at t i)).rises;
        view = (delivered-work t (message_at t i)).view;
        latest = (delivered-work t (message_at t i)).latest;
        occupies = omega (arith, occupied-deliver caps t i a);
        starter = λ e same. not-both same refl;
      }
  sort-keeps (apart c v a) =
      subst (Keeps caps t) (sym a.does)
      (record {
        valid = λ stamps. valid-apart caps t c v a;
        within = valid-within caps _ (valid-apart caps t c v a);
        stamps = λ stamps. stamps;
        sizes = refl;
        rises = λ d. le_refl (t.client d).count;
        view = a.grows;
        latest = λ k. le_refl (t.latest k).stamp;
        occupies = le_trans (occupied-apart t c a) (omega arith);
        starter = λ e same. not-both same refl;
      })

  pub keeps : (c : Call) → refusal caps t c ≡ 0 → Keeps caps t (effects t c)
  keeps c e = sort-keeps (sort caps t c e)
