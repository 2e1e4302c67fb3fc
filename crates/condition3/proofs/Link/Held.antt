-- Tables that the check accepts are linked to the history of what they hold: each stored version
-- landed before all calls, each prepare is of a write under way, each got of a write that had
-- landed whole.
use mathlib.Core.Bool.{Bool, true}
use mathlib.Core.List.{List, [], ◌∷◌, map}
use mathlib.Core.Logic.{◌≢◌, inl, inr, ⊎_elim}
use mathlib.Core.Path.{◌≡◌, refl, sym, ap, ◌∙◌, subst}
use Prim.Native.Nat.{ℕ, zero, suc, ◌^◌, ◌<◌}
use native.Mathlib.Nat.{not-suc-le-zero}
use native.Mathlib.Omega.{arith}
use lib.Dec.{eqb}
use borrow.Author.Tests.{eqb-true, eqb-false}
use Rattle.basics.proofs.Cases.{by-test, not-both, or_cases}
use Rattle.basics.specs.Lists.{In}
use Rattle.basics.proofs.Lists.{in_left, in_right, in_map, map-in}
use Rattle.itemset.specs.Set.{has, upto, only}
use Rattle.itemset.proofs.Laws.{has-empty}
use Rattle.protocol.specs.declared.Version.{Version}
use Rattle.protocol.specs.declared.Message.{Message}
use Rattle.protocol.specs.declared.Message.TheVariants.{Prepare, Prepared, Commit, Get, Got}
use Rattle.protocol.specs.declared.Message.TheVariants.{FirstGet, FirstReply}
use Rattle.protocol.specs.Tables.{Tables, writer_of}
use Rattle.protocol.specs.Message.{parts_of, is_prepare, item_of, owner_of}
use Rattle.protocol.specs.Range.{Capacities, is_writing}
use Rattle.protocol.specs.Steps.{stored, found}
use Rattle.protocol.proofs.Each.{Each, each_append, each-upto}
use Rattle.protocol.proofs.Stored.{found-held}
use Rattle.protocol.proofs.Ranges.Values.{IsClient}
use Rattle.protocol.proofs.Ranges.Tables.{is-client}
use Rattle.condition3.specs.World.{Labelled, Write}
use Rattle.condition3.specs.Held.{held_write, held_writes, held_stores, held_message, held}
use Rattle.condition3.proofs.Sound.{Ledger, Good, Counted, Fits, SoundBy}
use Rattle.condition3.proofs.Sound.Carry.{owner-client}
use Rattle.condition3.proofs.Sound.Counts.{write-counted}
use Rattle.condition3.proofs.Sound.Check.{ledger_of, is-writing, writing-some}
use Rattle.condition3.proofs.Sound.Passes.{got-good}
use Rattle.condition3.proofs.Link.{LandedBefore, Entered, FromStart, FromAnswer, Comes, Inv}
use Rattle.condition3.proofs.Common.{known, origin}

in-upto : (n : ℕ) (p : ℕ → Bool) (k : ℕ) → k < n → p k ≡ true → In k (upto n p)
unfolding upto
in-upto zero p k l e = absurd (not-suc-le-zero l)
in-upto (suc n) p k l e =
    by-test (eqb k n)
    (λ f. let same : k ≡ n = eqb-true k n f in
    in_right k (upto n p) (only (p n) n)
    (subst (λ (b : Bool). In k (only b n)) (sym (subst (λ (j : ℕ). p j ≡ true) same e))
    (inl same)))
    (λ f. in_left k (upto n p) (only (p n) n)
    (in-upto n p k (omega (arith, eqb-false k n f)) e))

unlabelled : (ms : List Message) → map (λ l. l.message) (map held_message ms) ≡ ms
unlabelled [] = refl
unlabelled (m ∷ ms) = ap (λ (r : List Message). m ∷ r) (unlabelled ms)

module _ (caps : Capacities) (t : Tables) (sound : SoundBy caps (ledger_of t) t) where
  abbrev L : Ledger
  L = ledger_of t

  abbrev started : ℕ → Write
  started i = held_write t (t.client (suc i)).write.stamp

  -- ---- the writes held

  -- each is its stamp's, which is counted and isn't initial
  record Holds (a : Write) : Type 0 where
    is : a ≡ held_write t a.stamp
    number : Counted t.client a.stamp
    later : a.stamp ≢ 0

  holds : Each Holds (held_writes t)
  unfolding held_writes
  holds =
      each_append Holds (map (λ v. held_write t v.stamp) t.versions)
      (map started (upto t.sizes.clients (λ i. is_writing (t.client (suc i)))))
      (λ a i. let (v, j, e) = in_map (λ v. held_write t v.stamp) a t.versions i in
      subst Holds (sym e)
      (record {
        is = refl;
        number = (sound.versions v j).number;
        later = λ z. omega (arith, (sound.valid.in_range.versions v j).stamp.number);
      }))
      (each-upto Holds started t.sizes.clients (λ i. is_writing (t.client (suc i)))
      (λ i l w.
      let c = is-client t.sizes i l in
      let some = writing-some (t.client (suc i)) w in
      record {
        is = refl;
        number = write-counted caps L t sound (suc i) c some;
        later = λ z. omega (arith, (sound.writes (suc i) c some).newest);
      }))

  unique : (a b : Write) → In a (known (held_writes t)) → In b (known (held_writes t))
      → a.stamp ≡ b.stamp → a ≡ b
  unique a b (inl p) (inl q) e = p ∙ sym q
  unique a b (inl p) (inr q) e =
      absurd ((holds b q).later (sym e ∙ ap (λ (x : Write). x.stamp) p))
  unique a b (inr p) (inl q) e = absurd ((holds a p).later (e ∙ ap (λ (x : Write). x.stamp) q))
  unique a b (inr p) (inr q) e = (holds a p).is ∙ ap (held_write t) e ∙ sym (holds b q).is

  entered : (a : Write) → In a (known (held_writes t)) → Entered L t.client a
  entered a (inl p) =
      subst (Entered L t.client) (sym p)
      (record {
        set = sym sound.no_set;
        values = λ k e. not-both e (has-empty k);
        number = omega arith;
      })
  entered a (inr p) =
      subst (Entered L t.client) (sym (holds a p).is)
      (record { set = refl; values = λ k e. refl; number = (holds a p).number })

  version-in : (v : Version) → In v t.versions → In (held_write t v.stamp) (held_writes t)
  unfolding held_writes
  version-in v i =
      in_left (held_write t v.stamp) (map (λ v. held_write t v.stamp) t.versions)
      (map started (upto t.sizes.clients (λ i. is_writing (t.client (suc i)))))
      (map-in (λ (u : Version). held_write t u.stamp) v t.versions i)

  write-in : (d : ℕ) → IsClient t.sizes d → (t.client d).write.set ≢ 0
      → In (held_write t (t.client d).write.stamp) (held_writes t)
  unfolding held_writes
  write-in zero c m = absurd (omega arith)
  write-in (suc i) c m =
      in_right (started i) (map (λ v. held_write t v.stamp) t.versions)
      (map started (upto t.sizes.clients (λ i. is_writing (t.client (suc i)))))
      (map-in started i (upto t.sizes.clients (λ i. is_writing (t.client (suc i))))
      (in-upto t.sizes.clients (λ i. is_writing (t.client (suc i))) i c.1
      (is-writing (t.client (suc i)) m)))

  -- ---- where they landed

  version-landed : (v : Version) → In v t.versions → (n : ℕ) → 0 < n
      → LandedBefore (held_stores t) (held_write t v.stamp) v.item n
  unfolding held_stores
  version-landed v i n l = (
    record { start = v.stamp; item = v.item; time = 0 },
    map-in (λ (u : Version). record { start = u.stamp; item = u.item; time = 0 }) v
        t.versions i,
    refl,
    refl,
    l,
  )

  stored-in : (k s : ℕ) → stored t.versions k s ≡ true → In (held_write t s) (held_writes t)
  stored-in k s e =
      let h = found-held t.versions k s e in
      subst (λ (r : ℕ). In (held_write t r) (held_writes t)) h.stamp
      (version-in (found t.versions k s) h.is_in)

  stored-landed : (k s : ℕ) → stored t.versions k s ≡ true → (n : ℕ) → 0 < n
      → LandedBefore (held_stores t) (held_write t s) k n
  stored-landed k s e n l =
      let h = found-held t.versions k s e in
      subst (λ (r : ℕ). LandedBefore (held_stores t) (held_write t r) k n) h.stamp
      (subst (λ (j : ℕ). LandedBefore (held_stores t)
      (held_write t (found t.versions k s).stamp) j n) h.item
      (version-landed (found t.versions k s) h.is_in n l))

  -- a good stamp's write, or the one of no items
  good-known : (k s : ℕ) → Good L t.versions k s → (l : Labelled) → 0 < l.label.since
      → FromAnswer (held_writes t) (held_stores t) l.label s
  good-known k s good l since =
      ⊎_elim
      (λ z. record {
        write = origin;
        is_known = inl refl;
        same = sym (eqb-true s 0 z);
        landed = λ j f. not-both f (has-empty j);
      })
      (λ h. record {
        write = held_write t s;
        is_known = inr (stored-in k s (good.whole k h));
        same = refl;
        landed = λ j f. stored-landed j s (good.whole j f) l.label.since since;
      })
      (or_cases (eqb s 0) (has (L.set s) k) good.mine)

  prepare-started : (m : Message) → In m t.messages → is_prepare m ≡ true
      → FromStart (held_writes t) (held_message m).label (parts_of m).stamp
  unfolding Fits
  prepare-started (Prepare v) i e =
      let fit = sound.fits (Prepare v) i in
      record {
        write = held_write t v.stamp;
        is_in = subst (λ (r : ℕ). In (held_write t r) (held_writes t)) fit.stamp
            (write-in (writer_of v.stamp) (owner-client caps L t sound (Prepare v) i)
            fit.mode);
        same = refl;
        started = refl;
      }
  prepare-started (Prepared k s) i e = not-both e refl
  prepare-started (Commit p s) i e = not-both e refl
  prepare-started (Get d k s) i e = not-both e refl
  prepare-started (Got d v l) i e = not-both e refl
  prepare-started (FirstGet d k) i e = not-both e refl
  prepare-started (FirstReply d v l) i e = not-both e refl

  comes : (m : Message) → In m t.messages
      → Comes (held_writes t) (held_stores t) (held_message m).label m
  comes m i =
      record {
        prepare = prepare-started m i;
        got = λ e. good-known (item_of m) (parts_of m).stamp
            (got-good caps L t sound m i e).0.good (held_message m) (omega arith);
      }

  pub held-inv : Inv caps (held t)
  held-inv =
      record {
        ledger = L;
        sound = sound;
        in_flight = unlabelled t.messages;
        owners = λ l i.
            let (m, j, e) = in_map held_message l t.messages i in
            subst (λ (x : Labelled). x.label.client ≡ owner_of x.message) (sym e) refl;
        unique = unique;
        entered = entered;
        stored = λ v i. record {
          write = held_write t v.stamp;
          is_in = version-in v i;
          same = refl;
          before = version-landed v i (2 ^ 40) (omega arith);
        };
        comes = λ l i.
            let (m, j, e) = in_map held_message l t.messages i in
            subst (λ (x : Labelled). Comes (held_writes t) (held_stores t) x.label
            x.message) (sym e) (comes m j);
      }
