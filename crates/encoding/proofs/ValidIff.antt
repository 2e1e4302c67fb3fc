-- A block is valid exactly when it holds some tables that are in range and within the capacities.
use mathlib.Core.Bool.{true, false, ◌&&◌}
use mathlib.Core.List.{List}
use mathlib.Core.Logic.{◌↔◌}
use mathlib.Core.Path.{◌≡◌, refl, sym, ◌∙◌, subst, subst₂, ap, ap₂}
use Prim.Native.Nat.{ℕ, ◌+◌, ◌≤◌, ◌<◌}
use native.Mathlib.Omega.{arith}
use lib.ListN.{length, get_or}
use lib.Dec.{eqb}
use borrow.Author.Tests.{lt-ltb, ne_eqb}
use Rattle.basics.proofs.Cases.{by-test}
use Rattle.basics.proofs.Lists.{in-get_or}
use Rattle.protocol.specs.declared.Entry.{Entry}
use Rattle.protocol.specs.declared.Message.{Message}
use Rattle.protocol.specs.declared.Message.TheVariants.{Commit}
use Rattle.protocol.specs.Tables.{Sizes, Tables, Client, ReadPart, WritePart, Ended}
use Rattle.protocol.specs.Steps.{version}
use Rattle.protocol.specs.Message.{kind_of, is_prepare}
use Rattle.protocol.proofs.MessageKinds.{kind-within}
use Rattle.protocol.specs.Range.{capacities, is_idle, is_writing, has_first, arrived, load}
use Rattle.protocol.specs.Range.{occupied, valid}
use Rattle.protocol.proofs.Ranges.Values.{SizesInRange, IsClient, EntryInRange, VersionInRange}
use Rattle.protocol.proofs.Ranges.Values.{MessageInRange}
use Rattle.protocol.proofs.FastRead.{first-same}
use Rattle.protocol.proofs.Ranges.Clients.{ReadPartInRange, WritePartInRange, EndedInRange}
use Rattle.protocol.proofs.Ranges.Clients.{ClientInRange}
use Rattle.protocol.proofs.Kept.Values.{range-no-read, range-no-write}
use Rattle.protocol.proofs.Ranges.Tables.{InRange, Valid, valid-within, valid-facts, facts-valid}
use Rattle.layout.specs.Layout.{Section, header, scalars, latest, views, at}
use Rattle.layout.specs.Layout.{messages_at, mode_at, awaited_at, write_set_at, write_awaited_at}
use Rattle.layout.specs.Layout.{latest_at, view_at, modes}
use Rattle.layout.specs.Decode.{sizes_in, kind_in, read_of, write_of, ended_in, client_in}
use Rattle.layout.specs.Decode.{version_in, message_in, tables_of, awaits_none, has_parts, valid_block}
use Rattle.layout.specs.Encodes.{writes_alone, is_mixed, number_of_mode, HoldsEntry, HoldsMessage}
use Rattle.layout.specs.Encodes.{HeldRead, HeldWrite, HoldsEnded, HoldsClient, Encodes}
use Rattle.encoding.proofs.Folds.{each-table, counted-list, total-same}
use Rattle.encoding.proofs.WellFormed.{client-test, WellFormed}
use Rattle.encoding.proofs.WellFormed.{ValidBlock}
use Rattle.encoding.proofs.WellFormed.{tells-valid-block}
use Rattle.encoding.proofs.Capacity.{load-words, occupied-words}
use Rattle.encoding.proofs.Encoded.{encodes-tables}
use Rattle.layout.proofs.Parts.{alone-or-mixed, busy-writing, no-stage, alone-writes, reads_nothing}
use Rattle.layout.proofs.Parts.{no-answer-awaited, mode-writing, some-reply-awaited, mixed-writes}
use Rattle.layout.proofs.Parts.{mixed-reads, mode-mixed, mixed-not-alone, writes_nothing}
use Rattle.layout.proofs.Parts.{no-reply-awaited, mode-other}
use Rattle.layout.proofs.Held.{version-held, kind-held, message-held}
use Rattle.layout.proofs.FirstWords.{reply-come}
use Rattle.encoding.proofs.Decoded.{tells-alone, tells-mixed, tells-writing, entry_of_lem}
use Rattle.encoding.proofs.Decoded.{few-versions, few-messages}

-- ---- The numbers are those of some mode or kind

mode-below : (c : Client) → c.read.stage ≤ 2 → number_of_mode c < modes
mode-below c l =
    by-test (is_idle c) (λ i. rw i (omega arith))
    (λ i. rw i (by-test (is_writing c) (λ w. rw w (by-test (eqb c.read.set 0)
    (λ e. rw e (omega arith)) (λ e. rw e (omega arith))))
    (λ w. rw w (by-test (eqb c.read.stage 0) (λ e. rw e (omega arith))
    (λ e. rw e (omega arith))))))

-- ---- Fields that a block holds are in range where those of the tables are

module _ (b : List ℕ) (z : Sizes) where
  read-range : {s awaits n : ℕ} {stamps vs : ℕ → ℕ} {replies : ℕ → Entry} (p : ReadPart)
      → HeldRead s awaits n stamps vs replies p
      → ReadPartInRange z p → ReadPartInRange z (read_of s awaits n stamps vs replies)
  read-range {stamps = stamps} {vs} {replies} p h r =
      rw (h.set, h.awaited, h.stage) (record {
        set = r.set;
        awaited = r.awaited;
        within = r.within;
        asked = λ k e. rw (e, h.asked k e) (r.asked k e);
        values = λ k e. rw (e, h.values k e) (r.values k e);
        stage = r.stage;
        firsts = λ k e.
            let come : has_first p k ≡ true = first-same _ p k refl refl refl ∙ e in
            subst (EntryInRange z)
            (sym (reply-come p.set p.awaited p.stage stamps vs replies k e
            ∙ h.firsts k come))
            (r.firsts k come);
      })

  write-range : {s awaits stamp : ℕ} {vs : ℕ → ℕ} (p : WritePart) → HeldWrite s awaits stamp vs p
      → WritePartInRange z p → WritePartInRange z (write_of s awaits stamp vs)
  write-range p h r =
      rw (h.set, h.awaited, h.stamp) (record {
        set = r.set;
        awaited = r.awaited;
        within = r.within;
        stamp = r.stamp;
        values = λ k e. rw (e, h.values k e) (r.values k e);
      })

  ended-range : (d : ℕ) (x : Ended) → HoldsEnded b d x → EndedInRange z x
      → EndedInRange z (ended_in b d)
  ended-range d x h r =
      record {
        kind = rw h.kind r.kind;
        read = λ s. let t = rw h.kind at s in
            rw s (read-range x.read (h.read t) (r.read t));
        write = λ s. let t = rw h.kind at s in
            rw s (write-range x.write (h.write t) (r.write t));
      }

  -- the sets, awaited items and stage that the words are
  module _ (d : ℕ) (c : Client) (h : HoldsClient b d c) (r : ClientInRange z c) where
    same_set : (client_in b d).read.set ≡ c.read.set
    unfolding client_in
    same_set = by-test (writes_alone c)
        (λ w. rw (tells-alone b d z c h r ∙ w) (sym (reads_nothing z c r w)))
        (λ w. rw (tells-alone b d z c h r ∙ w) (h.read w).set)

    same-awaited : (client_in b d).read.awaited ≡ c.read.awaited
    unfolding client_in
    same-awaited = by-test (writes_alone c)
        (λ w. rw (tells-alone b d z c h r ∙ w) (sym (no-answer-awaited z c r w)))
        (λ w. rw (tells-alone b d z c h r ∙ w) (h.read w).awaited)

    same-stage : (client_in b d).read.stage ≡ c.read.stage
    unfolding client_in
    same-stage = by-test (writes_alone c)
        (λ w. rw (tells-alone b d z c h r ∙ w) (sym (no-stage z c r (alone-writes z c r w))))
        (λ w. rw (tells-alone b d z c h r ∙ w) (h.read w).stage)

    same-write-set : (client_in b d).write.set ≡ c.write.set
    unfolding client_in
    same-write-set = by-test (is_writing c)
        (λ w. rw (tells-writing b d z c h r ∙ w) (h.write w).set)
        (λ w. rw (tells-writing b d z c h r ∙ w) (sym (writes_nothing z c r w)))

    same-write-awaited : (client_in b d).write.awaited ≡ c.write.awaited
    unfolding client_in
    same-write-awaited = by-test (is_writing c)
        (λ w. rw (tells-writing b d z c h r ∙ w) (h.write w).awaited)
        (λ w. rw (tells-writing b d z c h r ∙ w) (sym (no-reply-awaited z c r w)))

    client-range : ClientInRange z (client_in b d)
    unfolding client_in
    client-range =
        record {
          count = rw h.count r.count;
          read = by-test (writes_alone c) (λ w. rw (tells-alone b d z c h r ∙ w) (range-no-read z))
              (λ w. rw (tells-alone b d z c h r ∙ w)
              (read-range c.read (h.read w) r.read));
          write = by-test (is_writing c)
              (λ w. rw (tells-writing b d z c h r ∙ w)
              (write-range c.write (h.write w) r.write))
              (λ w. rw (tells-writing b d z c h r ∙ w) (range-no-write z));
          busy = λ n. ap₂ (λ (x y : ℕ). eqb x 0 && eqb y 0) same-awaited same-write-awaited
              ∙ r.busy (λ e. n (same-write-set ∙ e));
          fast = λ n. let f = r.fast (λ e. n (same-stage ∙ e)) in
              (same-write-set ∙ f.0, λ e. f.1 (sym same-awaited ∙ e));
          last = ended-range d c.last h.last r.last;
        }

    -- and so are what has come, and whether it is idle
    arrived-same : arrived (client_in b d) ≡ arrived c
    unfolding arrived
    arrived-same = rw (same_set, same-awaited, same-stage, same-write-set, same-write-awaited) refl

    -- where the write part's words lie
    alone-reply : writes_alone c ≡ true → at b scalars (awaited_at d) ≡ c.write.awaited
    alone-reply a =
        let own = (h.write (alone-writes z c r a)).awaited in
        rw (h.mode ∙ mode-writing z c r a) at own

    mixed-reply : is_mixed c ≡ true → at b scalars (write_awaited_at d) ≡ c.write.awaited
    mixed-reply m =
        let own = (h.write (mixed-writes z c r m)).awaited in
        rw (h.mode ∙ mode-mixed z c r m) at own

    mixed-written : is_mixed c ≡ true → at b scalars (write_set_at d) ≡ c.write.set
    mixed-written m =
        let own = (h.write (mixed-writes z c r m)).set in
        rw (h.mode ∙ mode-mixed z c r m) at own

    idle-word : eqb (at b scalars (mode_at d)) 0 ≡ awaits_none b d
    idle-word =
        by-test (is_writing c)
        (λ w. by-test (writes_alone c)
        (λ a. rw (h.mode ∙ mode-writing z c r a, alone-reply a, some-reply-awaited z c r a) refl)
        (λ a. let m = alone-or-mixed c w a in
        rw (h.mode ∙ mode-mixed z c r m, (h.read a).awaited, mixed-reply m)
        (sym (busy-writing z c r w))))
        (λ w. let none : is_mixed c ≡ false = rw w refl in
        let answers : writes_alone c ≡ false = rw w refl in
        rw (tells-mixed b d z c h r ∙ none, (h.read answers).awaited, h.mode, mode-other z c r w)
        (by-test (eqb c.read.awaited 0) (λ e. rw e refl)
        (λ e. rw e (by-test (eqb c.read.stage 0) (λ n. rw n refl)
        (λ n. rw n (ne_eqb (c.read.stage + 2) 0 (omega arith)))))))

    parts-word : has_parts b d ≡ true
    unfolding has_parts
    parts-word =
        by-test (is_mixed c)
        (λ m. rw (
          h.mode ∙ mode-mixed z c r m,
          (h.read (mixed-not-alone z c r m)).set,
          mixed-written m,
          mixed-reads z c r m,
        ) (mixed-writes z c r m))
        (λ m. rw (tells-mixed b d z c h r ∙ m) refl)

  message-range : (i : ℕ) (m : Message) → HoldsMessage b i m → MessageInRange z m
      → MessageInRange z (message_in b i)
  message-range i m h r = subst (MessageInRange z) (sym (message-held b i m h)) r

-- ---- and the load and the versions in use are the same

prepare-same : (b : List ℕ) (i : ℕ) (m : Message) → HoldsMessage b i m
    → is_prepare (message_in b i) ≡ is_prepare m
prepare-same b i m h = ap is_prepare (message-held b i m h)

-- ---- The whole

module _ (b : List ℕ) (t : Tables) (e : Encodes b t) (v : Valid capacities t) where
  sizes-same : t.sizes ≡ sizes_in b
  sizes-same = λ i. record {
    clients = sym e.clients i;
    partitions =
        sym e.partitions i;
    items = sym e.items i;
  }

  holds-client : (d : ℕ) → IsClient (sizes_in b) d → HoldsClient b d (t.client d)
  holds-client d c = e.client d c.0 (omega (arith, e.clients))

  abbrev message : ℕ → Message
  message i = get_or t.messages i (Commit 0 0)

  holds-message : (i : ℕ) → i < length t.messages → HoldsMessage b i (message i)
  holds-message i l = e.messages i l (Commit 0 0)

  well-formed : WellFormed b
  well-formed =
      let kind : (i : ℕ) → i < at b header messages_at → kind_in b i ≡ kind_of (message i) =
      λ i l. kind-held b i (message i) (holds-message i (omega (arith, e.message_count))) in
      record {
        long = e.long;
        sizes = subst SizesInRange sizes-same v.in_range.sizes;
        version_count = omega (arith, e.version_count, few-versions t (valid-within capacities t v));
        message_count = omega (arith, e.message_count, few-messages t (valid-within capacities t v));
        mode = λ d c. omega (
          arith,
          (holds-client d c).mode,
          mode-below (t.client d)
              (v.in_range.client d (c.0, omega (arith, e.clients))).read.stage,
        );
        idle = λ d c. idle-word b t.sizes d (t.client d) (holds-client d c)
            (v.in_range.client d (c.0, omega (arith, e.clients)));
        parts = λ d c. parts-word b t.sizes d (t.client d) (holds-client d c)
            (v.in_range.client d (c.0, omega (arith, e.clients)));
        last_kind = λ d c. rw (holds-client d c).last.kind
            (v.in_range.client d (c.0, omega (arith, e.clients))).last.kind;
        some_kind = λ i l. rw (kind i l) (kind-within (message i)).0;
        kind = λ i l. rw (kind i l) (kind-within (message i)).1;
      }

  entry-range : (s : Section) (i : ℕ) (x : Entry) → HoldsEntry b s i x → EntryInRange t.sizes x
      → EntryInRange (sizes_in b) (record { stamp = at b s i; set = at b s (i + 1) })
  entry-range s i x h r = subst₂ EntryInRange sizes-same (sym (entry_of_lem b s i x h)) r

  tables-range : InRange (tables_of b)
  unfolding tables_of
  tables-range =
      let r = v.in_range in
      record {
        sizes = subst SizesInRange sizes-same r.sizes;
        latest = λ k l.
            let m : k < t.sizes.items = omega (arith, e.items) in
            rw (lt-ltb k (sizes_in b).items l)
            (entry-range latest (latest_at k) (t.latest k) (e.latest k m) (r.latest k m));
        view = λ d c k l.
            let m : k < t.sizes.items = omega (arith, e.items) in
            let o : d ≤ t.sizes.clients = omega (arith, e.clients) in
            rw (client-test (sizes_in b) d c, lt-ltb k (sizes_in b).items l)
            (entry-range views (view_at d k) (t.view d k) (e.view d c.0 o k m)
            (r.view d (c.0, o) k m));
        client = λ d c.
            let o : d ≤ t.sizes.clients = omega (arith, e.clients) in
            rw (client-test (sizes_in b) d c)
            (client-range b (sizes_in b) d (t.client d) (holds-client d c)
            (subst (λ z. ClientInRange z (t.client d)) sizes-same (r.client d (c.0, o))));
        versions = each-table (VersionInRange (sizes_in b)) _ (version_in b) (λ i l.
            let none = version 0 0 0 0 in
            let m : i < length t.versions = omega (arith, e.version_count) in
            subst₂ VersionInRange sizes-same (sym (version-held b i _ (e.versions i m none)))
            (r.versions _ (in-get_or t.versions i none m)));
        messages = each-table (MessageInRange (sizes_in b)) _ (message_in b) (λ i l.
            let m : i < length t.messages = omega (arith, e.message_count) in
            message-range b (sizes_in b) i (message i) (holds-message i m)
            (subst (λ z. MessageInRange z (message i)) sizes-same
            (r.messages _ (in-get_or t.messages i (Commit 0 0) m))));
      }

  tables-load : load (tables_of b) ≡ load t
  unfolding load
  tables-load =
      let come =
      total-same t.sizes.clients (λ d. arrived (client_in b d)) (λ d. arrived (t.client d))
      (λ d l m.
      arrived-same b t.sizes d (t.client d) (e.client d l m) (v.in_range.client d (l, m))) in
      sym (load-words b well-formed.message_count)
      ∙ rw e.clients (omega (arith, come, e.message_count))

  tables-occupied : occupied (tables_of b) ≡ occupied t
  unfolding occupied
  tables-occupied =
      let prepares =
      counted-list is_prepare (at b header messages_at) (message_in b) t.messages (Commit 0 0)
      e.message_count (λ i l.
      prepare-same b i (message i) (holds-message i l)) in
      sym (occupied-words b well-formed.version_count well-formed.message_count)
      ∙ omega (arith, prepares, e.version_count)

  tables-valid : ValidBlock b
  tables-valid =
      record {
        well_formed = well-formed;
        valid = record {
          in_range = tables-range;
          load =
              omega (arith, tables-load, v.load);
          occupied =
              omega (arith, tables-occupied, v.occupied);
        };
      }

pub valid-iff : (b : List ℕ) → (valid_block b ≡ true)
    ↔ ((t : Tables) × Encodes b t × (valid capacities t ≡ true))
valid-iff b = (
  λ e.
      let f = (tells-valid-block b).0 e in (
        tables_of b,
        encodes-tables b f,
        facts-valid capacities
            (tables_of b) f.valid,
      ),
  λ p. (tells-valid-block b).1 (tables-valid b p.0 p.1 (valid-facts capacities p.0 p.2)),
)
