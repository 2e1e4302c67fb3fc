-- The words of a client after the end of its transaction hold a resting client.
use mathlib.Core.Bool.{true, false, cond}
use mathlib.Core.List.{List}
use mathlib.Core.Path.{◌≡◌, refl, sym, ap, ◌∙◌}
use Prim.Native.Nat.{ℕ}
use lib.Dec.{eqb, lit<}
use Rattle.basics.proofs.Cases.{by-test, not-both, not-true, not-false}
use Rattle.itemset.specs.Set.{has}
use Rattle.itemset.proofs.Laws.{has-empty}
use Rattle.protocol.specs.Tables.{Client, Ended, no_read, resting, rested, shows_write}
use Rattle.protocol.specs.Range.{is_writing}
use Rattle.protocol.specs.Steps.{ended as last_of}
use Rattle.protocol.proofs.FastRead.{no-first}
use Rattle.layout.specs.Layout.{scalars, last_stamps, last_values, is_mixed_kind, stage_of, low_half}
use Rattle.layout.specs.Layout.{high_half}
use Rattle.layout.proofs.Room.{NarrowClient}
use Rattle.layout.proofs.ClientWords.{Words, put_word}
use Rattle.layout.proofs.ClientHolds.{WordsHold, WordsEnded}
use Rattle.layout.proofs.Changed.{Changed, changed-put}
use Rattle.ends.specs.Ends.{ended}

-- kind and set of the last ended transaction; mode, set and awaited are 0
abbrev pub ended_words : Words → ℕ → ℕ → Words
ended_words w kind s = put_word (put_word (put_word (put_word (put_word w scalars 5 kind) scalars 6 s)
    scalars 0 0) scalars 2 0) scalars 3 0

pub ended-changed : {d : ℕ} {a b : List ℕ} {w : Words} (kind s : ℕ) → Changed d a b w
    → Changed d a (ended b d kind s) (ended_words w kind s)
ended-changed kind s c =
    changed-put
    (changed-put (changed-put (changed-put (changed-put c scalars 5 kind (lit< tt)) scalars 6 s
    (lit< tt)) scalars 0 0 (lit< tt)) scalars 2 0 (lit< tt)) scalars 3 0 (lit< tt)

-- words with mode, set and awaited 0
rests : (w : Words) (count : ℕ) (last : Ended) → w scalars 0 ≡ 0 → w scalars 1 ≡ count
    → w scalars 2 ≡ 0 → w scalars 3 ≡ 0
    → WordsEnded w last → WordsHold w (resting count last)
rests w count last mode counted set awaited ended =
    record {
      mode = mode;
      read = λ x. record {
        set = set;
        awaited = awaited;
        stage = ap stage_of mode;
        asked = λ k e. not-both e (has-empty k);
        values = λ k e. not-both e (has-empty k);
        firsts = λ k e. not-both e (no-first no_read k refl);
      };
      write = λ x. not-both x refl;
      rest = (counted, ended);
    }

-- ---- the kind that a client's transaction ends as

pub kind-read : (c : Client) → is_writing c ≡ false
    → (last_of c).kind ≡ cond (eqb c.read.stage 0) 1 3
kind-read c w = rw (not-false (eqb c.write.set 0) w) refl

-- which shows no write part
read-alone : (c : Client) → is_writing c ≡ false → shows_write (last_of c).kind ≡ false
read-alone c w =
    ap shows_write (kind-read c w)
    ∙ by-test (eqb c.read.stage 0) (λ e. rw e refl) (λ e. rw e refl)

-- and whose values are one in a word
read-unmixed : (c : Client) → is_writing c ≡ false → is_mixed_kind (last_of c).kind ≡ false
read-unmixed c w =
    ap is_mixed_kind (kind-read c w)
    ∙ by-test (eqb c.read.stage 0) (λ e. rw e refl) (λ e. rw e refl)

pub kind-write : (c : Client) → is_writing c ≡ true → eqb c.read.set 0 ≡ true
    → (last_of c).kind ≡ 2
kind-write c w e = rw (not-true (eqb c.write.set 0) w, e) refl

pub kind-mixed : (c : Client) → is_writing c ≡ true → eqb c.read.set 0 ≡ false
    → (last_of c).kind ≡ 4
kind-mixed c w e = rw (not-true (eqb c.write.set 0) w, e) refl

-- ---- and its words

pub rests-read : (w : Words) (c : Client) (kind : ℕ) → kind ≡ (last_of c).kind
    → is_writing c ≡ false → w scalars 1 ≡ c.count
    → ((k : ℕ) → has c.read.set k ≡ true → w last_stamps k ≡ c.read.asked k)
    → ((k : ℕ) → has c.read.set k ≡ true → w last_values k ≡ c.read.values k)
    → WordsHold (ended_words w kind c.read.set) (rested c (last_of c))
rests-read w c kind kinds reads counted stamps values =
    rests (ended_words w kind c.read.set) c.count (last_of c) refl counted refl refl
    (record {
      kind = kinds;
      read = λ s. record {
        set = refl;
        awaited = refl;
        stage = refl;
        asked = stamps;
        values = λ k e. rw (ap is_mixed_kind kinds ∙ read-unmixed c reads) (values k e);
        firsts = λ k e. refl;
      };
      write = λ s. not-both s (read-alone c reads);
    })

pub rests-write : (w : Words) (c : Client) (stamp : ℕ) → c.write.stamp ≡ stamp
    → is_writing c ≡ true → eqb c.read.set 0 ≡ true → w scalars 1 ≡ c.count
    → ((k : ℕ) → has c.write.set k ≡ true → w last_values k ≡ c.write.values k)
    → WordsHold (put_word (ended_words w 2 c.write.set) scalars 7 stamp)
    (rested c (last_of c))
rests-write w c stamp own writes alone counted values =
    rests (put_word (ended_words w 2 c.write.set) scalars 7 stamp) c.count (last_of c) refl
    counted refl refl
    (record {
      kind = sym (kind-write c writes alone);
      read = λ s. not-both (rw (kind-write c writes alone) at s) refl;
      write = λ s. record { set = refl; awaited = refl; stamp = sym own; values = values };
    })

-- both values are in the halves of a word
pub rests-mixed : (w : Words) (c : Client) → is_writing c ≡ true → eqb c.read.set 0 ≡ false
    → w scalars 1 ≡ c.count
    → ((k : ℕ) → has c.read.set k ≡ true → w last_stamps k ≡ c.read.asked k)
    → ((k : ℕ) → has c.read.set k ≡ true → low_half (w last_values k) ≡ c.read.values k)
    → ((k : ℕ) → has c.write.set k ≡ true → high_half (w last_values k) ≡ c.write.values k)
    → WordsHold (put_word (put_word (ended_words w 4 c.read.set) scalars 7 c.write.stamp)
    scalars 10 c.write.set) (rested c (last_of c))
rests-mixed w c writes reads counted stamps answers values =
    rests (put_word (put_word (ended_words w 4 c.read.set) scalars 7 c.write.stamp) scalars 10
    c.write.set) c.count (last_of c) refl counted refl refl
    (record {
      kind = sym (kind-mixed c writes reads);
      read = λ s. record {
        set = refl;
        awaited = refl;
        stage = refl;
        asked = stamps;
        values = answers;
        firsts = λ k e. refl;
      };
      write = λ s. record { set = refl; awaited = refl; stamp = refl; values = values };
    })

-- ---- its sets are narrow where the client's are

pub narrow-last : (c : Client) → NarrowClient c → NarrowClient (rested c (last_of c))
narrow-last c n = record {
  read = λ k e. not-both e (has-empty k);
  write = λ k e. not-both e (has-empty k);
  last = record { read = λ s. n.read; write = λ s. n.write };
}
