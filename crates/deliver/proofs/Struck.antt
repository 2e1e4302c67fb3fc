-- An item is struck from those that a client awaits: one word, and for an answer the value's.
use mathlib.Core.Bool.{true, false}
use mathlib.Core.Logic.{◌≢◌}
use mathlib.Core.Path.{◌≡◌, refl, sym, ◌∙◌}
use Prim.Native.Nat.{ℕ}
use Rattle.basics.proofs.Cases.{not-both}
use Rattle.itemset.specs.Set.{has, remove}
use Rattle.protocol.specs.Tables.{Client, of_read, of_write, put}
use Rattle.protocol.specs.Range.{is_idle, is_writing}
use Rattle.protocol.specs.Steps.{answered, struck, is_last}
use Rattle.protocol.proofs.FastRead.{first-apart}
use Rattle.layout.specs.Layout.{scalars, values, is_mixed_mode, read_value, written_value}
use Rattle.layout.specs.Encodes.{writes_alone}
use Rattle.layout.proofs.Room.{NarrowClient}
use Rattle.layout.proofs.ClientWords.{Words, put_word}
use Rattle.layout.proofs.ClientHolds.{WordsHold}

module _ (w : Words) (c : Client) (k : ℕ) (h : WordsHold w c) (busy : is_idle c ≡ false) where
  -- an answer to a read, or to a mixed transaction, that goes on and awaits it by its stamp
  pub words-answered : (value word : ℕ) → c.read.stage ≢ 1 → writes_alone c ≡ false
      → (is_writing c ≡ true → is_mixed_mode (w scalars 0) ≡ true)
      → is_last of_read c k ≡ false
      → ((j : ℕ) → has c.read.set j ≡ true
      → read_value (is_mixed_mode (w scalars 0)) (put (w values) k word j)
      ≡ put c.read.values k value j)
      → (is_writing c ≡ true → (j : ℕ) → has c.write.set j ≡ true
      → written_value (is_mixed_mode (w scalars 0)) (put (w values) k word j) ≡ c.write.values j)
      → WordsHold (put_word (put_word w values k word) scalars 3 (remove c.read.awaited k))
      (answered c k value)
  words-answered value word by_stamp reads mixed more same kept =
      let p = h.read reads in
      record {
        mode = h.mode ∙ rw (busy, more) refl;
        read = λ x. record {
          set = p.set;
          awaited = refl;
          stage = p.stage;
          asked = p.asked;
          values = same;
          firsts = λ j e. p.firsts j
              (sym (first-apart c.read (answered c k value).read j by_stamp refl refl) ∙ e);
        };
        write = λ x. let own = (h.write x).awaited in
            record {
              set = (h.write x).set;
              awaited = rw (mixed x) (rw (mixed x) at own);
              stamp = (h.write x).stamp;
              values = kept x;
            };
        rest = h.rest;
      }

  -- a reply to a write that goes on
  pub words-struck : writes_alone c ≡ true → is_writing c ≡ true
      → is_mixed_mode (w scalars 0) ≡ false → is_last of_write c k ≡ false
      → WordsHold (put_word w scalars 3 (remove c.write.awaited k)) (struck c k)
  words-struck alone writes unmixed more =
      let p = h.write writes in
      record {
        mode = h.mode ∙ rw (busy, more) refl;
        read = λ x. not-both alone x;
        write = λ x. record {
          set = rw unmixed (rw unmixed at p.set);
          awaited = rw unmixed refl;
          stamp = p.stamp;
          values = p.values;
        };
        rest = h.rest;
      }

  -- and to a mixed transaction
  pub words-mixed-struck : writes_alone c ≡ false → is_writing c ≡ true
      → is_mixed_mode (w scalars 0) ≡ true → is_last of_write c k ≡ false
      → WordsHold (put_word w scalars 9 (remove c.write.awaited k)) (struck c k)
  words-mixed-struck both writes mixed more =
      let p = h.write writes in
      record {
        mode = h.mode ∙ rw (busy, more) refl;
        read = λ x. h.read both;
        write = λ x. record {
          set = p.set;
          awaited = rw mixed refl;
          stamp = p.stamp;
          values = p.values;
        };
        rest = h.rest;
      }

-- neither makes a set wider
pub narrow-answered : (c : Client) (k value : ℕ) → NarrowClient c
    → NarrowClient (answered c k value)
narrow-answered c k value n = record { read = n.read; write = n.write; last = n.last }

pub narrow-struck : (c : Client) (k : ℕ) → NarrowClient c → NarrowClient (struck c k)
narrow-struck c k n = record { read = n.read; write = n.write; last = n.last }
