-- What a block holds of a client depends on that client's words alone.
use mathlib.Core.Bool.{Bool, true, false, cond}
use mathlib.Core.List.{List}
use mathlib.Core.Path.{◌≡◌, refl, ap, ◌∙◌}
use Prim.Native.Nat.{ℕ, ◌+◌, ◌*◌, ◌<◌}
use native.Mathlib.Omega.{arith}
use lib.Dec.{lit<}
use Rattle.protocol.specs.declared.Entry.{Entry}
use Rattle.protocol.specs.Tables.{Client, ReadPart, WritePart, Ended}
use Rattle.protocol.specs.Range.{is_writing}
use Rattle.protocol.proofs.FastRead.{first-in-set}
use Rattle.layout.specs.Layout.{scalars, asked, values, last_stamps, last_values, firsts, at}
use Rattle.layout.specs.Layout.{entry_words, scalar_at, is_mixed_mode, is_mixed_kind, stage_of}
use Rattle.layout.specs.Layout.{read_value, written_value}
use Rattle.layout.specs.Encodes.{writes_alone, number_of_mode, HeldRead, HeldWrite, HeldEnded}
use Rattle.layout.specs.Encodes.{HoldsClient}
use Rattle.layout.proofs.SameEntry.{same-entry}
use Rattle.layout.proofs.RowEntries.{entries_of}
use Rattle.layout.proofs.Room.{Narrow, NarrowClient}
use Rattle.layout.proofs.ClientWords.{Words, words_of, HasWords, KeptClient}

-- as `HoldsEnded`, `HoldsRead`, `HoldsWrite` and `HoldsClient`, of a client's words
abbrev pub WordsEnded : Words → Ended → Type 0
WordsEnded w e = HeldEnded (w scalars 5) (w scalars 6) (w scalars 10) (w scalars 7) (w last_stamps)
    (w last_values) e

abbrev pub WordsRead : Words → ReadPart → Type 0
WordsRead w p =
    HeldRead (w scalars 2) (w scalars 3) (stage_of (w scalars 0)) (w asked)
    (λ k. read_value (is_mixed_mode (w scalars 0)) (w values k)) (entries_of (w firsts)) p

abbrev pub WordsWrite : Words → WritePart → Type 0
WordsWrite w p =
    let mixed = is_mixed_mode (w scalars 0) in
    HeldWrite (cond mixed (w scalars 8) (w scalars 2)) (cond mixed (w scalars 9) (w scalars 3))
    (w scalars 4) (λ k. written_value mixed (w values k)) p

-- what a transaction under way has no part in
abbrev pub WordsRest : Words → Client → Type 0
WordsRest w c = (w scalars 1 ≡ c.count) × WordsEnded w c.last

pub record WordsHold (w : Words) (c : Client) : Type 0 where
  pub mode : w scalars 0 ≡ number_of_mode c
  pub read : writes_alone c ≡ false → WordsRead w c.read
  pub write : is_writing c ≡ true → WordsWrite w c.write
  pub rest : WordsRest w c

pub words-hold : {d : ℕ} {b : List ℕ} {c : Client} → HoldsClient b d c → WordsHold (words_of b d) c
words-hold h =
    record {
      mode = h.mode;
      read = h.read;
      write = h.write;
      rest = (h.count, h.last);
    }

-- the same words hold the same part
same_read : {s s' a a' n n' : ℕ} {f f' g g' : ℕ → ℕ} {x x' : ℕ → Entry} (p : ReadPart)
    → Narrow p.set → s' ≡ s → a' ≡ a → n' ≡ n
    → ((k : ℕ) → k < 64 → f' k ≡ f k) → ((k : ℕ) → k < 64 → g' k ≡ g k)
    → ((k : ℕ) → k < 64 → x' k ≡ x k)
    → HeldRead s a n f g x p → HeldRead s' a' n' f' g' x' p
same_read p n set awaited stage asks answers replies h =
    record {
      set = set ∙ h.set;
      awaited = awaited ∙ h.awaited;
      stage = stage ∙ h.stage;
      asked = λ k e. asks k (n k e) ∙ h.asked k e;
      values = λ k e. answers k (n k e) ∙ h.values k e;
      firsts = λ k e. replies k (n k (first-in-set p k e)) ∙ h.firsts k e;
    }

same_write : {s s' a a' σ σ' : ℕ} {g g' : ℕ → ℕ} (p : WritePart) → Narrow p.set → s' ≡ s
    → a' ≡ a → σ' ≡ σ → ((k : ℕ) → k < 64 → g' k ≡ g k)
    → HeldWrite s a σ g p → HeldWrite s' a' σ' g' p
same_write p n set awaited stamp answers h =
    record {
      set = set ∙ h.set;
      awaited = awaited ∙ h.awaited;
      stamp = stamp ∙ h.stamp;
      values = λ k e. answers k (n k e) ∙ h.values k e;
    }

same_cond : {m m' : Bool} {x x' y y' : ℕ} → m' ≡ m → x' ≡ x → y' ≡ y → cond m' x' y' ≡ cond m x y
same_cond m x y i = cond (m i) (x i) (y i)

-- values told of the same words
same_of : (f : Bool → ℕ → ℕ) {m m' : Bool} {g g' : ℕ → ℕ} → m' ≡ m
    → ((k : ℕ) → k < 64 → g' k ≡ g k) → (k : ℕ) → k < 64 → f m' (g' k) ≡ f m (g k)
same_of f m g k l i = f (m i) (g k l i)

pub holds-words : {d : ℕ} {b : List ℕ} {w : Words} {c : Client} → HasWords d b w → NarrowClient c
    → WordsHold w c → HoldsClient b d c
holds-words {d} {b} {w} {c} k n h =
    let e = c.last in
    let word : (i : ℕ) → i < 16 → at b scalars (scalar_at d i) ≡ w scalars i = k.row scalars in
    let mixed : is_mixed_mode (at b scalars (scalar_at d 0)) ≡ is_mixed_mode (w scalars 0) =
    ap is_mixed_mode (word 0 (lit< tt)) in
    let kind : is_mixed_kind (at b scalars (scalar_at d 5)) ≡ is_mixed_kind (w scalars 5) =
    ap is_mixed_kind (word 5 (lit< tt)) in
    record {
      mode = word 0 (lit< tt) ∙ h.mode;
      count = word 1 (lit< tt) ∙ h.rest.0;
      read = λ x. same_read c.read n.read (word 2 (lit< tt)) (word 3 (lit< tt))
          (ap stage_of (word 0 (lit< tt))) (k.row asked) (same_of read_value mixed (k.row values))
          (λ j l. same-entry (k.row firsts (entry_words * j + 0) (omega arith))
          (k.row firsts (entry_words * j + 1) (omega arith))) (h.read x);
      write = λ x. same_write c.write n.write
          (same_cond mixed (word 8 (lit< tt)) (word 2 (lit< tt)))
          (same_cond mixed (word 9 (lit< tt)) (word 3 (lit< tt))) (word 4 (lit< tt))
          (same_of written_value mixed (k.row values)) (h.write x);
      last = record {
        kind = word 5 (lit< tt) ∙ h.rest.1.kind;
        read = λ x. same_read e.read (n.last.read x) (word 6 (lit< tt)) refl refl
            (k.row last_stamps) (same_of read_value kind (k.row last_values)) (λ j l. refl)
            (h.rest.1.read x);
        write = λ x. same_write e.write (n.last.write x)
            (same_cond kind (word 10 (lit< tt)) (word 6 (lit< tt))) refl (word 7 (lit< tt))
            (same_of written_value kind (k.row last_values)) (h.rest.1.write x);
      };
    }

pub kept-client : {d : ℕ} {b b' : List ℕ} {c : Client} → KeptClient d b b' → NarrowClient c
    → HoldsClient b d c → HoldsClient b' d c
kept-client k n h = holds-words k n (words-hold h)
