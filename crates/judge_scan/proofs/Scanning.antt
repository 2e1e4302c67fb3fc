-- What scanning a log line by line keeps: the lines taken lie in the bytes, cut at the starts.
use mathlib.Core.Bool.{true, false}
use mathlib.Core.List.{List, [], ◌∷◌, ◌++◌, map}
use mathlib.Core.Path.{◌≡◌, refl, sym, ap, ap₂, ◌∙◌, subst}
use Prim.Native.Nat.{ℕ, suc, ◌+◌, ◌-◌, ◌/◌, ◌≤◌, ◌<◌}
use native.Mathlib.Nat.{le_refl, not-suc-le-zero, le_of_suc-le-suc, add-zero, sub-zero}
use native.Mathlib.Numerals.{add-one}
use native.Mathlib.Omega.{arith}
use lib.Dec.{eqb, leb, ltb}
use lib.ListN.{length, get_or, take, drop, set, length-set, length-drop, drop_of_length-le}
use lib.Seq.{sets, take-take, take-suc, take_all, drop-drop, get_or-drop, length-take-le, length-sets}
use lib.Seq.{get_or-take, get_or-set_same, get_or-set_other}
use borrow.Author.Tests.{lt-ltb, le-ltb, leb-true, leb-false}
use Rattle.basics.specs.Lists.{counted}
use Rattle.hexadecimal.specs.Line.{line_length, line_end}
use Rattle.hexadecimal.specs.Text.{is_hex, bytes_of}
use Rattle.judge_frames.specs.Cut.{part, frames_in}
use Rattle.log_format.specs.Log.{first_line, joined, lines_of, frames_of, malformed_at, text_of}
use Rattle.log_format.specs.Log.{frame_of, shaped, malformed}
use Rattle.basics.proofs.Cases.{by-test}
use Rattle.hexadecimal.proofs.Line.{line_end-ge}
use Rattle.hexadecimal.proofs.Text.{length-bytes_of}
use Rattle.judge_frames.proofs.Cuts.{part-new, frames_in-sets, frames_in-mark}
use Rattle.log_format.proofs.Some.{first_from-here, first_from-next, first_from-end, first_from-ge}
use Rattle.log_format.proofs.Some.{first_from-none}
use Rattle.judge_scan.specs.Scan.{Room, Scanning, Step, Well, line_at}

-- ---- the frame of the line at a place

abbrev pub text_at : List ℕ → ℕ → List ℕ
text_at log at = take (line_end log at - at) (drop at log)

line_length-take : (s : List ℕ) → line_length (take (suc (line_length s)) s) ≡ line_length s
unfolding line_length
line_length-take [] = refl
line_length-take (c ∷ s) =
    let rest = line_length-take s in
    by-test (eqb c 10)
    (λ e. rw e)
    (λ e. rw e (ap suc rest))

text-line : (s : List ℕ) → text_of (take (suc (line_length s)) s) ≡ take (line_length s) s
text-line s = rw (line_length-take s) (take-take (line_length s) (suc (line_length s)) s (omega arith))

size-text : (log : List ℕ) (at : ℕ) → line_end log at - at ≡ line_length (drop at log)
unfolding line_end
size-text log at = omega arith

text_at_lem : (log : List ℕ) (at : ℕ) → text_of (line_at log at) ≡ text_at log at
text_at_lem log at = text-line (drop at log)
    ∙ ap (λ (n : ℕ). take n (drop at log)) (sym (size-text log at))

ended_at : (log : List ℕ) (at : ℕ) → line_end log at < length log
    → ltb (line_length (line_at log at)) (length (line_at log at)) ≡ true
ended_at log at h =
    let s = drop at log in
    let n : line_length s < length s =
    omega (arith, size-text log at, length-drop at log, line_end-ge log at) in
    rw (line_length-take s, length-take-le (suc (line_length s)) s n)
    (lt-ltb (line_length s) (suc (line_length s)) (omega arith))

unended-at : (log : List ℕ) (at : ℕ) → length log ≤ line_end log at
    → ltb (line_length (line_at log at)) (length (line_at log at)) ≡ false
unended-at log at h =
    let s = drop at log in
    let n : length s ≤ line_length s = omega (arith, size-text log at, length-drop at log) in
    rw (line_length-take s, take_all (suc (line_length s)) s (omega arith))
    (le-ltb (line_length s) (length s) n)

module _ (log : List ℕ) (at : ℕ) where
  pub frame-hex : line_end log at < length log → is_hex (text_at log at) ≡ true
      → frame_of (line_at log at) ≡ bytes_of (text_at log at)
  unfolding frame_of
  frame-hex h e = rw (ended_at log at h, text_at_lem log at, e)

  pub frame-not : line_end log at < length log → is_hex (text_at log at) ≡ false
      → frame_of (line_at log at) ≡ []
  unfolding frame_of
  frame-not h e = rw (ended_at log at h, text_at_lem log at, e)

  pub frame-unended : length log ≤ line_end log at → frame_of (line_at log at) ≡ []
  unfolding frame_of
  frame-unended h = rw (unended-at log at h)

-- no frame is well-formed that is empty
pub malformed-empty : (above : List (List ℕ)) → malformed above [] ≡ true
unfolding malformed shaped
malformed-empty above = refl

-- ---- a line taken

module _ (log : List ℕ) (at : ℕ) (bytes starts : List ℕ) (i : ℕ) (room : Room log at bytes starts i)
    (ended : line_end log at < length log) where
  abbrev end : ℕ
  end = get_or starts i 0

  -- the bytes of its text fit behind the frames
  pub text-fits : end + length (text_at log at) / 2 ≤ length bytes
  text-fits =
      omega (
        arith,
        room.short,
        room.here,
        room.bytes-long,
        room.behind,
        length-take-le
            (line_end log at - at) (drop at log)
            (omega (arith, length-drop at log, line_end-ge log at)),
        line_end-ge log at,
      )

  module _ (hex : is_hex (text_at log at) ≡ true) where
    abbrev frame : List ℕ
    frame = bytes_of (text_at log at)

    pub kept : frames_in (sets bytes end frame) starts i ≡ frames_in bytes starts i
    kept = frames_in-sets bytes starts frame end i room.ascending

    pub fits : end + length frame ≤ length bytes
    fits = omega (arith, text-fits, length-bytes_of (text_at log at) hex)

    pub new : (e : ℕ) → e ≡ end + length frame → part (sets bytes end frame) end e ≡ frame
    new e t = part-new frame bytes end e t (omega (arith, fits))

    abbrev starts' : List ℕ
    starts' = set starts (i + 1) (end + length frame)

    last : get_or starts' (i + 1) 0 ≡ end + length frame
    last = get_or-set_same starts (i + 1) (end + length frame) 0
        (omega (arith, room.starts-long, room.few))

    other : (j : ℕ) → j ≤ i → get_or starts' j 0 ≡ get_or starts j 0
    other j l = get_or-set_other starts (i + 1) j (end + length frame) 0 (omega arith)

    joining : frames_in (sets bytes end frame) starts' (i + 1) ≡ frames_in bytes starts i ++ frame_of
        (line_at log at) ∷ []
    unfolding frames_in
    joining =
        ap (frames_in (sets bytes end frame) starts') (add-one i)
        ∙ ap₂ (λ (fs : List (List ℕ)) (f : List ℕ). fs ++ f ∷ [])
        (frames_in-mark (sets bytes end frame) starts (i + 1) (end + length frame) i (omega arith)
        ∙ kept)
        (ap₂ (part (sets bytes end frame)) (other i (omega arith)) last
        ∙ new (end + length frame) refl ∙ sym (frame-hex log at ended hex))

    pub step : malformed (frames_in bytes starts i) frame ≡ false
        → Step log at i bytes starts (sets bytes end frame) starts' (line_end log at + 1)
    step well =
        record {
          well = ap (malformed (frames_in bytes starts i)) (frame-hex log at ended hex) ∙ well;
          ended = ended;
          after = refl;
          joins = joining;
          bytes-long = length-sets bytes end frame ∙ room.bytes-long;
          starts-long = length-set starts (i + 1) (end + length frame) ∙ room.starts-long;
          behind =
              omega (
                arith,
                last,
                room.behind,
                length-bytes_of (text_at log at) hex,
                length-take-le
                    (line_end log at - at) (drop at log)
                    (omega (arith, length-drop at log, line_end-ge log at)),
                line_end-ge log at,
              );
          ascending =
              λ j l.
              by-test (leb j i)
              (λ t. omega (
                arith,
                last,
                other j (leb-true j i t),
                room.ascending j
                    (leb-true j i t),
              ))
              (λ t.
              let same : j ≡ i + 1 = omega (arith, leb-false j i t) in
              rw same (le_refl (get_or starts' (i + 1) 0)));
        }

-- ---- a whole log, line by line

line_first : (s : List ℕ) → 0 < length s
    → lines_of s ≡ take (suc (line_length s)) s ∷ lines_of (drop (suc (line_length s)) s)
unfolding lines_of line_length
line_first [] h = absurd (not-suc-le-zero h)
line_first (c ∷ []) h = by-test (eqb c 10) (λ e. rw e) (λ e. rw e)
line_first (c ∷ d ∷ s) h =
    let rest = line_first (d ∷ s) (omega arith) in
    by-test (eqb c 10) (λ e. rw e) (λ e. rw e (ap (joined c) rest))

ends-first : (s : List ℕ) → line_length s < length s
    → counted (λ c. eqb c 0x0a) s ≡ suc (counted (λ c. eqb c 0x0a) (drop (suc (line_length s)) s))
unfolding counted line_length
ends-first [] h = absurd (not-suc-le-zero h)
ends-first (c ∷ s) h =
    let rest : line_length s < length s
    → counted (λ c. eqb c 0x0a) s ≡ suc
    (counted (λ c. eqb c 0x0a) (drop (suc (line_length s)) s)) = λ l. ends-first s l in
    by-test (eqb c 10)
    (λ e. rw e (omega arith))
    (λ e. rw e (omega (arith, rest (le_of_suc-le-suc (rw e at h)))))

pub scan-start : (log bytes starts : List ℕ) → length log ≤ 32768
    → counted (λ c. eqb c 0x0a) log ≤ 256 → length bytes ≡ 16384 → length starts ≡ 258
    → get_or starts 0 0 ≡ 0
    → Scanning log 0 bytes starts 0
unfolding frames_in
scan-start log bytes starts short few bytes-long starts-long zeroth =
    record {
      short = short;
      inside = omega arith;
      bytes-long = bytes-long;
      starts-long = starts-long;
      ends = omega arith;
      behind = omega arith;
      ascending = λ j l. (let z : j ≡ 0 = omega arith in rw z (le_refl (get_or starts 0 0)));
      count = omega arith;
      rest = refl;
      taken = refl;
      first = rw sub-zero;
    }

module _ (log : List ℕ) (at : ℕ) (bytes starts : List ℕ) (i : ℕ)
    (s : Scanning log at bytes starts i) where
  abbrev frames : List (List ℕ)
  frames = frames_of log

  pub scan-end : length log ≤ at → (frames_in bytes starts i ≡ frames_of log)
      × (first_line malformed_at (frames_of log) ≡ i) × (i ≡ length (frames_of log))
  unfolding lines_of
  scan-end h =
      let none : drop i frames ≡ [] = sym s.rest ∙ ap frames_of (drop_of_length-le log h) in
      let all : length frames ≤ i = omega (arith, length-drop i frames, ap length none) in (
        s.taken ∙ take_all i frames all,
        sym s.first
            ∙ first_from-end (length frames) i (malformed_at frames) all,
        omega (arith, s.count),
      )

  -- the lines taken aren't malformed
  taken-well : Well (frames_in bytes starts i)
  taken-well =
      subst Well (sym s.taken)
      (λ k l.
      let below : k < i = omega (arith, l, length-take-le i frames s.count) in
      rw (take-take k i frames (omega arith), get_or-take i frames k [] below)
      (first_from-none (length frames) 0 (malformed_at frames) k (omega arith)
      (omega (arith, s.first, first_from-ge (length frames - i) i (malformed_at frames)))))

  module _ (h : at < length log) where
    pub scan-room : Room log at bytes starts i
    scan-room =
        record {
          short = s.short;
          here = h;
          bytes-long = s.bytes-long;
          starts-long = s.starts-long;
          few = omega (arith, s.ends);
          behind = s.behind;
          ascending = s.ascending;
          well = taken-well;
        }

    next-line : drop i frames ≡ frame_of (line_at log at)
        ∷ frames_of (drop (suc (line_length (drop at log))) (drop at log))
    next-line = sym s.rest ∙ ap (map frame_of)
        (line_first (drop at log) (omega (arith, length-drop at log)))

    more : i < length frames
    more = omega (arith, length-drop i frames, ap length next-line)

    line-i : get_or frames i [] ≡ frame_of (line_at log at)
    line-i =
        ap (λ (k : ℕ). get_or frames k []) (sym (add-zero i)) ∙ sym (get_or-drop i frames 0 [])
        ∙ ap (λ (fs : List (List ℕ)). get_or fs 0 []) next-line

    malformed-i : malformed_at frames i ≡ malformed (frames_in bytes starts i)
        (frame_of (line_at log at))
    malformed-i = ap₂ malformed (sym s.taken) line-i

    pub scan-malformed : malformed (frames_in bytes starts i) (frame_of (line_at log at)) ≡ true
        → (first_line malformed_at (frames_of log) ≡ i) × (i < length (frames_of log))
    scan-malformed e = (
      sym s.first ∙ first_from-here (length frames) i (malformed_at frames) more
          (malformed-i ∙ e),
      more,
    )

    pub scan_step : (bytes' starts' : List ℕ) (next : ℕ)
        → Step log at i bytes starts bytes' starts' next → Scanning log next bytes' starts' (i + 1)
    scan_step bytes' starts' next t =
        let size = size-text log at in
        let low = line_end-ge log at in
        let long = length-drop at log in
        let after : drop next log ≡ drop (suc (line_length (drop at log))) (drop at log) =
        ap (λ (n : ℕ). drop n log) (next-at size low)
        ∙ sym (drop-drop (suc (line_length (drop at log))) at log) in
        record {
          short = s.short;
          inside = omega (arith, t.after, t.ended);
          bytes-long = t.bytes-long;
          starts-long = t.starts-long;
          ends =
              rw after
              (omega (
                arith,
                s.ends,
                ends-first (drop at log)
                    (omega (arith, t.ended, size, low, long)),
              ));
          behind = t.behind;
          ascending = t.ascending;
          count = omega (arith, more);
          rest =
              ap frames_of after ∙ sym (ap (drop 1) next-line) ∙ drop-drop 1 i frames;
          taken =
              t.joins
              ∙ ap₂ (λ (fs : List (List ℕ)) (f : List ℕ). fs ++ f ∷ []) s.taken (sym line-i)
              ∙ sym (ap (λ (n : ℕ). take n frames) (add-one i) ∙ take-suc frames i [] more);
          first =
              sym (first_from-next (length frames) i (malformed_at frames) more
              (malformed-i ∙ t.well)) ∙ s.first;
        }
      where
        next-at : line_end log at - at ≡ line_length (drop at log) → at ≤ line_end log at
            → next ≡ at + suc (line_length (drop at log))
        next-at p q = omega (arith, t.after)
