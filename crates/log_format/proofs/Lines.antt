-- A line and its frame: a frame's digits and 0a are a line with that frame, and the other way
-- round; a log's lines put together are the log.
use mathlib.Core.Bool.{true, false, ◌&&◌}
use mathlib.Core.List.{List, [], ◌∷◌, ◌++◌}
use mathlib.Core.Path.{◌≡◌, refl, sym, ap, ◌∙◌, subst}
use Prim.Native.Nat.{ℕ, zero, suc, ◌+◌, ◌/◌, ◌%◌, ◌≤◌, ◌<◌}
use native.Mathlib.Omega.{arith}
use lib.Dec.{eqb, ltb, lit<}
use lib.ListN.{length, get_or, take, drop, length-append, length-map, get_or-map}
use lib.ListN.{drop_of_length-le}
use lib.Seq.{split_at, take_at}
use borrow.Author.Tests.{ne_eqb, lt-ltb, ltb-true}
use Rattle.basics.proofs.Cases.{by-test, and_left, and_right}
use Rattle.hexadecimal.specs.Bytes.{EachByte}
use Rattle.hexadecimal.specs.Digit.{hex_digit}
use Rattle.hexadecimal.specs.Line.{line_length}
use Rattle.hexadecimal.proofs.Line.{line_length-at}
use Rattle.hexadecimal.specs.Text.{is_hex, bytes_of, hex_text}
use Rattle.hexadecimal.proofs.Text.{is_hex-hex_text, bytes_of-hex_text, hex_text-bytes_of, each_byte-bytes_of}
use Rattle.log_format.specs.Log.{joined, lines_of, text_of, frame_of, frames_of}

-- ---- a line and its frame

digit-not-end : (v : ℕ) → eqb (hex_digit v) 0x0a ≡ false
unfolding hex_digit
digit-not-end v = by-test (ltb v 10) (λ e. rw e (ne_eqb (48 + v) 0x0a (λ z. omega arith)))
    (λ e. rw e (ne_eqb (87 + v) 0x0a (λ z. omega arith)))

length-line : (f : List ℕ) → line_length (hex_text f ++ 0x0a ∷ []) ≡ length (hex_text f)
unfolding line_length hex_text
length-line [] = refl
length-line (b ∷ bs) = rw (digit-not-end (b / 16), digit-not-end (b % 16), length-line bs)

pub frame_of-text : (f : List ℕ) → EachByte f → frame_of (hex_text f ++ 0x0a ∷ []) ≡ f
unfolding frame_of
frame_of-text f h =
    let text : take (line_length (hex_text f ++ 0x0a ∷ [])) (hex_text f ++ 0x0a ∷ []) ≡ hex_text f =
    take_at (hex_text f) (0x0a ∷ []) (line_length (hex_text f ++ 0x0a ∷ []))
    (sym (length-line f)) in
    let ended : ltb (line_length (hex_text f ++ 0x0a ∷ [])) (length (hex_text f ++ 0x0a ∷ [])) ≡ true =
    lt-ltb (line_length (hex_text f ++ 0x0a ∷ [])) (length (hex_text f ++ 0x0a ∷ []))
    (omega (arith, length-line f, length-append (hex_text f) (0x0a ∷ []))) in
    rw (ended, text, is_hex-hex_text f h) (bytes_of-hex_text f h)

pub frame_at : (log : List ℕ) (i : ℕ) → get_or (frames_of log) i [] ≡ frame_of (get_or (lines_of log) i [])
unfolding frame_of line_length
frame_at log i = get_or-map frame_of (lines_of log) i []

pub length-frames : (log : List ℕ) → length (frames_of log) ≡ length (lines_of log)
length-frames log = length-map (lines_of log) frame_of

-- a line has nothing behind its 0a
joined-short : (c : ℕ) (lines : List (List ℕ)) → eqb c 10 ≡ false
    → ((i : ℕ) → length (get_or lines i []) ≤ suc (line_length (get_or lines i []))) → (i : ℕ)
    → length (get_or (joined c lines) i []) ≤ suc (line_length (get_or (joined c lines) i []))
unfolding line_length
joined-short c [] e h zero = rw e (omega arith)
joined-short c [] e h (suc i) = omega arith
joined-short c (l ∷ ls) e h zero = let p = h 0 in rw e (omega arith)
joined-short c (l ∷ ls) e h (suc i) = h (suc i)

line-short : (log : List ℕ) (i : ℕ)
    → length (get_or (lines_of log) i []) ≤ suc (line_length (get_or (lines_of log) i []))
unfolding lines_of line_length
line-short [] i = omega arith
line-short (c ∷ s) i =
    let rest : (j : ℕ) → length (get_or (lines_of s) j []) ≤ suc (line_length (get_or (lines_of s) j [])) =
    line-short s in
    by-test (eqb c 10)
    (λ e. rw e (ended c (lines_of s) e rest i))
    (λ e. rw e (joined-short c (lines_of s) e rest i))
  where
    ended : (c : ℕ) (lines : List (List ℕ)) → eqb c 10 ≡ true
        → ((j : ℕ) → length (get_or lines j []) ≤ suc (line_length (get_or lines j []))) → (j : ℕ)
        → length (get_or ((c ∷ []) ∷ lines) j []) ≤ suc
        (line_length (get_or ((c ∷ []) ∷ lines) j []))
    ended c lines e h zero = rw e (omega arith)
    ended c lines e h (suc j) = h j

line-split : (l : List ℕ) → line_length l < length l → length l ≤ suc (line_length l)
    → l ≡ text_of l ++ 0x0a ∷ []
line-split l h short =
    let none : drop (suc (line_length l)) l ≡ [] = drop_of_length-le l short in
    split_at l (line_length l) 0 h ∙ rw (line_length-at l h, none)

-- the frame of a line that has one
pub frame-line : (log : List ℕ) (i : ℕ) → (get_or (frames_of log) i [] ≡ [] → ⊥)
    → EachByte (get_or (frames_of log) i [])
    × (get_or (lines_of log) i [] ≡ hex_text (get_or (frames_of log) i []) ++ 0x0a ∷ [])
frame-line log i some =
    subst (λ (f : List ℕ). EachByte f × (get_or (lines_of log) i [] ≡ hex_text f ++ 0x0a ∷ []))
    (sym (frame_at log i))
    (whole (get_or (lines_of log) i []) refl (λ e. some (frame_at log i ∙ e)))
  where
    whole : (line : List ℕ) → get_or (lines_of log) i [] ≡ line → (frame_of line ≡ [] → ⊥)
        → EachByte (frame_of line) × (get_or (lines_of log) i [] ≡ hex_text (frame_of line) ++ 0x0a ∷ [])
    whole line at nonempty =
        by-test (ltb (line_length line) (length line) && is_hex (text_of line))
        (λ e.
        let f : frame_of line ≡ bytes_of (text_of line) = unfold frame_of in rw e in
        let hex = and_right (ltb (line_length line) (length line)) (is_hex (text_of line)) e in
        let end = ltb-true (line_length line) (length line)
        (and_left (ltb (line_length line) (length line)) (is_hex (text_of line)) e) in
        let short : length line ≤ suc (line_length line) =
        subst (λ (l : List ℕ). length l ≤ suc (line_length l)) at (line-short log i) in
        rw f (
          each_byte-bytes_of (text_of line),
          at ∙ line-split line end short
              ∙ ap (λ (t : List ℕ). t ++ 0x0a ∷ []) (sym (hex_text-bytes_of (text_of line) hex)),
        ))
        (λ e. absurd (nonempty (unfold frame_of in rw e)))

-- the bytes of every frame are bytes
pub frame-bytes : (log : List ℕ) (i : ℕ) → EachByte (get_or (frames_of log) i [])
unfolding frame_of
frame-bytes log i =
    let line = get_or (lines_of log) i [] in
    rw (frame_at log i)
    (by-test (ltb (line_length line) (length line) && is_hex (text_of line))
    (λ e. rw e (each_byte-bytes_of (text_of line)))
    (λ e. rw e (λ k. lit< tt)))

-- ---- a log's lines put together are the log

abbrev pub together : List (List ℕ) → List ℕ
together [] = []
together (line ∷ lines) = line ++ together lines

together-joined : (c : ℕ) (lines : List (List ℕ))
    → together (joined c lines) ≡ c ∷ together lines
together-joined c [] = refl
together-joined c (line ∷ lines) = refl

pub lines-together : (log : List ℕ) → together (lines_of log) ≡ log
unfolding lines_of
lines-together [] = refl
lines-together (c ∷ s) =
    let rest = lines-together s in
    by-test (eqb c 0x0a)
    (λ e. rw e (ap (λ (l : List ℕ). c ∷ l) rest))
    (λ e. rw e (together-joined c (lines_of s) ∙ ap (λ (l : List ℕ). c ∷ l) rest))
