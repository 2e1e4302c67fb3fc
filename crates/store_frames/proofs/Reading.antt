-- What reading a line tells: the bytes that it stores are the frame's, and a line that isn't
-- decoded is malformed.
use mathlib.Core.Bool.{true, false, ◌&&◌, false≢true}
use mathlib.Core.List.{List, [], ◌∷◌}
use mathlib.Core.Path.{◌≡◌, refl, sym, ap, ◌∙◌, subst}
use Prim.Native.Nat.{ℕ, ◌-◌, ◌*◌, ◌≤◌, ◌<◌}
use Rattle.std.specs.Prelude.{Option, Some, None}
use native.Mathlib.Omega.{arith}
use lib.Dec.{leb}
use lib.ListN.{length, take}
use lib.Seq.{sets, take_at, length-take-le, length-sets}
use borrow.Author.Tests.{leb-true, leb-false, lt-leb}
use Rattle.basics.proofs.Cases.{by-test, and_left, and_right, and_both, not-both}
use Rattle.hexadecimal.proofs.Decoding.{decoded-bytes, decoded-malformed}
use Rattle.hexadecimal.proofs.Stores.{sets-front}
use Rattle.hexadecimal.specs.Text.{is_hex, bytes_of}
use Rattle.hexadecimal.proofs.Text.{length-hex_text, hex_text-bytes_of, length-bytes_of}
use Rattle.store_frames.specs.Limits.{most_frame, most_line}
use Rattle.store_frames.specs.declared.Parsed.{Parsed}
use Rattle.store_frames.specs.StoreFrames.{is_ended, text_of, frame_bytes, parsed, store_frame_of}
use Rattle.store_frames.specs.StoreFrames.{framed, is_decoded, decoded_line, stored_bytes}
use Rattle.store_frames.proofs.Parsing.{parsed-none, parsed-long, parsed-length}

-- ---- a line's text

ended-length : (line : List ℕ) → is_ended line ≡ true → 1 ≤ length line
ended-length [] e = absurd (false≢true e)
ended-length (x ∷ line) e = omega arith

pub is_decoded-length : (line : List ℕ) → is_decoded line ≡ true → (1 ≤ length line)
    × (length line ≤ most_line)
is_decoded-length line e =
    let short = leb (length line) most_line in (
      ended-length line (and_right short (is_ended line) e),
      leb-true (length line) most_line
          (and_left short (is_ended line) e),
    )

pub length-text_of : (line : List ℕ) → length (text_of line) ≡ length line - 1
length-text_of line = length-take-le (length line - 1) line (omega arith)

hex-even : (line : List ℕ) → is_hex (text_of line) ≡ true
    → 2 * length (bytes_of (text_of line)) ≡ length line - 1
hex-even line e =
    sym (length-hex_text (bytes_of (text_of line))) ∙ ap length (hex_text-bytes_of (text_of line) e)
    ∙ length-text_of line

-- ---- decoded

module _ (line : List ℕ) where
  frame_bytes-hex : is_ended line ≡ true → is_hex (text_of line) ≡ true
      → frame_bytes line ≡ bytes_of (text_of line)
  unfolding frame_bytes
  frame_bytes-hex e h = rw (e, h)

  frame_bytes-not : is_hex (text_of line) ≡ false → frame_bytes line ≡ []
  unfolding frame_bytes
  frame_bytes-not h = by-test (is_ended line) (λ e. rw (e, h)) (λ e. rw e)

  frame_bytes-unended : is_ended line ≡ false → frame_bytes line ≡ []
  unfolding frame_bytes
  frame_bytes-unended e = rw e

  -- one that isn't decoded is malformed
  store_frame_of-undecoded : is_decoded line ≡ false → store_frame_of line ≡ None
  store_frame_of-undecoded d =
      by-test (is_ended line)
      (λ e.
      by-test (is_hex (text_of line))
      (λ h.
      ap parsed (frame_bytes-hex e h)
      ∙ parsed-long (bytes_of (text_of line))
      (omega (arith, hex-even line h, leb-false (length line) most_line (unended e d))))
      (λ h. ap parsed (frame_bytes-not h) ∙ parsed-none))
      (λ e. ap parsed (frame_bytes-unended e) ∙ parsed-none)
    where
      unended : is_ended line ≡ true → (leb (length line) most_line && is_ended line) ≡ false
          → leb (length line) most_line ≡ false
      unended e f = by-test (leb (length line) most_line)
          (λ t. not-both (and_both (leb (length line) most_line) (is_ended line) t e) f) (λ t. t)

  pub store_frame_of-long : most_line < length line → store_frame_of line ≡ None
  store_frame_of-long h = store_frame_of-undecoded (rw (lt-leb (length line) most_line h))

  pub stored_bytes-text : is_decoded line ≡ true → stored_bytes line ≡ bytes_of (text_of line)
  unfolding stored_bytes
  stored_bytes-text d = rw d

  pub store_frame_of-malformed : None ≡ decoded_line line → store_frame_of line ≡ None
  store_frame_of-malformed m =
      by-test (is_decoded line)
      (λ d. ap parsed (frame_bytes-not (decoded-malformed (text_of line) (rw d at m))) ∙ parsed-none)
      store_frame_of-undecoded

  -- one that is has its bytes stored
  pub record Stored (n : ℕ) : Type 0 where
    pub bytes : frame_bytes line ≡ stored_bytes line
    pub long : n ≡ length (stored_bytes line)
    pub fits : n ≤ most_frame

  pub stored_bytes_lem : (n : ℕ) → Some n ≡ decoded_line line → Stored n
  stored_bytes_lem n m =
      by-test (is_decoded line)
      (λ d.
      let h = decoded-bytes (text_of line) n (rw d at m) in
      let e = and_right (leb (length line) most_line) (is_ended line) d in
      let l = is_decoded-length line d in
      let size : n ≡ length (bytes_of (text_of line)) =
      h.1 ∙ sym (length-bytes_of (text_of line) h.0) in
      let stored = stored_bytes-text d in
      record {
        bytes = frame_bytes-hex e h.0 ∙ sym stored;
        long =
            size ∙ sym (ap length stored);
        fits = omega (arith, hex-even line h.0);
      })
      (λ d.
      let f : Some n ≡ None = rw d at m in
      let z : ◌≡◌ {A = ℕ} 0 1 = cc in
      absurd (omega arith))

  -- the frame's bytes lie at the front of the bytes stored to
  pub stored-front : (bytes : List ℕ) {after : List ℕ} (n : ℕ) → Stored n
      → after ≡ sets bytes 0 (stored_bytes line) → most_frame ≤ length bytes
      → take n after ≡ frame_bytes line
  stored-front bytes n s e h =
      let fits : length (stored_bytes line) ≤ length bytes = omega (arith, s.long, s.fits) in
      ap (take n) (e ∙ sets-front bytes (stored_bytes line) fits)
      ∙ take_at (stored_bytes line) _ n (sym s.long)
      ∙ sym s.bytes

  -- a line with a frame is one whose bytes are stored
  pub frame-stored : (p : Parsed) → Some p ≡ store_frame_of line → Stored p.length
  frame-stored p e = by (decoded_line line) refl
    where
      by : (d : Option ℕ) → d ≡ decoded_line line → Stored p.length
      by (Some m) q =
          let s = stored_bytes_lem m q in
          let same : p.length ≡ m = parsed-length (frame_bytes line) p e ∙ ap length s.bytes
          ∙ sym s.long in
          subst Stored (sym same) s
      by None q =
          let m = store_frame_of-malformed q in
          let z : ◌≡◌ {A = ℕ} 0 1 = cc in
          absurd (omega arith)

  -- its bytes are those of the frame, at the front of the bytes stored to
  pub frame-front : (p : Parsed) → Some p ≡ store_frame_of line → (bytes : List ℕ) {after : List ℕ}
      → after ≡ sets bytes 0 (stored_bytes line) → most_frame ≤ length after
      → take p.length after ≡ frame_bytes line
  frame-front p e bytes q h =
      stored-front bytes p.length (frame-stored p e) q
      (omega (arith, ap length q, length-sets bytes 0 (stored_bytes line)))

  pub frame-parsed : (p : Parsed) → Some p ≡ store_frame_of line
      → framed p.frame (length (frame_bytes line)) ≡ parsed (frame_bytes line)
  frame-parsed p e = ap (framed p.frame) (sym (parsed-length (frame_bytes line) p e)) ∙ e
