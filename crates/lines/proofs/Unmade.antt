-- Before an accepted `01` (document 01: store frames): on a block of zeros, however long, every
-- well-formed frame but an `01` answers 01, and a malformed line 0f, and neither changes a word;
-- nor does an `01` that isn't accepted. A size of 0 is out of range, so that such a block is
-- refused by 1.
use mathlib.Core.Bool.{Bool, true, false, false≢true}
use mathlib.Core.List.{List, [], ◌∷◌}
use mathlib.Core.Path.{◌≡◌, refl, ap, ◌∙◌, subst}
use Prim.Native.Nat.{ℕ, zero, suc}
use Rattle.std.specs.Prelude.{Option, Some, None}
use lib.Dec.{leb}
use lib.ListN.{length, get_or}
use Rattle.basics.proofs.Cases.{by-test}
use Rattle.hexadecimal.specs.Digit.{hex_digit}
use Rattle.hexadecimal.specs.Number.{big_endian}
use Rattle.hexadecimal.specs.Text.{hex_text}
use Rattle.protocol.specs.declared.Answer.TheVariants.{Refused, Made}
use Rattle.protocol.specs.Calls.{Call, pick, bytes_of_answer}
use Rattle.protocol.specs.Range.{sizes_in_range}
use Rattle.layout.specs.Layout.{needed}
use Rattle.layout.specs.Decode.{well_formed, valid_block}
use Rattle.layout.specs.Store.{fresh_block}
use Rattle.gather.specs.Sized.{sizes}
use Rattle.block_calls.specs.Calls.{fresh_refusal_on, fresh_answer_on, fresh_after, refusal_on, answer_on}
use Rattle.block_calls.specs.Calls.{block_after}
use Rattle.store_frames.specs.declared.StoreFrame.{StoreFrame}
use Rattle.store_frames.specs.declared.StoreFrame.TheVariants.{Fresh, Read, Write, Deliver, Show}
use Rattle.store_frames.specs.declared.StoreFrame.TheVariants.{FastRead, Mixed, Clear, HandOver}
use Rattle.store_frames.specs.declared.StoreFrame.TheVariants.{Compare, Check}
use Rattle.store_frames.specs.declared.Parsed.{Parsed}
use Rattle.store_frames.specs.Answers.{answer_line}
use Rattle.store_frames.specs.StoreFrames.{frame_bytes, store_frame_of}
use Rattle.lines.specs.Input.{lines_block}
use Rattle.lines.specs.Lines.{call_answer, call_block, parsed_answer, parsed_block, blank}
use Rattle.lines.specs.Lines.{line_answer, line_block, line_reply}

-- every word is 0
abbrev pub Zeros : List ℕ → Type 0
Zeros b = (i : ℕ) → get_or b i 0 ≡ 0

-- a frame that isn't an `01`
unfoldable pub is_unfresh : StoreFrame → Bool
is_unfresh (Fresh clients partitions items) = false
is_unfresh (Read client s) = true
is_unfresh (Write client s) = true
is_unfresh (Deliver place) = true
is_unfresh (Show client) = true
is_unfresh (FastRead client s) = true
is_unfresh (Mixed client r s) = true
is_unfresh Clear = true
is_unfresh (HandOver giver receiver) = true
is_unfresh (Compare first second) = true
is_unfresh Check = true

-- a well-formed frame that isn't an `01`
unfoldable pub is_other : Option Parsed → Bool
is_other None = false
is_other (Some p) = is_unfresh p.frame

module _ (b : List ℕ) (zeros : Zeros b) where
  invalid : valid_block b ≡ false
  unfolding valid_block well_formed sizes_in_range
  invalid = by-test (leb needed (length b)) (λ e. rw (e, zeros 0)) (λ e. rw e)

  refused : (c : Call) → answer_on b c ≡ Refused 1
  unfolding answer_on
  refused c = rw invalid

  kept : (c : Call) → block_after b c ≡ b
  unfolding block_after refusal_on
  kept c = rw invalid

  call-refused : (f o : List ℕ) (g : StoreFrame) → is_unfresh g ≡ true → call_answer b f o g ≡ Refused 1
  unfolding is_unfresh
  call-refused f o (Fresh clients partitions items) e = absurd (false≢true e)
  call-refused f o (Read client s) e = refused _
  call-refused f o (Write client s) e = refused _
  call-refused f o (Deliver place) e = refused _
  call-refused f o (Show client) e = refused _
  call-refused f o (FastRead client s) e = refused _
  call-refused f o (Mixed client r s) e = refused _
  call-refused f o Clear e = refused _
  call-refused f o (HandOver giver receiver) e = refused _
  call-refused f o (Compare first second) e = refused _
  call-refused f o Check e = refused _

  call-kept : (f o : List ℕ) (g : StoreFrame) → is_unfresh g ≡ true → call_block b f o g ≡ b
  unfolding is_unfresh
  call-kept f o (Fresh clients partitions items) e = absurd (false≢true e)
  call-kept f o (Read client s) e = kept _
  call-kept f o (Write client s) e = kept _
  call-kept f o (Deliver place) e = kept _
  call-kept f o (Show client) e = kept _
  call-kept f o (FastRead client s) e = kept _
  call-kept f o (Mixed client r s) e = kept _
  call-kept f o Clear e = kept _
  call-kept f o (HandOver giver receiver) e = kept _
  call-kept f o (Compare first second) e = kept _
  call-kept f o Check e = kept _

  other-answer : (f o : List ℕ) (p : Option Parsed) → is_other p ≡ true
      → parsed_answer b f o p ≡ Refused 1
  unfolding is_other
  other-answer f o None e = absurd (false≢true e)
  other-answer f o (Some p) e = call-refused f o p.frame e

  other_block : (f o : List ℕ) (p : Option Parsed) → is_other p ≡ true → parsed_block b f o p ≡ b
  unfolding is_other
  other_block f o None e = absurd (false≢true e)
  other_block f o (Some p) e = call-kept f o p.frame e

  -- an `01` that isn't accepted changes nothing either
  made-or-kept : (r : ℕ) (x : List ℕ) → (pick r Made (Refused r) ≡ Made → ⊥) → pick r x b ≡ b
  made-or-kept zero x h = absurd (h refl)
  made-or-kept (suc r) x h = refl

  unmade-call : (f o : List ℕ) (g : StoreFrame) → (call_answer b f o g ≡ Made → ⊥)
      → call_block b f o g ≡ b
  unfolding fresh_answer_on fresh_after
  unmade-call f o (Fresh clients partitions items) h =
      made-or-kept (fresh_refusal_on b (sizes clients partitions items))
      (fresh_block b clients partitions items) h
  unmade-call f o (Read client s) h = kept _
  unmade-call f o (Write client s) h = kept _
  unmade-call f o (Deliver place) h = kept _
  unmade-call f o (Show client) h = kept _
  unmade-call f o (FastRead client s) h = kept _
  unmade-call f o (Mixed client r s) h = kept _
  unmade-call f o Clear h = kept _
  unmade-call f o (HandOver giver receiver) h = kept _
  unmade-call f o (Compare first second) h = kept _
  unmade-call f o Check h = kept _

  unmade-parsed : (f o : List ℕ) (p : Option Parsed) → (parsed_answer b f o p ≡ Made → ⊥)
      → parsed_block b f o p ≡ b
  unmade-parsed f o None h = refl
  unmade-parsed f o (Some p) h = unmade-call f o p.frame h

  unmade-line : (line : List ℕ) → (line_answer b line ≡ Made → ⊥) → line_block b line ≡ b
  unmade-line line h = unmade-parsed (frame_bytes line) blank (store_frame_of line) h

  -- 01 and 0a
  pub unmade-reply : (line : List ℕ) → is_other (store_frame_of line) ≡ true
      → line_reply b line ≡ 0x30 ∷ 0x31 ∷ 0x0a ∷ []
  unfolding answer_line bytes_of_answer big_endian hex_text hex_digit
  unmade-reply line e = rw (other-answer (frame_bytes line) blank (store_frame_of line) e)

  pub unmade-block : (line : List ℕ) → is_other (store_frame_of line) ≡ true → line_block b line ≡ b
  unmade-block line e = other_block (frame_bytes line) blank (store_frame_of line) e

-- none of the lines is an accepted `01`
abbrev pub NoneMade : List ℕ → List (List ℕ) → Type 0
NoneMade b [] = Unit
NoneMade b (line ∷ lines) = (line_answer b line ≡ Made → ⊥) × NoneMade (line_block b line) lines

-- after any such lines the block is as it was, and so the next other frame answers 01
pub unmade-lines : (b : List ℕ) → Zeros b → (lines : List (List ℕ)) → NoneMade b lines
    → lines_block b lines ≡ b
unfolding lines_block
unmade-lines b zeros [] h = refl
unmade-lines b zeros (line ∷ lines) h =
    let same = unmade-line b zeros line h.0 in
    ap (λ (w : List ℕ). lines_block w lines) same
    ∙ unmade-lines b zeros lines (subst (λ (w : List ℕ). NoneMade w lines) same h.1)

-- 0f and 0a, on any block
pub malformed-reply : (b line : List ℕ) → store_frame_of line ≡ None
    → line_reply b line ≡ 0x30 ∷ 0x66 ∷ 0x0a ∷ []
unfolding answer_line bytes_of_answer big_endian hex_text hex_digit
malformed-reply b line e = rw e

pub malformed-block : (b line : List ℕ) → store_frame_of line ≡ None → line_block b line ≡ b
malformed-block b line e = rw e
