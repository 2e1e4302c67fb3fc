-- `show::write_frame` meets its contract: the parts that the kind shows, one behind the other and
-- behind the head, make the frame.
use mathlib.Core.List.{List, [], ◌++◌}
use mathlib.Core.Path.{◌≡◌, sym, ap, ◌∙◌}
use Prim.Native.Nat.{ℕ, ◌+◌, ◌≤◌}
use native.Mathlib.Omega.{arith}
use borrow.Author.Rules.{rules}
use lib.ListN.{length, drop}
use lib.Seq.{sets}
use Rattle.hexadecimal.proofs.Stores.{sets-front, sets-join}
use Rattle.show.specs.Show.{head}
use Rattle.show.proofs.LogFrames.{length-head, length_before, length-frame_in}
use Rattle.show.proofs.LogFrames.{frame_in-nothing, frame_in-shown}
use Rattle.show.proofs.write_frame.Goals as goal

-- nothing to write
none : (out frame : List ℕ) → frame ≡ [] → out ≡ frame ++ drop (length frame) out
none out frame e = rw e

-- the parts behind the head make the frame; n is the byte of its kind
whole : (out headed read after frame : List ℕ) (byte n d behind : ℕ) (r w : List ℕ)
    → headed ≡ sets out 0 (head byte d) → byte ≡ n → read ≡ sets headed 2 r
    → after ≡ sets read behind w → behind ≡ length (head n d ++ r)
    → frame ≡ head n d ++ r ++ w → length frame ≤ length out
    → after ≡ frame ++ drop (length frame) out
whole out headed read after frame byte n d behind r w p e q s place f h =
    s
    ∙ ap (λ (l : List ℕ). sets l behind w)
    (q
    ∙ ap (λ (l : List ℕ). sets l 2 r) (p ∙ ap (λ (x : ℕ). sets out 0 (head x d)) e)
    ∙ sets-join out 0 2 (head n d) r (omega (arith, length-head n d)))
    ∙ sets-join out 0 behind (head n d ++ r) w (omega (arith, place))
    ∙ ap (sets out 0) (sym f)
    ∙ sets-front out frame h

pub returns-then-kind-eq-NONE : goal.returns-then-kind-eq-NONE
returns-then-kind-eq-NONE c = none _ _ (frame_in-nothing _ _ c.last_kind-kind.ensures c.last_set-s.ensures
    c.if-kind-eq-NONE.true)

pub put_head-requires : goal.put_head-requires
put_head-requires c =
    let long = length-frame_in c.args.b.now c.args.d c.last_kind-kind.ensures c.last_set-s.ensures
    c.last_written_set-written.ensures c.last_set-s.type_inv c.last_written_set-written.type_inv
    c.if-kind-eq-NONE.false in
    omega (arith, long)

pub put_shown_read-requires : goal.put_shown_read-requires
put_shown_read-requires c =
    let long = length-frame_in c.args.b.now c.args.d c.last_kind-kind.ensures c.last_set-s.ensures
    c.last_written_set-written.ensures c.last_set-s.type_inv c.last_written_set-written.type_inv
    c.if-kind-eq-NONE.false in
    (search rules, search rules, omega (arith, long))

pub put_shown_write-requires : goal.put_shown_write-requires
put_shown_write-requires c =
    let long = length-frame_in c.args.b.now c.args.d c.last_kind-kind.ensures c.last_set-s.ensures
    c.last_written_set-written.ensures c.last_set-s.type_inv c.last_written_set-written.type_inv
    c.if-kind-eq-NONE.false in
    (search rules, search rules, omega (arith, long))

pub returns : goal.returns
returns c = whole c.args.out.now _ _ _ _ _ _ c.args.d _ _ _ c.put_head.ensures
    c.frame_byte.ensures c.put_shown_read.ensures c.put_shown_write.ensures
    (ap (λ (n : ℕ). 2 + n) c.read_length-behind.ensures
    ∙ sym (length_before c.args.b.now c.args.d c.last_kind-kind.ensures
    c.last_set-s.ensures c.last_set-s.type_inv))
    (frame_in-shown c.args.b.now c.args.d c.last_kind-kind.ensures
    c.last_set-s.ensures c.last_written_set-written.ensures c.if-kind-eq-NONE.false)
    c.requires.2
