-- A line is malformed as the judge computes it if and only if it isn't well-formed as the statement
-- says.
use mathlib.Core.Bool.{Bool, true, false, not, ◌&&◌, ◌||◌}
use mathlib.Core.List.{List, [], ◌∷◌, ◌++◌}
use mathlib.Core.Logic.{◌⊎◌, inl, inr, ⊎_elim}
use mathlib.Core.Path.{◌≡◌, refl, sym, ap, ◌∙◌, subst}
use Prim.Native.Nat.{ℕ, ◌≤◌, ◌<◌}
use native.Mathlib.Omega.{arith}
use lib.Dec.{eqb, leb}
use lib.ListN.{length, get_or, take, length-take}
use lib.Seq.{length-take-le, get_or-take}
use borrow.Author.Tests.{eqb-true, eqb-false, eq-eqb, ne_eqb, leb-true, leb-false, le-leb}
use Rattle.basics.proofs.Cases.{by-test, not-both, and_left, and_right, and_both, or_cases, or_left}
use Rattle.basics.proofs.Cases.{or_right, or-neither, not-true, not-false}
use Rattle.basics.proofs.Lists.{every-at, at_every}
use Rattle.log_format.specs.Some.{some}
use Rattle.log_format.proofs.Some.{some_at, at_some}
use Rattle.log_format.specs.Log.{lines_of, frames_of, kind_of, client_of, has_read, has_write, hands_over}
use Rattle.log_format.specs.Log.{is_kind, receiver_of, shown}
use Rattle.log_format.specs.Log.{written, number_of, is_client, is_whole, end_of, entry_number, entry_writer}
use Rattle.log_format.specs.Log.{entries_whole, read_shaped, write_shaped, hand_over_shaped, shaped, reaches}
use Rattle.log_format.specs.Log.{malformed, malformed_at, frame_of, count64}
use Rattle.log_format.proofs.Lines.{frame_at, frame-line, frame_of-text, length-frames}
use Rattle.log_format.proofs.Parts.{shaped-kind, shaped-client, shaped-size, shaped-read, shaped-write}
use Rattle.log_format.proofs.Parts.{shaped-hand-over}
use Rattle.findings.specs.Published.{IsClient, ReadPart, WritePart, HandOverPart, LogFrame}
use Rattle.findings.specs.Published.{WholeStamp}
use Rattle.findings.specs.Published.{Holds, Rises, WellFormed}

pub frame-holds : (log : List ℕ) (i : ℕ) (f : List ℕ) → Holds log i f → get_or (frames_of log) i [] ≡ f
frame-holds log i f h = frame_at log i ∙ ap frame_of h.1 ∙ frame_of-text f h.0

-- ---- fields

client-is : (d : ℕ) → is_client d ≡ true → IsClient d
client-is d e = (
  leb-true 1 d (and_left (leb 1 d) (leb d 8) e),
  leb-true d 8
      (and_right (leb 1 d) (leb d 8) e),
)

is-client : (d : ℕ) → IsClient d → is_client d ≡ true
is-client d h = and_both (leb 1 d) (leb d 8) (le-leb 1 d h.0) (le-leb d 8 h.1)

whole_is : (n d : ℕ) → is_whole n d ≡ true → WholeStamp n d
whole_is n d e =
    ⊎_elim
    (λ z. inl (
      eqb-true n 0 (and_left (eqb n 0) (eqb d 0) z),
      eqb-true d 0
          (and_right (eqb n 0) (eqb d 0) z),
    ))
    (λ z. inr (
      leb-true 1 n (and_left (leb 1 n) (is_client d) z),
      client-is d
          (and_right (leb 1 n) (is_client d) z),
    ))
    (or_cases (eqb n 0 && eqb d 0) (leb 1 n && is_client d) e)

is-whole : (n d : ℕ) → WholeStamp n d → is_whole n d ≡ true
is-whole n d (inl h) = or_left (eqb n 0 && eqb d 0) (leb 1 n && is_client d)
    (and_both (eqb n 0) (eqb d 0) (eq-eqb n 0 h.0) (eq-eqb d 0 h.1))
is-whole n d (inr h) = or_right (eqb n 0 && eqb d 0) (leb 1 n && is_client d)
    (and_both (leb 1 n) (is_client d) (le-leb 1 n h.0) (is-client d h.1))

-- a part that a kind has passes its test
of_part : (has test : Bool) → (not has || test) ≡ true → has ≡ true → test ≡ true
of_part has test e h = ⊎_elim (λ t. not-both h (not-true has t)) (λ t. t)
    (or_cases (not has) test e)

part_of : (has test : Bool) → (has ≡ true → test ≡ true) → (not has || test) ≡ true
part_of has test h = by-test has (λ t. or_right (not has) test (h t)) (λ t. rw t)

module _ (f : List ℕ) where
  read_is : read_shaped f ≡ true → has_read (kind_of f) ≡ true → ReadPart f
  unfolding read_shaped entries_whole
  read_is e h =
      let t = of_part (has_read (kind_of f)) _ e h in
      record {
        items = leb-true 1 (shown f) (and_left (leb 1 (shown f)) _ t);
        entries =
            λ k l. whole_is (entry_number f k) (entry_writer f k)
            (every-at (count64 (shown f)) (λ i. is_whole (entry_number f i) (entry_writer f i))
            (and_right (leb 1 (shown f)) _ t) k l);
      }

  is_read_lem : (has_read (kind_of f) ≡ true → ReadPart f) → read_shaped f ≡ true
  unfolding read_shaped entries_whole
  is_read_lem r = part_of (has_read (kind_of f)) _ (λ h.
      (and_both (leb 1 (shown f)) _ (le-leb 1 (shown f) (r h).items)
      (at_every (count64 (shown f)) (λ i. is_whole (entry_number f i) (entry_writer f i))
      (λ k l. is-whole (entry_number f k) (entry_writer f k) ((r h).entries k l)))))

  write-is : write_shaped f ≡ true → has_write (kind_of f) ≡ true → WritePart f
  unfolding write_shaped
  write-is e h =
      let t = of_part (has_write (kind_of f)) _ e h in
      record {
        items = leb-true 1 (written f) (and_left (leb 1 (written f)) _ t);
        number = leb-true 1 (number_of f) (and_right (leb 1 (written f)) _ t);
      }

  is-write : (has_write (kind_of f) ≡ true → WritePart f) → write_shaped f ≡ true
  unfolding write_shaped
  is-write w = part_of (has_write (kind_of f)) _ (λ h.
      (and_both (leb 1 (written f)) _ (le-leb 1 (written f) (w h).items)
      (le-leb 1 (number_of f) (w h).number)))

  hand-over-is : hand_over_shaped f ≡ true → hands_over (kind_of f) ≡ true → HandOverPart f
  unfolding hand_over_shaped
  hand-over-is e h =
      let t = of_part (hands_over (kind_of f)) _ e h in
      record {
        receiver = client-is (receiver_of f) (and_left (is_client (receiver_of f)) _ t);
        other =
            eqb-false (receiver_of f) (client_of f)
            (not-true (eqb (receiver_of f) (client_of f))
            (and_right (is_client (receiver_of f)) _ t));
      }

  is-hand-over : (hands_over (kind_of f) ≡ true → HandOverPart f) → hand_over_shaped f ≡ true
  unfolding hand_over_shaped
  is-hand-over p = part_of (hands_over (kind_of f)) _ (λ h.
      (and_both (is_client (receiver_of f)) _ (is-client (receiver_of f) (p h).receiver)
      (ap not (ne_eqb (receiver_of f) (client_of f) (p h).other))))

  pub frame_is : shaped f ≡ true → LogFrame f
  frame_is e =
      record {
        kind = shaped-kind f e;
        client = client-is (client_of f) (shaped-client f e);
        size = eqb-true (length f) (end_of f) (shaped-size f e);
        read = read_is (shaped-read f e);
        write = write-is (shaped-write f e);
        hand-over = hand-over-is (shaped-hand-over f e);
      }

  is-frame : LogFrame f → shaped f ≡ true
  unfolding shaped
  is-frame h =
      and_both (is_kind (kind_of f)) _ h.kind
      (and_both (is_client (client_of f)) _ (is-client (client_of f) h.client)
      (and_both (eqb (length f) (end_of f)) _ (eq-eqb (length f) (end_of f) h.size)
      (and_both (read_shaped f) _ (is_read_lem h.read)
      (and_both (write_shaped f) (hand_over_shaped f) (is-write h.write)
      (is-hand-over h.hand-over)))))

-- ---- a line

-- a frame with a client has bytes
client-some : (f : List ℕ) → 1 ≤ client_of f → f ≡ [] → ⊥
client-some f h e = omega (arith, ap client_of e)

module _ (log : List ℕ) (i : ℕ) where
  abbrev frames : List (List ℕ)
  frames = frames_of log

  abbrev frame : List ℕ
  frame = get_or frames i []

  abbrev reached : List ℕ → Bool
  reached f = some (reaches (client_of f) (number_of f)) (take i frames)

  above : (j : ℕ) → i ≤ length frames → j < i → (p : List ℕ → Bool) → p (get_or frames j []) ≡ true
      → some p (take i frames) ≡ true
  above j l h p e =
      at_some p (take i frames) [] j (omega (arith, length-take-le i frames l))
      (ap p (get_or-take i frames j [] h) ∙ e)

  -- not malformed: well-formed
  pub well-formed : i < length (lines_of log) → malformed_at frames i ≡ false → WellFormed log i
  unfolding malformed reaches
  well-formed l e =
      let parts = or-neither (not (shaped frame)) (leb 1 (number_of frame) && reached frame) e in
      let is = frame_is frame (not-false (shaped frame) parts.0) in (
        frame,
        frame-line log i (client-some frame is.client.0),
        is,
        (λ Some-number. rises (none Some-number parts.1)),
      )
    where
      none : 1 ≤ number_of frame → (leb 1 (number_of frame) && reached frame) ≡ false
          → reached frame ≡ false
      none h t = rw (le-leb 1 (number_of frame) h) at t

      rises : reached frame ≡ false → Rises log i frame
      rises none j g h holds client =
          let same = frame-holds log j g holds in
          by-test (leb (number_of frame) (number_of g))
          (λ t.
          not-both
          (above j (omega (arith, length-frames log)) h (reaches (client_of frame) (number_of frame))
          (ap (reaches (client_of frame) (number_of frame)) same
          ∙ and_both (eqb (client_of g) (client_of frame)) _
          (eq-eqb (client_of g) (client_of frame) client) t))
          none)
          (λ t. leb-false (number_of frame) (number_of g) t)

  lower : (f : List ℕ) → IsClient (client_of f) → Rises log i f → (j : ℕ)
      → j < length (take i frames)
      → reaches (client_of f) (number_of f) (get_or (take i frames) j []) ≡ true → ⊥
  unfolding reaches
  lower f is rises j l e =
      let low : j < i = omega (arith, length-take i frames) in
      let g = get_or frames j [] in
      let t : reaches (client_of f) (number_of f) g ≡ true =
      ap (reaches (client_of f) (number_of f)) (sym (get_or-take i frames j [] low)) ∙ e in
      let client = eqb-true (client_of g) (client_of f)
      (and_left (eqb (client_of g) (client_of f)) _ t) in
      let reached = leb-true (number_of f) (number_of g)
      (and_right (eqb (client_of g) (client_of f)) _ t) in
      let above : number_of g < number_of f =
      rises j g low (frame-line log j (client-some g (omega (arith, client, is.0)))) client in
      omega arith

  none : (f : List ℕ) → IsClient (client_of f) → Rises log i f → reached f ≡ false
  none f is rises =
      by-test (reached f)
      (λ t.
      let a = some_at (reaches (client_of f) (number_of f)) (take i frames) [] t in
      absurd (lower f is rises a.0 a.1 a.2))
      (λ t. t)

  cases : (f : List ℕ) → LogFrame f → (1 ≤ number_of f → Rises log i f)
      → malformed (take i frames) f ≡ false
  unfolding malformed
  cases f is rises =
      rw (is-frame f is)
      (by-test (leb 1 (number_of f))
      (λ t. rw (t, none f is.client (rises (leb-true 1 (number_of f) t))))
      (λ t. rw t))

  -- well-formed: not malformed
  pub not-malformed : WellFormed log i → malformed_at frames i ≡ false
  not-malformed w =
      subst (λ (f : List ℕ). malformed (take i frames) f ≡ false)
      (sym (frame-holds log i w.0 w.1)) (cases w.0 w.2 w.3)
