-- The bytes of several reads in a buffer: one more read, and what stands at its front.
use mathlib.Core.List.{List, [], ◌∷◌, ◌++◌, append_assoc, append-nil}
use mathlib.Core.Path.{◌≡◌, refl, sym, ap, ap₂, ◌∙◌}
use Prim.Native.Nat.{ℕ, ◌+◌, ◌≤◌}
use native.Mathlib.Nat.{le_refl}
use native.Mathlib.Omega.{arith}
use borrow.Rule.Slice.PartMut.{put_mid}
use lib.ListN.{length, take, drop, length-append}
use lib.Seq.{sets, sets-eq, take_at, drop-drop, length-take-le, length-sets}
use Rattle.log_format.proofs.Lines.{together}
use Rattle.judge_driver.specs.Input.{Kept, keep, keep_all}

-- a chunk in the place of the part of a buffer from `done` on that is as long
pub kept-part : (chunk buf : List ℕ) (done size : ℕ) → size ≡ length chunk
    → done + length chunk ≤ length buf → put_mid done size buf chunk ≡ sets buf done chunk
kept-part chunk buf done size e h =
    ap (λ (n : ℕ). put_mid done n buf chunk) e
    ∙ ap (λ (l : List ℕ). take done buf ++ (chunk ++ l)) (drop-drop (length chunk) done buf)
    ∙ sym (append_assoc (take done buf) chunk (drop (done + length chunk) buf))
    ∙ sym (sets-eq chunk buf done h)

keep_all-last : (k : Kept) (chunks : List (List ℕ)) (chunk : List ℕ)
    → keep_all k (chunks ++ chunk ∷ []) ≡ keep (keep_all k chunks) chunk
keep_all-last k [] chunk = refl
keep_all-last k (c ∷ cs) chunk = keep_all-last (keep k c) cs chunk

-- one more read
pub keep-next : (before after chunk : List ℕ) (done n : ℕ) (k : Kept) (chunks : List (List ℕ))
    → record { buffer = before; done = done } ≡ keep_all k chunks → n ≤ length chunk
    → after ≡ sets before done (take n chunk)
    → record { buffer = after; done = done + n } ≡ keep_all k (chunks ++ take n chunk ∷ [])
keep-next before after chunk done n k chunks e h a =
    ap₂ (λ (b : List ℕ) (m : ℕ). record { buffer = b; done = done + m }) a
    (sym (length-take-le n chunk h))
    ∙ ap (λ (x : Kept). keep x (take n chunk)) e
    ∙ sym (keep_all-last k chunks (take n chunk))

-- ---- the bytes kept are those of the reads, one after another

done-ge : (k : Kept) (chunks : List (List ℕ)) → k.done ≤ (keep_all k chunks).done
done-ge k [] = le_refl k.done
done-ge k (c ∷ cs) = omega (arith, done-ge (keep k c) cs)

pub keep_all-front : (k : Kept) (chunks : List (List ℕ))
    → (keep_all k chunks).done ≤ length k.buffer
    → take (keep_all k chunks).done (keep_all k chunks).buffer
    ≡ take k.done k.buffer ++ together chunks
keep_all-front k [] h = sym (append-nil (take k.done k.buffer))
keep_all-front k (c ∷ cs) h =
    let fits : k.done + length c ≤ length k.buffer = omega (arith, done-ge (keep k c) cs) in
    let long : length (take k.done k.buffer ++ c) ≡ k.done + length c =
    omega (
      arith,
      length-append (take k.done k.buffer) c,
      length-take-le k.done k.buffer (omega arith),
    ) in
    let front : take (k.done + length c) (sets k.buffer k.done c)
    ≡ take k.done k.buffer ++ c =
    ap (take (k.done + length c)) (sets-eq c k.buffer k.done fits)
    ∙ take_at (take k.done k.buffer ++ c) (drop (k.done + length c) k.buffer)
    (k.done + length c) long in
    keep_all-front (keep k c) cs (omega (arith, length-sets k.buffer k.done c))
    ∙ ap (λ (l : List ℕ). l ++ together cs) front
    ∙ append_assoc (take k.done k.buffer) c (together cs)
