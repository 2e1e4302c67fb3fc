-- A start keeps the block's length, and every word past the length that a block needs.
use mathlib.Core.Bool.{Bool, true, false}
use mathlib.Core.List.{List}
use mathlib.Core.Path.{refl, sym, subst}
use Prim.Native.Nat.{ℕ, suc, ◌≤◌}
use native.Mathlib.Omega.{arith}
use lib.Dec.{lit<}
use Rattle.basics.specs.Fold.{up_to}
use Rattle.itemset.proofs.Pass.{pass-keeps}
use Rattle.protocol.specs.Tables.{Tables, stamp_of}
use Rattle.protocol.specs.Range.{capacities}
use Rattle.protocol.specs.Steps.{choice}
use Rattle.protocol.proofs.Refusals.{AcceptedStart, AcceptedWrite, AcceptedMixed}
use Rattle.layout.specs.Layout.{scalars, asked, values, reading, writing, in_first_part, mixing}
use Rattle.layout.specs.Decode.{view_in}
use Rattle.layout.specs.Encodes.{Encodes}
use Rattle.layout.proofs.Room.{HasRoom, room-valid}
use Rattle.layout.proofs.Past.{SamePast, past-none, past-trans, past-put}
use Rattle.start.specs.Start.{busy, ask_for, get_of, begun, read_started, fast_read_started}
use Rattle.start.specs.Start.{value_item, prepare_of, greatest_on, write_started, mixed_begun}
use Rattle.start.specs.Start.{mixed_started}
use Rattle.start.proofs.Sent.{past-sends}
use Rattle.start.proofs.Started.{read-started, fast-read-started, write-started}
use Rattle.start.proofs.Started.{mixed-started}

module _ (b : List ℕ) (t : Tables) (d s : ℕ) (n : Encodes b t)
    (a : AcceptedStart capacities t d s) where
  abbrev items : ℕ
  items = t.sizes.items

  room : HasRoom t
  room = room-valid t a.valid

  last : d ≤ 8
  last = omega (arith, a.client.1, room.clients)

  past-busy : (x : List ℕ) (mode : ℕ) → SamePast x (busy x d mode s)
  past-busy x mode =
      let put = past-put d a.client.0 last in
      past-trans (put x scalars 0 mode (lit< tt))
      (past-trans (put _ scalars 2 s (lit< tt)) (put _ scalars 3 s (lit< tt)))

  -- a read that has its stamps
  past-begun : (x : List ℕ) (mode : ℕ) (first : Bool) → SamePast x (begun x d s mode first items)
  unfolding begun
  past-begun x mode first =
      past-trans (past-busy x mode) (past-sends _ s items (λ y k. get_of first d k y))

  -- whatever the stamps are
  past-asked : (told : List ℕ → ℕ → ℕ)
      → SamePast b (up_to (λ x k. ask_for d s (told x k) x k) b items)
  past-asked told =
      let put = past-put d a.client.0 last in
      pass-keeps s items (SamePast b) _ b (past-none b)
      (λ k x l e h.
      past-trans h (past-trans (put x asked k _ (omega (arith, room.items)))
      (put _ values k 0 (omega (arith, room.items)))))

  -- the values of the items of w
  past-valued : (mixed : Bool) (x : List ℕ) (w : ℕ) (bytes : List ℕ)
      → SamePast x (up_to (value_item mixed d w bytes) x items)
  past-valued mixed x w bytes =
      let put = past-put d a.client.0 last in
      pass-keeps w items (SamePast x) _ x (past-none x)
      (λ k y l e h. past-trans h (put y values k _ (omega (arith, room.items))))

  pub beyond-read : SamePast b (read_started b d s)
  beyond-read =
      subst (SamePast b) (read-started b d s items (sym n.items) _ _ refl refl)
      (past-trans (past-asked (λ x k. choice (view_in x d) k items)) (past-begun _ reading false))

  pub beyond-fast-read : SamePast b (fast_read_started b d s)
  beyond-fast-read =
      subst (SamePast b) (fast-read-started b d s items (sym n.items) _ _ refl refl)
      (past-trans (past-asked (λ x k. 0)) (past-begun _ in_first_part true))

module _ (b : List ℕ) (t : Tables) (d s : ℕ) (bytes : List ℕ) (n : Encodes b t)
    (w : AcceptedWrite capacities t d s bytes) where
  pub beyond-write : SamePast b (write_started b d s bytes)
  beyond-write =
      let a = w.start in
      let z = t.sizes.items in
      let number = suc (greatest_on b d z) in
      let stamp = stamp_of number d in
      let put = past-put d a.client.0 (last b t d s n a) in
      subst (SamePast b)
      (write-started b d s z (sym n.items) bytes number _ _ _ _ _ refl refl refl refl refl refl)
      (past-trans (past-valued b t d s n a false b s bytes)
      (past-trans (past-busy b t d s n a _ writing)
      (past-trans (put _ scalars 1 number (lit< tt))
      (past-trans (put _ scalars 4 stamp (lit< tt))
      (past-sends _ s z (λ x k. prepare_of false d s stamp k x))))))

module _ (b : List ℕ) (t : Tables) (d r s : ℕ) (bytes : List ℕ) (n : Encodes b t)
    (w : AcceptedMixed capacities t d r s bytes) where
  pub beyond-mixed : SamePast b (mixed_started b d r s bytes)
  unfolding mixed_begun
  beyond-mixed =
      let a = w.read in
      let z = t.sizes.items in
      let number = suc (greatest_on b d z) in
      let stamp = stamp_of number d in
      let put = past-put d a.client.0 (last b t d r n a) in
      subst (SamePast b)
      (mixed-started b d r z s (sym n.items) bytes number _ _ _ _ refl refl refl refl refl)
      (past-trans (past-asked b t d r n a (λ x k. choice (view_in x d) k z))
      (past-trans (past-valued b t d r n a true _ s bytes)
      (past-trans (past-busy b t d r n a _ mixing)
      (past-trans (put _ scalars 8 s (lit< tt))
      (past-trans (put _ scalars 9 s (lit< tt))
      (past-trans (put _ scalars 1 number (lit< tt))
      (past-trans (put _ scalars 4 stamp (lit< tt))
      (past-trans (past-sends _ r z (λ x k. get_of false d k x))
      (past-sends _ s z (λ x k. prepare_of true d s stamp k x))))))))))
