-- Messages that stay in flight still fit after a delivery, and what is found under a good stamp is
-- the ledger's.
use mathlib.Core.Bool.{true, false}
use mathlib.Core.List.{List, ◌++◌}
use mathlib.Core.Logic.{⊎_elim}
use mathlib.Core.Path.{◌≡◌, sym, ap, ◌∙◌}
use Prim.Native.Nat.{ℕ, ◌≤◌, ◌<◌}
use native.Mathlib.Omega.{arith}
use lib.Dec.{eqb}
use borrow.Author.Tests.{eqb-true}
use Rattle.basics.proofs.Cases.{by-test, or_cases}
use Rattle.basics.specs.Lists.{In, without}
use Rattle.basics.proofs.Lists.{in_without}
use Rattle.itemset.specs.Set.{has}
use Rattle.protocol.specs.declared.Version.{Version}
use Rattle.protocol.specs.declared.Entry.{Entry}
use Rattle.protocol.specs.declared.Message.{Message}
use Rattle.protocol.specs.Tables.{Tables, Client, number_of, stamp_of, later_of, entry_of, put}
use Rattle.protocol.specs.Tables.{with_messages}
use Rattle.protocol.specs.Message.{owner_of}
use Rattle.protocol.specs.Range.{Capacities}
use Rattle.protocol.specs.Steps.{version, offered, delivered, joined, stored, found}
use Rattle.protocol.proofs.Each.{Each}
use Rattle.protocol.proofs.Put.{put-every}
use Rattle.protocol.proofs.Stored.{found-held, not_found}
use Rattle.protocol.proofs.Ranges.Values.{IsClient}
use Rattle.condition3.proofs.Sound.{Ledger, Good, GoodEntry, Writes, Fits, SoundBy}
use Rattle.condition3.proofs.Sound.Carry.{carries-self, later-good, Any, all-covered}
use Rattle.condition3.proofs.Sound.Carry.{fits-carried}
use Rattle.condition3.proofs.Common.{has_item, Like, like-self}

abbrev pub after_delivery : Tables → ℕ → Message → Tables
after_delivery t i m = with_messages (delivered t m) (without i t.messages ++ joined t m)

-- a write under way has its client's count as its number
pub write-number : (L : Ledger) (vs : List Version) (d : ℕ) (c : Client) → d < 16 → Writes L vs d c
    → number_of c.write.stamp ≤ c.count
write-number L vs d c l w = let e : c.write.stamp ≡ stamp_of c.count d = w.newest in
    rw e (omega arith)

-- a view with what a reply offers to it: all three that the entry is the latest of are good
pub grown-good : (caps : Capacities) (L : Ledger) (t : Tables) (sound : SoundBy caps L t) (d : ℕ)
    → IsClient t.sizes d → (v : Version) (latest : Entry)
    → GoodEntry L t.versions v.item (entry_of v) → GoodEntry L t.versions v.item latest
    → (j : ℕ) → j < t.sizes.items → GoodEntry L t.versions j
    (put (t.view d) v.item (offered (t.view d v.item) v latest) j)
grown-good caps L t sound d is-client v latest version late =
    let k = v.item in
    put-every (λ (j : ℕ) (x : Entry). j < t.sizes.items → GoodEntry L t.versions j x)
    (t.view d) k (offered (t.view d k) v latest)
    (λ l. later-good L t.versions k (later_of (t.view d k) latest) (entry_of v)
    (later-good L t.versions k (t.view d k) latest (sound.view d k is-client l)
    late) version) (λ j n l. sound.view d j is-client l)

module _ (caps : Capacities) (L : Ledger) (t : Tables) (sound : SoundBy caps L t) (i : ℕ) where
  abbrev z : ℕ
  z = t.sizes.clients

  pub small : (d : ℕ) → IsClient t.sizes d → d < 16
  small d c = omega (arith, sound.valid.in_range.sizes.clients)

  -- messages that stay fit, where nothing that they look at changes
  pub staying : (client' : ℕ → Client)
      → ((x : Message) → In x (without i t.messages) → has_item x ≡ true
      → Like (t.client (owner_of x)) (client' (owner_of x)))
      → Each (λ x. Fits L t.versions (client' (owner_of x)) x) (without i t.messages)
  staying client' like x p =
      fits-carried caps L t sound Any (all-covered t) L t.versions
      (λ s e. carries-self L t.versions s) x (in_without x i t.messages p)
      (client' (owner_of x))
      (like x p) (λ v e f. f)

  pub same-clients : (x : Message) → In x (without i t.messages) → has_item x ≡ true
      → Like (t.client (owner_of x)) (t.client (owner_of x))
  same-clients x p e = like-self (t.client (owner_of x))

  -- ---- Get

  -- nothing is stored under the initial stamp
  pub none-initial : (k : ℕ) → stored t.versions k 0 ≡ false
  none-initial k =
      by-test (stored t.versions k 0)
      (λ e. let held = found-held t.versions k 0 e in
      let r = (sound.valid.in_range.versions (found t.versions k 0) held.is_in).stamp in
      let zero : (found t.versions k 0).stamp ≡ 0 = held.stamp in
      absurd (omega (arith, r.number)))
      (λ e. e)

  -- what is found under a good stamp is the ledger's set and value
  initial-found : (k s : ℕ) → s ≡ 0 → found t.versions k s ≡ version k 0 s 0
  initial-found k s zero = not_found t.versions k s (rw zero (none-initial k))

  pub found-set : (k s : ℕ) → Good L t.versions k s → (found t.versions k s).set ≡ L.set s
  found-set k s x =
      ⊎_elim
      (λ e. let zero : s ≡ 0 = eqb-true s 0 e in
      ap (λ (v : Version). v.set) (initial-found k s zero) ∙ sym (ap L.set zero ∙ sound.no_set))
      (λ e. let held = found-held t.versions k s (x.whole k e) in
      (sound.versions (found t.versions k s) held.is_in).agrees ∙ ap L.set held.stamp)
      (or_cases (eqb s 0) (has (L.set s) k) x.mine)

  pub found-value : (k s : ℕ) → Good L t.versions k s
      → (found t.versions k s).value ≡ L.value s k
  found-value k s x =
      ⊎_elim
      (λ e. let zero : s ≡ 0 = eqb-true s 0 e in
      ap (λ (v : Version). v.value) (initial-found k s zero)
      ∙ sym (ap (λ (r : ℕ). L.value r k) zero ∙ sound.no_value k))
      (λ e. let held = found-held t.versions k s (x.whole k e) in
      let kept = sound.versions (found t.versions k s) held.is_in in
      let item : (found t.versions k s).item ≡ k = held.item in
      let stamp : (found t.versions k s).stamp ≡ s = held.stamp in
      kept.value ∙ ap (λ (r : ℕ). L.value r (found t.versions k s).item) stamp
      ∙ ap (L.value s) item)
      (or_cases (eqb s 0) (has (L.set s) k) x.mine)
