-- What a clearing leaves: exactly the versions whose stamp is in use, in their order, and of a
-- stamp in use all that was stored.
use mathlib.Core.Bool.{true, false}
use mathlib.Core.List.{Sublistᴰ}
use mathlib.Core.Logic.{◌↔◌, ◌≢◌}
use mathlib.Core.Path.{◌≡◌, refl, ap, ◌∙◌}
use Prim.Native.Nat.{ℕ, suc, ◌+◌, ◌<◌}
use lib.ListN.{length}
use Rattle.basics.proofs.Cases.{by-test, not-both}
use Rattle.basics.specs.Lists.{In}
use Rattle.basics.proofs.Lists.{dropped-sublist, in-dropped, dropped-in, length-dropped}
use Rattle.protocol.specs.declared.Version.{Version}
use Rattle.protocol.specs.declared.Message.{Message}
use Rattle.protocol.specs.Tables.{Tables}
use Rattle.protocol.specs.Range.{has_first}
use Rattle.protocol.specs.Steps.{stored, found}
use Rattle.protocol.specs.Clear.{mentions, unused, goes, cleared, gone}
use Rattle.protocol.proofs.Tells.{tells}
use Rattle.protocol.proofs.Stored.{found-held, held-stored}
use Rattle.protocol.proofs.Ranges.Values.{IsClient}
use Rattle.protocol.proofs.Ranges.Tables.{is-client, each-client}

-- ---- the stamps in use

-- P holds of every stamp in a view, a latest, a message, a write under way or a first reply kept
pub record Covers (P : ℕ → Type 0) (t : Tables) : Type 0 where
  pub view : (d k : ℕ) → IsClient t.sizes d → k < t.sizes.items → P (t.view d k).stamp
  pub latest : (k : ℕ) → k < t.sizes.items → P (t.latest k).stamp
  pub message : (m : Message) → In m t.messages → (s : ℕ) → mentions s m ≡ true → P s
  pub write : (d : ℕ) → IsClient t.sizes d → (t.client d).write.set ≢ 0
      → P (t.client d).write.stamp
  pub first : (d k : ℕ) → IsClient t.sizes d → k < t.sizes.items
      → has_first (t.client d).read k ≡ true → P ((t.client d).read.firsts k).stamp

pub tells-unused : (t : Tables) (s : ℕ) → (unused t s ≡ true) ↔ Covers (λ r. r ≢ s) t
unfolding unused
tells-unused t s = (
  λ e.
      let z = t.sizes in
      let f = simp tells at e in
      record {
        view = λ d k i l. each-client z (λ c. (j : ℕ) → j < z.items → (t.view c j).stamp ≢ s)
            f.0.0.0.0 d i k l;
        latest = f.0.0.0.1;
        message = λ m i r mention same. not-both (rw same at mention) (f.0.0.1 m i);
        write = each-client z (λ d. (t.client d).write.set ≢ 0 → (t.client d).write.stamp ≢ s)
            f.0.1;
        first = λ d k i l. each-client z (λ c. (j : ℕ) → j < z.items
            → has_first (t.client c).read j ≡ true → ((t.client c).read.firsts j).stamp ≢ s)
            f.1 d i k l;
      },
  λ c.
      let z = t.sizes in
      simp tells (
        (
          (
            (λ i l k h. c.view (suc i) k (is-client z i l) h, c.latest),
            λ m i. by-test (mentions s m) (λ e. absurd (c.message m i s e refl)) (λ e. e),
          ),
          λ i l. c.write (suc i) (is-client z i l),
        ),
        λ i l k h. c.first (suc i) k (is-client z i l) h,
      ),
)

-- no such stamp is unused
pub used-covered : (t : Tables) → Covers (λ s. unused t s ≡ false) t
used-covered t =
    record {
      view = λ d k i l. used (t.view d k).stamp (λ c. c.view d k i l refl);
      latest = λ k l. used (t.latest k).stamp (λ c. c.latest k l refl);
      message = λ m i s e. used s (λ c. c.message m i s e refl);
      write = λ d i w. used (t.client d).write.stamp (λ c. c.write d i w refl);
      first = λ d k i l h. used ((t.client d).read.firsts k).stamp
          (λ c. c.first d k i l h refl);
    }
  where
    used : (s : ℕ) → (Covers (λ r. r ≢ s) t → ⊥) → unused t s ≡ false
    used s h = by-test (unused t s) (λ e. absurd (h ((tells-unused t s).0 e))) (λ e. e)

-- ---- what is left

module _ (t : Tables) where
  -- 'keeps the others in their order'
  pub cleared-sublist : Sublistᴰ (cleared t).versions t.versions
  cleared-sublist = dropped-sublist (goes t) t.versions

  -- 'drops exactly those'
  pub cleared-exactly : (v : Version) → In v t.versions
      → In v (cleared t).versions ↔ (unused t v.stamp ≡ false)
  cleared-exactly v i =
      (dropped-in (goes t) t.versions v, in-dropped (goes t) t.versions v i)

  -- 'returns how many went'
  pub length-cleared : length (cleared t).versions + gone t ≡ length t.versions
  length-cleared = length-dropped (goes t) t.versions

  -- of a stamp in use all stays
  pub stored-cleared : (s : ℕ) → unused t s ≡ false → (k : ℕ) → stored t.versions k s ≡ true
      → stored (cleared t).versions k s ≡ true
  stored-cleared s used k e =
      let h = found-held t.versions k s e in
      let v = found t.versions k s in
      held-stored (cleared t).versions k s v (record {
        is_in = in-dropped (goes t) t.versions v h.is_in (ap (unused t) h.stamp ∙ used);
        item = h.item;
        stamp = h.stamp;
      })
