-- Small laws of messages, clients and labels that the invariant's files share.
use mathlib.Core.Bool.{Bool, true, false, cond, not, ◌&&◌}
use mathlib.Core.List.{List, [], ◌∷◌, map}
use mathlib.Core.Logic.{◌≢◌, ⊎_elim}
use mathlib.Core.Path.{◌≡◌, refl, sym, ap, ◌∙◌, subst}
use Prim.Native.Nat.{ℕ, zero, suc, ◌+◌, ◌^◌, ◌≤◌, ◌<◌}
use native.Mathlib.Nat.{not-suc-le-zero}
use native.Mathlib.Omega.{arith}
use lib.Dec.{eqb, ltb, leb}
use borrow.Author.Tests.{eqb-true, eqb-false, ne_eqb, ltb-true, ltb-false, leb-false, le-leb}
use Rattle.basics.proofs.Cases.{by-test, and_left, and_right, not-true, or_cases}
use Rattle.basics.specs.Lists.{In, counted}
use Rattle.basics.proofs.Lists.{counted-append}
use Rattle.itemset.specs.Set.{has, remove, upto, only, members}
use Rattle.itemset.proofs.Laws.{has-empty, has_above}
use Rattle.protocol.specs.declared.Version.{Version}
use Rattle.protocol.specs.declared.Message.{Message}
use Rattle.protocol.specs.declared.Message.TheVariants.{Prepare, Get}
use Rattle.protocol.specs.Tables.{Tables, Client, Side, of_read, of_write, writer_of}
use Rattle.protocol.specs.Message.{kind_of, is_prepared, is_commit, is_got, is_first_reply, is_any_got}
use Rattle.protocol.specs.Message.{names_client, owner_of}
pub use Rattle.protocol.specs.Message.{of_side, is_for}
use Rattle.protocol.specs.Steps.{asks, gets, version, value_of, next_stamp, prepares, joined, is_last}
use Rattle.protocol.proofs.Each.{Each, each-upto}
use Rattle.protocol.proofs.Delivered.{joined-each}
use Rattle.condition3.specs.World.{Write, labelled}

-- ---- a message about item k of client d: any kind but a commit

abbrev pub has_item : Message → Bool
has_item m = not (is_commit m)

-- what holds of each side holds of both
pub by_side {ℓ} : (P : Side → Type ℓ) → P of_read → P of_write → (σ : Side) → P σ
by_side P r w of_read = r
by_side P r w of_write = w

-- a message about an item is of one of the sides
pub side-of : (m : Message) → has_item m ≡ true → (σ : Side) × (of_side σ m ≡ true)
side-of m e =
    by-test (leb (kind_of m) 2) (λ l. (of_write, l))
    (λ l. (
      of_read,
      le-leb 4 (kind_of m) (omega (
        arith,
        leb-false (kind_of m) 2 l,
        eqb-false (kind_of m) 3 (not-true (is_commit m) e),
      )),
    ))

-- c' has the same transaction as c, as far as a message looks at it
pub record Like (c c' : Client) : Type 0 where
  pub reads : c'.read.set ≡ c.read.set
  pub writes : c'.write.set ≡ c.write.set
  pub stamp : c'.write.stamp ≡ c.write.stamp
  pub asked : (k : ℕ) → c'.read.asked k ≡ c.read.asked k
  pub stage : c'.read.stage ≡ c.read.stage

pub like-self : (c : Client) → Like c c
like-self c = record {
  reads = refl;
  writes = refl;
  stamp = refl;
  asked = λ k. refl;
  stage = refl;
}

-- what side τ of c still awaits once item k of side σ is struck
abbrev pub left_of : Side → Client → ℕ → Side → ℕ
left_of of_read c k of_read = remove c.read.awaited k
left_of of_read c k of_write = c.write.awaited
left_of of_write c k of_read = c.read.awaited
left_of of_write c k of_write = remove c.write.awaited k

empty-set : (s j : ℕ) → eqb s 0 ≡ true → has s j ≡ false
empty-set s j e = subst (λ (x : ℕ). has x j ≡ false) (sym (eqb-true s 0 e)) (has-empty j)

-- once the last item is struck, none is awaited
pub struck-last : (σ : Side) (c : Client) (k : ℕ) → is_last σ c k ≡ true → (τ : Side) (j : ℕ)
    → has (left_of σ c k τ) j ≡ false
struck-last of_read c k e of_read j =
    empty-set (remove c.read.awaited k) j
    (and_left (eqb (remove c.read.awaited k) 0) (eqb c.write.awaited 0) e)
struck-last of_read c k e of_write j =
    empty-set c.write.awaited j
    (and_right (eqb (remove c.read.awaited k) 0) (eqb c.write.awaited 0) e)
struck-last of_write c k e of_read j =
    empty-set c.read.awaited j
    (and_left (eqb c.read.awaited 0) (eqb (remove c.write.awaited k) 0) e)
struck-last of_write c k e of_write j =
    empty-set (remove c.write.awaited k) j
    (and_right (eqb c.read.awaited 0) (eqb (remove c.write.awaited k) 0) e)

-- ---- what joins is of the client of what is taken out

-- where a write part that a got ends is of the got's client
pub joined-owner : (t : Tables) (m j : Message)
    → ((d : ℕ) → owner_of m ≡ d → (t.client d).write.set ≢ 0
    → writer_of (t.client d).write.stamp ≡ d)
    → In j (joined t m) → owner_of j ≡ owner_of m
joined-owner t m j own =
    joined-each (λ x. owner_of x ≡ owner_of m) t m (λ x r. r.owner)
    (λ p stamp some o. ⊎_elim (λ e. e)
    (λ e. ap writer_of e ∙ own (owner_of m) refl some) o)
    (λ f k stamp. refl) j

-- a got of either kind names its client
pub got-names : (m : Message) → is_any_got m ≡ true → names_client m ≡ true
got-names m e =
    ⊎_elim (λ f. rw (eqb-true (kind_of m) 5 f) refl) (λ f. rw (eqb-true (kind_of m) 7 f) refl)
    (or_cases (is_got m) (is_first_reply m) e)

-- and is no prepared reply
pub got-unprepared : (m : Message) → is_any_got m ≡ true → is_prepared m ≡ false
got-unprepared m e =
    ⊎_elim (λ f. rw (eqb-true (kind_of m) 5 f) refl) (λ f. rw (eqb-true (kind_of m) 7 f) refl)
    (or_cases (is_got m) (is_first_reply m) e)

-- ---- one message to an item

only-counted : (b : Bool) (n j : ℕ) → counted (λ k. eqb k j) (only b n) ≡ cond (b && eqb n j) 1 0
unfolding counted
only-counted true n j = by-test (eqb n j) (λ e. rw e refl) (λ e. rw e refl)
only-counted false n j = refl

upto-none : (n : ℕ) (p : ℕ → Bool) (j : ℕ) → n ≤ j → counted (λ k. eqb k j) (upto n p) ≡ 0
unfolding upto counted
upto-none zero p j h = refl
upto-none (suc n) p j h =
    counted-append (λ k. eqb k j) (upto n p) (only (p n) n)
    ∙ rw (upto-none n p j (omega arith), only-counted (p n) n j, ne_eqb n j (omega arith))
    (by-test (p n) (λ e. rw e refl) (λ e. rw e refl))

upto-once : (n : ℕ) (p : ℕ → Bool) (j : ℕ) → j < n
    → counted (λ k. eqb k j) (upto n p) ≡ cond (p j) 1 0
unfolding upto counted
upto-once zero p j h = absurd (not-suc-le-zero h)
upto-once (suc n) p j h =
    counted-append (λ k. eqb k j) (upto n p) (only (p n) n)
    ∙ rw (only-counted (p n) n j)
    (by-test (eqb n j)
    (λ e. let same : n ≡ j = eqb-true n j e in
    rw (e, upto-none n p j (omega arith))
    (subst (λ (i : ℕ). 0 + cond (p n && true) 1 0 ≡ cond (p i) 1 0) same
    (by-test (p n) (λ t. rw t refl) (λ t. rw t refl))))
    (λ e. let rest = upto-once n p j (omega (arith, eqb-false n j e)) in
    rw (e, rest) (by-test (p n) (λ t. rw t (omega arith)) (λ t. rw t (omega arith)))))

pub members-once : (n s j : ℕ) → s < 2 ^ n
    → counted (λ k. eqb k j) (members n s) ≡ cond (has s j) 1 0
members-once n s j below =
    by-test (ltb j n)
    (λ e. upto-once n (has s) j (ltb-true j n e))
    (λ e. upto-none n (has s) j (ltb-false j n e)
    ∙ rw (has_above s j n below (ltb-false j n e)) refl)

-- ---- labels, and the write of no items that stands for the initial versions

pub unlabelled : (client start since : ℕ) (js : List Message)
    → map (λ x. x.message) (map (labelled client start since) js) ≡ js
unlabelled client start since [] = refl
unlabelled client start since (j ∷ js) =
    ap (λ (r : List Message). j ∷ r) (unlabelled client start since js)

abbrev pub origin : Write
origin = record { start = 0; stamp = 0; set = 0; values = λ k. 0 }

abbrev pub known : List Write → List Write
known writes = origin ∷ writes

-- ---- the messages of a start are gets and prepares

pub gets_none : (q : Message → Bool) (t : Tables) (d s : ℕ)
    → ((k stamp : ℕ) → q (Get d k stamp) ≡ false) → Each (λ m. q m ≡ false) (gets t d s)
gets_none q t d s none =
    each-upto (λ m. q m ≡ false) (λ k. Get d k (asks t d k)) t.sizes.items (has s)
    (λ k l h. none k (asks t d k))

pub prepares-none : (q : Message → Bool) (t : Tables) (d s : ℕ) (bytes : List ℕ)
    → ((u : Version) → q (Prepare u) ≡ false) → Each (λ m. q m ≡ false) (prepares t d s bytes)
prepares-none q t d s bytes none =
    each-upto (λ m. q m ≡ false)
    (λ k. Prepare (version k (value_of s bytes k) (next_stamp t d) s)) t.sizes.items (has s)
    (λ k l h. none (version k (value_of s bytes k) (next_stamp t d) s))
