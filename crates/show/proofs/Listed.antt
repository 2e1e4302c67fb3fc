-- The bytes of a set's items, listed ascending: one item more, and storing them item by item. By
-- the bound of the items.
use mathlib.Core.Bool.{true, false}
use mathlib.Core.List.{List, [], ◌∷◌, ◌++◌, append_assoc, append-nil}
use mathlib.Core.Path.{◌≡◌, refl, sym, ap, ap₂, ◌∙◌}
use Prim.Native.Nat.{ℕ, zero, suc, ◌+◌, ◌*◌}
use lib.ListN.{length}
use lib.Seq.{sets}
use Rattle.basics.proofs.Cases.{by-test}
use Rattle.basics.specs.Fold.{up_to}
use Rattle.hexadecimal.proofs.Stores.{sets-join}
use Rattle.itemset.specs.Set.{has, rank, upto, members}
use Rattle.itemset.proofs.Members.{upto-suc, length-members-rank}
use Rattle.itemset.proofs.Pass.{pass}
use Rattle.protocol.specs.LogFrame.{listed}
use Rattle.protocol.proofs.Shown.{length-listed}
use Rattle.show.specs.Show.{put_item}

pub listed-append : (f : ℕ → List ℕ) (ks js : List ℕ)
    → listed f (ks ++ js) ≡ listed f ks ++ listed f js
unfolding listed
listed-append f [] js = refl
listed-append f (k ∷ ks) js =
    ap (λ (l : List ℕ). f k ++ l) (listed-append f ks js)
    ∙ sym (append_assoc (f k) (listed f ks) (listed f js))

listed-one : (f : ℕ → List ℕ) (k : ℕ) → listed f (k ∷ []) ≡ f k
unfolding listed
listed-one f k = append-nil (f k)

-- ---- one item more

module _ (f : ℕ → List ℕ) (s k : ℕ) where
  pub listed_has : has s k ≡ true → listed f (members (suc k) s) ≡ listed f (members k s) ++ f k
  listed_has e =
      rw (upto-suc k (has s), e)
      (listed-append f (members k s) (k ∷ [])
      ∙ ap (λ (l : List ℕ). listed f (members k s) ++ l) (listed-one f k))

  pub listed-hasnt : has s k ≡ false → listed f (members (suc k) s) ≡ listed f (members k s)
  listed-hasnt e = rw (upto-suc k (has s), e) (ap (listed f) (append-nil (members k s)))

-- only the members' bytes count
pub listed-ext : (f g : ℕ → List ℕ) (s n : ℕ) → ((k : ℕ) → has s k ≡ true → f k ≡ g k)
    → listed f (members n s) ≡ listed g (members n s)
unfolding upto listed
listed-ext f g s zero h = refl
listed-ext f g s (suc n) h =
    let below = listed-ext f g s n h in
    by-test (has s n)
    (λ e. listed_has f s n e ∙ ap₂ (λ (a b : List ℕ). a ++ b) below (h n e)
    ∙ sym (listed_has g s n e))
    (λ e. listed-hasnt f s n e ∙ below ∙ sym (listed-hasnt g s n e))

-- ---- storing them, n bytes an item

module _ (f : ℕ → List ℕ) (n : ℕ) (each : (k : ℕ) → length (f k) ≡ n) (first s : ℕ)
    (out : List ℕ) where
  -- item k behind those below it
  listed-item : (k : ℕ) → has s k ≡ true
      → sets (sets out first (listed f (members k s))) (first + n * rank s k) (f k)
      ≡ sets out first (listed f (members (suc k) s))
  listed-item k e =
      let below = listed f (members k s) in
      let long : length below ≡ n * rank s k =
      length-listed f n each (members k s) ∙ ap (λ (m : ℕ). n * m) (length-members-rank s k) in
      sets-join out first (first + n * rank s k) below (f k) (ap (λ (i : ℕ). first + i) (sym long))
      ∙ ap (sets out first) (sym (listed_has f s k e))

  listed-none : out ≡ sets out first (listed f (members 0 s))
  unfolding upto listed
  listed-none = refl

  put-listed : (m : ℕ)
      → up_to (put_item f first n s) out m ≡ sets out first (listed f (members m s))
  put-listed m =
      pass s m (λ k x. x ≡ sets out first (listed f (members k s))) _ out listed-none
      (λ k x l e h. rw h (listed-item k e))
      (λ k x e h. h ∙ ap (sets out first) (sym (listed-hasnt f s k e)))

-- the items right behind the bytes of `before`
pub listed-behind : (f : ℕ → List ℕ) (n : ℕ) → ((k : ℕ) → length (f k) ≡ n)
    → (s place first m : ℕ) (before out stored last : List ℕ) → first ≡ place + length before
    → stored ≡ sets out place before → last ≡ up_to (put_item f first n s) stored m
    → last ≡ sets out place (before ++ listed f (members m s))
listed-behind f n each s place first m before out stored last e p q =
    q
    ∙ put-listed f n each first s stored m
    ∙ ap (λ (l : List ℕ). sets l first (listed f (members m s))) p
    ∙ sets-join out place first before (listed f (members m s)) e
