-- The write set of a stamp by the place of its first holder: entries that are initial hold nothing,
-- and may stand between the others.
use mathlib.Core.Bool.{Bool, true, false, cond, ◌&&◌}
use mathlib.Core.List.{List, [], ◌∷◌, ◌++◌, map}
use mathlib.Core.Logic.{◌≢◌}
use mathlib.Core.Path.{◌≡◌, refl, sym, ap, ap₂, ◌∙◌}
use Prim.Native.Nat.{ℕ, zero, suc, ◌+◌, ◌*◌, ◌/◌, ◌%◌, ◌≤◌}
use lib.Dec.{eqb, ltb}
use lib.ListN.{get_or, get_or-eq_default}
use native.Mathlib.Omega.{arith}
use borrow.Author.Tests.{eqb-true, ne_eqb, eqb-false, ltb-true, ltb-false}
use Rattle.basics.proofs.Cases.{by-test, and_left, and_right}
use Rattle.basics.specs.Lists.{all, table, dropped}
use Rattle.basics.proofs.Lists.{map-append, length-table, table_at}
use Rattle.protocol.specs.declared.Entry.{Entry}
use Rattle.protocol.specs.Tables.{Client, initial, shows_write}
use Rattle.protocol.specs.Range.{is_writing}
use Rattle.protocol.specs.Check.{written_by, client_sets, clients_sets, first_set}
use Rattle.index.specs.Index.{place}
use Rattle.index.proofs.Places.{place-le}
use Rattle.check_stamps.specs.Stamps.{under_way, side_of}

-- ---- initial entries

abbrev pub is_initial : Entry → Bool
is_initial e = eqb e.stamp 0 && eqb e.set 0

abbrev pub some : List Entry → List Entry
some es = dropped is_initial es

pub is-initial : (e : Entry) → is_initial e ≡ true → e ≡ initial
is-initial e t =
    ap₂ (λ (x y : ℕ). record { stamp = x; set = y })
    (eqb-true e.stamp 0 (and_left (eqb e.stamp 0) (eqb e.set 0) t))
    (eqb-true e.set 0 (and_right (eqb e.stamp 0) (eqb e.set 0) t))

pub some-append : (xs ys : List Entry) → some (xs ++ ys) ≡ some xs ++ some ys
unfolding dropped
some-append [] ys = refl
some-append (x ∷ xs) ys =
    by-test (is_initial x) (λ e. rw (e, some-append xs ys) refl)
    (λ e. rw (e, some-append xs ys) refl)

pub first_some : (es : List Entry) (s : ℕ) → s ≢ 0 → first_set (some es) s ≡ first_set es s
unfolding dropped first_set
first_some [] s n = refl
first_some (e ∷ es) s n =
    by-test (is_initial e)
    (λ t. rw (
      t,
      ne_eqb e.stamp s (λ same. n (sym same ∙ eqb-true e.stamp 0
          (and_left (eqb e.stamp 0) (eqb e.set 0) t))),
    ) (first_some es s n))
    (λ t. rw (t, first_some es s n) refl)

pub all-some : (q : Entry → Bool) (es : List Entry) → q initial ≡ true → all q (some es) ≡ all q es
unfolding dropped all
all-some q [] i = refl
all-some q (e ∷ es) i =
    by-test (is_initial e)
    (λ t. rw (t, ap q (is-initial e t) ∙ i) (all-some q es i))
    (λ t. rw (t, all-some q es i) refl)

-- ---- tables of entries

pub some-past : (f : ℕ → Entry) (n m : ℕ) → n ≤ m → ((i : ℕ) → n ≤ i → f i ≡ initial)
    → some (table m f) ≡ some (table n f)
unfolding table dropped
some-past f n zero l none = let e : n ≡ 0 = omega arith in rw e refl
some-past f n (suc m) l none =
    by-test (eqb n (suc m)) (λ e. rw (eqb-true n (suc m) e) refl)
    (λ e. let low : n ≤ m = omega (arith, eqb-false n (suc m) e) in
    some-append (table m f) (f m ∷ []) ∙ rw (none m low, some-past f n m low none)
    (append-none (some (table n f))))
  where
    append-none : (xs : List Entry) → xs ++ [] ≡ xs
    append-none [] = refl
    append-none (x ∷ xs) = ap (λ (ys : List Entry). x ∷ ys) (append-none xs)

pub table-append : (f : ℕ → Entry) (n m : ℕ)
    → table (n + m) f ≡ table n f ++ table m (λ i. f (n + i))
unfolding table
table-append f n zero = let e : n + 0 ≡ n = omega arith in rw e (none (table n f))
  where
    none : (xs : List Entry) → xs ≡ xs ++ []
    none [] = refl
    none (x ∷ xs) = ap (λ (ys : List Entry). x ∷ ys) (none xs)
table-append f n (suc m) =
    let e : n + suc m ≡ suc (n + m) = omega arith in
    rw (e, table-append f n m) (assoc (table n f) (table m (λ i. f (n + i))) (f (n + m) ∷ []))
  where
    assoc : (xs ys zs : List Entry) → (xs ++ ys) ++ zs ≡ xs ++ (ys ++ zs)
    assoc [] ys zs = refl
    assoc (x ∷ xs) ys zs = ap (λ (us : List Entry). x ∷ us) (assoc xs ys zs)

pub map-table : {A B : Type 0} (g : A → B) (n : ℕ) (f : ℕ → A)
    → map g (table n f) ≡ table n (λ i. g (f i))
unfolding table
map-table g zero f = refl
map-table g (suc n) f =
    map-append g (table n f) (f n ∷ []) ∙ ap (λ xs. xs ++ g (f n) ∷ []) (map-table g n f)

-- ---- the first holder

first-place : (es : List Entry) (s : ℕ)
    → first_set es s ≡ (get_or es (place (map (λ e. e.stamp) es) s) initial).set
unfolding first_set place
first-place [] s = refl
first-place (e ∷ es) s =
    by-test (eqb e.stamp s) (λ t. rw t refl) (λ t. rw t (first-place es s))

-- of a table whose entry behind the last is initial too
pub held_place : (n : ℕ) (f : ℕ → Entry) (s : ℕ) → f n ≡ initial
    → (f (place (table n (λ p. (f p).stamp)) s)).set ≡ first_set (table n f) s
held_place n f s past =
    let stamps = table n (λ p. (f p).stamp) in
    let p = place stamps s in
    let top : p ≤ n = omega (
      arith,
      place-le stamps s,
      length-table n (λ p. (f p).stamp),
    ) in
    sym (first-place (table n f) s
    ∙ ap (λ (xs : List ℕ). (get_or (table n f) (place xs s) initial).set)
    (map-table (λ (e : Entry). e.stamp) n f)
    ∙ by-test (ltb p n)
    (λ t. ap (λ (e : Entry). e.set) (table_at n f p initial (ltb-true p n t)))
    (λ t.
    let last : p ≡ n = omega (arith, top, ltb-false p n t) in
    ap (λ (e : Entry). e.set) (get_or-eq_default (table n f) initial
    (omega (arith, length-table n f, ltb-false p n t)) ∙ sym past)
    ∙ ap (λ (q : ℕ). (f q).set) (sym last)))

-- ---- the clients' sets

module _ (client : ℕ → Client)
    (shown : (d : ℕ) → shows_write (client d).last.kind ≡ false
    → written_by (client d).last.write ≡ initial) where
  under-way : (c : Client)
      → some (cond (is_writing c) (written_by c.write ∷ []) []) ≡ some (under_way c ∷ [])
  unfolding under_way dropped
  under-way c = by-test (is_writing c) (λ e. rw e refl) (λ e. rw e refl)

  last-ended : (d : ℕ)
      → some (cond (shows_write (client d).last.kind) (written_by (client d).last.write ∷ []) [])
      ≡ some (written_by (client d).last.write ∷ [])
  unfolding dropped
  last-ended d =
      by-test (shows_write (client d).last.kind) (λ e. rw e refl)
      (λ e. rw e (sym (ap (λ (w : Entry). some (w ∷ [])) (shown d e))))

  even-side : (n : ℕ) → side_of client (2 * n) ≡ under_way (client (suc n))
  unfolding side_of
  even-side n =
      let half : 2 * n / 2 + 1 ≡ suc n = omega arith in
      let even : 2 * n % 2 ≡ 0 = omega arith in
      rw (even, half) refl

  odd-side : (n : ℕ) → side_of client (suc (2 * n)) ≡ written_by (client (suc n)).last.write
  unfolding side_of
  odd-side n =
      let half : suc (2 * n) / 2 + 1 ≡ suc n = omega arith in
      let odd : suc (2 * n) % 2 ≡ 1 = omega arith in
      rw (odd, half) refl

  pub some-sides : (n : ℕ) → some (clients_sets n client) ≡ some (table (2 * n) (side_of client))
  unfolding clients_sets client_sets table
  some-sides zero = refl
  some-sides (suc n) =
      let c = client (suc n) in
      let twice : 2 * suc n ≡ suc (suc (2 * n)) = omega arith in
      let early = table (2 * n) (side_of client) in
      some-append (clients_sets n client) (client_sets c)
      ∙ ap₂ (λ (xs ys : List Entry). xs ++ ys) (some-sides n)
      (some-append (cond (is_writing c) (written_by c.write ∷ []) [])
      (cond (shows_write c.last.kind) (written_by c.last.write ∷ []) [])
      ∙ ap₂ (λ (xs ys : List Entry). xs ++ ys) (under-way c) (last-ended (suc n)))
      ∙ sym (rw twice (some-append (early ++ side_of client (2 * n) ∷ [])
      (side_of client (suc (2 * n)) ∷ [])
      ∙ rw (some-append early (side_of client (2 * n) ∷ []), even-side n, odd-side n)
      (assoc (some early) (some (under_way c ∷ []))
      (some (written_by c.last.write ∷ [])))))
    where
      assoc : (xs ys zs : List Entry) → (xs ++ ys) ++ zs ≡ xs ++ (ys ++ zs)
      assoc [] ys zs = refl
      assoc (x ∷ xs) ys zs = ap (λ (us : List Entry). x ∷ us) (assoc xs ys zs)
