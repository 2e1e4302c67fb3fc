-- The tests of the first replies that a client keeps: which have come goes by its mode.
use mathlib.Core.Bool.{Bool, true, false, not, ◌&&◌, ◌||◌}
use mathlib.Core.List.{List}
use mathlib.Core.Logic.{◌≢◌}
use mathlib.Core.Path.{◌≡◌, refl, sym, ap, ◌∙◌}
use Prim.Native.Nat.{ℕ, ◌+◌, ◌-◌, ◌*◌, ◌<◌}
use native.Mathlib.Nat.{add_assoc}
use native.Mathlib.Omega.{arith}
use lib.ListN.{get_or}
use Rattle.basics.proofs.Cases.{by-test}
use Rattle.basics.specs.Lists.{every}
use Rattle.basics.proofs.Lists.{every-at, at_every}
use Rattle.itemset.specs.Set.{has}
use Rattle.itemset.proofs.Laws.{has-empty}
use Rattle.protocol.specs.declared.Entry.{Entry}
use Rattle.protocol.specs.Range.{has_first, entry_in_range}
use Rattle.layout.specs.Layout.{entry_words, most_items, at, base, firsts, scalars, mode_at, set_at}
use Rattle.layout.specs.Layout.{awaited_at, stage_of}
use Rattle.layout.specs.Decode.{read_of, first_in}
use Rattle.layout.proofs.FirstWords.{no-fast, come-first, come-second, come-none, reply-come}
use Rattle.gather.specs.Sized.{sized}
use Rattle.gather.proofs.Tested.{every-same}
use Rattle.range_client.specs.Entries.{entry_from}
use Rattle.range_client.specs.Clients.{firsts_test}

-- an entry by its words
pub entry-tested : (b : List ℕ) (start k clients items : ℕ) {σ s : ℕ} {ok : Bool}
    → ok ≡ entry_in_range (sized clients items) (record { stamp = σ; set = s })
    → σ ≡ (entry_from b start k).stamp → s ≡ (entry_from b start k).set
    → ok ≡ entry_in_range (sized clients items) (entry_from b start k)
entry-tested b start k clients items p q r = rw (p, q, r) refl

-- ---- Which have come

-- an item that isn't of the set, or is still awaited, isn't tested
outside : (s a p : Bool) → (not s || a || p) ≡ (not (s && not a) || p)
outside true true p = refl
outside true false p = refl
outside false a p = refl

but-none : (s p : Bool) → (not s || false || p) ≡ (not s || p)
but-none true p = refl
but-none false p = refl

passes : (s a p : Bool) → p ≡ true → (not s || a || p) ≡ true
passes true true p e = refl
passes true false p e = e
passes false a p e = refl

awaited : (a p : Bool) → (not a || a || p) ≡ true
awaited true p = refl
awaited false p = refl

module _ (b : List ℕ) (d clients items : ℕ) where
  abbrev mode : ℕ
  mode = at b scalars (mode_at d)

  abbrev test : ℕ → Bool
  test k = entry_in_range (sized clients items) (first_in b d k)

  -- of the items of a set but some
  abbrev but_test : ℕ → ℕ → Bool
  but_test s but = every items (λ k. not (has s k) || has but k || test k)

  none-come : stage_of mode ≡ 0 → firsts_test b d clients items ≡ true
  unfolding firsts_test
  none-come e = at_every items _ (λ k l. rw (come-none b d k e) refl)

  pub firsts-none : mode < 3 → true ≡ firsts_test b d clients items
  firsts-none l = sym (none-come (no-fast mode (omega arith) (omega arith)))

  pub firsts-past : mode ≢ 3 → mode ≢ 4 → true ≡ firsts_test b d clients items
  firsts-past n m = sym (none-come (no-fast mode n m))

  -- without items there are none
  pub firsts-empty : at b scalars (set_at d) ≡ 0 → true ≡ firsts_test b d clients items
  unfolding firsts_test has_first
  firsts-empty e = sym (at_every items _ (λ k l. rw (e, has-empty k) refl))

  -- in the first part, those no longer awaited
  pub firsts-first : {s a : ℕ} {ok : Bool} → mode ≡ 3 → ok ≡ but_test s a
      → s ≡ at b scalars (set_at d) → a ≡ at b scalars (awaited_at d)
      → ok ≡ firsts_test b d clients items
  unfolding firsts_test
  firsts-first e p q r =
      p ∙ rw (q, r) (every-same items _ _ (λ k l. rw (come-first b d k e)
      (outside (has (at b scalars (set_at d)) k) (has (at b scalars (awaited_at d)) k) (test k))))

  -- in the second, all
  pub firsts-second : {s : ℕ} {ok : Bool} → mode ≡ 4 → ok ≡ but_test s 0
      → s ≡ at b scalars (set_at d) → ok ≡ firsts_test b d clients items
  unfolding firsts_test
  firsts-second e p q =
      p ∙ rw q (every-same items _ _ (λ k l. rw (come-second b d k e, has-empty k)
      (but-none (has (at b scalars (set_at d)) k) (test k))))

  -- ---- The entries

  abbrev start : ℕ
  start = base firsts + entry_words * most_items * (d - 1)

  entry_first : (k : ℕ) → entry_from b start k ≡ first_in b d k
  entry_first k = λ i. record {
    stamp = get_or b (add_assoc (base firsts) (entry_words * most_items * (d - 1))
        (entry_words * k + 0) i) 0;
    set = get_or b (add_assoc (base firsts) (entry_words * most_items * (d - 1))
        (entry_words * k + 1) i) 0;
  }

  test-first : (k : ℕ) → entry_in_range (sized clients items) (entry_from b start k) ≡ test k
  test-first k = ap (entry_in_range (sized clients items)) (entry_first k)

  -- while all are awaited none has come
  pub come-nothing : (s but : ℕ) → s ≡ but → true ≡ but_test s but
  come-nothing s but e = sym (at_every items _ (λ k l. rw e (awaited (has but k) (test k))))

  -- where all pass, those that have come do
  pub come-all : (s but : ℕ) {ok : Bool}
      → ok ≡ every items (λ k. entry_in_range (sized clients items) (entry_from b start k))
      → ok ≡ true → true ≡ but_test s but
  come-all s but h e = sym (at_every items _ (λ k l.
      passes (has s k) (has but k) (test k)
      (sym (test-first k) ∙ every-at items _ (sym h ∙ e) k l)))

  pub come-some : (s but : ℕ) {ok : Bool}
      → ok ≡ every items (λ k. not (has s k) || has but k
      || entry_in_range (sized clients items) (entry_from b start k))
      → ok ≡ but_test s but
  come-some s but h = h ∙ every-same items _ _ (λ k l. rw (test-first k) refl)

  -- ---- As the protocol tests them

  -- of those that haven't come the decoder keeps nothing
  pub come-tests : (s a n : ℕ) (stamps vs : ℕ → ℕ) (replies : ℕ → Entry)
      → (let p = read_of s a n stamps vs replies in
      every items (λ k. not (has_first p k) || entry_in_range (sized clients items) (replies k))
      ≡ every items (λ k. not (has_first p k) || entry_in_range (sized clients items) (p.firsts k)))
  come-tests s a n stamps vs replies = every-same items _ _ (λ k l.
      by-test (has_first (read_of s a n stamps vs replies) k)
      (λ e. rw (e, reply-come s a n stamps vs replies k e) refl) (λ e. rw e refl))
