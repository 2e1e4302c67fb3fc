-- The second part keeps the block's length, and every word past the length that a block needs.
use mathlib.Core.Bool.{false}
use mathlib.Core.List.{List}
use Prim.Native.Nat.{ℕ, ◌≤◌}
use native.Mathlib.Omega.{arith}
use lib.Dec.{eqb, lit<}
use Rattle.itemset.specs.Set.{has}
use Rattle.protocol.proofs.Put.{by_cond}
use Rattle.layout.specs.Layout.{scalars, asked, at, set_at}
use Rattle.layout.proofs.Past.{SamePast, past-trans, past-when, past-each, past-put}
use Rattle.start.specs.Start.{get_of}
use Rattle.start.proofs.Sent.{past-sends}
use Rattle.ends.proofs.Past.{past-read-ended}
use Rattle.second_part.specs.SecondPart.{shown, older_than, fetched, second_begun}

pub past-second : (d : ℕ) → 1 ≤ d → d ≤ 8 → (b : List ℕ) (items : ℕ) → items ≤ 64
    → SamePast b (second_begun b items d)
unfolding second_begun fetched
past-second d first last b items h =
    let s = at b scalars (set_at d) in
    let stale = older_than b d s (shown b d s items) items in
    let put = past-put d first last in
    past-trans
    (past-each _ b items
    (λ k x l. past-when x _ (has s k) (put x asked k (shown b d s items k) (omega arith))))
    (by_cond (SamePast _) (eqb stale 0) _ _
    (λ e. past-read-ended d first last _ items h)
    (λ e. past-trans (past-trans (put _ scalars 0 4 (lit< tt)) (put _ scalars 3 stale (lit< tt)))
    (past-sends _ stale items (λ x k. get_of false d k x))))
