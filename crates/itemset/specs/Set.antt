-- Sets of items as numbers, for any number of items: item k is the binary digit worth 2 ^ k
-- (document 01: sets of lines). The digits are taken lowest first, by `% 2` and `/ 2`.
use Rattle.std.specs.Prelude.{Bool, cond, List, [], ◌∷◌, ◌++◌, ℕ, zero, suc, ◌+◌, ◌-◌, ◌/◌, ◌%◌, ◌^◌, eqb, ltb}
use Rattle.std.specs.Int.Count.{ones, ones_in}

-- item k is a member of s
unfoldable pub has : ℕ → ℕ → Bool
has s zero = eqb (s % 2) 1
has s (suc k) = has (s / 2) k

-- how many members s has
abbrev pub count : ℕ → ℕ
count s = ones s

-- how many members of s are below item k
abbrev pub rank : ℕ → ℕ → ℕ
rank s k = ones_in k s

-- s with item k, and s without it
unfoldable pub insert : ℕ → ℕ → ℕ
insert s k = cond (has s k) s (s + 2 ^ k)

unfoldable pub remove : ℕ → ℕ → ℕ
remove s k = cond (has s k) (s - 2 ^ k) s

-- s with item k, where k is one of the 64 items that a 64-bit set can have
abbrev pub insert64 : ℕ → ℕ → ℕ
insert64 s k = cond (ltb k 64) (insert s k) s

-- every member of s is below n
abbrev pub all_below : ℕ → ℕ → Bool
all_below s n = ltb s (2 ^ n)

-- the least member of s at or above k and below k + d; k + d where there is none
unfoldable pub least_from : ℕ → ℕ → ℕ → ℕ
least_from zero s k = k
least_from (suc d) s k =
    let rest = least_from d s (suc k) in
    cond (has s k) k rest

-- the numbers below n that pass the test, ascending
abbrev pub only : Bool → ℕ → List ℕ
only b k = cond b (k ∷ []) []

unfoldable pub upto : ℕ → (ℕ → Bool) → List ℕ
upto zero p = []
upto (suc n) p = upto n p ++ only (p n) n

-- the set of the numbers below n that pass the test
unfoldable pub set_of : ℕ → (ℕ → Bool) → ℕ
set_of zero p = 0
set_of (suc n) p = let rest = set_of n p in cond (p n) (insert rest n) rest

-- the members of s below n, ascending
abbrev pub members : ℕ → ℕ → List ℕ
members n s = upto n (has s)
