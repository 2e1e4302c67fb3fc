-- A chain that tests each number of a range is `every`.
use Rattle.std.proofs.Common.{◌≡◌, ℕ, zero, suc, ◌+◌, Bool, ◌&&◌, refl, sym, ap, ap₂, ◌∙◌, arith}
use Rattle.std.specs.List.{list_all, range_with_len}
use Rattle.basics.specs.Lists.{every}
use Rattle.gather.proofs.Tested.{every_first, every-same}

all-from : (p : ℕ → Bool) (a n : ℕ) → list_all p (range_with_len a n) ≡ every n (λ k. p (a + k))
unfolding every
all-from p a zero = refl
all-from p a (suc n) =
    ap₂ ◌&&◌ (ap p (omega arith))
    (all-from p (a + 1) n
    ∙ every-same n (λ k. p (a + 1 + k)) (λ k. p (a + suc k)) (λ k l. ap p (omega arith)))
    ∙ sym (every_first n (λ k. p (a + k)))

pub all-range : (p : ℕ → Bool) (n : ℕ) → list_all p (range_with_len 0 n) ≡ every n p
all-range p n = all-from p 0 n ∙ every-same n (λ k. p (0 + k)) p (λ k l. ap p (omega arith))
