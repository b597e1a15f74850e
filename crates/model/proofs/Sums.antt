-- How sums over the numbers below n change with their terms.
use Prim.Native.Nat.{ℕ, zero, suc, ◌+◌, ◌≤◌, ◌<◌}
use native.Mathlib.Nat.{eq-or-lt_of_le, le_of_suc-le-suc, not-suc-le-zero}
use native.Mathlib.Omega.{arith}
use mathlib.Core.Path.{◌≡◌, refl, subst}
use mathlib.Core.Logic.{◌≢◌, ⊎_elim}
use lib.Dec.{eqb, eqb→eq}
use Rattle.model.specs.Sums.{sum}
use Rattle.model.proofs.Tests.{by_test, ne_test}

-- A sum of zeros is 0.
pub sum_zero : (n : ℕ) (f : ℕ → ℕ) → ((j : ℕ) → f j ≡ 0) → sum n f ≡ 0
unfolding sum
sum_zero zero f z = refl
sum_zero (suc n) f z = omega (arith, z n, sum_zero n f z)

-- A sum of ones and zeros is at most as great as it is long.
pub sum_ones : (n : ℕ) (f : ℕ → ℕ) → ((j : ℕ) → j < n → f j ≤ 1) → sum n f ≤ n
unfolding sum
sum_ones zero f few = omega arith
sum_ones (suc n) f few = omega (arith, few n (omega arith), sum_ones n f (λ j h. few j (omega arith)))

-- A sum that is nowhere greater is not greater.
pub sum_le : (n : ℕ) (f g : ℕ → ℕ) → ((j : ℕ) → j < n → f j ≤ g j) → sum n f ≤ sum n g
unfolding sum
sum_le zero f g le = omega arith
sum_le (suc n) f g le = omega (arith, le n (omega arith), sum_le n f g (λ j h. le j (omega arith)))

-- A sum changes by what changes at i, if it is nowhere else greater.
pub sum_at : (n i : ℕ) (f g : ℕ → ℕ) (a b : ℕ) → i < n → ((j : ℕ) → j ≢ i → f j ≤ g j) → f i + a ≤ g i + b
    → sum n f + a ≤ sum n g + b
unfolding sum
sum_at zero i f g a b h le at = absurd (not-suc-le-zero h)
sum_at (suc n) i f g a b h le at =
    by_test (eqb i n)
    (λ t.
    let last : f n + a ≤ g n + b = subst (λ (j : ℕ). f j + a ≤ g j + b) (eqb→eq i n t) at in
    omega (arith, sum_le n f g (λ j k. le j (omega (arith, eqb→eq i n t)))))
    (λ t.
    let below : i < n = omega (arith, ne_test i n t) in
    omega (arith, sum_at n i f g a b below le at, le n (omega arith)))

-- Terms that are nowhere greater and have no smaller sum are the same.
pub sum_each : (n : ℕ) (f g : ℕ → ℕ) → ((j : ℕ) → j < n → f j ≤ g j) → sum n g ≤ sum n f
    → (j : ℕ) → j < n → f j ≡ g j
unfolding sum
sum_each zero f g le s j h = absurd (not-suc-le-zero h)
sum_each (suc n) f g le s j h =
    let below = sum_le n f g (λ i k. le i (omega arith)) in
    let last = le n (omega arith) in
    ⊎_elim
    (λ e. rw e (omega arith))
    (sum_each n f g (λ i k. le i (omega arith)) (omega arith) j)
    (eq-or-lt_of_le (le_of_suc-le-suc h))
