-- What `some_machine` and `every_machine` say.
use Prim.Native.Nat.{ℕ, zero, suc, ◌≤◌}
use native.Mathlib.Omega.{arith}
use mathlib.Core.Path.{sym, subst}
use mathlib.Core.Logic.{⊎_elim}
use mathlib.Core.Bool.{Bool, not}
use lib.Dec.{T, T_not, eqb, eqb→eq}
use native.Mathlib.Nat.{le_trans, not-suc-le-zero}
use Rattle.model.specs.Cxl0.{Machine, some_machine, every_machine}
use Rattle.model.proofs.Tests.{and_l, and_r, and_i, or_l, or_r, or_cases, by_test, ne_test}

-- A machine that passes the test makes some machine pass it.
pub some_i : (n : ℕ) (test : Machine → Bool) (i : Machine) → 1 ≤ i → i ≤ n → T (test i) → T (some_machine n test)
unfolding some_machine
some_i zero test i l h t = absurd (not-suc-le-zero (le_trans l h))
some_i (suc n) test i l h t =
    by_test (eqb i (suc n))
    (λ e. or_l (test (suc n)) (some_machine n test) (subst (λ (j : Machine). T (test j)) (eqb→eq i (suc n) e) t))
    (λ e. or_r (test (suc n)) (some_machine n test) (some_i n test i l (omega (arith, ne_test i (suc n) e)) t))

-- Some machine passes the test: one of machines 1 to n.
pub some_e : (n : ℕ) (test : Machine → Bool) → T (some_machine n test)
    → (i : Machine) × (1 ≤ i) × (i ≤ n) × T (test i)
unfolding some_machine
some_e zero test t = absurd t
some_e (suc n) test t =
    ⊎_elim
    (λ u. (suc n, omega arith, omega arith, u))
    (λ u. let m = some_e n test u in (m.0, m.1, omega (arith, m.2), m.3))
    (or_cases (test (suc n)) (some_machine n test) t)

-- No machine passes the test.
pub none_e : (n : ℕ) (test : Machine → Bool) → T (not (some_machine n test))
    → (i : Machine) → 1 ≤ i → i ≤ n → T (not (test i))
none_e n test t i l h =
    by_test (test i) (λ u. absurd (T_not (some_machine n test) t (some_i n test i l h u))) (λ u. u)

pub none_i : (n : ℕ) (test : Machine → Bool) → ((i : Machine) → 1 ≤ i → i ≤ n → T (not (test i)))
    → T (not (some_machine n test))
none_i n test f =
    by_test (some_machine n test)
    (λ u. let m = some_e n test u in absurd (T_not (test m.0) (f m.0 m.1 m.2) m.3))
    (λ u. u)

-- Every machine passes the test.
pub every_e : (n : ℕ) (test : Machine → Bool) → T (every_machine n test) → (i : Machine) → 1 ≤ i → i ≤ n → T (test i)
unfolding every_machine
every_e zero test t i l h = absurd (not-suc-le-zero (le_trans l h))
every_e (suc n) test t i l h =
    by_test (eqb i (suc n))
    (λ e. subst (λ (j : Machine). T (test j)) (sym (eqb→eq i (suc n) e))
    (and_l (test (suc n)) (every_machine n test) t))
    (λ e. every_e n test (and_r (test (suc n)) (every_machine n test) t) i l (omega (arith, ne_test i (suc n) e)))

pub every_i : (n : ℕ) (test : Machine → Bool) → ((i : Machine) → 1 ≤ i → i ≤ n → T (test i)) → T (every_machine n test)
unfolding every_machine
every_i zero test f = tt
every_i (suc n) test f =
    and_i (test (suc n)) (every_machine n test)
    (f (suc n) (omega arith) (omega arith))
    (every_i n test (λ i l h. f i l (omega arith)))
