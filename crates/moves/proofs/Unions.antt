-- Which codes are in a mask under a test, in a power of two, and in a union of the masks of several machines.
use Prim.Native.Nat.{ℕ, zero, suc, ◌*◌, ◌%◌, ◌^◌, ◌≤◌, ◌<◌}
use native.Mathlib.Nat.{not-suc-le-zero, le_trans, one-mul, mod-eq_of_lt}
use native.Mathlib.Omega.{arith}
use mathlib.Core.Path.{◌≡◌, sym, subst}
use mathlib.Core.Logic.{inl, inr, ⊎_elim, ◌↔◌}
use mathlib.Core.Bool.{Bool, true, false, cond}
use lib.Dec.{T, eqb, eqb→eq}
use lib.Bits.{bit_or}
use lib.Pow.{pow-lt}
use Rattle.model.specs.Cxl0.{Machine}
use Rattle.model.proofs.Tests.{by_test, ne_test}
use Rattle.masks.specs.Sets.{In}
use Rattle.masks.proofs.Sets.{in_none, in_or, in_bound, in_single}

-- A mask under a test has its codes where the test is passed, and none elsewhere.
pub in_if : (b : Bool) (m t : ℕ) → In t (cond b m 0) ↔ (T b × In t m)
in_if true m t = (λ p. (tt, p), λ p. p.1)
in_if false m t = (λ p. absurd (in_none t p), λ p. absurd p.0)

-- 2 ^ c has the code c alone.
pub in_power : (c t : ℕ) → In t (2 ^ c) ↔ (t ≡ c)
in_power c t = (λ p. (single (in_bound (suc c) (2 ^ c) t within p)).0 (subst (In t) (sym cut) p), there)
  where
    within : 2 ^ c < 2 ^ suc c
    within = pow-lt (omega arith)

    cut : 1 * 2 ^ c % 2 ^ suc c ≡ 2 ^ c
    cut = rw (one-mul, mod-eq_of_lt within)

    single : t < suc c → In t (1 * 2 ^ c % 2 ^ suc c) ↔ (t ≡ c)
    single = in_single (suc c) c t

    there : t ≡ c → In t (2 ^ c)
    there e = subst (In t) cut ((single (omega arith)).1 e)

-- The union of the masks f 1 to f n.
unfoldable pub union : ℕ → (Machine → ℕ) → ℕ
union zero f = 0
union (suc n) f = bit_or (f (suc n)) (union n f)

-- A code of the union is in one of the masks.
pub union_e : (n : ℕ) (f : Machine → ℕ) (t : ℕ) → In t (union n f) → (i : Machine) × In t (f i)
unfolding union
union_e zero f t p = absurd (in_none t p)
union_e (suc n) f t p =
    ⊎_elim (λ q. (suc n, q)) (union_e n f t) ((in_or (f (suc n)) (union n f) t).0 p)

-- A code of one of the masks is in the union.
pub union_i : (n : ℕ) (f : Machine → ℕ) (t i : ℕ) → 1 ≤ i → i ≤ n → In t (f i) → In t (union n f)
unfolding union
union_i zero f t i l h p = absurd (not-suc-le-zero (le_trans l h))
union_i (suc n) f t i l h p =
    (in_or (f (suc n)) (union n f) t).1
    (by_test (eqb i (suc n))
    (λ e. inl (subst (λ (j : Machine). In t (f j)) (eqb→eq i (suc n) e) p))
    (λ e. inr (union_i n f t i l (omega (arith, ne_test i (suc n) e)) p)))
