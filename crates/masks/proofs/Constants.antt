-- The codes in a mask that is written out: every code below 64 is tried, by computation.
use Prim.Native.Nat.{ℕ, zero, suc, ◌/◌, ◌%◌, ◌^◌, ◌<◌}
use native.Mathlib.Nat.{not-suc-le-zero}
use native.Mathlib.Omega.{arith}
use mathlib.Core.Path.{◌≡◌, sym, subst}
use mathlib.Core.Bool.{Bool, true, false, cond, ◌&&◌}
use lib.Dec.{T, eqb, eqb→eq}
use Rattle.model.proofs.Tests.{by_test, ne_test, and_l, and_r}
use Rattle.masks.specs.Sets.{In, every_code, Exactly}

-- Every number below n passes the test.
unfoldable pub every : ℕ → (ℕ → Bool) → Bool
every zero p = true
every (suc n) p = p n && every n p

pub every_e : (n : ℕ) (p : ℕ → Bool) → T (every n p) → (t : ℕ) → t < n → T (p t)
unfolding every
every_e zero p h t l = absurd (not-suc-le-zero l)
every_e (suc n) p h t l =
    by_test (eqb t n)
    (λ e. subst (λ (m : ℕ). T (p m)) (sym (eqb→eq t n e)) (and_l (p n) (every n p) h))
    (λ e. every_e n p (and_r (p n) (every n p) h) t (omega (arith, ne_test t n e)))

-- Bit t of the mask says whether code t passes the test.
abbrev pub tells : ℕ → (ℕ → Bool) → ℕ → Bool
tells m p t = eqb (m / 2 ^ t % 2) (cond (p t) 1 0)

-- A mask whose bits all tell so has exactly the codes that pass.
pub exactly : (m : ℕ) (p : ℕ → Bool) → T (every 64 (tells m p)) → Exactly m (λ t. T (p t))
exactly m p h t l = go (p t) (eqb→eq _ _ (every_e 64 (tells m p) h t l))
  where
    go : (b : Bool) → m / 2 ^ t % 2 ≡ cond b 1 0 → (In t m → T b) × (T b → In t m)
    go true e = (λ i. tt, λ u. e)
    go false e = (λ i. omega arith, λ u. absurd u)

-- Every code is in the mask of every code.
pub in_every : (t : ℕ) → t < 64 → In t every_code
unfolding every every_code
in_every t h = (exactly every_code (λ s. true) tt t h).1 tt
