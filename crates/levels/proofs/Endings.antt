-- Which masks are those of the codes that the event after the last gap accepts.
use Prim.Native.Nat.{ℕ, zero, suc}
use native.Mathlib.Omega.{arith}
use mathlib.Core.Path.{◌≡◌, refl}
use mathlib.Core.Logic.Iff
use mathlib.Core.Bool.{Bool, true, cond, not, ◌||◌}
use lib.Dec.{T, eqb}
use Rattle.std.proofs.Common.{ne_eqb}
use Rattle.model.proofs.Tests.{or_r}
use Rattle.masks.specs.Sets.{every_code, Exactly}
use Rattle.masks.proofs.Constants.{in_every}
use Rattle.levels.specs.declared.Closing.TheVariants.{Same}
use Rattle.levels.specs.Tasks.{closing_at, accepting}

-- The codes that are accepted where a number says how the stretch closes.
pub accepting_at : (n : ℕ) (reads : Bool) (c : ℕ)
    → accepting (closing_at n) reads c ≡ cond (eqb n 0) true (cond (eqb n 1) (not (eqb c 0) || reads) (eqb c 0))
accepting_at zero reads c = refl
accepting_at (suc zero) reads c = refl
accepting_at (suc (suc n)) reads c =
    rw (ne_eqb (suc (suc n)) 0 (omega arith), ne_eqb (suc (suc n)) 1 (omega arith)) refl

-- What holds beside the codes may be asked of them too.
pub beside : (r : ℕ) (P : ℕ → Type 0) {Q : Type 0} → Q → Exactly r P → Exactly r (λ c. P c × Q)
beside r P q s c h = Iff.trans (s c h) (λ p. (p, q), λ p. p.0)

-- Every code is accepted.
every-code : (r : ℕ) (P : ℕ → Type 0) → r ≡ every_code → ((c : ℕ) → P c) → Exactly r P
every-code r P e p c h = rw e (λ i. p c, λ i. in_every c h)

module _ (r : ℕ) where
  -- The event reads nothing, or there is none.
  pub asks_nothing : r ≡ every_code → Exactly r (λ c. T true)
  asks_nothing e = every-code r (λ c. T true) e (λ c. tt)

  -- It reads the value of the copies, which memory has.
  pub reads_either : r ≡ every_code → Exactly r (λ c. T (accepting Same true c))
  reads_either e = every-code r (λ c. T (accepting Same true c)) e (λ c. or_r (not (eqb c 0)) true tt)
