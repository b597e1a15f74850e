-- Which masks are those before the events inside a stretch: a load of the value of the copies, flushes and crashes.
use Prim.Native.Nat.{ℕ, zero, suc}
use native.Mathlib.Omega.{arith}
use mathlib.Core.Path.{◌≡◌, refl}
use mathlib.Core.Logic.Iff
use mathlib.Core.Logic.{◌≢◌, ◌⊎◌, inl, inr, ⊎_elim, ◌↔◌}
use mathlib.Core.Bool.{Bool, true, false, not}
use lib.Dec.{T, eqb, eqb→eq, eqb_refl, eqb-suc-zero}
use lib.Ieee.Fits.{eq→eqb}
use Rattle.model.specs.Cxl0.{Machine, Location, Value, Load, LFlush, RFlush, Crash, SetCrash}
use Rattle.model.specs.Sharers.{has, insert, remove, remove_all}
use Rattle.model.specs.OneLocation.{Site, enabled_at, effect}
use Rattle.model.specs.Operations.{is_operation}
use Rattle.model.specs.Meaning.{meant}
use Rattle.model.specs.declared.Event as event
use Rattle.model.proofs.Operations.{by_number, not_crash}
use Rattle.masks.specs.Sets.{In, Exactly}
use Rattle.levels.specs.Stretches.{Inner, LeadsOver, Over}

-- The operations of these events have the numbers 4 to 7 and 11.
pub inner_number : (u : Value) (e : event.Event) → T (is_operation e.operation) → Inner u (meant e)
    → e.operation ≢ 4 → e.operation ≢ 5 → e.operation ≢ 6 → e.operation ≢ 7 → e.operation ≢ 11 → ⊥
unfolding Inner
inner_number u e =
    by_number e
    (λ op f. T (is_operation op) → Inner u f → op ≢ 4 → op ≢ 5 → op ≢ 6 → op ≢ 7 → op ≢ 11 → ⊥)
    (λ is n. absurd n) (λ is n. absurd n) (λ is n. absurd n)
    (λ is n n₄ n₅ n₆ n₇ n₁₁. n₄ refl)
    (λ is n n₄ n₅ n₆ n₇ n₁₁. n₅ refl)
    (λ is n n₄ n₅ n₆ n₇ n₁₁. n₆ refl)
    (λ is n. absurd n) (λ is n. absurd n) (λ is n. absurd n)
    (λ is n n₄ n₅ n₆ n₇ n₁₁. n₁₁ refl)
    (λ op at is n n₄ n₅ n₆ n₇ n₁₁. at (not_crash is n₇ n₁₁))

-- A load of the value of the copies: from a copy, and that leaves one more, or from memory where there is none.
module _ (i : Machine) (x : Location) (rest r : ℕ) where
  abbrev Copied : ℕ → Type 0
  Copied c = In (insert i c) rest × (c ≢ 0)

  from_copy : (k : Site) (u m c : ℕ) → c ≢ 0 → LeadsOver k (Load i x u) u m rest c ↔ In (insert i c) rest
  unfolding enabled_at effect
  from_copy k u m zero n = absurd (n refl)
  from_copy k u m (suc c) n = rw (eqb-suc-zero c) (λ p. p.1, λ i. (eqb_refl u, i))

  from_memory : (k : Site) (u m : ℕ) → LeadsOver k (Load i x u) u m rest 0 ↔ (T (eqb m u) × In 0 rest)
  unfolding enabled_at effect
  from_memory k u m = (λ p. p, λ p. p)

  -- Memory has the value.
  pub load_read : (v : Value) → Exactly r (λ c. Copied c ⊎ (In c rest × (c ≡ 0))) → Over (Load i x v) true rest r
  unfolding Inner
  load_read v s k u m same read c h = rw same (Iff.trans (s c h) (⊎_elim copy memory, back c))
    where
      copy : Copied c → LeadsOver k (Load i x u) u m rest c
      copy p = (from_copy k u m c p.1).1 p.0

      memory : In c rest × (c ≡ 0) → LeadsOver k (Load i x u) u m rest c
      memory p = rw p.1 ((from_memory k u m).1 (rw read tt, rw p.1 at p.0))

      back : (c : ℕ) → LeadsOver k (Load i x u) u m rest c → Copied c ⊎ (In c rest × (c ≡ 0))
      back zero p = inr (((from_memory k u m).0 p).1, refl)
      back (suc c) p = inl ((from_copy k u m (suc c) (λ z. omega arith)).0 p, λ z. omega arith)

  -- Memory has another value.
  pub load_unread : (v : Value) → Exactly r Copied → Over (Load i x v) false rest r
  unfolding Inner
  load_unread v s k u m same read c h =
      rw same (Iff.trans (s c h) (λ p. (from_copy k u m c p.1).1 p.0, back c))
    where
      back : (c : ℕ) → LeadsOver k (Load i x u) u m rest c → Copied c
      back zero p = absurd (rw read at ((from_memory k u m).0 p).0)
      back (suc c) p = ((from_copy k u m (suc c) (λ z. omega arith)).0 p, λ z. omega arith)

-- The other events go alike whether memory has the value of the copies or not.
module _ (read : Bool) (rest r : ℕ) where
  pub l_flush : (i : Machine) (x : Location) → Exactly r (λ c. In c rest × T (not (has i c)))
      → Over (LFlush i x) read rest r
  unfolding enabled_at effect
  l_flush i x s k u m n e c h = Iff.trans (s c h) (λ p. (p.1, p.0), λ p. (p.1, p.0))

  pub r_flush : (i : Machine) (x : Location) → Exactly r (λ c. In c rest × (c ≡ 0)) → Over (RFlush i x) read rest r
  unfolding enabled_at effect
  r_flush i x s k u m n e c h =
      Iff.trans (s c h) (λ p. (eq→eqb p.1, p.0), λ p. (p.1, eqb→eq c 0 p.0))

  pub crash : (i : Machine) → Exactly r (λ c. In (remove i c) rest) → Over (Crash i) read rest r
  unfolding enabled_at effect
  crash i s k u m n e c h = Iff.trans (s c h) (λ p. (tt, p), λ p. p.1)

  pub set_crash : (set : ℕ) → Exactly r (λ c. In (remove_all set c) rest) → Over (SetCrash set) read rest r
  unfolding enabled_at effect
  set_crash set s k u m n e c h = Iff.trans (s c h) (λ p. (tt, p), λ p. p.1)
