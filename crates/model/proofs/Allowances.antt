-- The allowances of all locations together are at most two steps for each event, since an event that adds to
-- an allowance is at one location.
use Prim.Native.Nat.{ℕ, suc, ◌+◌, ◌*◌, ◌≤◌}
use native.Mathlib.Omega.{arith}
use mathlib.Core.Path.{◌≡◌, refl, ◌∙◌}
use mathlib.Core.Logic.{◌≢◌, ◌⊎◌, inl, inr, ⊎_elim}
use mathlib.Core.Bool.{Bool, true, false, cond}
use mathlib.Core.List.{List, [], ◌∷◌}
use lib.Dec.{ltb, ltb→lt, nltb→le}
use lib.ListN.{length}
use Rattle.model.specs.Cxl0.{Location, Event, LStore, RStore, MStore, Load, LFlush, RFlush, Crash, SetCrash, RMW}
use Rattle.model.specs.Cxl0.{event, count, is_store, is_load}
use Rattle.model.specs.OneLocation.{event_at}
use Rattle.model.proofs.Tests.{by_test, not→false, ne→test}
use Rattle.model.specs.Sums.{sum}
use Rattle.model.proofs.Sums.{sum_zero, sum_le, sum_at}
use Rattle.model.proofs.Potential.{gain}
use Rattle.model.proofs.Locations.{AtOne, IsCrash, single, several, located}
use Rattle.model.specs.Allowance.{allowance}
use Rattle.model.proofs.Allowance.{allowance_cons}

-- An event is at one location, or it is a crash and adds nothing.
crash_gain : {e : Event} → IsCrash e → gain (event e) ≡ 0
unfolding gain is_store is_load
crash_gain (single i) = refl
crash_gain (several set) = refl

at_one : (e : Event) → AtOne e ⊎ (gain (event e) ≡ 0)
at_one e = ⊎_elim inl (λ crash. inr (crash_gain crash)) (located e)

gain_few : (e : Event) → gain (event e) ≤ 2
unfolding gain is_store is_load
gain_few (LStore i z v) = omega arith
gain_few (RStore i z v) = omega arith
gain_few (MStore i z v) = omega arith
gain_few (Load i z v) = omega arith
gain_few (LFlush i z) = omega arith
gain_few (RFlush i z) = omega arith
gain_few (Crash i) = omega arith
gain_few (SetCrash set) = omega arith
gain_few (RMW form i z v w) = omega arith

cond_le : (b : Bool) (k : ℕ) → cond b k 0 ≤ k
cond_le true k = omega arith
cond_le false k = omega arith

module _ (n : ℕ) (e : Event) (es : List Event) where
  abbrev all : ℕ → ℕ
  all y = allowance y (e ∷ es)

  abbrev rest : ℕ → ℕ
  rest y = allowance y es

  -- The event adds nowhere more than it may, and nothing where it is not.
  here : (y : Location) → all y ≤ rest y + gain (event e)
  here y = omega (arith, allowance_cons y e es, cond_le (event_at y e) (gain (event e)))

  elsewhere : (at : AtOne e) (y : Location) → y ≢ at.0 → all y ≤ rest y
  elsewhere at y ne =
      let away : event_at y e ≡ false = at.2 y ∙ not→false (ne→test y at.0 ne) in
      omega (arith, rw away at (allowance_cons y e es))

  -- One event more adds to the sum of the allowances what it adds at one location.
  sum_cons : sum n all ≤ sum n rest + gain (event e)
  sum_cons =
      let add = gain (event e) in
      ⊎_elim
      (λ at.
      let z = at.0 in
      let most : all z + 0 ≤ rest z + add = omega (arith, here z) in
      by_test (ltb z n)
      (λ t. omega (arith, sum_at n z all rest 0 add (ltb→lt z n t) (elsewhere at) most))
      (λ t. omega (arith, sum_le n all rest (λ y l. elsewhere at y (omega (arith, nltb→le z n t))))))
      (λ none. omega (arith, sum_le n all rest (λ y l. omega (arith, here y))))
      (at_one e)

-- The allowances of the locations below n.
pub sum_allowances : (n : ℕ) (es : List Event) → sum n (λ y. allowance y es) ≤ 2 * length es
sum_allowances n [] = omega (arith, sum_zero n (λ y. allowance y []) (λ y. unfold allowance count in refl))
sum_allowances n (e ∷ es) = omega (arith, sum_cons n e es, gain_few e, sum_allowances n es)

-- The allowance of one location.
pub allowance_few : (x : Location) (es : List Event) → allowance x es ≤ 2 * length es
unfolding sum
allowance_few x es = omega (arith, sum_allowances (suc x) es)
