-- Two ways to pay: one that costs the same whatever is to pay at the end, and one that comes to the end; and that the
-- second need not be sought beyond what the first can spare.
use Prim.Native.Nat.{ℕ, ◌+◌, ◌≤◌, ◌<◌, min}
use native.Mathlib.Nat.{le_refl}
use native.Mathlib.Decide.{dec_le}
use native.Mathlib.Omega.{arith}
use mathlib.Core.Path.{◌≡◌}
use mathlib.Core.Logic.{◌↔◌, ◌⊎◌, inl, inr, ⊎_elim}
use borrow.Author.Tests.{le-leb, lt-leb}
use Rattle.levels.specs.Stretches.{FAR}
use Rattle.segments.specs.Costs.{plus}
use Rattle.segments.specs.Weighing.{spared_of}

-- A number is below what another can spare, or that is at most the sum of it and what must remain.
spared_bound : (a other least n : ℕ) → least ≤ n → spared_of other least ≤ a → (FAR ≤ a) ⊎ (other ≤ a + n)
spared_bound a other least n h s =
    elim (dec_le FAR other) [
      | yes far ↦ inl (rw (le-leb FAR other far) at s)
      | no far ↦ let t = rw (lt-leb FAR other (omega arith)) at s in inr (omega arith)
    ]

-- With n steps to pay at the end there are two ways: one that pays the same for every n, and one that comes to the end,
-- with n more to pay. `other` is the least to pay with `next` steps at the end, and `keep` the least of the second way
-- alone, if it is below what `other` can spare. Then for no more than `next` steps, and no fewer than `least`:
module _ (Pay : (n x : ℕ) → Type 0) (Back Kept : ℕ → Type 0)
    (ways : (n x : ℕ) → x < FAR → Pay n x ↔ (Back x ⊎ ((a : ℕ) × Kept a × (a + n ≤ x))))
    (other next keep least : ℕ)
    (other_most : other ≤ FAR)
    (other_exact : (x : ℕ) → x < FAR → Pay next x ↔ (other ≤ x))
    (keep_exact : (a : ℕ) → a < spared_of other least → Kept a ↔ (keep ≤ a))
    (keep_far : spared_of other least ≤ keep → keep ≡ FAR) where
  -- the number that was sought is the least of the second way, if it is one at all;
  kept : keep < FAR → Kept keep
  kept less =
      elim (dec_le (spared_of other least) keep) [
        | yes h ↦ absurd (omega (arith, keep_far h))
        | no h ↦ (keep_exact keep (omega arith)).1 (le_refl keep)
      ]

  -- it is no better than `other` with all the steps at the end;
  pub keep_bound : other ≤ plus keep next
  keep_bound =
      elim (dec_le FAR (keep + next)) [
        | yes h ↦ omega arith
        | no h ↦
            let way = (ways next (keep + next) (omega arith)).1 (inr (keep, kept (omega arith), le_refl _)) in
            omega (arith, (other_exact (keep + next) (omega arith)).0 way)
      ]

  -- and the least to pay is the lesser of both.
  pub two_ways : (n : ℕ) → n ≤ next → least ≤ n
      → (x : ℕ) → x < FAR → Pay n x ↔ (min other (plus keep n) ≤ x)
  two_ways n few more x far = (λ p. ⊎_elim by_back by_keeping ((ways n x far).0 p), pays)
    where
      by_back : Back x → min other (plus keep n) ≤ x
      by_back h =
          let paid = (other_exact x far).0 ((ways next x far).1 (inl h)) in
          omega arith

      by_keeping : (a : ℕ) × Kept a × (a + n ≤ x) → min other (plus keep n) ≤ x
      by_keeping (a, p, h) =
          elim (dec_le (spared_of other least) a) [
            | yes s ↦
                let paid : other ≤ x =
                ⊎_elim (λ f. absurd (omega arith)) (λ f. omega arith) (spared_bound a other least n more s)
                in
                omega arith
            | no s ↦
                let paid = (keep_exact a (omega arith)).0 p in
                omega arith
          ]

      pays : min other (plus keep n) ≤ x → Pay n x
      pays h =
          elim (dec_le other x) [
            | yes le ↦
                (ways n x far).1
                (⊎_elim inl (λ p. inr (p.0, p.1, omega (arith, p.2)))
                ((ways next x far).0 ((other_exact x far).1 le)))
            | no le ↦
                let sum : keep + n ≤ x = omega arith in
                (ways n x far).1 (inr (keep, kept (omega arith), sum))
          ]
