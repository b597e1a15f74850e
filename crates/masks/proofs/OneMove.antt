-- One move to the owner: the codes from which it reaches a set, machine by machine.
use Prim.Native.Nat.{ℕ, ◌+◌, ◌≤◌, ◌<◌}
use native.Mathlib.Omega.{arith}
use mathlib.Core.Path.{◌≡◌}
use mathlib.Core.Logic.{◌≢◌, inl, inr, ⊎_elim}
use mathlib.Core.Bool.{not}
use borrow.Author.Tests.{ne_eqb}
use lib.Dec.{T, eqb, eqb→eq}
use lib.Bits.{bit_or}
use Rattle.model.specs.Cxl0.{Machine}
use Rattle.model.specs.Sharers.{has, insert, remove}
use Rattle.model.specs.OneLocation.{movable, moved}
use Rattle.model.proofs.Tests.{by_test, and_l, and_r, ne_test}
use Rattle.model.proofs.Sharers.{has_bound}
use Rattle.model.proofs.SilentSteps.{has→some}
use Rattle.masks.specs.Sets.{In, Exactly, OneToSix}
use Rattle.masks.proofs.Sets.{in_bound, in_none, in_or}
use Rattle.masks.proofs.Codes.{has_itself}
use Rattle.masks.proofs.OnePass.{more_moved}

-- The move of one of the machines below n takes code t into the mask.
abbrev pub MovesBelow : Machine → ℕ → ℕ → ℕ → Type 0
MovesBelow k m n t = (i : Machine) × (i < n) × T (movable k i t) × In (moved k i t) m

module _ (k : Machine) (o : OneToSix k) (m : ℕ) where
  -- No machine is below 1.
  pub below_first : Exactly 0 (MovesBelow k m 1)
  below_first t h = (
    λ i. absurd (in_none t i),
    λ (i, b, u, j). absurd (omega (arith, has_bound 6 i t h (and_r (not (eqb i k)) (has i t) u))),
  )

  module _ (n r : ℕ) (s : Exactly r (MovesBelow k m n)) where
    -- From machine n to the next, with `more`, the codes with n that are in `near` once they lose it.
    pub below_more : (near more : ℕ) → n ≢ k → Exactly near (λ t. In (insert k t) m)
        → Exactly more (λ t. T (has n t) × In (remove n t) near)
        → Exactly (bit_or r more) (MovesBelow k m (n + 1))
    below_more near more other g v t h = (λ j. ⊎_elim old new ((in_or r more t).0 j), back)
      where
        old : In t r → MovesBelow k m (n + 1) t
        old j = let (i, b, u, w) = (s t h).0 j in (i, omega arith, u, w)

        new : In t more → MovesBelow k m (n + 1) t
        new j =
            let w = (more_moved k o n m near more g v t h).0 j in
            (n, omega arith, rw (ne_eqb n k other) w.0, w.1)

        back : MovesBelow k m (n + 1) t → In t (bit_or r more)
        back (i, b, u, w) =
            (in_or r more t).1
            (by_test (eqb i n)
            (λ e.
            let same = eqb→eq i n e in
            inr ((more_moved k o n m near more g v t h).1
            (rw same at (and_r (not (eqb i k)) (has i t) u), rw same at w)))
            (λ e. inl ((s t h).1 (i, omega (arith, ne_test i n e), u, w))))

    -- The owner has no move.
    pub below_owner : n ≡ k → Exactly r (MovesBelow k m (n + 1))
    below_owner same t h = (
      λ j. let (i, b, u, w) = (s t h).0 j in (i, omega arith, u, w),
      λ (i, b, u, w).
          let other = ne_test i k (and_l (not (eqb i k)) (has i t) u) in
          (s t h).1 (i, omega arith, u, w),
    )

  -- A machine of a code is below 7.
  pub below_last : (r : ℕ) → Exactly r (MovesBelow k m 7)
      → Exactly r (λ t. (i : Machine) × T (movable k i t) × In (moved k i t) m)
  below_last r s t h = (
    λ j. let (i, b, u, w) = (s t h).0 j in (i, u, w),
    λ (i, u, w). (s t h).1 (i, omega (arith, has_bound 6 i t h (and_r (not (eqb i k)) (has i t) u)), u, w),
  )

  -- After a move the owner has a copy, so that no move leads to code 0, the only one that a mask up to 1 can have.
  pub to_none : m ≤ 1 → Exactly 0 (λ t. (i : Machine) × T (movable k i t) × In (moved k i t) m)
  unfolding moved
  to_none l t h = (
    λ j. absurd (in_none t j),
    λ (i, u, w).
        let z : moved k i t ≡ 0 = omega (arith, in_bound 1 m (moved k i t) (omega arith) w) in
        absurd (has→some k (moved k i t) (has_itself k (remove i t) o.0) z),
  )
