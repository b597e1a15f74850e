-- Which events matter at a location: from facts about the event at each index to what is kept of a list.
use Prim.Native.Nat.{ℕ, zero, suc, ◌+◌, ◌-◌, ◌≤◌, ◌<◌}
use native.Mathlib.Nat.{add-zero}
use native.Mathlib.Omega.{arith}
use mathlib.Core.Path.{◌≡◌}
use mathlib.Core.Bool.{Bool, true, not}
use mathlib.Core.List.{List, ◌∷◌}
use lib.Dec.{T}
use lib.ListN.{length, drop, drop_of_length-le}
use lib.Seq.{drop-cons}
use Rattle.model.specs.Cxl0.{Location, Event, Crash}
use Rattle.model.proofs.Tests.{and_i}
use Rattle.model.specs.OneLocation.{own_event, event_at}
use Rattle.events.specs.Thinning.{none_own, matters, Thins, keep, skip}
use Rattle.events.proofs.Indices.{at_index}

module _ (x : Location) (es : List Event) where
  none_from : (d p : ℕ) → p + d ≡ length es
      → ((i : ℕ) → p ≤ i → i < length es → T (not (own_event x (at_index es i)))) → T (none_own x (drop p es))
  unfolding none_own
  none_from zero p e f = rw (drop_of_length-le es {i = p} (omega arith)) tt
  none_from (suc d) p e f =
      rw (drop-cons es p (Crash 0) (omega arith))
      (and_i (not (own_event x (at_index es p))) (none_own x (drop (suc p) es))
      (f p (omega arith) (omega arith))
      (none_from d (suc p) (omega arith) (λ i l h. f i (omega arith) h)))

  -- No event from p on names x.
  pub none-own : (p : ℕ) → p ≤ length es
      → ((i : ℕ) → p ≤ i → i < length es → T (not (own_event x (at_index es i)))) → T (none_own x (drop p es))
  none-own p h f = none_from (length es - p) p (omega arith) f

  module _ {begun : Bool} {kept : List Event} {indices : List ℕ} where
    -- The event at p, which concerns x, is kept.
    pub keep_at : (p : ℕ) → p < length es → T (event_at x (at_index es p))
        → Thins x true (suc p) (drop (suc p) es) kept indices
        → Thins x begun p (drop p es) (at_index es p ∷ kept) (p ∷ indices)
    keep_at p h here t = rw (drop-cons es p (Crash 0) h) (keep here t)

    skips : (d p : ℕ) → p + d ≤ length es
        → ((i : ℕ) → p ≤ i → i < p + d → T (not (matters begun x (at_index es i))))
        → Thins x begun (p + d) (drop (p + d) es) kept indices → Thins x begun p (drop p es) kept indices
    skips zero p h f t = rw add-zero at t
    skips (suc d) p h f t =
        let sum : p + suc d ≡ suc p + d = omega arith in
        let later = skips d (suc p) (omega arith) (λ i l k. f i (omega arith) (omega arith)) (rw sum at t) in
        rw (drop-cons es p (Crash 0) (omega arith)) (skip (f p (omega arith) (omega arith)) later)

    -- The events from p to q, which need not be kept, are left out.
    pub skip_to : (p q : ℕ) → p ≤ q → q ≤ length es
        → ((i : ℕ) → p ≤ i → i < q → T (not (matters begun x (at_index es i))))
        → Thins x begun q (drop q es) kept indices → Thins x begun p (drop p es) kept indices
    skip_to p q l h f t =
        let sum : p + (q - p) ≡ q = omega arith in
        skips (q - p) p (omega arith) (λ i a b. f i a (omega arith)) (rw sum t)
