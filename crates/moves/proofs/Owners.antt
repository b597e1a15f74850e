-- From owner 1 to each owner: a number with machines 1 and k exchanged has the codes that moves to k reach.
use Prim.Native.Nat.{ℕ, ◌^◌, ◌≤◌, ◌<◌}
use mathlib.Core.Path.{◌≡◌}
use mathlib.Core.Logic.Iff
use mathlib.Core.Logic.{◌↔◌}
use mathlib.Core.Bool.{Bool}
use lib.Dec.{T, eqb, eqb→eq, ltb, ltb→lt}
use Rattle.model.specs.Cxl0.{Machine}
use Rattle.model.specs.OneLocation.{Moves}
use Rattle.model.proofs.Tests.{and_l, and_r}
use Rattle.model.proofs.Machines.{every_e as every-machine}
use Rattle.model.proofs.SilentSteps.{moves_bound}
use Rattle.masks.specs.Sets.{In, Exactly, OneToSix}
use Rattle.masks.proofs.Sets.{in_bound, in_none}
use Rattle.masks.proofs.Constants.{every, tells, exactly}
use Rattle.moves.specs.Exchange.{exchange}
use Rattle.moves.specs.Reach.{Reached}
use Rattle.moves.specs.Table.{number_at}
use Rattle.moves.proofs.Bits.{same_mask}
use Rattle.moves.proofs.Everywhere.{holds}
use Rattle.moves.proofs.Exchange.{exchange_fits, moves_exchanged}
use Rattle.moves.proofs.Swaps.{rises, distance, swap, swapped}
use Rattle.moves.proofs.Table.{entry, low, all_rise}
use Rattle.moves.proofs.Table.{follows, all_follow}
use Rattle.moves.proofs.Chains.{chains}

-- A mask with the codes whose exchange is in the number of the code's exchange has those that moves reach.
pub reached : (k c r : ℕ) → OneToSix k → c < 64 → r < 2 ^ 64
    → Exactly r (λ t. In (exchange k t) (entry (exchange k c)))
    → Reached k c r
reached k c r o h f e t = (
  λ i. let b = in_bound 64 r t f i in (o.0, o.1, h, (same b).0 i),
  λ m. (same (moves_bound 6 o.0 o.1 m.3 h)).1 m.3,
)
  where
    same : t < 64 → In t r ↔ Moves k c t
    same b =
        Iff.trans (e t b)
        (Iff.trans (chains (exchange k c) (exchange k t) (exchange_fits k c o h)) (Iff.symm (moves_exchanged k o h b)))

-- Where there is no such owner or code, none is reached.
pub none : (k c : ℕ) → (1 ≤ k → k ≤ 6 → c < 64 → ⊥) → Reached k c 0
none k c f t = (λ p. absurd (in_none t p), λ m. absurd (f m.0 m.1 m.2))

low_rises : (k : Machine) → OneToSix k → Exactly (low k) (λ t. T (rises k t))
low_rises k o =
    exactly (low k) (rises k)
    (every-machine 6 (λ k. every 64 (tells (low k) (rises k))) all_rise k o.0 o.1)

module _ (k c : ℕ) (o : OneToSix k) (h : c < 64) where
  -- Each number of the table has the codes that moves reach.
  pub in_table : Reached k c (number_at k c)
  unfolding follows
  in_table =
      let m = entry (exchange k c) in
      let back = swap 64 (low k) (distance k) m in
      let same : Bool = eqb (number_at k c) back in
      let fits : Bool = ltb back (2 ^ 64) in
      let f = holds follows all_follow k c o h in
      rw (eqb→eq (number_at k c) back (and_l same fits f))
      (reached k c back o h (ltb→lt back (2 ^ 64) (and_r same fits f)) (swapped k o m (low k) (low_rises k o)))

  -- Every owner and code gets its number of the table: no other has just the codes that moves reach.
  pub same_number : (r : ℕ) → Reached k c r → r ≡ number_at k c
  same_number r e = same_mask r (number_at k c) (λ t. Iff.trans (e t) (Iff.symm (in_table t)))
