-- The potential of a location: the copies that machines other than its owner hold, and 1 if anyone holds one.
-- Every silent step lowers it by at least 1; a store raises it by at most 2 and a load by at most 1; nothing
-- else raises it.
use Prim.Native.Nat.{ℕ, zero, suc, ◌+◌, ◌*◌, ◌≤◌, min}
use native.Mathlib.Nat.{not-suc-le-zero}
use native.Mathlib.Omega.{arith}
use mathlib.Core.Path.{◌≡◌}
use mathlib.Core.Bool.{Bool, true, false, cond, not, ◌&&◌}
use lib.Dec.{T, eqb, eqb_refl, eqb-suc-zero}
use Rattle.model.specs.Cxl0.{Machine, Location, Value, MachineSet, Topology, is_machine, is_location, owner, named}
use Rattle.model.specs.Cxl0.{LStore, RStore, MStore, Load, LFlush, RFlush, Crash, SetCrash}
use Rattle.model.specs.Cxl0.{RMW, Form, L, R, M, Propagate, WriteBack}
use Rattle.model.specs.Cxl0.{Action, event, silent, is_store, is_load}
use Rattle.model.specs.Sharers.{has, insert, remove, remove_all}
use Rattle.model.specs.OneLocation.{Local, enabled_at, stored_at, loaded_at, effect, moved, start_at, site_of}
use Rattle.model.proofs.Tests.{and_l, and_r, T→true, not→false, ne→test}
use Rattle.model.proofs.Sharers.{has_insert, has_remove, has_remove_all, has_none}
use Rattle.model.proofs.Sharers.{remove_le, remove_all_le}
use Rattle.model.proofs.Expand.{machine_bounds}
use Rattle.model.specs.Sums.{sum}
use Rattle.model.proofs.Sums.{sum_zero, sum_ones, sum_le, sum_at}

-- 1 for a test that is passed, 0 for one that is failed.
abbrev pub one : Bool → ℕ
one b = cond b 1 0

one_le : (b : Bool) → one b ≤ 1
one_le true = omega arith
one_le false = omega arith

one_and : (a b : Bool) → one (a && b) ≤ one b
one_and true b = omega arith
one_and false b = omega arith

one_lost : (gone a b : Bool) → one ((not gone && a) && b) ≤ one (a && b)
one_lost true a b = omega (arith, one_le (a && b))
one_lost false a b = omega arith

-- Machine i is one of 1 to n.
abbrev pub Among : ℕ → Machine → Type 0
Among n i = (1 ≤ i) × (i ≤ n)

-- A set with a member does not have the code 0.
not_empty : (i : Machine) (c : ℕ) → T (has i c) → 1 ≤ c
not_empty i zero t = absurd (rw (has_none i) at t)
not_empty i (suc c) t = omega arith

-- At a location with owner k, in a system of n machines.
module _ (n : ℕ) (k : Machine) where
  -- Machine j is in the set c and is not the owner.
  abbrev other : ℕ → Machine → Bool
  other c j = has j c && not (eqb j k)

  -- How many members of the set c are not the owner. (Machine 0, which is none, is in no set.)
  others : ℕ → ℕ
  others c = sum (suc n) (λ j. one (other c j))

  -- The empty set has none.
  others_none : others 0 ≡ 0
  unfolding others
  others_none = sum_zero (suc n) (λ j. one (other 0 j)) (λ j. rw (has_none j))

  -- Sets that differ at machine i alone differ in number by what differs there.
  others_at : (i : Machine) (c d a b : ℕ) → i ≤ n → ((j : Machine) → eqb j i ≡ false → has j d ≡ has j c)
      → one (other d i) + a ≤ one (other c i) + b → others d + a ≤ others c + b
  unfolding others
  others_at i c d a b h same here =
      sum_at (suc n) i (λ j. one (other d j)) (λ j. one (other c j)) a b (omega arith)
      (λ j ne. rw (same j (not→false (ne→test j i ne))) (omega arith))
      here

  -- Machine i adds at most itself, and the owner adds nothing.
  others_insert : (i : Machine) (c : ℕ) → Among n i → others (insert i c) ≤ others c + one (not (eqb i k))
  others_insert zero c h = absurd (not-suc-le-zero h.0)
  others_insert (suc i) c h =
      let most = one_and (has (suc i) (insert (suc i) c)) (not (eqb (suc i) k)) in
      omega (
        arith,
        others_at (suc i) c (insert (suc i) c) 0 (one (not (eqb (suc i) k))) h.1
            (λ j e. rw (has_insert i j c, e))
            (omega arith),
      )

  -- Machine i takes itself away.
  others_remove : (i : Machine) (c : ℕ) → Among n i → others (remove i c) + one (other c i) ≤ others c
  others_remove i c h =
      let itself : eqb i i ≡ true = T→true (eqb_refl i) in
      omega (
        arith,
        others_at i c (remove i c) (one (other c i)) 0 h.1
            (λ j e. rw (has_remove i j c, e))
            (rw (has_remove i i c, itself) (omega arith)),
      )

  -- A set that has lost members has no more of them.
  others_lost : (c d : ℕ) (gone : Machine → Bool) → ((j : Machine) → has j d ≡ (not (gone j) && has j c))
      → others d ≤ others c
  unfolding others
  others_lost c d gone lost =
      sum_le (suc n) (λ j. one (other d j)) (λ j. one (other c j))
      (λ j h. rw (lost j) (one_lost (gone j) (has j c) (not (eqb j k))))

  -- The potential at the code c; `min c 1` is 1 if the set is not empty.
  pub potential : ℕ → ℕ
  potential c = others c + min c 1

  pub potential_none : potential 0 ≡ 0
  unfolding potential
  potential_none = omega (arith, others_none)

  -- It is at most two more than there are machines.
  pub potential_most : (c : ℕ) → potential c ≤ n + 2
  unfolding potential others
  potential_most c = omega (arith, sum_ones (suc n) (λ j. one (other c j)) (λ j h. one_le (other c j)))

  -- How each change of the code changes the potential.
  pub after_store : (i : Machine) → Among n i → potential (insert i 0) ≤ 2
  unfolding potential
  after_store i h = omega (arith, others_insert i 0 h, others_none, one_le (not (eqb i k)))

  pub after_load : (i : Machine) (c : ℕ) → Among n i → potential (cond (eqb c 0) 0 (insert i c)) ≤ potential c + 1
  unfolding potential
  after_load i zero h = omega arith
  after_load i (suc c) h =
      rw (eqb-suc-zero c) (omega (arith, others_insert i (suc c) h, one_le (not (eqb i k))))

  pub after_crash : (i : Machine) (c : ℕ) → potential (remove i c) ≤ potential c
  unfolding potential
  after_crash i c =
      omega (arith, others_lost c (remove i c) (λ j. eqb j i) (λ j. has_remove i j c), remove_le i c)

  pub after_set_crash : (set : MachineSet) (c : ℕ) → potential (remove_all set c) ≤ potential c
  unfolding potential
  after_set_crash set c =
      let lost = others_lost c (remove_all set c) (λ j. has j set) (λ j. has_remove_all set j c) in
      omega (arith, lost, remove_all_le set c)

  pub after_propagate : (i : Machine) (c : ℕ) → Among n k → Among n i → T (not (eqb i k) && has i c)
      → potential (moved k i c) + 1 ≤ potential c
  unfolding potential moved
  after_propagate i c o h t =
      let member = and_r (not (eqb i k)) (has i c) t in
      let holds : has i c ≡ true = T→true member in
      let apart : eqb i k ≡ false = not→false (and_l (not (eqb i k)) (has i c) t) in
      let itself : eqb k k ≡ true = T→true (eqb_refl k) in
      omega (
        arith,
        rw (holds, apart) at (others_remove i c h),
        rw itself at (others_insert k (remove i c) o),
        not_empty i c member,
      )

  pub before_write_back : (c : ℕ) → T (has k c) → 1 ≤ potential c
  unfolding potential
  before_write_back c t = omega (arith, not_empty k c t)

-- The potential of location x in the short form s.
pub rank : Topology → Location → Local → ℕ
rank sys x s = potential sys.machines (owner sys x) s.code

-- It starts at 0.
pub rank_start : (sys : Topology) (x : Location) → rank sys x (start_at sys x) ≡ 0
unfolding rank start_at
rank_start sys x = potential_none sys.machines (owner sys x)

-- What an action may add to the potential of a location that it concerns, and what it takes away.
unfoldable pub gain : Action → ℕ
gain (event e) = 2 * one (is_store e) + one (is_load e)
gain (silent a) = 0

unfoldable pub loss : Action → ℕ
loss (event e) = 0
loss (silent a) = 1

-- A store leaves at most 2.
rank_stored : (sys : Topology) (x y : Location) (form : Form) (i : Machine) (v : Value) (s : Local)
    → T (is_machine sys (owner sys x)) → T (is_machine sys i && is_location sys y)
    → rank sys x (stored_at (site_of sys x) form i v s) ≤ 2
unfolding rank site_of
rank_stored sys x y L i v s o m =
    after_store sys.machines (owner sys x) i (machine_bounds sys i (and_l (is_machine sys i) (is_location sys y) m))
rank_stored sys x y R i v s o m =
    let k = owner sys x in after_store sys.machines k k (machine_bounds sys k o)
rank_stored sys x y M i v s o m = omega (arith, potential_none sys.machines (owner sys x))

-- An action that concerns x takes this away from x's potential and adds no more than that.
pub rank_step : (sys : Topology) (x : Location) (a : Action) (s : Local)
    → T (is_machine sys (owner sys x)) → T (named sys a) → T (enabled_at (site_of sys x) a s)
    → rank sys x (effect (site_of sys x) a s) + loss a ≤ rank sys x s + gain a
unfolding rank named enabled_at site_of effect gain loss is_store is_load
rank_step sys x (event (LStore i y v)) s o m t = omega (arith, rank_stored sys x y L i v s o m)
rank_step sys x (event (RStore i y v)) s o m t = omega (arith, rank_stored sys x y R i v s o m)
rank_step sys x (event (MStore i y v)) s o m t = omega (arith, rank_stored sys x y M i v s o m)
rank_step sys x (event (Load i y v)) s o m t =
    let h = machine_bounds sys i (and_l (is_machine sys i) (is_location sys y) m) in
    omega (arith, after_load sys.machines (owner sys x) i s.code h)
rank_step sys x (event (LFlush i y)) s o m t = omega arith
rank_step sys x (event (RFlush i y)) s o m t = omega arith
rank_step sys x (event (Crash i)) s o m t =
    omega (arith, after_crash sys.machines (owner sys x) i s.code)
rank_step sys x (event (SetCrash set)) s o m t =
    omega (arith, after_set_crash sys.machines (owner sys x) set s.code)
rank_step sys x (event (RMW form i y v w)) s o m t = omega (arith, rank_stored sys x y form i w (loaded_at i s) o m)
rank_step sys x (silent (Propagate i y)) s o m t =
    let k = owner sys x in
    let h = machine_bounds sys i (and_l (is_machine sys i) (is_location sys y) m) in
    omega (arith, after_propagate sys.machines k i s.code (machine_bounds sys k o) h t)
rank_step sys x (silent (WriteBack y)) s o m t =
    let k = owner sys x in
    omega (arith, potential_none sys.machines k, before_write_back sys.machines k s.code t)
