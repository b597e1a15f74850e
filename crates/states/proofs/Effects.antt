-- What the entry after an action stands for.
use Prim.Native.Nat.{ℕ, ◌<◌, ◌≤◌, ◌%◌, ◌^◌}
use native.Mathlib.Nat.{mod-lt, mod-eq_of_lt, lt_of_lt_of_le}
use native.Mathlib.Omega.{arith}
use mathlib.Core.Path.{◌≡◌}
use mathlib.Core.Bool.{Bool, ◌&&◌}
use lib.Dec.{T}
use lib.Pow.{pow_pos, pow_mono}
use Rattle.model.specs.Cxl0.{Location, Action, named}
use Rattle.model.specs.OneLocation.{Local, concerns, site_of, enabled_at, effect, next_at}
use Rattle.model.specs.Meaning.{topology_of, within_limits}
use Rattle.model.specs.declared.Topology as topology
use Rattle.entries.specs.Entries.{short_of, entry_of, masked_to}
use Rattle.entries.specs.declared.Entry as entry
use Rattle.states.specs.States.{local_of, entry_after}
use Rattle.model.proofs.Tests.{and_l, and_r, T→true}
use Rattle.model.proofs.Limits.{within}
use Rattle.model.proofs.Expand.{next_at_bound}

-- Whether an action is enabled where location x has entry e, and x's short form after it.
abbrev pub asked : topology.Topology → Action → Location → entry.Entry → Bool
asked t a x e = enabled_at (site_of (topology_of t) x) a (local_of t.machines e)

abbrev made : topology.Topology → Action → Location → entry.Entry → Local
made t a x e = effect (site_of (topology_of t) x) a (local_of t.machines e)

-- An entry's code is one of the system's machines.
pub local_range : (n : ℕ) (e : entry.Entry) → (local_of n e).code < 2 ^ n
unfolding local_of short_of masked_to
local_range n e = mod-lt e.sharers (pow_pos n)

-- The topology is within the limits and has the machines and the location that an action names.
unfoldable pub admits : topology.Topology → Action → Bool
admits t a = within_limits t && named (topology_of t) a

-- The code of a set of at most 6 machines is read back from its byte.
byte_code : (n c : ℕ) → n ≤ 6 → c < 2 ^ n → c % 256 % 2 ^ n ≡ c
byte_code n c k l =
    let m : n ≤ 8 = omega arith in
    let h : c < 256 = lt_of_lt_of_le l (pow_mono m) in
    rw (mod-eq_of_lt h) (mod-eq_of_lt l)

-- Where the topology admits an action that concerns x, the entry of x after it stands for its effect.
pub stands : (t : topology.Topology) (a : Action) (x : Location) → T (concerns x a) → T (admits t a)
    → (e : entry.Entry) → local_of t.machines (entry_after t a x e) ≡ made t a x e
unfolding admits topology_of next_at local_of short_of masked_to entry_of entry_after
stands t a x here h e =
    let w = within t (and_l (within_limits t) (named (topology_of t) a) h) in
    let n = and_r (within_limits t) (named (topology_of t) a) h in
    let r = local_range t.machines e in
    let l = next_at_bound (topology_of t) x w.well-formed a (local_of t.machines e) n r in
    let k = byte_code t.machines _ w.machines_few (rw (T→true {b = concerns x a} here) at l) in
    λ i. record { code = k i; copy = (made t a x e).copy; memory = (made t a x e).memory }
