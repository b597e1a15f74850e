-- What silent steps can do at one location: move copies to the owner, or write them back, after which none is
-- left. From every short form that has a copy a write-back is at most two steps away.
use Prim.Native.Nat.{ℕ, zero, suc, ◌^◌, ◌≤◌, ◌<◌}
use native.Mathlib.Nat.{pow-suc, not-suc-le-zero}
use native.Mathlib.Omega.{arith}
use mathlib.Core.Path.{◌≡◌, refl, sym, subst}
use mathlib.Core.Logic.{◌≢◌, ◌⊎◌, inl, inr, ⊎_elim, ◌↔◌}
use mathlib.Core.Bool.{Bool, not, ◌&&◌, ◌||◌}
use lib.Dec.{T, T_not, eqb, eqb_refl}
use Rattle.model.specs.Cxl0.{Machine, Location, Topology, owner, Silent, Propagate, WriteBack, silent}
use Rattle.model.specs.Sharers.{has, remove}
use Rattle.model.specs.OneLocation.{Local, Site, moved, silent_at, enabled_at, effect, site_of}
use Rattle.model.specs.OneLocation.{Moves, stay, move, Silently, still, step, recoded, written, Reaches}
use Rattle.model.proofs.Tests.{and_r, and_i, or_l, by_test, ne→test}
use Rattle.model.proofs.Sharers.{has_insert, has_remove, has_none, insert_bound, remove_le, member}

-- A set with a member is not empty.
pub has→some : (i : Machine) (c : ℕ) → T (has i c) → c ≢ 0
has→some i c t z = subst T (has_none i) (subst (λ (d : ℕ). T (has i d)) z t)

-- Machine j holds a copy after a move of machine i, if it is the owner k, or is not i and held one.
pub has_moved : (k i j c : ℕ) → 1 ≤ k → has j (moved k i c) ≡ (eqb j k || not (eqb j i) && has j c)
unfolding moved
has_moved zero i j c l = absurd (not-suc-le-zero l)
has_moved (suc k) i j c l = rw (has_insert k j (remove i c), has_remove i j c)

-- A move keeps a code among those of machines 1 to n, if the owner is one of them. So does a chain of moves.
pub moved_bound : (n k i c : ℕ) → 1 ≤ k → k ≤ n → c < 2 ^ n → moved k i c < 2 ^ n
unfolding moved
moved_bound n zero i c l u h = absurd (not-suc-le-zero l)
moved_bound n (suc k) i c l u h = insert_bound n k (remove i c) u (omega (arith, remove_le i c))

pub moves_bound : (n : ℕ) {k c d : ℕ} → 1 ≤ k → k ≤ n → Moves k c d → c < 2 ^ n → d < 2 ^ n
moves_bound n l u stay h = h
moves_bound n {k} l u (move {c} i t r) h = moves_bound n l u r (moved_bound n k i c l u h)

-- Where nobody holds a copy, nothing moves.
pub moves_none : {k c d : ℕ} → Moves k c d → c ≡ 0 → d ≡ 0
moves_none stay z = z
moves_none {k} (move {c} i t r) z = absurd (has→some i c (and_r (not (eqb i k)) (has i c) t) z)

-- Nor is a silent step enabled there.
pub no_step : (k : Site) (a : Silent) (s : Local) → s.code ≡ 0 → ¬ T (enabled_at k (silent a) s)
unfolding enabled_at
no_step k (Propagate i y) s none can =
    has→some i s.code (and_r (not (eqb i k.owner)) (has i s.code) can) none
no_step k (WriteBack y) s none can = has→some k.owner s.code can none

-- In the normal form t is s with another code, or s with its copies written back.
pub reached_form : {k : Machine} (s t : Local) → Reaches k s t
    → ((t ≡ recoded t.code s) × Moves k s.code t.code) ⊎ ((t ≡ written s) × (s.code ≢ 0))
reached_form s t m =
    ⊎_elim
    (λ a. inl ((λ i. record { code = t.code; copy = m.0 i; memory = a.0 i }), a.1))
    (λ b. inr ((λ i. record { code = b.1 i; copy = m.0 i; memory = b.2 i }), b.0))
    m.1

below_power : (c : ℕ) → c < 2 ^ c
below_power zero = omega arith
below_power (suc c) = omega (arith, below_power c, pow-suc 2 c)

module _ (sys : Topology) (x : Location) where
  -- Silent steps have the normal form.
  settle : {s t : Local} → Silently sys x s t → Reaches (owner sys x) s t
  unfolding effect site_of enabled_at
  settle still = (refl, inl (refl, stay))
  settle (step {s} (Propagate i y) p r) =
      let other : Bool = not (eqb i (owner sys x)) in
      let q = and_r (silent_at x (Propagate i y)) (other && has i s.code) p in
      let held = has→some i s.code (and_r other (has i s.code) q) in
      let m = settle r in
      (m.0, ⊎_elim (λ a. inl (a.0, move i q a.1)) (λ b. inr (held, b.1, b.2)) m.1)
  settle (step {s} (WriteBack y) p r) =
      let k = owner sys x in
      let held = has→some k s.code (and_r (silent_at x (WriteBack y)) (has k s.code) p) in
      let m = settle r in
      (m.0, ⊎_elim (λ a. inr (held, moves_none a.1 refl, a.0)) (λ b. absurd (b.0 refl)) m.1)

  -- A move is a silent step, and so a chain of moves is made of silent steps.
  propagate : (i : Machine) {s t : Local} → T (not (eqb i (owner sys x)) && has i s.code)
      → Silently sys x (recoded (moved (owner sys x) i s.code) s) t → Silently sys x s t
  unfolding silent_at enabled_at site_of effect
  propagate i {s} p r =
      let can : Bool = not (eqb i (owner sys x)) && has i s.code in
      step (Propagate i x) (and_i (eqb x x) can (eqb_refl x) p) r

  by_moves : (s : Local) {c d : ℕ} → Moves (owner sys x) c d → Silently sys x (recoded c s) (recoded d s)
  by_moves s stay = still
  by_moves s (move i p r) = propagate i p (by_moves s r)

  -- Where the owner holds a copy, one step writes it back.
  write-back : (s : Local) → T (has (owner sys x) s.code) → Silently sys x s (written s)
  unfolding silent_at enabled_at site_of effect
  write-back s p = step (WriteBack x) (and_i (eqb x x) (has (owner sys x) s.code) (eqb_refl x) p) still

  -- Where any machine holds a copy, two steps do.
  drain : 1 ≤ owner sys x → (s : Local) → s.code ≢ 0 → Silently sys x s (written s)
  drain l s z =
      let k = owner sys x in
      let c = s.code in
      by_test (has k c) (write-back s)
      (λ p.
      let m = member c c (below_power c) z in
      let i = suc m.0 in
      let other : i ≢ k = λ e. T_not (has k c) p (subst (λ (j : Machine). T (has j c)) e m.2) in
      let owned = or_l (eqb k k) (not (eqb k i) && has k c) (eqb_refl k) in
      propagate i
      (and_i (not (eqb i k)) (has i c) (ne→test i k other) m.2)
      (write-back (recoded (moved k i c) s) (rw (has_moved k i k c l) owned)))

-- Silent steps of x lead from s to t exactly where the normal form says so.
pub normal_form : (sys : Topology) (x : Location) (s t : Local) → 1 ≤ owner sys x
    → Silently sys x s t ↔ Reaches (owner sys x) s t
normal_form sys x s t l = (
  settle sys x,
  λ m.
      ⊎_elim
      (λ a. subst (Silently sys x s) (sym a.0) (by_moves sys x s a.1))
      (λ b. subst (Silently sys x s) (sym b.0) (drain sys x l s b.1))
      (reached_form s t m),
)

-- Silent steps keep a code among those of machines 1 to n, if the owner is one of them.
pub silently_bound : (sys : Topology) (x : Location) (n : ℕ) {s t : Local} → 1 ≤ owner sys x → owner sys x ≤ n
    → Silently sys x s t → s.code < 2 ^ n → t.code < 2 ^ n
silently_bound sys x n l u r h =
    ⊎_elim (λ a. moves_bound n l u a.1 h) (λ b. omega (arith, b.1)) (settle sys x r).1
