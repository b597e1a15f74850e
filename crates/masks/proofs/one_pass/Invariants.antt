-- `masks::one_pass` meets its contract. The loop's invariant: the pass is at machine i, for every owner k
-- such that `near` began with the codes that are in m once they gain k.
use Prim.Native.Nat.{ℕ}
use Rattle.model.specs.Sharers.{insert}
use Rattle.masks.specs.Sets.{In, Exactly, OneToSix}
use Rattle.masks.proofs.OnePass.{Led}
use Rattle.masks.proofs.one_pass.Given as goal

abbrev pub invariant-loop-i : goal.invariant-loop-i
invariant-loop-i l =
    (k : ℕ) → OneToSix k → Exactly l.initial.near (λ t. In (insert k t) l.m) → Led k l.m l.i l.r l.near
