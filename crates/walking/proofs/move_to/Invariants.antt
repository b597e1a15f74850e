-- `move_to` meets its contract. The loop's invariant: those of machines 1 to n - 1 that give up are noted.
use Prim.Native.Nat.{ℕ, suc}
use mathlib.Core.Path.{◌≡◌}
use Rattle.walking.specs.Trails.{leaving}
use Rattle.walking.specs.Walks.{Noted}
use Rattle.walking.proofs.move_to.Given as goal

abbrev pub invariant-loop-n : goal.invariant-loop-n
invariant-loop-n l =
    (k : ℕ) × (l.n ≡ suc k) × Noted l.site l.t (leaving l.site.owner.0 l.c l.d k) l.initial.w l.at l.w l.to
