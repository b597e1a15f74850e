-- `events::picking::pick_events` meets its contract. The loop's invariant: events are picked up to an index.
use Prim.Native.Nat.{◌-◌, ◌≤◌}
use mathlib.Core.Path.{◌≡◌}
use mathlib.Core.List.{List}
use lib.ListN.{length}
use Rattle.model.specs.Cxl0.{Location, Event}
use Rattle.scratch.specs.Layout.{EVENTS, ROWS, OnlyIn}
use Rattle.events.specs.Linking.{head_of, Linked}
use Rattle.events.proofs.PickingLoop.{UpTo}
use Rattle.events.proofs.picking.pick_events.Given as goal

abbrev pub invariant-loop-p : goal.invariant-loop-p
invariant-loop-p l =
    OnlyIn EVENTS ROWS l.initial.w l.w
    × ((x : Location) (es : List Event) → l.head ≡ head_of x → Linked es l.initial.w → l.m ≤ length es
    → UpTo es x l.m l.p l.w)

abbrev pub decreases-loop-p : goal.decreases-loop-p
decreases-loop-p l = l.m - l.p.count
