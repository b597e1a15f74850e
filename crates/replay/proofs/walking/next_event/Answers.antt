-- `next_event` finds the event where there is one, and goes on to the event after it.
use mathlib.Core.Path.{refl, sym, ap, ◌∙◌}
use Rattle.cursors.specs.Answers.{event_at_of}
use Rattle.cursors.proofs.Found.{one_found}
use Rattle.replay.proofs.Going.{attempted}
use Rattle.replay.proofs.walking.next_event.Goals as goal

pub returns : goal.returns
returns c = λ t x e next found low.
    let told = ap event_at_of (sym c.in_ok-e.was) ∙ c.event_at.ensures in
    let (same, after) = one_found told found in
    record { outcome = attempted t _ _ _ found same x; passed = refl; event = after; step = refl }
