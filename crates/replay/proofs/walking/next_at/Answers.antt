-- `next_at` finds the step that is due, or else the event.
use native.Mathlib.Omega.{arith}
use mathlib.Core.Path.{refl, sym, ap, ◌∙◌}
use Rattle.schedules.specs.Answers.{step_at_of}
use Rattle.replay.proofs.Going.{step_goes, event_goes, event_goes_last}
use Rattle.replay.proofs.walking.next_at.Goals.{in_default-via-in-Some+else-p-w, in_default-via-in_default}
use Rattle.replay.proofs.walking.next_at.Goals as goal

pub returns-in-Some : goal.returns-in-Some
returns-in-Some c = λ t x a k g.
    let found = sym c.step_at.ensures ∙ ap step_at_of c.in-Some.is in
    step_goes g _ _ _ found (omega (arith, c.if-p-w.true))
    (record { outcome = refl; passed = refl; event = refl; step = refl })

pub returns-in_default : goal.returns-in_default
returns-in_default c = λ t x a k g.
    elim c.in_default.branch [
      | in_default-via-in-Some+else-p-w w ↦
          let found = sym c.step_at.ensures ∙ ap step_at_of w.in-Some.is in
          event_goes g _ _ _ found (omega (arith, w.if-p-w.false)) (c.next_event.ensures t x)
      | in_default-via-in_default w ↦
          let none_left = sym c.step_at.ensures ∙ ap step_at_of w.in_default.is in
          event_goes_last g _ none_left (c.next_event.ensures t x)
    ]
