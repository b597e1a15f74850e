-- `read_schedule` goes from step to step: what the file comes to is what remains after the steps so far.
use native.Mathlib.Numerals.{add-one}
use native.Mathlib.Omega.{arith}
use mathlib.Core.Path.{sym, ap, ◌∙◌}
use Rattle.model.specs.Meaning.{topology_of}
use Rattle.fields.proofs.Put.{part_drop}
use Rattle.schedules.specs.Answers.{step_at_of}
use Rattle.schedules.proofs.Fields.{long_header}
use Rattle.schedules.proofs.Cursor.{within}
use Rattle.schedules.proofs.Remaining.{not_allowed, at_first}
use Rattle.schedules.proofs.Remaining.{follows, misfits, ends, breaks, one_too_many}
use Rattle.schedules.proofs.read_schedule.Goals.{then-steps-eq-STEPS_MOST-via-then-steps-eq-STEPS_MOST}
use Rattle.schedules.proofs.read_schedule.Goals.{then-steps-eq-STEPS_MOST-via-else-steps-eq-STEPS_MOST+then-not-may_follow}
use Rattle.schedules.proofs.read_schedule.Goals as goal

pub returns-then-not-says_allowed : goal.returns-then-not-says_allowed
returns-then-not-says_allowed c =
    let a = c.args in
    sym (not_allowed (topology_of a.t) a.events a.file.now
    (sym c.says_allowed.ensures ∙ c.if-not-says_allowed.true))

pub loop-step-init : goal.loop-step-init
loop-step-init c =
    let a = c.args in
    let says = sym c.says_allowed.ensures ∙ c.if-not-says_allowed.false in record {
      within = long_header a.file.now says;
      few = omega arith;
      rest = at_first (topology_of a.t) a.events a.file.now says;
    }

-- A step was found.
pub returns-then-steps-eq-STEPS_MOST : goal.returns-then-steps-eq-STEPS_MOST
returns-then-steps-eq-STEPS_MOST c =
    let a = c.args in
    let l = c.loop-step in
    let step = sym c.step_at.ensures ∙ ap step_at_of c.in-Some.is in
    elim c.then-steps-eq-STEPS_MOST.branch [
      | then-steps-eq-STEPS_MOST-via-then-steps-eq-STEPS_MOST w ↦
          let full = one_too_many (topology_of a.t) a.events a.file.now l.at l.least l.steps step (omega arith) in
          sym (l.invariant.rest ∙ full)
      | then-steps-eq-STEPS_MOST-via-else-steps-eq-STEPS_MOST+then-not-may_follow w ↦
          let may = sym w.may_follow.ensures ∙ w.if-not-may_follow.true in
          sym (l.invariant.rest ∙ misfits (topology_of a.t) a.events a.file.now l.at l.least l.steps step may)
    ]

pub loop-step-preserved : goal.loop-step-preserved
loop-step-preserved c =
    let a = c.args in
    let l = c.loop-step in
    let step = sym c.step_at.ensures ∙ ap step_at_of c.in-Some.is in
    let may = sym c.may_follow.ensures ∙ c.if-not-may_follow.false in
    let next = follows (topology_of a.t) a.events a.file.now l.at l.least l.steps step may in record {
      within = within a.file.now l.at step;
      few = omega arith;
      rest = l.invariant.rest ∙ rw add-one next;
    }

-- No step was found.
pub returns-then-not-is_end : goal.returns-then-not-is_end
returns-then-not-is_end c =
    let a = c.args in
    let l = c.loop-step in
    let nothing = sym c.step_at.ensures ∙ ap step_at_of c.in_default.is in
    let more = rw part_drop at (sym c.is_end.ensures ∙ c.if-not-is_end.true) in
    sym (l.invariant.rest ∙ breaks (topology_of a.t) a.events a.file.now l.at l.least l.steps nothing more)

pub returns : goal.returns
returns c =
    let a = c.args in
    let l = c.loop-step in
    let nothing = sym c.step_at.ensures ∙ ap step_at_of c.in_default.is in
    let end = rw part_drop at (sym c.is_end.ensures ∙ c.if-not-is_end.false) in
    sym (l.invariant.rest ∙ ends (topology_of a.t) a.events a.file.now l.at l.least l.steps nothing end l.invariant.few)
