-- `replay_events` opens the log, reads the schedule and walks from the start.
use native.Mathlib.Omega.{arith}
use mathlib.Core.Path.{refl, sym, ap, ◌∙◌}
use Rattle.std.proofs.lemmas.Result.{err_from_is_err_and}
use Rattle.log_bytes.proofs.Each.{bytes_by_index}
use Rattle.log_bytes.specs.declared.Head.{Head}
use Rattle.cursors.specs.Opening.{Opens}
use Rattle.cursors.proofs.Opens.{opens_accepted}
use Rattle.replay.specs.Replaying.{Answer}
use Rattle.replay.proofs.Beginning.{steps_read, none_read, count_few}
use Rattle.replay.proofs.Beginning.{stands_first, with_steps, with_none}
use Rattle.replay.proofs.replay_events.Goals as goal

-- The count of steps is that of a schedule.
pub overflow_add-ahead : goal.overflow_add-ahead
overflow_add-ahead c =
    omega (arith, count_few _ _ _ _ c.in_ok-steps.ensures)

-- The records of an accepted log are open with what was opened.
pub returns : goal.returns
returns c =
    λ r e h.
    let log = c.args.log.now in
    let bytes = bytes_by_index log (λ i. omega (arith, c.type_inv.log i)) in
    let opened : Opens log r c.open-o.result = rw c.open-o.ensures (opens_accepted log bytes r e h) in
    let events = ap (λ (k : Head). k.events) h in
    let (ps, read, count) = steps_read _ _ c.in_ok-steps.ensures in
    let stands = stands_first _ ps _ opened read events refl refl refl in
    c.walk.ensures _ (rw count at stands) ∙ sym (with_steps r _ _ _ opened.system events ps read)

pub returns-in_err-steps : goal.returns-in_err-steps
returns-in_err-steps c =
    λ r e h.
    let log = c.args.log.now in
    let bytes = bytes_by_index log (λ i. omega (arith, c.type_inv.log i)) in
    let opened : Opens log r c.open-o.result = rw c.open-o.ensures (opens_accepted log bytes r e h) in
    let events = ap (λ (k : Head). k.events) h in
    let (none_left, number) = none_read _ _ c.in_err-steps.ensures in
    let p = err_from_is_err_and c.from_residual.result c.from_residual.ensures.1 in
    rw (p.1, p.2) (ap Answer.refused number ∙ sym (with_none r _ _ _ opened.system events none_left))
