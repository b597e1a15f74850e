-- A step that is found ends further on in the file.
use Rattle.std.proofs.Common.{◌≡◌, ℕ, ◌+◌, List, drop, arith, ap, sym, ◌∙◌}
use Rattle.std.proofs.Math.Option.{some, map-eq-some_iff}
use Rattle.model.specs.Schedule.{Step}
use Rattle.schedules.specs.Schedules.{first_step, step_at}
use Rattle.schedules.specs.Answers.{step_at_of}
use Rattle.schedules.proofs.Cursor.{within}
use Rattle.verdict.proofs.Page.put_steps.Goals as goal

further : (s : List ℕ) (at : ℕ) {p : Step} {next : ℕ} → step_at s at ≡ some (p, next) → at + 6 ≡ next
unfolding step_at
further s at e =
    let (_, _, place) = (map-eq-some_iff (λ (q : Step). (q, at + 6)) (first_step (drop at s))).0 e in
    ap (λ (r : Step × ℕ). r.1) place

pub loop-step-smaller : goal.loop-step-smaller
loop-step-smaller c =
    let found = sym c.step_at.ensures ∙ ap step_at_of c.in-Some.is in
    omega (arith, within _ _ found, further _ _ found)
