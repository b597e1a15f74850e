-- `crash_if` meets its contract.
use mathlib.Core.Path.{◌≡◌, refl, sym, ◌∙◌}
use lib.ListN.{length}
use Rattle.model.proofs.Limits.{mapped}
use Rattle.states.proofs.Crashes.{crash_numbers, crash_answered}
use Rattle.states.proofs.State.crash_if.Goals as goal

pub returns-then-admitted : goal.returns-then-admitted
returns-then-admitted c =
    let room : length c.args.self.entries ≡ 32 = search mapped in
    let admitted = sym c.if-admitted.true ∙ c.requires.admitted_value in
    crash_answered _ _ _ room (crash_numbers c.args.e c.requires.is_crash).1 admitted c.crashed.ensures refl

pub returns-else-admitted : goal.returns-else-admitted
returns-else-admitted c =
    let room : length c.args.self.entries ≡ 32 = search mapped in
    let admitted = sym c.if-admitted.false ∙ c.requires.admitted_value in
    crash_answered _ _ _ room (crash_numbers c.args.e c.requires.is_crash).1 admitted refl refl
