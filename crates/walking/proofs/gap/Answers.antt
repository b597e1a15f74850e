-- `gap` meets its contract.
use Prim.Native.Nat.{◌<◌}
use native.Mathlib.Omega.{arith}
use mathlib.Core.Path.{sym, ◌∙◌}
use mathlib.Core.Logic.{◌≢◌}
use mathlib.Core.Bool.{true≢false}
use mathlib.Core.List.{[]}
use Rattle.model.specs.OneLocation.{Moves}
use Rattle.rows.specs.Rows.{Fine}
use Rattle.walking.specs.Trails.{none, leaving}
use Rattle.scratch.proofs.Stored.{stored_none}
use Rattle.walking.proofs.Givers.{leaving_few, leaving_trail}
use Rattle.walking.proofs.Entering.{enters_moves, enters_written, enters_drained}
use Rattle.walking.proofs.gap.Goals as goal

-- The row has the place.
pub returns-then-fine : goal.returns-then-fine
returns-then-fine c =
    let a = c.args in (
      record {
        machines = [];
        few = omega arith;
        noted = stored_none a.w.now a.p.end;
        trail = none;
        fits = omega arith;
      },
      c.fine.ensures.0 c.if-fine.true,
    )

-- Where the row has no code but 0 at the place's memory value, a write-back leads into it.
pub write_back-requires-clause-code_bound : goal.write_back-requires-clause-code_bound
write_back-requires-clause-code_bound c =
    let a = c.args in
    let drained : (a.p.code ≢ 0) × Fine a.row 0 a.u =
    enters_drained a.site.owner.0 c.requires.one_to_six a.row a.p.code a.p.memory
    c.codes-wanted.result c.requires.code_bound.0 c.codes-wanted.ensures (omega arith)
    a.u c.requires.code_bound.1
    (λ f. true≢false (sym (c.fine.ensures.1 f) ∙ c.if-fine.false)) in
    (omega arith, drained.0)

pub returns-then-wanted-lt2 : goal.returns-then-wanted-lt2
returns-then-wanted-lt2 c =
    let a = c.args in
    let drained : (a.p.code ≢ 0) × Fine a.row 0 a.u =
    enters_drained a.site.owner.0 c.requires.one_to_six a.row a.p.code a.p.memory
    c.codes-wanted.result c.requires.code_bound.0 c.codes-wanted.ensures (omega arith)
    a.u c.requires.code_bound.1
    (λ f. true≢false (sym (c.fine.ensures.1 f) ∙ c.if-fine.false)) in
    let state = c.write_back.ensures.code_value in
    (c.write_back.ensures.moved, rw (state.0, state.1) drained.1)

-- The least code of both sets is one that moves reach and the row has.
pub move_to-end-requires : goal.move_to-end-requires
move_to-end-requires c =
    let a = c.args in
    let d = c.lowest-d.result in
    let entered : (d < 64) × Moves a.site.owner.0 a.p.code d × Fine a.row d a.p.memory =
    enters_moves a.site.owner.0 c.requires.one_to_six a.row a.p.code a.p.memory
    c.reach.result c.codes-wanted.result c.requires.code_bound.0
    c.reach.ensures c.codes-wanted.ensures d c.lowest-d.ensures.0 in
    record {
      at_in_bounds = omega arith;
      c_bound = (omega arith, entered.0);
    }

-- Moves lead to a code that the row has.
pub returns-then-there-ne0 : goal.returns-then-there-ne0
returns-then-there-ne0 c =
    let a = c.args in
    let d = c.lowest-d.result in
    let entered : (d < 64) × Moves a.site.owner.0 a.p.code d × Fine a.row d a.p.memory =
    enters_moves a.site.owner.0 c.requires.one_to_six a.row a.p.code a.p.memory
    c.reach.result c.codes-wanted.result c.requires.code_bound.0
    c.reach.ensures c.codes-wanted.ensures d c.lowest-d.ensures.0 in
    let k = a.site.owner.0 in (
      record {
        machines = leaving k a.p.code d 6;
        few = leaving_few k a.p.code d 6;
        noted = c.move_to-end.ensures;
        trail = leaving_trail c.requires.one_to_six c.requires.code_bound.0 entered.1 a.u a.p.memory;
        fits = entered.0;
      },
      entered.2,
    )

-- Where no moves do, a write-back leads into the row.
pub write_back-requires-2-clause-code_bound : goal.write_back-requires-2-clause-code_bound
write_back-requires-2-clause-code_bound c =
    let a = c.args in
    let written : (a.p.code ≢ 0) × Fine a.row 0 a.u =
    enters_written a.site.owner.0 c.requires.one_to_six a.row a.p.code a.p.memory
    c.reach.result c.codes-wanted.result c.requires.code_bound.0
    c.reach.ensures c.codes-wanted.ensures a.u c.requires.code_bound.1 c.if-there-ne0.false in
    (omega arith, written.0)

pub returns : goal.returns
returns c =
    let a = c.args in
    let written : (a.p.code ≢ 0) × Fine a.row 0 a.u =
    enters_written a.site.owner.0 c.requires.one_to_six a.row a.p.code a.p.memory
    c.reach.result c.codes-wanted.result c.requires.code_bound.0
    c.reach.ensures c.codes-wanted.ensures a.u c.requires.code_bound.1 c.if-there-ne0.false in
    let state = c.write_back-2.ensures.code_value in
    (c.write_back-2.ensures.moved, rw (state.0, state.1) written.1)
