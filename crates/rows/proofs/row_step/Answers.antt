-- `rows::row_step` meets its contract, where the event concerns the location and where it does not.
use mathlib.Core.Path.{sym, ◌∙◌}
use Rattle.model.proofs.Tests.{true→T, false→not}
use Rattle.model.specs.Meaning.{meant}
use Rattle.rows.proofs.RowSteps.{stepped, skipped}
use Rattle.rows.proofs.row_step.Goals as goal

pub returns-then-concerned : goal.returns-then-concerned
returns-then-concerned c =
    let a = c.args in
    let e = a.e in
    let t = true→T (sym c.concerned.ensures ∙ c.if-concerned.true) in
    let inner = c.row_before-inner in
    stepped a.site (meant e) a.u a.rest inner.result c.gap_row.result
    c.requires.known.machines t inner.ensures c.gap_row.ensures.0 c.gap_row.ensures.1

pub returns : goal.returns
returns c =
    let a = c.args in
    let t = false→not (sym c.concerned.ensures ∙ c.if-concerned.false) in
    skipped a.site (meant a.e) a.u a.rest t c.requires.closed
