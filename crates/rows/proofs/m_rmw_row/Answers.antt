-- `rows::m_rmw_row` meets its contract: wherever it can read, if code 0 is fine with what it writes.
use mathlib.Core.Path.{sym, ◌∙◌}
use mathlib.Core.Bool.{true≢false}
use Rattle.rows.proofs.FineRows.{no_state}
use Rattle.rows.proofs.m_rmw_row.Goals as goal

pub returns : goal.returns
returns c =
    no_state _ c.any_row.result
    (λ d m p. true≢false (sym (c.fine.ensures.1 p.1) ∙ c.if-fine.false))
    c.any_row.ensures
