-- `rows::load_row` meets its contract: the load reads memory, or the copies, or is not possible.
use mathlib.Core.Path.{sym, ◌∙◌}
use mathlib.Core.Logic.Iff
use mathlib.Core.Bool.{cond, true≢false}
use lib.Dec.{T, eqb}
use Prim.Native.Nat.{ℕ}
use Rattle.model.specs.OneLocation.{enabled_at, effect}
use Rattle.model.specs.Sharers.{insert}
use Rattle.rows.specs.declared.Row.{Row}
use Rattle.rows.specs.Rows.{Fine, RowOf}
use Rattle.rows.proofs.Lines.{Loads, loads}
use Rattle.rows.proofs.Loads.{from_memory, from_copies, from_nothing}
use Rattle.rows.proofs.load_row.Goals as goal

load_line : (rest row : Row) (i u v : ℕ) → RowOf (Loads rest i u v) row
    → RowOf (λ c m. T (cond (eqb c 0) (eqb m v) (eqb u v)) × Fine rest (cond (eqb c 0) 0 (insert i c)) m) row
load_line rest row i u v r c m h = Iff.trans (loads rest i u v c m) (r c m h)

pub returns-then-fine : goal.returns-then-fine
unfolding enabled_at effect
returns-then-fine c k x =
    let args = c.args in
    load_line args.rest _ args.i.0 args.u args.v
    (from_memory args.rest args.i.0 args.u args.v c.readable_row.result
    c.requires.one_to_six c.requires.closed (c.fine.ensures.0 c.if-fine.true) c.readable_row.ensures)

pub returns-then-u-v : goal.returns-then-u-v
unfolding enabled_at effect
returns-then-u-v c k x =
    let stuck : ¬ Fine c.args.rest 0 c.args.v =
    λ f. true≢false (sym (c.fine.ensures.1 f) ∙ c.if-fine.false) in
    let args = c.args in
    load_line args.rest _ args.i.0 args.u args.v
    (from_copies args.rest args.i.0 args.u args.v stuck c.load_copies_row.result
    c.if-u-v.true c.load_copies_row.ensures)

pub returns : goal.returns
unfolding enabled_at effect
returns c k x =
    let stuck : ¬ Fine c.args.rest 0 c.args.v =
    λ f. true≢false (sym (c.fine.ensures.1 f) ∙ c.if-fine.false) in
    let args = c.args in
    load_line args.rest _ args.i.0 args.u args.v
    (from_nothing args.rest args.i.0 args.u args.v stuck c.any_row.result
    c.if-u-v.false c.any_row.ensures)
