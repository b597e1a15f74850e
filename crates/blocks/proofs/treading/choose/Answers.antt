-- `choose` meets its contract.
use Rattle.std.proofs.Common.{◌+◌, ◌≢◌, T, sym, ◌∙◌, arith}
use Rattle.model.specs.Sharers.{has}
use Rattle.model.proofs.Tests.{true→T}
use Rattle.levels.specs.Tasks.{back_in}
use Rattle.blocks.proofs.Choosing.{chosen_back, chosen_none, chosen_stay, chosen_move}
use Rattle.blocks.proofs.treading.choose.Goals as goal
use Rattle.blocks.proofs.treading.choose.Goals.{else-holds-via-then-holds+else-w-t, else-holds-via-else-holds}

-- What is left after a write-back is at most FAR.
pub overflow_add-w : goal.overflow_add-w
overflow_add-w c =
    omega (arith, (c.requires.0.backs c.args.t c.requires.1.from c.requires.1.to).most)

pub returns-then-w-t : goal.returns-then-w-t
returns-then-w-t c =
    chosen_back c.requires.0 c.requires.1 (true→T (sym c.holds.ensures ∙ c.if-holds.true)) c.if-w-t.true

-- In what follows no write-back leaves one step less.

pub returns-then-p-q : goal.returns-then-p-q
returns-then-p-q c =
    let other : let a : _ = c.args in T (has a.site.owner.0 a.p.code) → back_in a.w.now a.t + 1 ≢ a.p.steps =
    elim c.else-holds.branch [
      | else-holds-via-then-holds+else-w-t w ↦ λ owned. w.if-w-t.false
      | else-holds-via-else-holds w ↦ λ owned. absurd (rw (sym c.holds.ensures ∙ w.if-holds.false) at owned)
    ]
    in
    chosen_none c.requires.0 c.requires.1 other (omega arith)

pub returns-in_err-i : goal.returns-in_err-i
returns-in_err-i c =
    let other : let a : _ = c.args in T (has a.site.owner.0 a.p.code) → back_in a.w.now a.t + 1 ≢ a.p.steps =
    elim c.else-holds.branch [
      | else-holds-via-then-holds+else-w-t w ↦ λ owned. w.if-w-t.false
      | else-holds-via-else-holds w ↦ λ owned. absurd (rw (sym c.holds.ensures ∙ w.if-holds.false) at owned)
    ]
    in
    rw c.from_residual.ensures
    (chosen_stay c.requires.0 c.requires.1 other (omega arith) c.in_err-i.ensures)

pub returns : goal.returns
returns c =
    let other : let a : _ = c.args in T (has a.site.owner.0 a.p.code) → back_in a.w.now a.t + 1 ≢ a.p.steps =
    elim c.else-holds.branch [
      | else-holds-via-then-holds+else-w-t w ↦ λ owned. w.if-w-t.false
      | else-holds-via-else-holds w ↦ λ owned. absurd (rw (sym c.holds.ensures ∙ w.if-holds.false) at owned)
    ]
    in
    chosen_move c.requires.0 c.requires.1 other (omega arith) c.in_ok-i.ensures
