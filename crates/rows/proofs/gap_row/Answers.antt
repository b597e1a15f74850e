-- `rows::gap_row` meets its contract: moves lead into the row, or a write-back does.
use mathlib.Core.Path.{refl}
use mathlib.Core.Logic.Iff
use mathlib.Core.Logic.{◌≢◌}
use lib.Bits.{bit_or}
use Rattle.rows.specs.Rows.{Fine}
use Rattle.rows.proofs.FineRows.{row, exactly_or}
use Rattle.rows.proofs.Gaps.{gap, closed}
use Rattle.rows.proofs.gap_row.Goals as goal

pub returns : goal.returns
returns c =
    let k = c.args.owner.0 in
    let l = c.requires.0 in
    let h = c.requires.1 in
    let u = c.args.u in
    let inner = c.args.inner in
    let moves = c.leading-by_moves in
    let fine = c.fine in
    let some = c.all_but_empty in
    let back = c.only_if-by_write_back in
    let one = c.leading in
    let r = row (bit_or moves.result back.result) one.result inner.value in
    let any = exactly_or moves.result back.result _ (λ d. (d ≢ 0) × Fine inner 0 u) moves.ensures
    (λ d b. Iff.trans (back.ensures d b) (Iff.and (some.ensures d b) fine.ensures)) in
    (gap k l h u inner r any one.ensures refl, closed k l h u inner r any one.ensures refl)
