-- `rows::set_crash_row` meets its contract: what the crash leaves of memory, and then of the copies.
use native.Mathlib.Nat.{lt_of_le_of_lt}
use mathlib.Core.Logic.Iff
use borrow.Author.Rules.{rules}
use Rattle.model.specs.Sharers.{remove_all}
use Rattle.model.proofs.Sharers.{remove_all_le}
use Rattle.masks.specs.Sets.{In, Exactly}
use Rattle.rows.proofs.FineRows.{row_to}
use Rattle.rows.proofs.set_crash_row.Goals as goal

pub returns : goal.returns
returns c d m h =
    let set = c.args.set in
    let kept = c.cleared_row in
    let any : Exactly c.map.result.any (λ t. In (remove_all set t) kept.result.any) = search rules in
    let one : Exactly c.map.result.one (λ t. In (remove_all set t) kept.result.one) = search rules in
    Iff.trans (kept.ensures (remove_all set d) m (lt_of_le_of_lt (remove_all_le set d) h))
    (row_to kept.result c.map.result c.map.ensures.value (remove_all set) any one d m h)
