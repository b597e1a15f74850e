-- `rows::is_empty` meets its contract.
use lib.Bits.{bit_or}
use lib.Dec.{eqb, eqb→eq}
use Rattle.model.proofs.Tests.{by_test, true→T, T→true, ne_test}
use Rattle.rows.proofs.FineRows.{row_none, row_some}
use Rattle.rows.proofs.is_empty.Goals as goal

pub returns : goal.returns
returns c =
    let row = c.args.row in
    let both = bit_or row.any row.one in (
      λ e. row_none row (eqb→eq both 0 (true→T e)),
      λ none. by_test (eqb both 0) T→true (λ t. absurd (row_some row (ne_test both 0 t) none)),
    )
