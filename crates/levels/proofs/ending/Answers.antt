-- `levels::ending` meets its contract, by how the stretch closes.
use Rattle.levels.proofs.Endings.{beside, asks_nothing, reads_either}
use Rattle.levels.proofs.ending.Goals as goal

pub returns-in-Open : goal.returns-in-Open
returns-in-Open c = rw c.in-Open.is (beside _ _ c.if-level-q.false (asks_nothing _ c.all.ensures))

pub returns-then-reads : goal.returns-then-reads
returns-then-reads c =
    rw (c.in-Same.is, ← c.reads.ensures, c.if-reads.true)
    (beside _ _ c.if-level-q.false (reads_either _ c.all-then-reads.ensures))
