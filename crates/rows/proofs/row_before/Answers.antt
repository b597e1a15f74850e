-- `rows::row_before` meets its contract: each arm is a line of the table.
use native.Mathlib.Omega.{arith}
use borrow.Author.Rules.{rules}
use Rattle.model.specs.Cxl0.{crashes}
use Rattle.model.specs.OneLocation.{enabled_at, effect}
use Rattle.model.specs.Operations.{event_of}
use Rattle.model.proofs.Operations.{operation_range, no_other}
use Rattle.entries.specs.Entries.{site_meant}
use Rattle.rows.specs.Sites.{NamesSix}
use Rattle.rows.proofs.RowSteps.{copy_load}
use Rattle.rows.proofs.Lines.{line_any, line_none}
use Rattle.rows.proofs.row_before.Goals as goal

-- The machine of a known event that names one.
pub alone-requires : goal.alone-requires
unfolding event_of NamesSix
alone-requires c = rw c.in-1.is at c.requires.known.machines

pub load_row-requires : goal.load_row-requires
unfolding event_of NamesSix
load_row-requires c =
    let e = c.args.e in
    let x = c.args.site.location.0 in
    let copies = copy_load x c.args.u e.machine.0 e.location.0 e.value in
    record {
      one_to_six = rw c.in-4.is at c.requires.known.machines;
      closed = rw (c.in-4.is, copies) at c.requires.closed;
    }

pub l_flush_row-requires : goal.l_flush_row-requires
unfolding event_of NamesSix
l_flush_row-requires c = rw c.in-5.is at c.requires.known.machines

pub crash_row-requires : goal.crash_row-requires
unfolding event_of NamesSix
crash_row-requires c =
    rw c.in-7.is at c.requires.known.machines

pub alone-requires-in-8 : goal.alone-requires-in-8
unfolding event_of NamesSix
alone-requires-in-8 c = rw c.in-8.is at c.requires.known.machines

pub returns-in-1 : goal.returns-in-1
unfolding event_of enabled_at effect
returns-in-1 c =
    let key = c.in-1.is in
    let row = rw c.alone.ensures.0 at c.store_row.ensures in
    rw key (λ d m h. line_any (row d m h))

pub returns-in-2 : goal.returns-in-2
unfolding event_of enabled_at effect
returns-in-2 c =
    let key = c.in-2.is in
    let row = rw c.alone-in-2.ensures.0 at c.store_row-in-2.ensures in
    rw key (λ d m h. line_any (row d m h))

pub returns-in-3 : goal.returns-in-3
unfolding event_of enabled_at effect
returns-in-3 c = rw c.in-3.is (λ d m h. line_any (c.m_store_row.ensures d m h))

pub returns-in-4 : goal.returns-in-4
unfolding event_of
returns-in-4 c =
    let a = c.args in
    rw c.in-4.is (c.load_row.ensures (site_meant a.site) a.e.location.0)

pub returns-in-5 : goal.returns-in-5
unfolding event_of enabled_at effect
returns-in-5 c = rw c.in-5.is c.l_flush_row.ensures

pub returns-in-6 : goal.returns-in-6
unfolding event_of enabled_at effect
returns-in-6 c = rw c.in-6.is (λ d m h. line_none d (c.r_flush_row.ensures d m h))

pub returns-in-7 : goal.returns-in-7
unfolding event_of enabled_at effect crashes
returns-in-7 c =
    rw (c.in-7.is, ← c.eq.ensures) (λ d m h. line_any (c.crash_row.ensures d m h))

pub returns-in-8 : goal.returns-in-8
unfolding event_of enabled_at effect
returns-in-8 c =
    let key = c.in-8.is in
    let row = rw c.alone-in-8.ensures.0 at c.rmw_row.ensures in
    rw key row

pub returns-in-9 : goal.returns-in-9
unfolding event_of enabled_at effect
returns-in-9 c =
    let key = c.in-9.is in
    let row = rw c.alone-in-9.ensures.0 at c.rmw_row-in-9.ensures in
    rw key row

pub returns-in-10 : goal.returns-in-10
unfolding event_of enabled_at effect
returns-in-10 c = rw c.in-10.is c.m_rmw_row.ensures

pub returns-in-11 : goal.returns-in-11
unfolding event_of enabled_at effect crashes
returns-in-11 c =
    rw (c.in-11.is, ← c.holds.ensures) (λ d m h. line_any (c.set_crash_row.ensures d m h))

-- No operation has another number.
pub returns-in-0 : goal.returns-in-0
returns-in-0 c = absurd (omega (arith, operation_range c.requires.known.operation))

pub returns-in-12-to-255 : goal.returns-in-12-to-255
returns-in-12-to-255 c = absurd (no_other c.requires.known.operation (search rules))
