-- `explain` meets its contract. The loop's invariant: after t events, the walk stands at p.
use native.Mathlib.Numerals.{add-one}
use native.Mathlib.Omega.{arith}
use mathlib.Core.Path.{◌≡◌}
use Rattle.search.proofs.Explanations.{Explaining, explaining_none, explaining_since, explaining_end}
use Rattle.search.proofs.Explanations.{explaining_continues, explaining_more, explaining_ends}
use Rattle.search.proofs.Explanations.{explaining_all}
use Rattle.search.proofs.explaining.explain.Goals as goal

pub put_copy-requires : goal.put_copy-requires
put_copy-requires c = (c.requires.room, omega arith)

pub overflow_add-p : goal.overflow_add-p
overflow_add-p c = omega (arith, c.requires.short)

pub loop-t-init : goal.loop-t-init
loop-t-init c =
    let a = c.args in
    explaining_none a.site a.count c.put_copy.ensures

pub go_on-requires : goal.go_on-requires
go_on-requires c =
    let a = c.args in
    let since : Explaining a.site a.count a.w.now c.loop-t.t c.loop-t.p c.loop-t.w =
    explaining_since a.site a.count c.put_copy.ensures c.loop-t.invariant in
    explaining_continues a.site a.events a.count a.w.now c.requires since
    c.loop-t-test.true

pub returns-in_default : goal.returns-in_default
returns-in_default c =
    let a = c.args in
    let since : Explaining a.site a.count a.w.now c.loop-t.t c.loop-t.p c.loop-t.w =
    explaining_since a.site a.count c.put_copy.ensures c.loop-t.invariant in
    explaining_ends a.site a.events a.count a.w.now c.requires since
    c.loop-t-test.true c.in_default.ensures

pub loop-t-preserved : goal.loop-t-preserved
loop-t-preserved c =
    rw (add-one c.loop-t.t) (explaining_more c.loop-t.invariant c.requires.short c.in-Some.ensures)

pub overflow_sub-result : goal.overflow_sub-result
overflow_sub-result c = explaining_end c.loop-t.invariant

pub returns : goal.returns
returns c =
    let a = c.args in
    let since : Explaining a.site a.count a.w.now c.loop-t.t c.loop-t.p c.loop-t.w =
    explaining_since a.site a.count c.put_copy.ensures c.loop-t.invariant in
    let all : c.loop-t.t ≡ a.events = omega arith in
    (explaining_all a.site a.events a.count a.w.now c.requires (rw all at since))
