-- `segments::resting::rest` meets its contract.
use Rattle.std.proofs.Common.{min, ◌+◌, sym, ap, ◌∙◌}
use Rattle.segments.specs.Words.{CostsFit}
use Rattle.segments.specs.Costs.{plus}
use Rattle.segments.specs.declared.words.Costs.{Costs}
use Rattle.segments.proofs.Rests.{costs_fit}
use Rattle.segments.proofs.Rests.{Resting, resting_none, resting_same, resting_more, resting_spared, resting_end}
use Rattle.segments.proofs.resting.rest.Goals as goal

pub loop-l-init : goal.loop-l-init
loop-l-init c =
    let a = c.args in
    rw c.other-never.ensures (resting_none a.w.now a.b a.from a.m c.requires.orderly c.requires.here)

pub returns-then-get_value-m : goal.returns-then-get_value-m
returns-then-get_value-m c =
    let same = sym c.if-get_value-m.true ∙ c.get_value.ensures in
    let costs = ap (λ (r : Costs). plus c.loop-l.kept r.same) c.get_costs-costs.ensures in
    let sum = c.add.ensures ∙ costs in
    c.min.ensures
    ∙ ap (min c.other-never.result) sum
    ∙ sym (resting_same c.loop-l.invariant c.loop-l-test.true same)

-- What a segment costs fits.
pub add-kept-requires : goal.add-kept-requires
add-kept-requires c =
    let fit : CostsFit c.get_costs-costs.result =
    rw c.get_costs-costs.ensures (costs_fit c.args.w.now c.loop-l.l) in
    (c.loop-l.invariant.far, fit.keep)

-- The value is kept in one segment more.
pub loop-l-preserved : goal.loop-l-preserved
loop-l-preserved c =
    let costs = ap (λ (r : Costs). plus c.loop-l.kept r.keep) c.get_costs-costs.ensures in
    rw (c.add-kept.ensures ∙ costs)
    (resting_more c.loop-l.invariant c.requires.orderly c.loop-l-test.true
    (λ e. c.if-get_value-m.false (c.get_value.ensures ∙ sym e)))

pub returns-then-never-kept : goal.returns-then-never-kept
returns-then-never-kept c =
    let costs = ap (λ (r : Costs). plus c.loop-l.kept r.keep) c.get_costs-costs.ensures in
    let more :
    let a = c.args in
    Resting a.w.now a.b a.from a.m c.other-never.result (c.loop-l.l + 1) c.add-kept.result =
    rw (c.add-kept.ensures ∙ costs)
    (resting_more c.loop-l.invariant c.requires.orderly c.loop-l-test.true
    (λ e. c.if-get_value-m.false (c.get_value.ensures ∙ sym e)))
    in
    sym (resting_spared more c.if-never-kept.true)

pub returns : goal.returns
returns c =
    let sum = c.add-2.ensures ∙ ap (plus c.loop-l.kept) c.after_all.ensures in
    c.min-2.ensures
    ∙ ap (min c.other-never.result) sum
    ∙ sym (resting_end c.loop-l.invariant c.loop-l-test.false)
