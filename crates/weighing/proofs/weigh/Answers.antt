-- `weigh` finds a sound verdict.
use Rattle.weighing.specs.Visiting.{Visited}
use Rattle.weighing.proofs.Concluding.{concluded_impossible, steps_listed, concluded_allowed}
use Rattle.weighing.proofs.weigh.Goals as goal

pub returns-then-p-events : goal.returns-then-p-events
returns-then-p-events c =
    let visited : Visited c.args.t c.args.events c.args.t.locations c.args.w.now
    c.visit_all-p.result c.visit_all-p.new.w =
    c.visit_all-p.ensures in
    concluded_impossible c.requires visited c.if-p-events.true

pub order-requires : goal.order-requires
order-requires c =
    let visited : Visited c.args.t c.args.events c.args.t.locations c.args.w.now
    c.visit_all-p.result c.visit_all-p.new.w =
    c.visit_all-p.ensures in
    steps_listed c.requires visited c.if-p-events.false

pub returns : goal.returns
returns c =
    let visited : Visited c.args.t c.args.events c.args.t.locations c.args.w.now
    c.visit_all-p.result c.visit_all-p.new.w =
    c.visit_all-p.ensures in
    concluded_allowed c.requires visited c.if-p-events.false c.order.ensures
