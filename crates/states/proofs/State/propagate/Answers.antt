-- `propagate` meets its contract: what the code tests is whether the topology admits the step.
use mathlib.Core.Path.{◌≡◌, refl, sym}
use lib.ListN.{length}
use Rattle.model.specs.Cxl0.{named}
use Rattle.model.specs.OneLocation.{concerns, silent_at}
use Rattle.model.proofs.Limits.{mapped}
use Rattle.states.specs.States.{entry_at}
use Rattle.states.proofs.Effects.{admits}
use Rattle.states.proofs.Settled.{settled, turned_away, named_in}
use Rattle.states.proofs.State.propagate.Goals as goal

pub returns-then-not-names : goal.returns-then-not-names
unfolding admits named concerns silent_at
returns-then-not-names c =
    let room : length c.args.self.entries ≡ 32 = search mapped in
    turned_away _ _ _ _ (λ y. refl) room (sym c.if-not-names.ensures) refl

pub returns : goal.returns
unfolding admits named concerns silent_at entry_at
returns c =
    let room : length c.args.self.entries ≡ 32 = search (mapped, c.well_formed) in
    let acts = rw (c.of.ensures.0, c.of.ensures.1, c.masked.ensures) at c.propagate-made.ensures in
    settled _ _ _ _ (λ y. refl) room (sym c.if-not-names.ensures) acts c.then_some.ensures

pub bounds-self-x : goal.bounds-self-x
bounds-self-x c =
    let homes : length c.args.t.homes ≡ 32 = search mapped in
    named_in c.args.t homes _ c.args.i.0 (sym c.if-not-names.ensures)
