-- `at_location` meets its contract: what the code tests is whether the topology admits the event.
use mathlib.Core.Path.{◌≡◌, refl, sym, ap₂, ◌∙◌}
use lib.ListN.{length}
use Rattle.model.specs.OneLocation.{Site}
use Rattle.entries.specs.Entries.{acted_by}
use Rattle.entries.specs.declared.Entry as entry
use Rattle.entries.specs.declared.Acted as acted
use Rattle.model.proofs.Limits.{mapped}
use Rattle.states.specs.States.{entry_at}
use Rattle.states.proofs.Settled.{settled, turned_away, located, named_in, alone, admitted, acts}
use Rattle.states.proofs.State.at_location.Goals as goal

pub returns-then-not-names : goal.returns-then-not-names
returns-then-not-names c =
    let at = located c.args.e.operation c.requires in
    let room : length c.args.self.entries ≡ 32 = search mapped in
    turned_away _ _ _ _ (alone c.args.t c.args.e at) room
    (admitted c.args.t c.args.e at ∙ sym c.if-not-names.ensures) refl

pub returns : goal.returns
unfolding entry_at
returns c =
    let at = located c.args.e.operation c.requires in
    let room : length c.args.self.entries ≡ 32 = search (mapped, c.well_formed) in
    let act : Site → entry.Entry → acted.Acted = λ k held. acted_by k c.args.e held in
    let made = c.act-made.ensures ∙ ap₂ act c.of.ensures.0 c.masked.ensures in
    settled _ _ _ _ (alone c.args.t c.args.e at) room
    (admitted c.args.t c.args.e at ∙ sym c.if-not-names.ensures)
    (acts c.args.t c.args.e at _ _ made) c.then_some.ensures

pub bounds-self-x : goal.bounds-self-x
bounds-self-x c =
    let homes : length c.args.t.homes ≡ 32 = search mapped in
    named_in c.args.t homes _ c.args.e.machine.0 (sym c.if-not-names.ensures)
