-- `write_back` meets its contract: what the code tests is whether the topology admits the step.
use mathlib.Core.Path.{◌≡◌, refl}
use mathlib.Core.Bool.{true, false, ◌&&◌}
use borrow.Author.Rules.{rules}
use lib.ListN.{length}
use Rattle.model.specs.Cxl0.{named, is_location}
use Rattle.model.specs.Meaning.{topology_of, within_limits}
use Rattle.model.specs.OneLocation.{concerns, silent_at}
use Rattle.model.proofs.Limits.{mapped}
use Rattle.states.specs.States.{entry_at}
use Rattle.states.proofs.Effects.{admits}
use Rattle.states.proofs.Settled.{settled, turned_away, listed_in}
use Rattle.states.proofs.State.write_back.Goals as goal

pub returns-then-not-is_location : goal.returns-then-not-is_location
unfolding admits named concerns silent_at
returns-then-not-is_location c =
    let room : length c.args.self.entries ≡ 32 = search mapped in
    let tested : (within_limits c.args.t && is_location (topology_of c.args.t) c.args.x.0) ≡ false = search rules in
    turned_away _ _ _ _ (λ y. refl) room tested refl

pub returns : goal.returns
unfolding admits named concerns silent_at entry_at
returns c =
    let room : length c.args.self.entries ≡ 32 = search (mapped, c.well_formed) in
    let acts = rw (c.of.ensures.0, c.of.ensures.1, c.masked.ensures) at c.write_back-made.ensures in
    let tested : (within_limits c.args.t && is_location (topology_of c.args.t) c.args.x.0) ≡ true = search rules in
    settled _ _ _ _ (λ y. refl) room tested acts c.then_some.ensures

pub bounds-self-x : goal.bounds-self-x
bounds-self-x c =
    let homes : length c.args.t.homes ≡ 32 = search mapped in
    let tested : (within_limits c.args.t && is_location (topology_of c.args.t) c.args.x.0) ≡ true = search rules in
    listed_in c.args.t homes _ tested
