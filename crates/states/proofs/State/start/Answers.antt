-- `start` meets its contract.
use native.Mathlib.Omega.{arith}
use mathlib.Core.Path.{◌≡◌, ap, ◌∙◌}
use lib.ListN.{length, length-set}
use Rattle.std.proofs.lemmas.Grind.{common_steps}
use Rattle.model.specs.Cxl0.{Home, initial}
use Rattle.model.specs.Meaning.{topology_of}
use Rattle.entries.specs.Entries.{start_entry}
use Rattle.states.specs.States.{state_of}
use Rattle.model.proofs.Limits.{mapped}
use Rattle.states.proofs.Homes.{home_found}
use Rattle.states.proofs.Starts.{all_filled, begun}
use Rattle.states.proofs.State.start.Goals as goal

pub loop-at-preserved : goal.loop-at-preserved
unfolding initial
loop-at-preserved c =
    let room : length c.args.t.homes ≡ 32 = search mapped in
    let home = c.home_if-h.ensures ∙ home_found c.args.t room c.loop-at.at in
    let value : c.start.result ≡ start_entry (initial (topology_of c.args.t) c.loop-at.at) =
    c.start.ensures ∙ ap (λ (h : Home). start_entry h.initial) home in
    let before = c.loop-at.invariant in
    (length-set c.loop-at.entry-items _ _ ∙ before.0, λ y k. grind (arith, common_steps, value, before.1 y))

pub returns : goal.returns
returns c =
    let room : length c.args.t.homes ≡ 32 = search mapped in
    let l = c.loop-at in
    let all = all_filled c.args.t l.entry-items l.invariant.0 (λ y k. l.invariant.1 y (omega arith)) in
    record { result_value = ap (state_of c.args.t) all ∙ begun c.args.t room; whole = all }
