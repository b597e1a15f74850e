-- `crashed` meets its contract.
use native.Mathlib.Nat.{le_refl}
use native.Mathlib.Omega.{arith}
use mathlib.Core.Path.{◌≡◌, refl, sym, ap, ap₂, ◌∙◌}
use lib.ListN.{length, length-set}
use Rattle.std.proofs.lemmas.Grind.{common_steps}
use Rattle.model.specs.OneLocation.{Site}
use Rattle.model.specs.Meaning.{meant}
use Rattle.entries.specs.Entries.{acted_by, masked_to}
use Rattle.entries.specs.declared.Entry as entry
use Rattle.model.proofs.Limits.{mapped}
use Rattle.states.specs.States.{entry_at}
use Rattle.states.proofs.Homes.{site_found}
use Rattle.states.proofs.Crashes.{crash_numbers, done, entry_made}
use Rattle.states.proofs.State.crashed.Goals as goal

pub loop-at-init : goal.loop-at-init
unfolding entry_at
loop-at-init c =
    let room : length c.args.self.entries ≡ 32 = search mapped in
    (room, λ y k. absurd (omega arith), λ y k. refl)

pub loop-at-preserved : goal.loop-at-preserved
loop-at-preserved c =
    let h = c.args in
    let l = c.loop-at in
    let (sized, before, after) = l.invariant in
    let homes : length h.t.homes ≡ 32 = search (mapped, c.well_formed.1) in
    let site-is = site_found h.t homes l.at c.home_if-home.ensures c.at-site.ensures.0 in
    let held = c.masked.ensures ∙ ap (masked_to h.t.machines) (after l.at (le_refl l.at)) in
    let acts = c.act.ensures ∙ ap₂ (λ (k : Site) (m : entry.Entry). acted_by k h.e m) site-is held in
    let made = entry_made h.t h.e l.at (entry_at h.self l.at) (crash_numbers h.e c.requires).0 acts in (
      length-set l.entry-items _ _ ∙ sized,
      λ y k. grind (arith, common_steps, made, before y),
      λ y k. grind (arith, common_steps, after y),
    )

pub returns : goal.returns
unfolding entry_at
returns c =
    let room : length c.args.self.entries ≡ 32 = search mapped in
    let (sized, before, after) = c.loop-at.invariant in
    let crash = (crash_numbers c.args.e c.requires).1 in
    done c.args.t (meant c.args.e) c.args.self _ crash (sized ∙ sym room) (λ y k. before y (omega arith))
