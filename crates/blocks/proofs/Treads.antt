-- The walk through a segment, gap by gap: the steps of each, and the event after it.
use Prim.Native.Nat.{ℕ, suc, ◌-◌, ◌≤◌, ◌<◌}
use native.Mathlib.Nat.{le_refl}
use native.Mathlib.Omega.{arith}
use mathlib.Core.Path.{◌≡◌, sym}
use mathlib.Core.List.{List}
use Rattle.model.specs.Cxl0.{Value}
use Rattle.entries.specs.Entries.{site_meant}
use Rattle.entries.specs.declared.Site.{Site}
use Rattle.scratch.specs.Layout.{STEPS, BACKS, OnlyIn}
use Rattle.scratch.specs.Words.{events_from}
use Rattle.scratch.proofs.Frames.{only_none, only_then, only_wider}
use Rattle.levels.specs.Tasks.{Built}
use Rattle.levels.specs.declared.Task.{Task}
use Rattle.segments.specs.Words.{segment_in}
use Rattle.segments.specs.declared.words.Block.{Block}
use Rattle.segments.proofs.Kept.{Kept, kept_events, kept_cost}
use Rattle.segments.proofs.Links.{memory_first}
use Rattle.blocks.specs.declared.treading.Stand.{Stand}
use Rattle.blocks.specs.Toward.{Still}
use Rattle.blocks.specs.Treading.{Payable, Standing, stood, Paid, Over, Treadable, Trodden}
use Rattle.blocks.proofs.Towards.{walked_area}
use Rattle.blocks.proofs.Keeping.{only_back, kept_both, payable_same, tasked_before}
use Rattle.blocks.proofs.Stepping.{Underway, underway_none, underway_then, kept_under, events_under}
use Rattle.blocks.proofs.Passing.{passed_standing, passed_walked}

-- ---- a gap and its event

module _ {site : Site} {b : Block} {l : ℕ} {m : Value} {q : Task} {f t : ℕ} {p : Stand} {w : List ℕ}
    {p' : Stand} {w' : List ℕ} (low : STEPS ≤ p.end) (under : Underway site b l m q f t p w p' w') where
  module _ {p'' : Stand} {w'' : List ℕ} (paid : Paid site b l m q t p' w' p'' w'') where
    -- The steps of the gap are noted.
    pub underway_paid : Underway site b l m q f t p w p'' w''
    underway_paid = underway_then low under paid.frame paid.standing paid.walked

    -- None is left to take.
    pub still_paid : Still (site_meant site) (events_from w t (b.end - t)) (stood w l p'') p''.steps
    still_paid = rw (← events_under low under t, ← (kept_under low under).segments l) paid.still

    -- The event after it comes next.
    pub underway_event : {on : Stand} → t < (segment_in w l).end → Over site t (segment_in w l).copy p'' w'' on
        → Underway site b l m q f (suc t) p w on w''
    underway_event {on} inside over =
        let now = underway_paid in
        let kept = kept_under low now in
        let still = rw (← events_under low now t, ← kept.segments l) at still_paid in
        let within = rw (← kept.segments l) at inside in
        let over_now = rw (← kept.segments l) at over in
        underway_then low now (only_none p''.end BACKS w'')
        (passed_standing now.payable now.standing within still over_now)
        (passed_walked now.payable now.standing within still over_now)

-- ---- a segment

module _ {site : Site} {b : Block} {l : ℕ} {q : Task} {p : Stand} {w : List ℕ} (task : Treadable site b l q p w)
    {w' : List ℕ} (built : Built q (segment_in w l).first p.steps w w') where
  -- The first levels leave events, segments and steps as they were.
  pub built_only : OnlyIn p.end BACKS w w'
  built_only =
      only_wider built.frame (omega (arith, task.space)) (omega (arith, task.payable.ready.few))

  pub built_kept : Kept w w'
  built_kept = kept_both built_only task.low (le_refl BACKS)

  built_payable : Payable site b l p.memory q w'
  built_payable = payable_same built_only task.low (le_refl BACKS) task.payable

  -- The walk stands at the first gap.
  built_standing : Standing site b l p.memory q (segment_in w l).first p w'
  built_standing =
      let first = (segment_in w l).first in
      let same = built_kept.segments l in
      let seg = task.payable.segment in
      let k = site_meant site in
      record {
        from = rw same (le_refl first);
        to = rw same seg.order;
        fits = task.fits;
        finite = task.finite;
        costs = rw same (kept_cost built_kept task.payable.short task.costs);
        low = task.low;
        space = task.space;
        held = λ copy. (
          rw same (sym (memory_first k w b l seg p.memory)),
          λ above.
              built.levels above _ (tasked_before built_only task.low (le_refl BACKS) task.payable),
        );
      }

  pub tread_starts : Underway site b l p.memory q (segment_in w l).first (segment_in w l).first p w' p w'
  tread_starts = underway_none built_payable built_standing

  -- It has walked through the segment where no step is left to take at the last gap.
  pub tread_ends : {p' : Stand} {w'' : List ℕ}
      → Underway site b l p.memory q (segment_in w l).first (segment_in w l).end p w' p' w''
      → Still (site_meant site) (events_from w' (segment_in w l).end (b.end - (segment_in w l).end)) (stood w' l p')
      p'.steps
      → Trodden site b l p w p' w''
  tread_ends {p'} {w''} under still =
      let short = task.payable.short in
      let same = built_kept.segments l in
      let events : (j : ℕ) → events_from w' j (b.end - j) ≡ events_from w j (b.end - j) =
      λ j. kept_events built_kept j (b.end - j) (λ some. omega arith) in
      let now = under.standing in
      let only = only_then built_only under.frame in
      let kept = kept_both only task.low (le_refl BACKS) in
      let back = kept_both (only_back only) task.low (le_refl BACKS) in
      record {
        frame = only;
        fits = now.fits;
        finite = now.finite;
        costs = rw (kept.segments l) at (kept_cost back short now.costs);
        space = (omega (arith, under.walked.ends), now.space);
        walked = walked_area events (rw same at under.walked);
        still = rw (events (segment_in w l).end, same) at still;
      }
