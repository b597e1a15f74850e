-- `tread` meets its contract.
use Rattle.std.proofs.Common.{◌≡◌, ℕ, ◌≤◌, List, sym, ap, ◌∙◌, add-one, arith}
use native.Mathlib.Nat.{le_antisymm}
use Rattle.model.specs.Cxl0.{Value}
use Rattle.entries.specs.declared.Site.{Site}
use Rattle.levels.specs.declared.Task.{Task}
use Rattle.levels.specs.Tasks.{Built}
use Rattle.segments.specs.Words.{segment_in}
use Rattle.segments.specs.declared.words.Block.{Block}
use Rattle.segments.specs.declared.words.Segment.{Segment}
use Rattle.blocks.specs.declared.treading.Stand.{Stand}
use Rattle.blocks.specs.Treading.{Treadable}
use Rattle.blocks.proofs.Stepping.{Underway, kept_under}
use Rattle.blocks.proofs.Treads.{underway_paid, still_paid, underway_event}
use Rattle.blocks.proofs.Treads.{built_kept, tread_starts, tread_ends}
use Rattle.blocks.proofs.treading.tread.Goals as goal

-- The segment is as it was, at the start of the loop and in each turn.
module _ {site : Site} {b : Block} {l : ℕ} {q : Task} {p : Stand} {s : Segment} {w w' : List ℕ}
    (task : Treadable site b l q p w) (is : s ≡ segment_in w l) (built : Built q s.first p.steps w w') where
  segment_built : s ≡ segment_in w' l
  segment_built = is ∙ sym ((built_kept task (rw is at built)).segments l)

  segment_under : {m : Value} {f t : ℕ} {p' : Stand} {w'' : List ℕ} → Underway site b l m q f t p w' p' w''
      → s ≡ segment_in w'' l
  segment_under under = segment_built ∙ sym ((kept_under task.low under).segments l)

-- The walk has come to the last gap.
at_end : {site : Site} {b : Block} {l : ℕ} {m : Value} {q : Task} {f t : ℕ} {p p' : Stand} {w w' : List ℕ}
    {s : Segment} → s ≡ segment_in w' l → s.end ≤ t → Underway site b l m q f t p w p' w'
    → Underway site b l m q f s.end p w p' w'
at_end is last under = rw (le_antisymm (rw (← is) at under.standing.to) last) at under

-- ---- the first levels

pub loop-t-init : goal.loop-t-init
loop-t-init c = rw c.requires.1 (tread_starts c.requires.0 (rw c.requires.1 at c.build.ensures))

-- ---- a turn of the loop: the steps of gap t, and its event

pub pay-paid-requires : goal.pay-paid-requires
pay-paid-requires c =
    let under = c.loop-t.invariant in
    let segment = segment_under c.requires.0 c.requires.1 c.build.ensures under in
    (under.payable, under.standing, ap (λ (s : Segment). s.copy) segment)

pub over_event-at-requires : goal.over_event-at-requires
over_event-at-requires c =
    let paid = underway_paid c.requires.0.low c.loop-t.invariant c.pay-paid.ensures in
    let segment = segment_under c.requires.0 c.requires.1 c.build.ensures paid in
    let inside = rw segment at c.loop-t-test.true in
    record {
      room = paid.payable.room;
      owner = paid.payable.owner;
      inside = omega (arith, inside, paid.payable.segment.inside, paid.payable.short);
      known = paid.payable.segment.known _ paid.standing.from inside;
      fits = paid.standing.fits;
    }

pub loop-t-preserved : goal.loop-t-preserved
loop-t-preserved c =
    let segment = segment_built c.requires.0 c.requires.1 c.build.ensures in
    let inside = rw segment at c.loop-t-test.true in
    rw (add-one c.loop-t.t)
    (underway_event c.requires.0.low c.loop-t.invariant c.pay-paid.ensures inside
    (rw segment at c.over_event-at.ensures))

-- ---- the last gap

pub pay-requires : goal.pay-requires
pay-requires c =
    let segment = segment_under c.requires.0 c.requires.1 c.build.ensures c.loop-t.invariant in
    let under = at_end segment c.loop-t-test.false c.loop-t.invariant in
    (under.payable, under.standing, ap (λ (s : Segment). s.copy) segment)

-- So it has walked through the segment.
pub returns : goal.returns
returns c =
    let pre = c.requires in
    let segment = segment_under pre.0 pre.1 c.build.ensures c.loop-t.invariant in
    let end = at_end segment c.loop-t-test.false c.loop-t.invariant in
    let under = underway_paid pre.0.low end c.pay.ensures in
    let still = still_paid pre.0.low end c.pay.ensures in
    tread_ends pre.0 (rw pre.1 at c.build.ensures) (rw pre.1 at under) (rw pre.1 at still)
