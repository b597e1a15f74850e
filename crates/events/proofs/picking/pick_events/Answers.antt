-- `events::picking::pick_events` meets its contract. The loop's invariant: events are picked up to an index.
use Prim.Native.Nat.{◌<◌}
use native.Mathlib.Omega.{arith}
use mathlib.Core.Path.{◌≡◌}
use Rattle.model.specs.Cxl0.{Location}
use Rattle.scratch.specs.Layout.{EVENTS, ROWS, OnlyIn}
use Rattle.scratch.proofs.Frames.{only_none, only_then}
use Rattle.events.specs.Linking.{head_of}
use Rattle.events.specs.Picking.{nearer}
use Rattle.events.proofs.Copies.{copied_frame, linked_same, linked_back}
use Rattle.events.proofs.PickingLoop.{UpTo, pick_room, pick_none, pick_begun}
use Rattle.events.proofs.PickingLoop.{pick_more, pick_counts, pick_done}
use Rattle.events.proofs.picking.pick_events.Goals as goal
use Rattle.events.proofs.picking.pick_events.Goals.{After-pick_first-p, At-loop-p}

pub returns-then-m-first : goal.returns-then-m-first
returns-then-m-first c =
    record {
      frame = only_none EVENTS ROWS c.args.w.now;
      few = omega arith;
      thinned = λ es linked within. pick_none linked c.requires.x_bound within
          (rw c.head_of-head.ensures at c.if-m-first.true);
      operations = λ es linked within j h. absurd (omega arith);
    }

-- The first copy changes only the search's events.
first_frame : (c : After-pick_first-p) → OnlyIn EVENTS ROWS c.args.w.now c.pick_first-p.new.w
first_frame c =
    rw c.pick_first-p.ensures.w_after (copied_frame c.args.w.now _ 0 c.requires.linked.1.room (omega arith))

pub loop-p-init : goal.loop-p-init
loop-p-init c =
    let first = first_frame (goal.at.loop-p-init c).After-pick_first-p in
    let low : (x : Location) → c.head_of-head.result ≡ head_of x → x < 32 =
    λ x e. omega (arith, c.head_of-head.ensures, c.requires.x_bound) in (
      only_none EVENTS ROWS c.pick_first-p.new.w,
      λ x es e linked within. rw (c.pick_first-p.ensures.w_after, c.pick_first-p.ensures.value)
          (pick_begun (linked_back first linked) within _ (low x e) (rw e) c.if-m-first.false),
    )

-- The events of the log that is required are picked up to an index, since the first copy kept the log.
turn : (c : At-loop-p) → OnlyIn EVENTS ROWS c.args.w.now c.pick_first-p.new.w
    → UpTo c.requires.linked.0 c.args.x.0 c.args.m c.loop-p.p c.loop-p.w
turn c first =
    let pre = c.requires.linked in
    c.loop-p.invariant.1 c.args.x.0 pre.0 c.head_of-head.ensures (linked_same first pre.1) pre.2

pub pick_one-p-requires : goal.pick_one-p-requires
pick_one-p-requires c =
    let at = goal.at.pick_one-p-requires c in
    let up = turn at.At-loop-p (first_frame at.After-pick_first-p) in
    (up.linked.room, omega (arith, up.within, up.linked.few), pick_room up c.loop-p-test.true)

pub loop-p-smaller : goal.loop-p-smaller
loop-p-smaller c =
    let at = goal.at.loop-p-smaller c in
    let more = pick_more (turn at.At-loop-p (first_frame at.After-pick_first-p)) c.loop-p-test.true in
    let counted = pick_counts c.loop-p.p c.loop-p.w in
    rw c.pick_one-p.ensures.value (omega (arith, more.few, more.reached))

pub loop-p-preserved : goal.loop-p-preserved
loop-p-preserved c =
    let at = goal.at.loop-p-preserved c in
    let up = turn at.At-loop-p (first_frame at.After-pick_first-p) in
    let p = c.loop-p.p in
    let copy = copied_frame c.loop-p.w (nearer p) p.count up.linked.room
    (pick_room up c.loop-p-test.true) in (
      only_then c.loop-p.invariant.0 (rw c.pick_one-p.ensures.w_after copy),
      λ x es e linked within. rw (c.pick_one-p.ensures.w_after, c.pick_one-p.ensures.value)
          (pick_more (c.loop-p.invariant.1 x es e linked within) c.loop-p-test.true),
    )

pub returns : goal.returns
returns c =
    let at = goal.at.returns c in
    let first = first_frame at.After-pick_first-p in
    let up = turn at.At-loop-p first in
    let head = c.head_of-head.ensures in
    record {
      frame = only_then first c.loop-p.invariant.0;
      few = omega (arith, up.few, up.reached);
      thinned = λ es linked within.
          pick_done (c.loop-p.invariant.1 _ es head (linked_same first linked) within) c.loop-p-test.false;
      operations = λ es linked within. (c.loop-p.invariant.1 _ es head (linked_same first linked) within).operations;
    }
