-- `segments::backing::fill_backs` meets its contract.
use Rattle.std.proofs.Common.{◌⊎◌, inl, inr, ◌≡◌, ℕ, ◌+◌, ◌-◌, List, refl, sym, ap, ◌∙◌, arith, length-take, length-drop}
use lib.ListN.{set, length, take, drop, replicate}
use Rattle.entries.specs.declared.Site.{Site}
use Rattle.scratch.specs.Layout.{BACKS}
use Rattle.segments.specs.Words.{segment_in}
use Rattle.segments.specs.Weighing.{Backable}
use Rattle.segments.specs.declared.words.Segment.{Segment}
use Rattle.segments.specs.declared.words.Block.{Block}
use Rattle.segments.proofs.WriteBacks.{Fillable, Turn, resetting, stopping, passing}
use Rattle.segments.proofs.WriteBacks.{fill_room, fill_known, fill_read}
use Rattle.segments.proofs.WriteBacks.{fill_last, fill_more, fill_reaches, fill_rest}
use Rattle.segments.proofs.backing.fill_backs.Goals as goal
use Rattle.segments.proofs.backing.fill_backs.Goals.{then-resets, else-resets+then-e-eq4+then-site-s, else-resets+else-e-eq4}
use Rattle.segments.proofs.backing.fill_backs.Goals.{else-e-eq4-via-then-e-eq4+else-site-s, else-e-eq4-via-else-e-eq4}

-- The segment at hand, with the number of its last gap.
fillable : {site : Site} {b : Block} {l : ℕ} {s : Segment} {back zeta : ℕ} {w : List ℕ}
    → Backable site b l back zeta w → s ≡ segment_in w l
    → Fillable site b l s back zeta w (set w (BACKS + s.end) back)
fillable ready segment = record { ready = ready; segment = segment; last = refl }

pub loop-t-init : goal.loop-t-init
loop-t-init c = (omega arith, fill_last (fillable c.requires.0 c.requires.1) c.with-bounds.ensures)

pub resets-requires : goal.resets-requires
resets-requires c =
    let can = fillable c.requires.0 c.requires.1 in
    let filling = c.loop-t.invariant.1 in
    let t = c.loop-t.t - 1 in
    let same = fill_read can filling t (omega (arith, (fill_room can filling).1)) in
    let first = fill_reaches can filling c.loop-t-test.true in
    let known = fill_known can t (omega arith) (omega (arith, filling.inside)) in
    (rw (c.get_event-e.ensures ∙ same) known, c.requires.2)

-- The turn is what the code makes of the event.
pub loop-t-preserved : goal.loop-t-preserved
loop-t-preserved c =
    let can = fillable c.requires.0 c.requires.1 in
    let so = c.loop-t.invariant.1 in
    let read = c.get_event-e in
    let is = sym c.resets.ensures in
    let turn : Turn c.args.site c.args.s read.result c.loop-t.now c.loop-t.again c.loop-t.bounds
    c.if-resets.now c.if-resets.again c.if-resets.bounds =
    elim c.if-resets.branch [
      | then-resets w ↦
          rw (w.now-is, w.again-is, w.bounds-is)
          (resetting (is ∙ w.if-resets.true) w.with-bounds-then-resets.ensures)
      | else-resets+then-e-eq4+then-site-s w ↦
          rw (w.now-is, w.again-is, w.bounds-is)
          (stopping (is ∙ w.if-resets.false) w.if-e-eq4.true w.if-site-s.true)
      | else-resets+else-e-eq4 w ↦
          let free : (¬ (c.get_event-e.result.operation ≡ 4)) ⊎ (c.args.site.initial ≡ c.args.s.copy) =
          elim w.else-e-eq4.branch [
            | else-e-eq4-via-then-e-eq4+else-site-s v ↦ inr v.if-site-s.false
            | else-e-eq4-via-else-e-eq4 v ↦ inl v.if-e-eq4.false
          ]
          in
          rw (w.now-is, w.again-is, w.bounds-is) (passing (is ∙ w.if-resets.false) free)
    ]
    in
    (omega arith, fill_more can (fill_reaches can so c.loop-t-test.true) so read.result read.ensures turn)

-- ---- from there to the first gap
pub returns : goal.returns
returns c =
    let so = c.loop-t.invariant.1 in
    let can = fillable c.requires.0 c.requires.1 in
    let from = BACKS + c.args.s.first in
    let n = BACKS + c.min.result - from in
    let reached : c.args.s.first + n ≡ c.loop-t.t =
    omega (arith, c.min.ensures, c.loop-t.invariant.0, so.inside, so.order) in
    let fits : length (take n (drop from c.loop-t.w)) ≡ n =
    simp (length-take, length-drop) (omega (arith, fill_room can so)) in
    let filled = c.fill.ensures.after (λ y e. e) ∙ ap (λ (m : ℕ). replicate m c.loop-t.now) fits in
    fill_rest can c.loop-t-test.false so n reached _ filled
