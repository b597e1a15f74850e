-- `split` meets its contract: the loop cuts one event after another.
use Rattle.std.proofs.Common.{◌≡◌, ◌≢◌, Bool, true, false, refl, sym, ◌∙◌, rules}
use mathlib.Core.Logic.{inl, inr}
use denote.Enum.Bare.{sameb, same_true, same_false}
use Rattle.blocks.specs.contracts.splitting.Kind.{the_type}
use Rattle.blocks.specs.declared.splitting.Kind.{Kind}
use Rattle.blocks.proofs.Splits.{split_end, known_event, again_inside, again_reset, again_store, split_known}
use Rattle.blocks.proofs.splitting.split.Goals as goal
use Rattle.blocks.proofs.splitting.split.Goals.{then-eq+then-s-eq-NONE+then-resets, then-eq+else-s-eq-NONE}
use Rattle.blocks.proofs.splitting.split.Goals.{else-s-eq-NONE-via-then-s-eq-NONE+else-resets}
use Rattle.blocks.proofs.splitting.split.Goals.{else-s-eq-NONE-via-else-s-eq-NONE}
use Rattle.blocks.proofs.splitting.split.Goals.{else-eq+else-ends_block}

-- ---- the test of a kind

same : (a b : Kind) {r : Bool} → r ≡ sameb the_type a b → r ≡ true → a ≡ b
same a b is test = same_true the_type (search rules) a b (sym is ∙ test)

differs : (a b : Kind) {r : Bool} → r ≡ sameb the_type a b → r ≡ false → a ≢ b
differs a b is test = same_false the_type a b (sym is ∙ test)

-- ---- the event is known

pub of-what-requires : goal.of-what-requires
of-what-requires c =
    known_event c.requires c.loop-t.invariant c.loop-t-test.true c.get_event-e.ensures refl

pub resets-requires : goal.resets-requires
resets-requires c = (
  known_event c.requires c.loop-t.invariant c.loop-t-test.true c.get_event-e.ensures refl,
  c.requires.owner,
)

pub act_at-made-requires-clause-known : goal.act_at-made-requires-clause-known
act_at-made-requires-clause-known c =
    known_event c.requires c.loop-t.invariant c.loop-t-test.true c.get_event-e.ensures refl

-- ---- the segment is put

pub returns-then-ends_block : goal.returns-then-ends_block
returns-then-ends_block c =
    rw c.forced.ensures
    (split_known c.requires c.loop-t.invariant c.loop-t-test.true
    c.get_event-e.ensures c.of-what.ensures (differs _ _ c.eq.ensures c.if-eq.false)
    (rw c.closing-s.ensures at c.put_segment.ensures) (rw c.ends_block.ensures at c.if-ends_block.true))

-- ---- the next turn

pub loop-t-preserved : goal.loop-t-preserved
loop-t-preserved c =
    let start = c.requires in
    let at = c.loop-t.invariant in
    let more = c.loop-t-test.true in
    let read = c.get_event-e.ensures in
    let what = c.of-what.ensures in
    elim c.if-eq.branch [
      | then-eq+then-s-eq-NONE+then-resets w ↦
          rw (w.w-is, w.l-is, w.s-is)
          (again_reset start at more read what (same _ _ c.eq.ensures w.if-eq.true) w.if-s-eq-NONE.true
          (rw w.resets.ensures at w.if-resets.true))
      | then-eq+else-s-eq-NONE w ↦
          rw (w.w-is, w.l-is, w.s-is)
          (again_inside start at more read what (same _ _ c.eq.ensures w.if-eq.true)
          (elim w.else-s-eq-NONE.branch [
            | else-s-eq-NONE-via-then-s-eq-NONE+else-resets v ↦ inr (rw v.resets.ensures at v.if-resets.false)
            | else-s-eq-NONE-via-else-s-eq-NONE v ↦ inl v.if-s-eq-NONE.false
          ]))
      | else-eq+else-ends_block w ↦
          rw (w.w-is, w.l-is, w.s-is)
          (again_store start at more read what (differs _ _ c.eq.ensures w.if-eq.false)
          (rw w.closing-s.ensures at w.put_segment.ensures) (rw w.ends_block.ensures at w.if-ends_block.false)
          w.act_at-made.ensures)
    ]

-- ---- the events are at their end

pub returns : goal.returns
returns c = split_end c.requires c.loop-t.invariant c.loop-t-test.false c.put_segment-2.ensures
