-- `shorten` meets its contract. The loop's invariant: the walk is under way, and has come to `at` from the last known
-- place without a silent step. Each turn either goes on from the same known place, or comes to a later one.
use Prim.Native.Nat.{ℕ}
use native.Mathlib.Omega.{arith}
use mathlib.Core.Path.{◌≡◌, ap, ◌∙◌}
use mathlib.Core.Logic.{◌⊎◌, inl, inr, ⊎_elim}
use mathlib.Core.Bool.{Bool, true, ◌&&◌, ◌||◌}
use lib.Dec.{eqb, eqb→eq}
use Rattle.model.specs.Meaning.{meant}
use Rattle.model.proofs.Tests.{and_l, and_r, or_cases, T→true, true→T}
use Rattle.scratch.specs.Words.{event_in}
use Rattle.scratch.proofs.Events.{meant_read}
use Rattle.walking.specs.Acting.{Acts}
use Rattle.blocks.specs.Splitting.{waypoint_at, kind_of}
use Rattle.search.proofs.Shortenings.{walking_none, walking_room, walking_known}
use Rattle.search.proofs.Shortenings.{walking_more, walking_fixed, walking_blockable, walking_crossed}
use Rattle.search.proofs.Shortenings.{walking_explainable, shortened_none, shortened_all}
use Rattle.search.proofs.shortening.shorten.Goals as goal

pub overflow_add-known : goal.overflow_add-known
overflow_add-known c = omega (arith, c.requires.explainable.short)

pub loop-at-init : goal.loop-at-init
loop-at-init c =
    let a = c.args in
    walking_none a.site a.events a.count a.w.now

pub get_event-e-requires : goal.get_event-e-requires
get_event-e-requires c =
    (walking_room c.requires c.loop-at.invariant, omega (arith, c.requires.explainable.few, c.loop-at-test.true))

pub act_at-made-requires-clause-one_to_six : goal.act_at-made-requires-clause-one_to_six
act_at-made-requires-clause-one_to_six c = c.requires.explainable.placed.describes.machine

pub act_at-made-requires-clause-known : goal.act_at-made-requires-clause-known
act_at-made-requires-clause-known c =
    rw c.get_event-e.ensures (walking_known c.requires c.loop-at.invariant c.loop-at.at.gap c.loop-at-test.true)

pub act_at-made-requires-clause-code_bound : goal.act_at-made-requires-clause-code_bound
act_at-made-requires-clause-code_bound c = rw c.from.ensures c.loop-at.invariant.free.fits

-- ---- the event is enabled
pub of-requires : goal.of-requires
of-requires c =
    rw c.get_event-e.ensures (walking_known c.requires c.loop-at.invariant c.loop-at.at.gap c.loop-at-test.true)

pub overflow_add-next : goal.overflow_add-next
overflow_add-next c =
    omega (arith, c.requires.explainable.few, c.loop-at-test.true)

-- What the test of the program says of the event's kind and the places.
fixed-cases : (ends : Bool) (p q code : ℕ) → (ends || (eqb p q && eqb code 0)) ≡ true
    → (ends ≡ true) ⊎ ((p ≡ q) × (code ≡ 0))
fixed-cases ends p q code t =
    ⊎_elim
    (λ h. inl (T→true h))
    (λ h. inr (eqb→eq p q (and_l (eqb p q) (eqb code 0) h), eqb→eq code 0 (and_r (eqb p q) (eqb code 0) h)))
    (or_cases ends (eqb p q && eqb code 0) (true→T t))

pub loop-at-smaller-then-fixed : goal.loop-at-smaller-then-fixed
loop-at-smaller-then-fixed c =
    omega (arith, c.loop-at.invariant.free.on, c.loop-at-test.true)

pub loop-at-preserved-then-fixed : goal.loop-at-preserved-then-fixed
loop-at-preserved-then-fixed c =
    let read : meant c.get_event-e.result ≡ event_in c.loop-at.w c.loop-at.at.gap =
    meant_read c.loop-at.w c.loop-at.at.gap c.get_event-e.result c.get_event-e.ensures in
    let answer :
    Acts c.args.site (event_in c.loop-at.w c.loop-at.at.gap) c.loop-at.at.copy
    (waypoint_at c.loop-at.at) c.act_at-made.result =
    rw (read, c.from.ensures) at c.act_at-made.ensures in
    let kind = c.of.ensures ∙ ap (kind_of c.loop-at.at.copy) read in
    walking_fixed c.requires c.loop-at.invariant c.loop-at-test.true answer c.if-made.true
    (fixed-cases _ c.loop-at.known.gap c.loop-at.at.gap c.loop-at.at.code
    (rw (c.ends_block.ensures, kind) at c.if-fixed.true))

pub loop-at-smaller-else-fixed : goal.loop-at-smaller-else-fixed
loop-at-smaller-else-fixed c =
    omega (arith, c.loop-at-test.true)

pub loop-at-preserved-else-fixed : goal.loop-at-preserved-else-fixed
loop-at-preserved-else-fixed c =
    let read : meant c.get_event-e.result ≡ event_in c.loop-at.w c.loop-at.at.gap =
    meant_read c.loop-at.w c.loop-at.at.gap c.get_event-e.result c.get_event-e.ensures in
    let answer :
    Acts c.args.site (event_in c.loop-at.w c.loop-at.at.gap) c.loop-at.at.copy
    (waypoint_at c.loop-at.at) c.act_at-made.result =
    rw (read, c.from.ensures) at c.act_at-made.ensures in
    walking_more c.requires c.loop-at.invariant c.loop-at-test.true answer c.if-made.true

-- ---- the event is not enabled
pub block-requires : goal.block-requires
block-requires c =
    walking_blockable c.requires c.loop-at.invariant c.loop-at-test.true

pub explain-requires : goal.explain-requires
explain-requires c =
    walking_explainable c.requires c.loop-at.invariant c.in_default.ensures

pub returns-in_default : goal.returns-in_default
returns-in_default c =
    shortened_none c.requires c.loop-at.invariant c.in_default.ensures c.loop-at-test.true
    c.explain.ensures

pub loop-at-smaller : goal.loop-at-smaller
loop-at-smaller c =
    let crossed = c.in-Some.ensures.crossed in
    omega (
      arith,
      crossed.on,
      crossed.most,
      c.loop-at-test.true,
      c.requires.explainable.few,
      c.loop-at.invariant.free.on,
    )

pub loop-at-preserved : goal.loop-at-preserved
loop-at-preserved c =
    walking_crossed c.requires c.loop-at.invariant c.in-Some.ensures

-- ---- after all events
pub overflow_sub-result : goal.overflow_sub-result
overflow_sub-result c = omega (arith, c.loop-at.invariant.reached.ends)

pub returns : goal.returns
returns c =
    shortened_all c.requires c.loop-at.invariant c.loop-at-test.false
