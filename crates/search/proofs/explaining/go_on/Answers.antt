-- `search::explaining::go_on` meets its contract: the event is elsewhere, or possible where the walk stands, or
-- the walk goes back for it.
use native.Mathlib.Omega.{arith}
use Prim.Native.Nat.{ℕ, ◌+◌}
use mathlib.Core.Path.{◌≡◌, sym, ap₂, ◌∙◌}
use mathlib.Core.Bool.{not}
use mathlib.Core.List.{List}
use lib.Dec.{T}
use Rattle.model.specs.Cxl0.{Value, Event}
use Rattle.model.specs.OneLocation.{event_at}
use Rattle.model.specs.Meaning.{meant}
use Rattle.model.proofs.Tests.{true→T, false→not}
use Rattle.rows.specs.Sites.{Known, copy_after}
use Rattle.rows.proofs.RowSteps.{copy_elsewhere}
use Rattle.scratch.specs.Words.{event_in, copy_in, CopyPut, WaypointPut}
use Rattle.scratch.proofs.Events.{meant_read}
use Rattle.entries.specs.declared.Site.{Site}
use Rattle.scratch.specs.declared.Waypoint.{Waypoint}
use Rattle.search.specs.Paths.{Continuable}
use Rattle.walking.proofs.Acting.{acts_copy}
use Rattle.search.proofs.Continuing.{Begun, begun, continuable_end, continuable_fits}
use Rattle.search.proofs.Continuing.{went_elsewhere, went_ahead, went_otherwise}
use Rattle.search.proofs.explaining.go_on.Goals as goal

-- The copies after event e, which were put behind the copies u, are those that it leaves.
begins : {s : Site} {t : ℕ} {p : Waypoint} {w w' w'' : List ℕ} {u v : Value} {e : Event}
    → Continuable s t p w → WaypointPut w t p w' → CopyPut w' (t + 1) v w'' → u ≡ copy_in w t → e ≡ event_in w t
    → v ≡ copy_after s.location.0 u e → Begun s t p w w''
begins {s} can waypoint copy before read left =
    begun can waypoint copy (left ∙ ap₂ (copy_after s.location.0) before read)

pub put_waypoint-requires : goal.put_waypoint-requires
put_waypoint-requires c =
    (omega arith, omega arith, omega (arith, continuable_end c.requires))

pub concerned-requires : goal.concerned-requires
concerned-requires c = rw c.get_event-e.ensures c.requires.known

-- ---- the event is elsewhere
pub returns-then-not-concerned : goal.returns-then-not-concerned
returns-then-not-concerned c =
    let read = meant_read c.args.w.now c.args.t c.get_event-e.result c.get_event-e.ensures in
    let away : T (not (event_at c.args.site.location.0 (meant c.get_event-e.result))) =
    false→not (sym c.concerned.ensures ∙ c.if-not-concerned.true) in
    let u = c.get_copy-u.result in
    let kept = sym (copy_elsewhere c.args.site.location.0 u (meant c.get_event-e.result) away) in
    let began = begins c.requires c.put_waypoint.ensures c.put_copy.ensures c.get_copy-u.ensures read kept in
    went_elsewhere c.requires began read away

pub act_at-made-requires : goal.act_at-made-requires
act_at-made-requires c =
    let known : Known c.get_event-e.result =
    rw c.get_event-e.ensures c.requires.known in
    record {
      one_to_six = c.requires.ready.owner;
      known = known;
      code_bound = continuable_fits c.requires;
    }

pub returns-then-made : goal.returns-then-made
returns-then-made c =
    let read = meant_read c.args.w.now c.args.t c.get_event-e.result c.get_event-e.ensures in
    let here : T (event_at c.args.site.location.0 (meant c.get_event-e.result)) =
    true→T (sym c.concerned.ensures ∙ c.if-not-concerned.false) in
    let copied = acts_copy c.act_at-made.ensures here in
    let began = begins c.requires c.put_waypoint.ensures c.put_copy-2.ensures c.get_copy-u.ensures read copied in
    went_ahead c.requires began read c.get_copy-u.ensures here
    c.act_at-made.ensures c.if-made.true

pub go_back-requires : goal.go_back-requires
go_back-requires c =
    let read = meant_read c.args.w.now c.args.t c.get_event-e.result c.get_event-e.ensures in
    let here : T (event_at c.args.site.location.0 (meant c.get_event-e.result)) =
    true→T (sym c.concerned.ensures ∙ c.if-not-concerned.false) in
    let copied = acts_copy c.act_at-made.ensures here in
    let began = begins c.requires c.put_waypoint.ensures c.put_copy-2.ensures c.get_copy-u.ensures read copied in
    began.stuck

pub returns : goal.returns
returns c =
    let read = meant_read c.args.w.now c.args.t c.get_event-e.result c.get_event-e.ensures in
    let here : T (event_at c.args.site.location.0 (meant c.get_event-e.result)) =
    true→T (sym c.concerned.ensures ∙ c.if-not-concerned.false) in
    let copied = acts_copy c.act_at-made.ensures here in
    let began = begins c.requires c.put_waypoint.ensures c.put_copy-2.ensures c.get_copy-u.ensures read copied in
    went_otherwise c.requires began c.go_back.ensures
