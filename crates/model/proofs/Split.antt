-- Split by location: a list whose actions name machines and locations of the system is a run exactly if it
-- runs at each location, and a list of such events has a run exactly if it has one at each location, with
-- silent steps of that location alone.
use Prim.Native.Nat.{ℕ, zero, suc, ◌≤◌, ◌<◌, ◌^◌}
use native.Mathlib.Nat.{not-suc-le-zero}
use native.Mathlib.Omega.{arith}
use mathlib.Core.Path.{◌≡◌, refl, sym, ap, ◌∙◌}
use mathlib.Core.Logic.{⊎_elim, ◌↔◌}
use mathlib.Core.Bool.{true, not, ◌&&◌}
use mathlib.Core.List.{List, [], ◌∷◌, map}
use lib.Dec.{T, leb, eqb, eqb→eq, eqb_refl, le→leb, ltb→lt, lt→ltb}
use lib.ListN.{length}
use Rattle.model.specs.Cxl0.{Location, Topology, is_machine, is_location, owner, WellFormed, State}
use Rattle.model.specs.Cxl0.{Propagate, WriteBack}
use Rattle.model.specs.Cxl0.{Event, Silent, Action, event, silent, named, enabled, possible, all_named}
use Rattle.model.specs.Cxl0.{next, runs, Run, events, HasRun}
use Rattle.model.specs.Sharers.{has}
use Rattle.model.specs.OneLocation.{Local, expand, concerns, silent_at, enabled_at, possible_at, site_of}
use Rattle.model.specs.OneLocation.{next_at, start_at, runs_at, own_steps, own_of, HasRunAt}
use Rattle.model.proofs.Tests.{by_test, T→true, and_i, and_l, and_r, ne_test}
use Rattle.model.proofs.Sharers.{has_bound}
use Rattle.model.proofs.Expand.{InRange, branch, enabled_expand, next_expand, next_at_bound}
use Rattle.model.proofs.Locations.{located, crash_enabled, named_location}
use Rattle.model.proofs.Expand.{next_in_range, runs_first, start_expand, start_in_range}
use Rattle.model.proofs.Merge.{merge, swap, events_merge, each, and_map, each_merge}
use Rattle.model.proofs.Merge.{elsewhere, events_elsewhere, own_elsewhere, skip, runs_merge}

-- ---- a list of actions

-- A list that runs at x: its first action is possible there, and the others run after it.
runs_at_first : (sys : Topology) (x : Location) (a : Action) (acts : List Action) (s : Local)
    → T (runs_at sys x (a ∷ acts) s) → T (possible_at sys x a s) × T (runs_at sys x acts (next_at sys x a s))
unfolding runs_at
runs_at_first sys x a acts s t =
    let b = runs_at sys x acts (next_at sys x a s) in
    (and_l (possible_at sys x a s) b t, and_r (possible_at sys x a s) b t)

-- An action is possible at x exactly if it is enabled there as far as it concerns x.
possible_here : (sys : Topology) (x : Location) (a : Action) (s : Local)
    → T (possible_at sys x a s) ↔ (T (concerns x a) → T (enabled_at (site_of sys x) a s))
unfolding possible_at
possible_here sys x a s = (
  λ p c. rw (T→true {b = concerns x a} c) at p,
  λ f. branch T (concerns x a) (enabled_at (site_of sys x) a s) true f (λ c. tt),
)

-- A list that runs on the whole system runs at every location.
apart : (sys : Topology) → WellFormed sys → (acts : List Action) (f : Location → Local) → InRange sys f
    → T (runs sys acts (expand f)) → T (all_named sys acts) × ((x : Location) → T (runs_at sys x acts (f x)))
unfolding runs_at all_named possible
apart sys w [] f r t = (tt, λ x. tt)
apart sys w (a ∷ acts) f r t =
    let p = runs_first sys f w r a acts t in
    let n = and_l (named sys a) (enabled sys a (expand f)) p.0 in
    let e = and_r (named sys a) (enabled sys a (expand f)) p.0 in
    let h = apart sys w acts (λ x. next_at sys x a (f x)) (next_in_range sys f w r a n) p.1 in (
      and_i (named sys a) (all_named sys acts) n h.0,
      λ x.
          and_i (possible_at sys x a (f x)) (runs_at sys x acts (next_at sys x a (f x)))
          ((possible_here sys x a (f x)).1 (λ c. rw (enabled_expand sys f r a x c) at e))
          (h.1 x),
    )

-- An action of the system is enabled, if it is so where it concerns a location of the system.
enabled_named : (sys : Topology) (a : Action) (s : State) → T (named sys a)
    → ((x : Location) → T (is_location sys x) → T (concerns x a) → T (enabled sys a s)) → T (enabled sys a s)
unfolding named enabled concerns silent_at
enabled_named sys (event e) s n h =
    ⊎_elim
    (λ at. h at.0 (named_location sys e at.1 n) (rw (at.2 at.0) (eqb_refl at.0)))
    (crash_enabled sys s)
    (located e)
enabled_named sys (silent (Propagate i x)) s n h =
    h x (and_r (is_machine sys i) (is_location sys x) n) (eqb_refl x)
enabled_named sys (silent (WriteBack x)) s n h = h x n (eqb_refl x)

-- An action of the system is enabled, if it is possible at each location of the system.
enabled_all : (sys : Topology) (f : Location → Local) → InRange sys f → (a : Action) → T (named sys a)
    → ((x : Location) → T (is_location sys x) → T (possible_at sys x a (f x))) → T (enabled sys a (expand f))
enabled_all sys f r a n h =
    enabled_named sys a (expand f) n
    (λ x l c. rw (enabled_expand sys f r a x c) ((possible_here sys x a (f x)).0 (h x l) c))

-- A list that names machines and locations of the system and runs at each location runs on the whole system.
together : (sys : Topology) → WellFormed sys → (acts : List Action) (f : Location → Local) → InRange sys f
    → T (all_named sys acts) → ((x : Location) → T (is_location sys x) → T (runs_at sys x acts (f x)))
    → T (runs sys acts (expand f))
unfolding runs all_named possible
together sys w [] f r t h = tt
together sys w (a ∷ acts) f r t h =
    let n = and_l (named sys a) (all_named sys acts) t in
    let n' = and_r (named sys a) (all_named sys acts) t in
    let e = enabled_all sys f r a n (λ x l. (runs_at_first sys x a acts (f x) (h x l)).0) in
    let p = and_i (named sys a) (enabled sys a (expand f)) n e in
    and_i (possible sys a (expand f)) (runs sys acts (next sys a (expand f))) p
    (rw (next_expand sys f w r a p)
    (together sys w acts (λ x. next_at sys x a (f x)) (next_in_range sys f w r a n) n'
    (λ x l. (runs_at_first sys x a acts (f x) (h x l)).1)))

-- A list of actions is a run exactly if it names machines and locations of the system and runs at each
-- location.
pub split_run : (sys : Topology) → WellFormed sys → (acts : List Action)
    → Run sys acts
    ↔ (T (all_named sys acts)
    × ((x : Location) → T (is_location sys x) → T (runs_at sys x acts (start_at sys x))))
split_run sys w acts = (
  λ t.
      let h = apart sys w acts (start_at sys) (start_in_range sys) (rw (start_expand sys) at t) in
      (h.0, λ x l. h.1 x),
  λ h. rw (start_expand sys) (together sys w acts (start_at sys) (start_in_range sys) h.0 h.1),
)

-- ---- from a run to a run of each location

-- At x a list runs exactly if it runs with x's own silent steps alone.
pub runs_at_own : (sys : Topology) (x : Location) (acts : List Action) (s : Local)
    → runs_at sys x acts s ≡ runs_at sys x (own_of x acts) s
unfolding runs_at own_of
runs_at_own sys x [] s = refl
runs_at_own sys x (event e ∷ acts) s =
    ap (◌&&◌ (possible_at sys x (event e) s)) (runs_at_own sys x acts (next_at sys x (event e) s))
runs_at_own sys x (silent a ∷ acts) s =
    branch (λ l. runs_at sys x (silent a ∷ acts) s ≡ runs_at sys x l s)
    (silent_at x a) (silent a ∷ own_of x acts) (own_of x acts)
    (λ t. ap (◌&&◌ (possible_at sys x (silent a) s)) (runs_at_own sys x acts (next_at sys x (silent a) s)))
    (λ t. skip sys x a acts s t ∙ runs_at_own sys x acts s)

-- Such a list keeps the events, and its silent steps are x's.
pub events_own : (x : Location) (acts : List Action) → events (own_of x acts) ≡ events acts
unfolding events own_of
events_own x [] = refl
events_own x (event e ∷ acts) = ap (◌∷◌ e) (events_own x acts)
events_own x (silent a ∷ acts) =
    branch (λ l. events l ≡ events acts) (silent_at x a) (silent a ∷ own_of x acts) (own_of x acts)
    (λ t. events_own x acts)
    (λ t. events_own x acts)

pub own_own : (x : Location) (acts : List Action) → T (own_steps x (own_of x acts))
unfolding own_steps own_of
own_own x [] = tt
own_own x (event e ∷ acts) = own_own x acts
own_own x (silent a ∷ acts) =
    branch (λ l. T (own_steps x l)) (silent_at x a) (silent a ∷ own_of x acts) (own_of x acts)
    (λ t. and_i (silent_at x a) (own_steps x (own_of x acts)) t (own_own x acts))
    (λ t. own_own x acts)

-- A list that runs at x gives x a run of its events.
own_run : (sys : Topology) (x : Location) (acts : List Action) (s : Local) → T (runs_at sys x acts s)
    → HasRunAt sys x (events acts) s
own_run sys x acts s t = (own_of x acts, events_own x acts, own_own x acts, rw (runs_at_own sys x acts s) at t)

named_events : (sys : Topology) (acts : List Action) → T (all_named sys acts)
    → T (all_named sys (map event (events acts)))
unfolding all_named events
named_events sys [] t = tt
named_events sys (event e ∷ acts) t =
    and_map (named sys (event e)) (all_named sys acts) (all_named sys (map event (events acts)))
    (named_events sys acts)
    t
named_events sys (silent a ∷ acts) t =
    named_events sys acts (and_r (named sys (silent a)) (all_named sys acts) t)

-- ---- from runs of the locations to a run

-- A silent step that is possible at a location of the system names a machine of the system.
silent_named : (sys : Topology) (x : Location) → T (is_location sys x) → (a : Silent) (s : Local)
    → s.code < 2 ^ sys.machines → T (silent_at x a) → T (possible_at sys x (silent a) s)
    → T (named sys (silent a))
unfolding named concerns silent_at enabled_at site_of is_machine
silent_named sys x l (Propagate i y) s h t p =
    let e = (possible_here sys x (silent (Propagate i y)) s).0 p t in
    let b = has_bound sys.machines i s.code h (and_r (not (eqb i (owner sys x))) (has i s.code) e) in
    and_i (is_machine sys i) (is_location sys y)
    (and_i (leb 1 i) (leb i sys.machines) (le→leb 1 i b.0) (le→leb i sys.machines b.1))
    (rw (eqb→eq x y t) at l)
silent_named sys x l (WriteBack y) s h t p = rw (eqb→eq x y t) at l

-- A list that runs at x with silent steps of x alone names machines and locations of the system, if its
-- events do.
pub own_named : (sys : Topology) (x : Location) → WellFormed sys → T (is_location sys x)
    → (acts : List Action) (s : Local) → s.code < 2 ^ sys.machines → T (own_steps x acts)
    → T (all_named sys (map event (events acts))) → T (runs_at sys x acts s) → T (each (named sys) acts)
unfolding own_steps all_named events each
own_named sys x w l [] s h o n t = tt
own_named sys x w l (event e ∷ acts) s h o n t =
    let m = and_l (named sys (event e)) (all_named sys (map event (events acts))) n in
    let n' = and_r (named sys (event e)) (all_named sys (map event (events acts))) n in
    let r = runs_at_first sys x (event e) acts s t in
    and_i (named sys (event e)) (each (named sys) acts) m
    (own_named sys x w l acts (next_at sys x (event e) s) (next_at_bound sys x w (event e) s m h) o n' r.1)
own_named sys x w l (silent a ∷ acts) s h o n t =
    let o' = and_r (silent_at x a) (own_steps x acts) o in
    let r = runs_at_first sys x (silent a) acts s t in
    let m = silent_named sys x l a s h (and_l (silent_at x a) (own_steps x acts) o) r.0 in
    and_i (named sys (silent a)) (each (named sys) acts) m
    (own_named sys x w l acts (next_at sys x (silent a) s) (next_at_bound sys x w (silent a) s m h) o' n r.1)

-- One list for the locations below n, with no silent step of the others.
record Merged (sys : Topology) (es : List Event) (n : ℕ) : Type 0 where
  acts : List Action
  same : events acts ≡ es
  names : T (each (named sys) acts)
  runs_below : (x : Location) → x < n → T (runs_at sys x acts (start_at sys x))
  free_above : (x : Location) → n ≤ x → T (each (elsewhere x) acts)

events_map : (es : List Event) → events (map event es) ≡ es
unfolding events
events_map [] = refl
events_map (e ∷ es) = ap (◌∷◌ e) (events_map es)

named_each : (sys : Topology) (acts : List Action) → all_named sys acts ≡ each (named sys) acts
unfolding all_named each
named_each sys [] = refl
named_each sys (a ∷ acts) = ap (◌&&◌ (named sys a)) (named_each sys acts)

-- For no location the events alone serve.
none_merged : (sys : Topology) (es : List Event) → T (all_named sys (map event es)) → Merged sys es 0
none_merged sys es t =
    record {
      acts = map event es;
      same = events_map es;
      names = rw (named_each sys (map event es)) at t;
      runs_below = λ x b. absurd (not-suc-le-zero b);
      free_above = λ x b. events_elsewhere x es;
    }

-- The list of location n merges with that of the locations below.
next_merged : (sys : Topology) → WellFormed sys → (es : List Event) → T (all_named sys (map event es))
    → (n : ℕ) → T (is_location sys n) → HasRunAt sys n es (start_at sys n)
    → Merged sys es n → Merged sys es (suc n)
next_merged sys w es t n l h m =
    let r = merge m.acts h.0 (m.same ∙ sym h.1) in
    let t' = rw (← h.1) at t in
    let own = own_named sys n w l h.0 (start_at sys n) (start_in_range sys n) h.2 t' h.3 in
    let as_n = runs_merge sys n (swap r.1) (m.free_above n (omega arith)) (start_at sys n) in
    record {
      acts = r.0;
      same = events_merge r.1 ∙ m.same;
      names = each_merge (named sys) r.1 m.names own;
      runs_below = λ x b. by_test (eqb x n)
          (λ e. rw (eqb→eq x n e, as_n) h.3)
          (λ e.
          let d = ne_test x n e in
          let away = own_elsewhere x n d h.0 h.2 in
          rw (runs_merge sys x r.1 away (start_at sys x)) (m.runs_below x (omega arith)));
      free_above = λ x b.
          let away = own_elsewhere x n (omega arith) h.0 h.2 in
          each_merge (elsewhere x) r.1 (m.free_above x (omega arith)) away;
    }

merged : (sys : Topology) → WellFormed sys → (es : List Event) → T (all_named sys (map event es))
    → ((x : Location) → T (is_location sys x) → HasRunAt sys x es (start_at sys x))
    → (n : ℕ) → n ≤ length sys.homes → Merged sys es n
unfolding is_location
merged sys w es t h zero b = none_merged sys es t
merged sys w es t h (suc n) b =
    let l = lt→ltb n (length sys.homes) b in
    next_merged sys w es t n l (h n l) (merged sys w es t h n (omega arith))

-- One list for all locations is a run.
all_merged : (sys : Topology) → WellFormed sys → (es : List Event) → Merged sys es (length sys.homes)
    → HasRun sys es
unfolding HasRun is_location
all_merged sys w es m =
    let n = rw (← named_each sys m.acts) at m.names in
    let r = (split_run sys w m.acts).1 (n, λ x l. m.runs_below x (ltb→lt x (length sys.homes) l)) in
    (m.acts, m.same, r)

-- A list of events has a run exactly if it names machines and locations of the system and has a run at each
-- location, with silent steps of that location alone.
pub split : (sys : Topology) → WellFormed sys → (es : List Event)
    → HasRun sys es
    ↔ (T (all_named sys (map event es))
    × ((x : Location) → T (is_location sys x) → HasRunAt sys x es (start_at sys x)))
unfolding HasRun
split sys w es = (
  λ r.
      let h = (split_run sys w r.0).0 r.2 in
      let n = rw r.1 at (named_events sys r.0 h.0) in
      (n, λ x l. rw r.1 at (own_run sys x r.0 (start_at sys x) (h.1 x l))),
  λ h. all_merged sys w es (merged sys w es h.0 h.1 (length sys.homes) (omega arith)),
)
