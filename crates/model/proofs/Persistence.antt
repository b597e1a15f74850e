-- What users of persistent memory rely on, over the definitions of `Cxl0` and `Goes`: a value in memory that
-- an RFlush has waited for, or that an MStore or an M-RMW has put there, stays until the next store of its location;
-- `InMemory` has the work. And the program of source 000, figure 5, to which an LFlush is no help and an
-- RFlush is.
use mathlib.Core.Path.{◌≡◌, refl}
use mathlib.Core.Bool.{not, ◌&&◌}
use mathlib.Core.List.{List, [], ◌∷◌, ◌++◌, append_assoc}
use lib.Dec.{T, T_not, eqb, eqb_refl}
use Rattle.model.specs.Cxl0.{Machine, Location, Value, Topology, is_machine, is_location, owner}
use Rattle.model.specs.Cxl0.{keeps, is_persistent, WellFormed, State, start, initial, cached, crashes, clears}
use Rattle.model.specs.Cxl0.{LStore, MStore, Load, LFlush, RFlush, Crash, RMW, M}
use Rattle.model.specs.Cxl0.{Event, Action, event, named, all_named, enabled, possible, next}
use Rattle.model.specs.Cxl0.{runs, after, Run, events, HasRun}
use Rattle.model.specs.Sharers.{has, insert, remove}
use Rattle.model.specs.OneLocation.{concerns, event_at, moved, enabled_at, effect, location_of, site_of}
use Rattle.model.specs.OneLocation.{possible_at, next_at, start_at}
use Rattle.model.specs.Meaning.{owners_fit}
use Rattle.model.specs.MarkedLogs.{three, persistent, L0}
use Rattle.model.specs.Goes.{Goes, NoStore}
use Rattle.model.proofs.Tests.{T→true, and_l, and_r}
use Rattle.model.proofs.Owners.{owners-fit}
use Rattle.model.proofs.SomeSilent.{some_moved, some_silent}
use Rattle.model.proofs.Decision.{good, every_below, decide, decide_correct}
use Rattle.model.proofs.Goes.{first, parts, runs_append, events_append}
use Rattle.model.proofs.Stores.{mstore_uncached}
use Rattle.model.proofs.InMemory.{reads}
use Rattle.model.proofs.SideBySide.{has_run_both}

module _ (sys : Topology) (w : WellFormed sys) (x : Location) (p : T (is_persistent sys x)) where
  -- From any state in which an RFlush of x is possible, through any crashes, silent steps and other events:
  -- until the next store of x, every load of x returns the value that its memory holds at the flush.
  pub flushed_from : (i j : Machine) (v : Value) (s : State) (between rest : List Action)
      → T (runs sys (event (RFlush i x) ∷ between ++ event (Load j x v) ∷ rest) s)
      → NoStore x (events between) → v ≡ s.memory x
  unfolding runs possible enabled next events
  flushed_from i j v s between rest r n =
      let acts = between ++ event (Load j x v) ∷ rest in
      let names = named sys (event (RFlush i x)) in
      let empty = not (cached sys s x) in
      let c = and_r names empty (and_l (names && empty) (runs sys acts s) r) in
      let on = and_r (names && empty) (runs sys acts s) r in
      reads sys w x p (s.memory x) v j (events between) (events rest) s n (c, refl)
      (acts, events_append between (event (Load j x v) ∷ rest), on, refl)

  -- So it is in every run: the load returns what memory held after `before`, at the flush.
  pub flushed : (i j : Machine) (v : Value) (before between rest : List Action)
      → Run sys (before ++ (event (RFlush i x) ∷ between ++ event (Load j x v) ∷ rest))
      → NoStore x (events between) → v ≡ (after sys before (start sys)).memory x
  flushed i j v before between rest r n =
      let acts = event (RFlush i x) ∷ between ++ event (Load j x v) ∷ rest in
      let s = after sys before (start sys) in
      let both = rw (runs_append sys before acts (start sys)) at r in
      flushed_from i j v s between rest (and_r (runs sys before (start sys)) (runs sys acts s) both) n

  -- From any state: a completed MStore is never lost, every later load before another store of x reads it.
  pub mstored_from : (i j : Machine) (u v : Value) (between rest : List Event) {s' : State} (s : State)
      → Goes sys (MStore i x v ∷ between ++ Load j x u ∷ rest) s s' → NoStore x between → u ≡ v
  unfolding next
  mstored_from i j u v between rest s q n =
      let f = first sys s q in
      let t = next sys (event (MStore i x v)) f.at in
      let value : t.memory x ≡ v = rw (T→true {b = eqb x x} (eqb_refl x)) in
      reads sys w x p v u j between rest t n (mstore_uncached sys x v i f.at, value) f.rest

  -- So it is in every list of events that has a run. (Not in volatile memory: marked log 12.)
  pub mstored : (i j : Machine) (u v : Value) (before between rest : List Event)
      → HasRun sys (before ++ (MStore i x v ∷ between ++ Load j x u ∷ rest)) → NoStore x between → u ≡ v
  unfolding HasRun
  mstored i j u v before between rest r n =
      let es = MStore i x v ∷ between ++ Load j x u ∷ rest in
      let q = parts sys before es (start sys) (r.0, r.1, r.2, refl) in
      mstored_from i j u v between rest q.0 q.2 n

  -- Nor is a completed M-RMW: what it wrote is read until another store of x.
  pub rmw_kept : (i j : Machine) (u v r : Value) (before between rest : List Event)
      → HasRun sys (before ++ (RMW M i x r v ∷ between ++ Load j x u ∷ rest)) → NoStore x between → u ≡ v
  rmw_kept i j u v r before between rest run n =
      let es = between ++ Load j x u ∷ rest in
      let apart = (has_run_both sys M i x r v w before es).0 run in
      let grouped = rw (← append_assoc before (Load i x r ∷ []) (MStore i x v ∷ es)) at apart in
      mstored i j u v (before ++ Load i x r ∷ []) between rest grouped n

-- ---- figure 5 of source 000

-- Three machines with persistent memories; L0 is machine 2's.
abbrev sys5 : Topology
sys5 = persistent (2 ∷ [])

-- Machine 1 stores 1 to L0 and loads it; machine 2 crashes; machine 1 loads 0. Flushes may come after the
-- store, and after the first load.
abbrev figure5 : List Event → List Event → List Event
figure5 f g = LStore 1 L0 1 ∷ f ++ Load 1 L0 1 ∷ g ++ Crash 2 ∷ Load 1 L0 0 ∷ []

sys5_fits : WellFormed sys5
sys5_fits = owners-fit sys5 (unfold owners_fit three persistent in tt)

allowed : (es : List Event) → T (decide sys5 es) → HasRun sys5 es
allowed es t = (decide_correct sys5 sys5_fits es).0 t

impossible : (es : List Event) → T (not (decide sys5 es)) → ¬ HasRun sys5 es
impossible es t r = T_not (decide sys5 es) t ((decide_correct sys5 sys5_fits es).1 r)

-- The loads may differ with no flush, with an LFlush after the store, and with one after the first load too.
-- With an RFlush at either place they may not.
pub figure_5 :
    HasRun sys5 (figure5 [] [])
    × HasRun sys5 (figure5 (LFlush 1 L0 ∷ []) [])
    × HasRun sys5 (figure5 (LFlush 1 L0 ∷ []) (LFlush 1 L0 ∷ []))
    × ¬ HasRun sys5 (figure5 (RFlush 1 L0 ∷ []) [])
    × ¬ HasRun sys5 (figure5 [] (RFlush 1 L0 ∷ []))
unfolding
    three persistent decide every_below good some_silent some_moved
    is_machine is_location owner initial keeps is_persistent crashes clears named all_named has insert remove
    concerns event_at location_of enabled_at site_of moved effect possible_at next_at start_at
figure_5 = (allowed _ tt, allowed _ tt, allowed _ tt, impossible _ tt, impossible _ tt)
