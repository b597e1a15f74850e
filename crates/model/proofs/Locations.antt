-- Where an event is: at the one location that it names, or nowhere in particular, and then it is a crash.
use mathlib.Core.Path.{◌≡◌, refl, ap}
use mathlib.Core.Logic.{◌⊎◌, inl, inr}
use mathlib.Core.Bool.{Bool, true, not}
use mathlib.Core.Option.{Option, none, some}
use lib.Dec.{T, eqb}
use Rattle.model.specs.Cxl0.{Machine, Location, MachineSet, Topology, State, is_machine, is_location, named}
use Rattle.model.specs.Cxl0.{Event, LStore, RStore, MStore, Load, LFlush, RFlush, Crash, SetCrash, RMW}
use Rattle.model.specs.Cxl0.{event, enabled}
use Rattle.model.specs.OneLocation.{location_of, is_here, is_nowhere, is_here_or_nowhere}
use Rattle.model.specs.OneLocation.{own_event, is_crash, event_at}
use Rattle.model.proofs.Tests.{and_r}

-- An event at one location, which concerns that location and no other.
abbrev pub AtOne : Event → Type 0
AtOne e = (y : Location) × (location_of e ≡ some y) × ((x : Location) → event_at x e ≡ eqb x y)

-- The crash of a machine or of a set of machines.
pub data IsCrash : Event → Type 0 where
  single : (i : Machine) → IsCrash (Crash i)
  several : (set : MachineSet) → IsCrash (SetCrash set)

-- An event that is at no location is a crash.
pub nowhere_crash : (e : Event) → T (is_nowhere (location_of e)) → IsCrash e
unfolding location_of
nowhere_crash (LStore i y v) t = absurd t
nowhere_crash (RStore i y v) t = absurd t
nowhere_crash (MStore i y v) t = absurd t
nowhere_crash (Load i y v) t = absurd t
nowhere_crash (LFlush i y) t = absurd t
nowhere_crash (RFlush i y) t = absurd t
nowhere_crash (Crash i) t = single i
nowhere_crash (SetCrash set) t = several set
nowhere_crash (RMW form i y v w) t = absurd t

pub crash_nowhere : {e : Event} → IsCrash e → T (is_crash e)
unfolding location_of is_crash
crash_nowhere (single i) = tt
crash_nowhere (several set) = tt

-- The two cases of an event.
pub located : (e : Event) → AtOne e ⊎ IsCrash e
unfolding event_at
located e = go (location_of e) refl
  where
    go : (o : Option Location) → location_of e ≡ o → AtOne e ⊎ IsCrash e
    go (some y) p = inl (y, p, λ x. ap (is_here_or_nowhere x) p)
    go none p = inr (nowhere_crash e (rw p tt))

-- An event that names x is no crash.
pub own_no_crash : (x : Location) (e : Event) → T (own_event x e) → T (not (is_crash e))
unfolding own_event is_crash
own_no_crash x e = go (location_of e)
  where
    go : (o : Option Location) → T (is_here x o) → T (not (is_nowhere o))
    go (some y) t = tt
    go none t = absurd t

-- An event that does not name x and is no crash does not concern x.
pub unconcerned : (x : Location) (e : Event) → T (not (own_event x e)) → T (not (is_crash e))
    → T (not (event_at x e))
unfolding own_event is_crash event_at
unconcerned x e = go (location_of e)
  where
    go : (o : Option Location) → T (not (is_here x o)) → T (not (is_nowhere o)) → T (not (is_here_or_nowhere x o))
    go (some y) s t = s
    go none s t = absurd t

-- An event at a location that is not x does not concern x.
pub foreign_elsewhere : (x : Location) (e : Event) {y : Location} → location_of e ≡ some y → T (not (own_event x e))
    → T (not (event_at x e))
unfolding own_event event_at
foreign_elsewhere x e p t = rw p (rw p at t)

-- An event that names x concerns x.
pub own_concerns : (x : Location) (e : Event) → T (own_event x e) → T (event_at x e)
unfolding own_event event_at
own_concerns x e = go (location_of e)
  where
    go : (o : Option Location) → T (is_here x o) → T (is_here_or_nowhere x o)
    go (some y) t = t
    go none t = absurd t

-- A crash concerns every location.
pub crash_everywhere : (x : Location) (e : Event) → T (is_crash e) → T (event_at x e)
unfolding is_crash event_at
crash_everywhere x e = go (location_of e)
  where
    go : (o : Option Location) → T (is_nowhere o) → T (is_here_or_nowhere x o)
    go (some y) t = absurd t
    go none t = tt

-- It is possible in every state.
pub crash_enabled : (sys : Topology) {e : Event} (s : State) → IsCrash e → T (enabled sys (event e) s)
unfolding enabled
crash_enabled sys s (single i) = tt
crash_enabled sys s (several set) = tt

-- ---- what an event names

-- A location of the system, or none.
abbrev listed : Topology → Option Location → Bool
listed sys (some y) = is_location sys y
listed sys none = true

named_listed : (sys : Topology) (e : Event) → T (named sys (event e)) → T (listed sys (location_of e))
unfolding named location_of
named_listed sys (LStore i y v) t = and_r (is_machine sys i) (is_location sys y) t
named_listed sys (RStore i y v) t = and_r (is_machine sys i) (is_location sys y) t
named_listed sys (MStore i y v) t = and_r (is_machine sys i) (is_location sys y) t
named_listed sys (Load i y v) t = and_r (is_machine sys i) (is_location sys y) t
named_listed sys (LFlush i y) t = and_r (is_machine sys i) (is_location sys y) t
named_listed sys (RFlush i y) t = and_r (is_machine sys i) (is_location sys y) t
named_listed sys (Crash i) t = tt
named_listed sys (SetCrash set) t = tt
named_listed sys (RMW form i y v w) t = and_r (is_machine sys i) (is_location sys y) t

-- The location of an event of the system is one of the system.
pub named_location : (sys : Topology) (e : Event) {y : Location} → location_of e ≡ some y
    → T (named sys (event e)) → T (is_location sys y)
named_location sys e p t = rw p at (named_listed sys e t)
