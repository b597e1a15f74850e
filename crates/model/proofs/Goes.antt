-- Ways from state to state by events: one step, one way after another, and the parts of a way.
use mathlib.Core.Path.{◌≡◌, refl, sym, ap, ◌∙◌, subst}
use mathlib.Core.Bool.{true, ◌&&◌, and_assoc}
use mathlib.Core.List.{List, [], ◌∷◌, ◌++◌, append-nil, nil≢cons, head-eq_of_cons-eq, tail-eq_of_cons-eq}
use lib.Dec.{T}
use Rattle.model.specs.Cxl0.{Topology, State, Event, Silent, Action, event, silent}
use Rattle.model.specs.Cxl0.{possible, next, runs, after, events}
use Rattle.model.specs.Goes.{Goes}
use Rattle.model.proofs.Tests.{and_i, and_l, and_r}

-- ---- one list of actions after another

-- The events are those of the first list and then those of the second.
pub events_append : (k l : List Action) → events (k ++ l) ≡ events k ++ events l
unfolding events
events_append [] l = refl
events_append (event e ∷ k) l = ap (◌∷◌ e) (events_append k l)
events_append (silent a ∷ k) l = events_append k l

-- The second list leads on from the state that the first leads to.
pub after_append : (sys : Topology) (k l : List Action) (s : State)
    → after sys (k ++ l) s ≡ after sys l (after sys k s)
unfolding after
after_append sys [] l s = refl
after_append sys (a ∷ k) l s = after_append sys k l (next sys a s)

-- Both run, the second from the state that the first leads to.
pub runs_append : (sys : Topology) (k l : List Action) (s : State)
    → runs sys (k ++ l) s ≡ (runs sys k s && runs sys l (after sys k s))
unfolding runs after
runs_append sys [] l s = refl
runs_append sys (a ∷ k) l s =
    let then = next sys a s in
    let last = runs sys l (after sys k then) in
    rw (runs_append sys k l then, and_assoc (possible sys a s) (runs sys k then) last)

-- ---- one step, and one way after another

module _ (sys : Topology) where
  -- No event, no step.
  pub stay : (s : State) → Goes sys [] s s
  unfolding events runs after
  stay s = ([], refl, tt, refl)

  -- One event, one silent step.
  pub by_event : (e : Event) (s : State) → T (possible sys (event e) s)
      → Goes sys (e ∷ []) s (next sys (event e) s)
  unfolding events runs after
  by_event e s p = (event e ∷ [], refl, and_i (possible sys (event e) s) true p tt, refl)

  pub by_silent : (a : Silent) (s : State) → T (possible sys (silent a) s)
      → Goes sys [] s (next sys (silent a) s)
  unfolding events runs after
  by_silent a s p = (silent a ∷ [], refl, and_i (possible sys (silent a) s) true p tt, refl)

  -- From s by the first events to t, and from there by the second to u.
  pub in_turn : {es fs : List Event} {t u : State} (s : State)
      → Goes sys es s t → Goes sys fs t u → Goes sys (es ++ fs) s u
  in_turn s p q =
      let at_t : T (runs sys q.0 (after sys p.0 s)) = rw p.3 q.2 in (
        p.0 ++ q.0,
        rw (events_append p.0 q.0, p.1, q.1),
        rw (runs_append sys p.0 q.0 s) (and_i (runs sys p.0 s) _ p.2 at_t),
        after_append sys p.0 q.0 s ∙ rw p.3 q.3,
      )

  -- ---- the parts of a way

  -- A way from s to u by e and then es: silent steps lead to a state where e is possible, and the rest
  -- follows.
  pub record First (e : Event) (es : List Event) (s u : State) : Type 0 where
    pub at : State
    pub before : Goes sys [] s at
    pub can : T (possible sys (event e) at)
    pub rest : Goes sys es (next sys (event e) at) u

  first_in : (e : Event) (es : List Event) (acts : List Action) (s : State) → events acts ≡ e ∷ es
      → T (runs sys acts s) → First e es s (after sys acts s)
  unfolding events runs after
  first_in e es [] s p r = absurd (nil≢cons p)
  first_in e es (event d ∷ acts) s p r =
      subst
      (λ (d : Event). T (runs sys (event d ∷ acts) s) → First e es s (after sys (event d ∷ acts) s))
      (sym (head-eq_of_cons-eq p))
      (λ r. record {
        at = s;
        before = stay s;
        can = and_l (possible sys (event e) s) _ r;
        rest = (acts, tail-eq_of_cons-eq p, and_r (possible sys (event e) s) _ r, refl);
      })
      r
  first_in e es (silent a ∷ acts) s p r =
      let can = and_l (possible sys (silent a) s) _ r in
      let f = first_in e es acts (next sys (silent a) s) p (and_r (possible sys (silent a) s) _ r) in
      record {
        at = f.at;
        before = in_turn s (by_silent a s can) f.before;
        can = f.can;
        rest = f.rest;
      }

  -- Every way by e and then es is such a way.
  pub first : {e : Event} {es : List Event} {u : State} (s : State) → Goes sys (e ∷ es) s u → First e es s u
  first {e} {es} {u} s p = subst (First e es s) p.3 (first_in e es p.0 s p.1 p.2)

  -- A way by two lists of events goes by the first to some state t, and from there by the second.
  pub parts : (es fs : List Event) {u : State} (s : State) → Goes sys (es ++ fs) s u
      → (t : State) × Goes sys es s t × Goes sys fs t u
  parts [] fs s p = (s, stay s, p)
  parts (e ∷ es) fs s p =
      let f = first s p in
      let r = parts es fs (next sys (event e) f.at) f.rest in
      (r.0, in_turn s f.before (in_turn f.at (by_event e f.at f.can) r.1), r.2)

  -- If events lead wherever the event e leads, they serve in its place.
  pub instead : (e : Event) (es : List Event)
      → ((t : State) → T (possible sys (event e) t) → Goes sys es t (next sys (event e) t))
      → {u : State} (s : State) → Goes sys (e ∷ []) s u → Goes sys es s u
  instead e es same s p =
      let f = first s p in
      let q = in_turn s f.before (in_turn f.at (same f.at f.can) f.rest) in
      rw (append-nil es) at q

  -- A way by two events: to a state u by the first, where the second is possible, and on by silent steps.
  pub last_of_two : {e f : Event} {s' : State} (s : State) → Goes sys (e ∷ f ∷ []) s s'
      → (u : State) × Goes sys (e ∷ []) s u × T (possible sys (event f) u)
      × Goes sys [] (next sys (event f) u) s'
  last_of_two {e} {f} s p =
      let q = parts (e ∷ []) (f ∷ []) s p in
      let l = first q.0 q.2 in
      (l.at, in_turn s q.1 l.before, l.can, l.rest)
