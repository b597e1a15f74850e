-- What replay's answers mean: yes exactly where events and schedule are a run, and no after the right number
-- of events.
use Prim.Native.Nat.{ℕ, suc, ◌+◌}
use mathlib.Core.Path.{◌≡◌, refl, sym, ap, ◌∙◌, subst}
use mathlib.Core.Logic.{◌↔◌, ◌⊎◌, inl, inr, ⊎_elim}
use mathlib.Core.Bool.{Bool, true, false, cond, not, ◌&&◌}
use mathlib.Core.List.{List, [], ◌∷◌, ◌++◌}
use native.Mathlib.Omega.{arith}
use lib.Dec.{T}
use lib.ListN.{length}
use Rattle.model.specs.Cxl0.{Topology, State, start, Event, Action, event, silent, possible, next}
use Rattle.model.specs.Cxl0.{runs, after, Run, events}
use Rattle.model.specs.Schedule.{Step, weave}
use Rattle.model.proofs.Tests.{by_test, and_i, and_l, and_r, T→true, not→false}
use Rattle.log_bytes.proofs.Checks.{clash}
use Rattle.replay.specs.Replaying.{Answer, counted, replay_from, replayed, Stops}

yes≢no : (n : ℕ) → Answer.no n ≡ Answer.yes → ⊥
yes≢no n e = clash (cc)

-- Replay from any state says yes exactly where the actions run from it.
yes_from : (sys : Topology) (n : ℕ) (acts : List Action) (s : State)
    → (replay_from sys n acts s ≡ Answer.yes) ↔ T (runs sys acts s)
unfolding replay_from runs
yes_from sys n [] s = (λ e. tt, λ t. refl)
yes_from sys n (a ∷ acts) s =
    by (possible sys a s) (replay_from sys (counted n a) acts (next sys a s)) (runs sys acts (next sys a s)) n
    (yes_from sys (counted n a) acts (next sys a s))
  where
    by : (b : Bool) (rest : Answer) (run : Bool) (n : ℕ) → ((rest ≡ Answer.yes) ↔ T run)
        → (cond b rest (Answer.no n) ≡ Answer.yes) ↔ T (b && run)
    by true rest run n h = h
    by false rest run n h = (λ e. absurd (yes≢no n e), λ t. absurd t)

-- Replay says yes exactly where the events with the schedule are a run of the whole system from its start.
pub yes_iff_run : (sys : Topology) (es : List Event) (ps : List Step)
    → (replayed sys es ps ≡ Answer.yes) ↔ Run sys (weave es ps)
unfolding replayed
yes_iff_run sys es ps = yes_from sys 0 (weave es ps) (start sys)

-- One possible action more in front.
later : (sys : Topology) (n k : ℕ) (a : Action) (acts : List Action) (s : State) → T (possible sys a s)
    → (j : ℕ) × (counted n a + j ≡ k) × Stops sys acts (next sys a s) j
    → (j : ℕ) × (n + j ≡ k) × Stops sys (a ∷ acts) s j
unfolding runs after events
later sys n k (event e) acts s t (j, c, h) = (
  suc j,
  omega arith,
  record {
    ahead = event e ∷ h.ahead;
    stop = h.stop;
    rest = h.rest;
    parts = ap (λ (l : List Action). event e ∷ l) h.parts;
    run = and_i (possible sys (event e) s) _ t h.run;
    impossible = h.impossible;
    passed = ap suc h.passed;
  },
)
later sys n k (silent a) acts s t (j, c, h) = (
  j,
  c,
  record {
    ahead = silent a ∷ h.ahead;
    stop = h.stop;
    rest = h.rest;
    parts = ap (λ (l : List Action). silent a ∷ l) h.parts;
    run = and_i (possible sys (silent a) s) _ t h.run;
    impossible = h.impossible;
    passed = h.passed;
  },
)

-- The first action is not possible.
at_once : (sys : Topology) (n k : ℕ) (a : Action) (acts : List Action) (s : State)
    → T (not (possible sys a s)) → Answer.no n ≡ Answer.no k
    → (j : ℕ) × (n + j ≡ k) × Stops sys (a ∷ acts) s j
unfolding runs after events
at_once sys n k a acts s t e =
    let same : n ≡ k = cc in (
      0,
      omega arith,
      record {
        ahead = [];
        stop = a;
        rest = acts;
        parts = refl;
        run = tt;
        impossible = t;
        passed = refl;
      },
    )

no_from : (sys : Topology) (n k : ℕ) (acts : List Action) (s : State) → replay_from sys n acts s ≡ Answer.no k
    → (j : ℕ) × (n + j ≡ k) × Stops sys acts s j
unfolding replay_from
no_from sys n k [] s e = absurd (yes≢no k (sym e))
no_from sys n k (a ∷ acts) s e =
    by_test (possible sys a s)
    (λ t.
    later sys n k a acts s t
    (no_from sys (counted n a) k acts (next sys a s) (rw (T→true {b = possible sys a s} t) at e)))
    (λ t. at_once sys n k a acts s t (rw (not→false {b = possible sys a s} t) at e))

-- And back: replay of actions that run up to one that is not possible says no.
no_back : (sys : Topology) (n : ℕ) (ahead : List Action) (stop : Action) (rest : List Action) (s : State)
    → T (runs sys ahead s) → T (not (possible sys stop (after sys ahead s)))
    → replay_from sys n (ahead ++ stop ∷ rest) s ≡ Answer.no (n + length (events ahead))
unfolding replay_from runs after events
no_back sys n [] stop rest s run fails =
    rw (not→false {b = possible sys stop s} fails) (ap Answer.no (omega arith))
no_back sys n (event e ∷ acts) stop rest s run fails =
    let can = possible sys (event e) s in
    let on = next sys (event e) s in
    rw (T→true {b = can} (and_l can (runs sys acts on) run))
    (no_back sys (suc n) acts stop rest on (and_r can (runs sys acts on) run) fails ∙ ap Answer.no (omega arith))
no_back sys n (silent a ∷ acts) stop rest s run fails =
    let can = possible sys (silent a) s in
    let on = next sys (silent a) s in
    rw (T→true {b = can} (and_l can (runs sys acts on) run))
    (no_back sys n acts stop rest on (and_r can (runs sys acts on) run) fails)

-- Replay says no exactly after the events that pass, with the steps before them, before the first thing not possible.
pub no_iff_stops : (sys : Topology) (es : List Event) (ps : List Step) (k : ℕ)
    → (replayed sys es ps ≡ Answer.no k) ↔ Stops sys (weave es ps) (start sys) k
unfolding replayed
no_iff_stops sys es ps k = (to, from)
  where
    to : replay_from sys 0 (weave es ps) (start sys) ≡ Answer.no k → Stops sys (weave es ps) (start sys) k
    to e =
        let h = no_from sys 0 k (weave es ps) (start sys) e in
        let same : h.0 ≡ k = omega (arith, h.1) in
        subst (λ (j : ℕ). Stops sys (weave es ps) (start sys) j) same h.2

    from : Stops sys (weave es ps) (start sys) k → replay_from sys 0 (weave es ps) (start sys) ≡ Answer.no k
    from h =
        rw h.parts
        (no_back sys 0 h.ahead h.stop h.rest (start sys) h.run h.impossible
        ∙ ap Answer.no (omega (arith, h.passed)))

-- Replay of what was read is never a refusal: yes, or no after some number of events.
yes_or_no : (sys : Topology) (n : ℕ) (acts : List Action) (s : State)
    → (replay_from sys n acts s ≡ Answer.yes) ⊎ ((k : ℕ) × (replay_from sys n acts s ≡ Answer.no k))
unfolding replay_from
yes_or_no sys n [] s = inl refl
yes_or_no sys n (a ∷ acts) s =
    by_test (possible sys a s)
    (λ t. rw (T→true {b = possible sys a s} t) (yes_or_no sys (counted n a) acts (next sys a s)))
    (λ t. rw (not→false {b = possible sys a s} t) (inr (n, refl)))

-- What is no run gets no.
pub not_run_no : (sys : Topology) (es : List Event) (ps : List Step) → ¬ Run sys (weave es ps)
    → (k : ℕ) × (replayed sys es ps ≡ Answer.no k)
unfolding replayed
not_run_no sys es ps none =
    ⊎_elim (λ e. absurd (none ((yes_iff_run sys es ps).0 e))) (λ h. h) (yes_or_no sys 0 (weave es ps) (start sys))

pub never_refused : (sys : Topology) (es : List Event) (ps : List Step) (number : ℕ)
    → replayed sys es ps ≡ Answer.refused number → ⊥
unfolding replayed
never_refused sys es ps number e =
    ⊎_elim (λ y. refusal (sym e ∙ y)) (λ h. refusal_no h.0 (sym e ∙ h.1))
    (yes_or_no sys 0 (weave es ps) (start sys))
  where
    refusal : Answer.refused number ≡ Answer.yes → ⊥
    refusal e = clash (cc)

    refusal_no : (k : ℕ) → Answer.refused number ≡ Answer.no k → ⊥
    refusal_no k e = clash (cc)
