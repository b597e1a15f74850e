-- A segment without a copy: there is no silent step before the next store, so that what is left to pay at a gap is what
-- is left at the next one, or there is no run.
use Prim.Native.Nat.{ℕ, suc, ◌-◌, ◌≤◌, ◌<◌}
use native.Mathlib.Nat.{le_refl, le_trans}
use native.Mathlib.Decide.{dec_le}
use native.Mathlib.Omega.{arith}
use mathlib.Core.Path.{◌≡◌, refl, sym, ap, ◌∙◌}
use mathlib.Core.Logic.{◌↔◌, ◌≢◌}
use mathlib.Core.Bool.{true, cond, true≢false}
use mathlib.Core.List.{List, ◌∷◌}
use lib.Dec.{T, eqb→eq, eqb_refl}
use Rattle.model.specs.Cxl0.{Value, event, crashes}
use Rattle.model.specs.Cxl0.{Event, LStore, RStore, MStore, Load, LFlush, RFlush, Crash, SetCrash, RMW}
use Rattle.model.specs.OneLocation.{Local, Site, clears_site, enabled_at, effect}
use Rattle.model.specs.Operations.{event_of}
use Rattle.model.specs.Meaning.{meant}
use Rattle.model.specs.declared.Event as event
use Rattle.model.proofs.Sharers.{has_none, remove_le, remove_all_le}
use Rattle.model.proofs.Operations.{by_number}
use Rattle.rows.specs.Rows.{state}
use Rattle.scratch.specs.Words.{event_in, events_from}
use Rattle.levels.specs.Stretches.{FAR, Inner}
use Rattle.segments.specs.Segments.{Left, Costs}
use Rattle.segments.proofs.Paying.{Onward, onward_pays, pays_onward, events_first, inner_leads}

-- ---- one event

module _ (k : Site) (u : Value) where
  -- No event without a store makes a copy where there is none.
  drained_code : (e : Event) (m : Value) → Inner u e → (effect k (event e) (state 0 u m)).code ≡ 0
  unfolding effect Inner
  drained_code (LStore i x v) m inner = absurd inner
  drained_code (RStore i x v) m inner = absurd inner
  drained_code (MStore i x v) m inner = absurd inner
  drained_code (Load i x v) m inner = refl
  drained_code (LFlush i x) m inner = refl
  drained_code (RFlush i x) m inner = refl
  drained_code (Crash i) m inner = omega (arith, remove_le i 0)
  drained_code (SetCrash set) m inner = omega (arith, remove_all_le set 0)
  drained_code (RMW form i x v w) m inner = absurd inner

  -- Without a copy it changes memory alone, if it clears it.
  pub drained_leads : (e : Event) (m : Value) → Inner u e
      → effect k (event e) (state 0 u m) ≡ state 0 u (cond (clears_site e k) k.initial m)
  drained_leads e m inner =
      inner_leads k e 0 u m inner
      ∙ ap (λ (c : ℕ). state c u (cond (clears_site e k) k.initial m)) (drained_code e m inner)

  -- With the value of the copies in memory it passes.
  pub passes_same : (e : Event) (m : Value) → m ≡ u → Inner u e → T (enabled_at k (event e) (state 0 u m))
  unfolding enabled_at Inner
  passes_same (LStore i x v) m same inner = absurd inner
  passes_same (RStore i x v) m same inner = absurd inner
  passes_same (MStore i x v) m same inner = absurd inner
  passes_same (Load i x v) m same inner = rw (inner, same) (eqb_refl u)
  passes_same (LFlush i x) m same inner = rw (has_none i) tt
  passes_same (RFlush i x) m same inner = tt
  passes_same (Crash i) m same inner = tt
  passes_same (SetCrash set) m same inner = tt
  passes_same (RMW form i x v w) m same inner = absurd inner

  -- An event that resets memory passes, whatever the state is.
  pub passes_reset : (e : Event) (s : Local) → clears_site e k ≡ true → T (enabled_at k (event e) s)
  unfolding enabled_at crashes
  passes_reset (LStore i x v) s clears = tt
  passes_reset (RStore i x v) s clears = tt
  passes_reset (MStore i x v) s clears = tt
  passes_reset (Load i x v) s clears = absurd (true≢false (sym clears))
  passes_reset (LFlush i x) s clears = absurd (true≢false (sym clears))
  passes_reset (RFlush i x) s clears = absurd (true≢false (sym clears))
  passes_reset (Crash i) s clears = tt
  passes_reset (SetCrash set) s clears = tt
  passes_reset (RMW form i x v w) s clears = absurd (true≢false (sym clears))

  -- And so does one that is no load, without a copy.
  pub passes_other : (e : event.Event) (m : Value) → e.operation ≢ 4 → Inner u (meant e)
      → T (enabled_at k (event (meant e)) (state 0 u m))
  unfolding enabled_at Inner
  passes_other e m =
      by_number e (λ op f. op ≢ 4 → Inner u f → T (enabled_at k (event f) (state 0 u m)))
      (λ n inner. absurd inner)
      (λ n inner. absurd inner)
      (λ n inner. absurd inner)
      (λ n inner. absurd (n refl))
      (λ n inner. rw (has_none e.machine.0) tt)
      (λ n inner. tt)
      (λ n inner. absurd inner)
      (λ n inner. absurd inner)
      (λ n inner. absurd inner)
      (λ n inner. tt)
      (λ op at n inner. tt)

  -- A load of another value does not pass.
  pub stops_load : (e : event.Event) (m : Value) → e.operation ≡ 4 → m ≢ u → Inner u (meant e)
      → ¬ T (enabled_at k (event (meant e)) (state 0 u m))
  unfolding event_of enabled_at Inner
  stops_load e m load differs inner passes =
      let reads : e.value ≡ u = rw load at inner in
      differs (eqb→eq m e.value (rw load at passes) ∙ reads)

-- ---- what is left to pay

-- It is one number.
module _ {k : Site} {w : List ℕ} {n t : ℕ} {u : Value} {c : ℕ} {m : Value} where
  costs_least : {r r' : ℕ} → Costs k w n t u c m r → Costs k w n t u c m r' → r ≤ r'
  costs_least {r} {r'} a b =
      elim (dec_le FAR r') [
        | yes h ↦ le_trans a.most h
        | no h ↦ (a.exact r' (omega arith)).0 ((b.exact r' (omega arith)).1 (le_refl r'))
      ]

  pub costs_one : {r r' : ℕ} → Costs k w n t u c m r → Costs k w n t u c m r' → r ≡ r'
  costs_one a b = omega (arith, costs_least a b, costs_least b a)

module _ (k : Site) (w : List ℕ) (n : ℕ) (u : Value) (t : ℕ) (h : t < n) (inner : Inner u (event_in w t)) where
  abbrev memory_next : Value → Value
  memory_next m = cond (clears_site (event_in w t) k) k.initial m

  -- A run goes on with the event.
  pub left_step : (m : Value) (x : ℕ)
      → Left k w n t u 0 m x
      ↔ (T (enabled_at k (event (event_in w t)) (state 0 u m)) × Left k w n (suc t) u 0 (memory_next m) x)
  unfolding Onward
  left_step m x =
      let first = events_first w n t h in
      let leads = drained_leads k u (event_in w t) m inner in (
        λ p. let onward = pays_onward refl (rw first at p) in (onward.0, rw leads at onward.1),
        λ p. rw first (onward_pays (event_in w t ∷ events_from w (suc t) (n - suc t)) (p.0, rw leads p.1)),
      )

  -- The event passes: what is left to pay after it.
  pub costs_step : (m : Value) {r : ℕ} → T (enabled_at k (event (event_in w t)) (state 0 u m))
      → Costs k w n (suc t) u 0 (memory_next m) r → Costs k w n t u 0 m r
  costs_step m passes c =
      record {
        most = c.most;
        exact = λ x far. (
          λ p. (c.exact x far).0 ((left_step m x).0 p).1,
          λ q. (left_step m x).1 (passes, (c.exact x far).1 q),
        );
      }

  -- It does not: there is no run.
  pub costs_stuck : (m : Value) → ¬ T (enabled_at k (event (event_in w t)) (state 0 u m)) → Costs k w n t u 0 m FAR
  costs_stuck m stops =
      record {
        most = le_refl FAR;
        exact = λ x far. (λ p. absurd (stops ((left_step m x).0 p).0), λ q. absurd (omega arith));
      }
