-- Runs with at most so many silent steps: the event first, and what an event without a store makes of a state.
use Prim.Native.Nat.{ℕ, suc, ◌-◌, ◌<◌}
use native.Mathlib.Omega.{arith}
use mathlib.Core.Path.{◌≡◌, refl, ap, subst}
use mathlib.Core.Logic.{◌⊎◌, inl, inr}
use mathlib.Core.Bool.{cond, not, ◌&&◌}
use mathlib.Core.List.{List, [], ◌∷◌}
use lib.Dec.{T, eqb}
use Rattle.model.specs.Cxl0.{Machine, event, crashes}
use Rattle.model.specs.Cxl0.{Event, LStore, RStore, MStore, Load, LFlush, RFlush, Crash, SetCrash, RMW}
use Rattle.model.specs.Sharers.{has}
use Rattle.model.specs.OneLocation.{Local, Site, clears_site, enabled_at, effect, moved, recoded, written}
use Rattle.model.specs.Paying.{Pays, done, acts, moves, writes}
use Rattle.model.proofs.Tests.{and_r}
use Rattle.model.proofs.Sharers.{has_none}
use Rattle.rows.specs.Rows.{state}
use Rattle.scratch.specs.Words.{event_in, events_from}
use Rattle.levels.specs.Stretches.{Inner}

-- ---- the event first

-- The events have a run with at most x silent steps that does not begin with one.
unfoldable pub Onward : Site → List Event → Local → ℕ → Type 0
Onward k [] s x = Unit {0}
Onward k (e ∷ es) s x = T (enabled_at k (event e) s) × Pays k es (effect k (event e) s) x

-- Such a run is a run.
pub onward_pays : {k : Site} (es : List Event) {s : Local} {x : ℕ} → Onward k es s x → Pays k es s x
unfolding Onward
onward_pays [] o = done
onward_pays (e ∷ es) (t, p) = acts t p

-- A run begins without a silent step, or with a write-back, or with a move.
abbrev pub FirstWrites : Site → List Event → Local → ℕ → Type 0
FirstWrites k es s x = T (has k.owner s.code) × (y : ℕ) × (x ≡ suc y) × Pays k es (written s) y

abbrev pub FirstMoves : Site → List Event → Local → ℕ → Type 0
FirstMoves k es s x =
    (i : Machine)
    × T (not (eqb i k.owner) && has i s.code)
    × (y : ℕ)
    × (x ≡ suc y)
    × Pays k es (recoded (moved k.owner i s.code) s) y

pub pays_first : {k : Site} {es : List Event} {s : Local} {x : ℕ} → Pays k es s x
    → Onward k es s x ⊎ (FirstWrites k es s x ⊎ FirstMoves k es s x)
unfolding Onward
pays_first done = inl tt
pays_first (acts v p) = inl (v, p)
pays_first (moves {l} i v p) = inr (inr (i, v, l, refl, p))
pays_first (writes {l} v p) = inr (inl (v, l, refl, p))

-- No machine is in the set of code 0.
lacks : (i : Machine) (c : ℕ) → c ≡ 0 → T (has i c) → ⊥
lacks i c z t = subst T (has_none i) (subst (λ (d : ℕ). T (has i d)) z t)

-- Without a copy every run is such a run.
pub pays_onward : {k : Site} {es : List Event} {s : Local} {x : ℕ} → s.code ≡ 0 → Pays k es s x → Onward k es s x
unfolding Onward
pays_onward z done = tt
pays_onward z (acts t p) = (t, p)
pays_onward {k} {s = s} z (moves i v p) =
    absurd (lacks i s.code z (and_r (not (eqb i k.owner)) (has i s.code) v))
pays_onward {k} {s = s} z (writes h p) = absurd (lacks k.owner s.code z h)

-- The events from gap t on begin with event t.
pub events_first : (w : List ℕ) (n t : ℕ) → t < n
    → events_from w t (n - t) ≡ event_in w t ∷ events_from w (suc t) (n - suc t)
unfolding events_from
events_first w n t h =
    let more : n - t ≡ suc (n - suc t) = omega arith in
    ap (events_from w t) more

-- ---- events without a store

-- An event without a store leaves the value of the copies, and memory unless it clears it.
pub inner_leads : (k : Site) (e : Event) (c u m : ℕ) → Inner u e
    → effect k (event e) (state c u m)
    ≡ state (effect k (event e) (state c u m)).code u (cond (clears_site e k) k.initial m)
unfolding effect crashes Inner
inner_leads k (LStore i x v) c u m inner = absurd inner
inner_leads k (RStore i x v) c u m inner = absurd inner
inner_leads k (MStore i x v) c u m inner = absurd inner
inner_leads k (Load i x v) c u m inner = refl
inner_leads k (LFlush i x) c u m inner = refl
inner_leads k (RFlush i x) c u m inner = refl
inner_leads k (Crash i) c u m inner = refl
inner_leads k (SetCrash set) c u m inner = refl
inner_leads k (RMW form i x v w) c u m inner = absurd inner
