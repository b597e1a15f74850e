-- One event more in front of a row: where the event concerns the location, the row before it, closed under
-- the gap, meets the contract of a step; where it does not, the row itself does.
use Prim.Native.Nat.{ℕ, ◌<◌}
use native.Mathlib.Nat.{lt_of_le_of_lt}
use native.Mathlib.Omega.{arith}
use mathlib.Core.Path.{◌≡◌, refl, ap, ◌∙◌}
use mathlib.Core.Bool.{Bool, true, false, cond, not}
use mathlib.Core.List.{List, ◌∷◌}
use lib.Dec.{T, eqb}
use Rattle.model.specs.Cxl0.{Machine, Location, Value, Topology, owner, initial, event}
use Rattle.model.specs.Cxl0.{Event, LStore, RStore, MStore, Load, LFlush, RFlush, Crash, SetCrash, RMW}
use Rattle.model.specs.Cxl0.{Form, L, R, M}
use Rattle.model.specs.OneLocation.{Local, Site, site_of, event_at, concerns, effect, next_at}
use Rattle.model.specs.OneLocation.{stored_at, loaded_at}
use Rattle.model.proofs.Tests.{T→true, not→false}
use Rattle.model.proofs.Sharers.{remove_le, remove_all_le}
use Rattle.masks.specs.Sets.{OneToSix}
use Rattle.masks.proofs.Codes.{insert_fits}
use Rattle.rows.specs.declared.Row.{Row}
use Rattle.entries.specs.Entries.{site_meant}
use Rattle.entries.specs.declared.Site as site
use Rattle.rows.specs.Rows.{RowOf, Line, Right, Closed, Gap}
use Rattle.rows.specs.Sites.{NamesSix, Describes, copy_left, copy_after}
use Rattle.rows.specs.Steps.{Stepped}
use Rattle.rows.proofs.Rows.{right_cons}
use Rattle.rows.proofs.Lines.{before_line}
use Rattle.rows.proofs.Gaps.{right_skip}

copy_cond : (b : Bool) (s t : Local) → (cond b s t).copy ≡ cond b s.copy t.copy
copy_cond true s t = refl
copy_cond false s t = refl

-- What holds of both ways holds of the one that a test picks.
either : {A : Type 0} (P : A → Type 0) (b : Bool) {s t : A} → P s → P t → P (cond b s t)
either P true p q = p
either P false p q = q

abbrev Copies : Value → Local → Type 0
Copies u s = s.copy ≡ u

abbrev Fits : Local → Type 0
Fits s = s.code < 64

-- The value of the copies after an event depends on their value alone.
pub copy-left : (k : Site) (e : Event) (s : Local) → (effect k (event e) s).copy ≡ copy_left s.copy e
unfolding effect
copy-left k (LStore i y v) s = refl
copy-left k (RStore i y v) s = refl
copy-left k (MStore i y v) s = refl
copy-left k (Load i y v) s = refl
copy-left k (LFlush i y) s = refl
copy-left k (RFlush i y) s = refl
copy-left k (Crash i) s = refl
copy-left k (SetCrash set) s = refl
copy-left k (RMW L i y v w) s = refl
copy-left k (RMW R i y v w) s = refl
copy-left k (RMW M i y v w) s = refl

-- A store by one of machines 1 to 6 leaves a code below 64.
stored_fits : (k : Site) → OneToSix k.owner → (form : Form) (i : Machine) → OneToSix i → (v : Value) (s : Local)
    → Fits (stored_at k form i v s)
stored_fits k own L i o v s = insert_fits i 0 o (omega arith)
stored_fits k own R i o v s = insert_fits k.owner 0 own (omega arith)
stored_fits k own M i o v s = omega arith

-- An event that names only machines 1 to 6 keeps codes below 64.
pub effect_fits : (k : Site) → OneToSix k.owner → (e : Event) → NamesSix e → (s : Local)
    → Fits s → Fits (effect k (event e) s)
unfolding effect NamesSix
effect_fits k own (LStore i y v) o s h = stored_fits k own L i o v s
effect_fits k own (RStore i y v) o s h = stored_fits k own R i o v s
effect_fits k own (MStore i y v) o s h = stored_fits k own M i o v s
effect_fits k own (Load i y v) o s h =
    either (λ (c : ℕ). c < 64) (eqb s.code 0) (omega arith) (insert_fits i s.code o h)
effect_fits k own (LFlush i y) o s h = h
effect_fits k own (RFlush i y) o s h = h
effect_fits k own (Crash i) o s h = lt_of_le_of_lt (remove_le i s.code) h
effect_fits k own (SetCrash set) o s h = lt_of_le_of_lt (remove_all_le set s.code) h
effect_fits k own (RMW form i y v w) o s h = stored_fits k own form i o w (loaded_at i s)

module _ (sys : Topology) (x : Location) where
  -- The value of the copies of x after an event, and that its code stays below 64.
  pub next_copy : (e : Event) (s : Local) → (next_at sys x (event e) s).copy ≡ copy_after x s.copy e
  unfolding next_at concerns copy_after
  next_copy e s =
      copy_cond (event_at x e) _ s
      ∙ ap (λ (v : Value). cond (event_at x e) v s.copy) (copy-left (site_of sys x) e s)

  pub next_fits : OneToSix (owner sys x) → (e : Event) → NamesSix e → (s : Local)
      → Fits s → Fits (next_at sys x (event e) s)
  unfolding next_at concerns site_of
  next_fits own e o s h = either Fits (event_at x e) (effect_fits (site_of sys x) own e o s h) h

-- An event that does not concern x changes no copies.
pub copy_elsewhere : (x : Location) (u : Value) (e : Event) → T (not (event_at x e)) → copy_after x u e ≡ u
unfolding copy_after
copy_elsewhere x u e t = rw (not→false {b = event_at x e} t)

-- Nor does a load.
pub copy_load : (x : Location) (u : Value) (i : Machine) (y : Location) (v : Value) → copy_after x u (Load i y v) ≡ u
unfolding copy_after effect
copy_load x u i y v = either (λ (w : Value). w ≡ u) (event_at x (Load i y v)) refl refl

-- One that does leaves what its effect leaves.
pub copy_here : (x : Location) (u : Value) (e : Event) → T (event_at x e) → copy_after x u e ≡ copy_left u e
unfolding copy_after
copy_here x u e t = rw (T→true {b = event_at x e} t)

-- A site that describes its location has its owner and its initial value.
pub owned : {sys : Topology} {s : site.Site} → Describes sys s → owner sys s.location.0 ≡ s.owner.0
unfolding site_of
owned d = ap (λ (k : Site). k.owner) d.here

pub begins : {sys : Topology} {s : site.Site} → Describes sys s → initial sys s.location.0 ≡ s.initial
unfolding site_of
begins d = ap (λ (k : Site). k.initial) d.here

-- The owner is one of machines 1 to 6.
pub owner_six : {sys : Topology} {s : site.Site} → Describes sys s → OneToSix (owner sys s.location.0)
owner_six d = rw (owned d) d.machine

module _ (site : site.Site) (e : Event) (u : Value) (rest : Row) where
  -- The row `inner` before an event of the location, closed under the gap.
  pub stepped : (inner row : Row) → NamesSix e → T (event_at site.location.0 e)
      → RowOf (λ c m. Line (site_meant site) e u rest c m) inner
      → Gap site.owner.0 u inner row → Closed u row
      → Stepped site e u rest row
  stepped inner row o t line gap closed = record { closed = closed; right = right }
    where
      right : (sys : Topology) → Describes sys site → (es : List Event)
          → Right sys site.location.0 es (copy_after site.location.0 u e) rest
          → Right sys site.location.0 (e ∷ es) u row
      right sys d es r =
          let x = site.location.0 in
          let own = owner_six d in
          right_cons sys x own.0 own.1 e es u (copy_after x u e) rest inner row
          (λ s q. next_copy sys x e s ∙ ap (λ (w : Value). copy_after x w e) q)
          (next_fits sys x own e o) r
          (before_line sys x e u rest inner t (rw d.here line))
          (rw (owned d) gap)

  -- An event elsewhere.
  pub skipped : T (not (event_at site.location.0 e)) → Closed (copy_after site.location.0 u e) rest
      → Stepped site e u rest rest
  skipped t closed =
      let same = copy_elsewhere site.location.0 u e t in
      record {
        closed = rw same at closed;
        right = λ sys d es r. right_skip sys site.location.0 e es u rest t (rw same at r);
      }
