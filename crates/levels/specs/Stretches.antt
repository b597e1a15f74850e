-- A stretch of events without a store, and from which codes it is finished with how many silent steps.
use Rattle.std.specs.Prelude.{ℕ, suc, ◌≤◌, ◌<◌, ◌≡◌, ◌⊎◌, Bool, not, ◌&&◌, T, eqb}
use Rattle.model.specs.Cxl0.{Machine, Value, Event, event}
use Rattle.model.specs.Cxl0.{LStore, RStore, MStore, Load, LFlush, RFlush, Crash, SetCrash, RMW}
use Rattle.model.specs.Sharers.{has}
use Rattle.model.specs.OneLocation.{Local, Site, enabled_at, effect, moved}
use Rattle.masks.specs.Sets.{In, Exactly}
use Rattle.rows.specs.Rows.{state}

-- More than any number of steps: what stands for it where there is no run.
abbrev pub FAR : ℕ
FAR = 65535

-- The events of a site between gap 0 and the last gap, `end`. In all of it copies have one value; memory has a value at
-- each gap as long as nothing is written back. After a write-back at a gap, `back` steps are left to pay. At the last
-- gap, the codes that the next event accepts have `last` steps to pay.
pub record Stretch : Type 0 where
  pub site : Site
  pub copy : Value
  pub memory : ℕ → Value
  pub event : ℕ → Event
  pub back : ℕ → ℕ
  pub end : ℕ
  pub accepts : ℕ → Bool
  pub last : ℕ

-- The state of code c at gap t.
abbrev pub state_at : Stretch → ℕ → ℕ → Local
state_at q t c = state c q.copy (q.memory t)

-- From code c at gap t, at most l silent steps are to pay, those after a write-back and after the last gap included.
pub data Finishes (q : Stretch) : (t c l : ℕ) → Type 0 where
  ends : {t c l : ℕ} → t ≡ q.end → T (q.accepts c) → q.last ≤ l → Finishes q t c l
  acts : {t c l : ℕ} → t < q.end → T (enabled_at q.site (event (q.event t)) (state_at q t c))
      → Finishes q (suc t) (effect q.site (event (q.event t)) (state_at q t c)).code l → Finishes q t c l
  writes : {t c l : ℕ} → T (has q.site.owner c) → q.back t < l → Finishes q t c l
  moves : {t c l : ℕ} (i : Machine) → T (not (eqb i q.site.owner) && has i c)
      → Finishes q t (moved q.site.owner i c) l → Finishes q t c (suc l)

-- So it is by what comes after the gap: after the last gap by what accepts the code there, else by the next event.
abbrev pub Onward : Stretch → (t c l : ℕ) → Type 0
Onward q t c l =
    ((t ≡ q.end) × T (q.accepts c) × (q.last ≤ l))
    ⊎ ((t < q.end)
    × T (enabled_at q.site (event (q.event t)) (state_at q t c))
    × Finishes q (suc t) (effect q.site (event (q.event t)) (state_at q t c)).code l)

-- An event of a stretch whose copies have the value u: a load of u, a flush or a crash.
unfoldable pub Inner : Value → Event → Type 0
Inner u (LStore i x v) = ⊥
Inner u (RStore i x v) = ⊥
Inner u (MStore i x v) = ⊥
Inner u (Load i x v) = v ≡ u
Inner u (LFlush i x) = Unit {0}
Inner u (RFlush i x) = Unit {0}
Inner u (Crash i) = Unit {0}
Inner u (SetCrash set) = Unit {0}
Inner u (RMW form i x v w) = ⊥

-- From code c, where copies have the value u and memory the value m, the event leads into the set `rest`.
abbrev pub LeadsOver : Site → Event → Value → Value → ℕ → ℕ → Type 0
LeadsOver k e u m rest c =
    T (enabled_at k (event e) (state c u m)) × In (effect k (event e) (state c u m)).code rest

-- The mask has the codes from which an event inside a stretch leads into the set `rest`, at a gap where memory has the
-- value of the copies, or not.
abbrev pub Over : Event → Bool → ℕ → ℕ → Type 0
Over e read rest r =
    (k : Site) (u m : Value) → Inner u e → eqb m u ≡ read → Exactly r (LeadsOver k e u m rest)
