-- The events in the scratch area as a list: its parts, and that it depends on the events' words alone.
use Prim.Native.Nat.{ℕ, zero, suc, ◌+◌, ◌*◌, ◌≤◌, ◌<◌}
use native.Mathlib.Nat.{le_refl, le_of_suc-le-suc, add-zero, zero-add, suc-add}
use native.Mathlib.Omega.{arith}
use mathlib.Core.Path.{◌≡◌, refl, ap, ap₂}
use mathlib.Core.Logic.{⊎_elim}
use mathlib.Core.List.Memᴰ
use mathlib.Core.List.{List, [], ◌∷◌, ◌++◌, Memᴰ}
use lib.ListN.{length, take, drop}
use Rattle.model.specs.Cxl0.{Location, Value, Event}
use Rattle.model.specs.declared.Event as event
use Rattle.model.specs.Meaning.{meant}
use Rattle.rows.specs.Sites.{NamesSix, Known, copy_after, copy_from}
use Rattle.scratch.specs.Layout.{EVENTS, ROWS, MOST, OnlyIn}
use Rattle.scratch.specs.Words.{event_in, events_from, events_in, struct_in}
use Rattle.scratch.proofs.Frames.{get_or_below}

-- An event that is read means the event.
pub meant_read : (w : List ℕ) (j : ℕ) (e : event.Event) → e ≡ struct_in w j → meant e ≡ event_in w j
unfolding event_in
meant_read w j e read = ap meant read

-- A known event names only machines 1 to 6.
pub known_machines : (w : List ℕ) (j : ℕ) → Known (struct_in w j) → NamesSix (event_in w j)
known_machines w j known = rw (← meant_read w j (struct_in w j) refl) known.machines

-- ---- parts

take_events : (w : List ℕ) (j d m : ℕ) → d ≤ m → take d (events_from w j m) ≡ events_from w j d
unfolding events_from
take_events w j zero m h = refl
take_events w j (suc d) zero h = absurd (omega arith)
take_events w j (suc d) (suc m) h = ap (◌∷◌ (event_in w j)) (take_events w (suc j) d m (le_of_suc-le-suc h))

-- The first d of m events are the first d events.
pub events_take : (w : List ℕ) (d m : ℕ) → d ≤ m → take d (events_in w m) ≡ events_in w d
events_take w d m h = take_events w 0 d m h

drop_events : (w : List ℕ) (j t m : ℕ) → t < m
    → drop t (events_from w j m) ≡ event_in w (j + t) ∷ drop (suc t) (events_from w j m)
unfolding events_from
drop_events w j t zero h = absurd (omega arith)
drop_events w j zero (suc m) h = rw add-zero
drop_events w j (suc t) (suc m) h =
    let next : suc j + t ≡ j + suc t = omega arith in
    rw (← next) (drop_events w (suc j) t m (le_of_suc-le-suc h))

-- After t events come event t and those after it.
pub events_drop : (w : List ℕ) (t m : ℕ) → t < m
    → drop t (events_in w m) ≡ event_in w t ∷ drop (suc t) (events_in w m)
events_drop w t m h = rw zero-add at (drop_events w 0 t m h)

drop_all : (w : List ℕ) (j m : ℕ) → drop m (events_from w j m) ≡ []
unfolding events_from
drop_all w j zero = refl
drop_all w j (suc m) = drop_all w (suc j) m

-- After all m events comes nothing.
pub events_drop_all : (w : List ℕ) (m : ℕ) → drop m (events_in w m) ≡ []
events_drop_all w m = drop_all w 0 m

-- Some events and then some more.
pub events_two : (w : List ℕ) (j m n : ℕ) → events_from w j (m + n) ≡ events_from w j m ++ events_from w (j + m) n
unfolding events_from
events_two w j zero n = rw (zero-add, add-zero)
events_two w j (suc m) n =
    let next : suc j + m ≡ j + suc m = omega arith in
    rw (suc-add, ← next) (ap (◌∷◌ (event_in w j)) (events_two w (suc j) m n))

-- What is so of each is so of the events.
pub events_all : (P : Event → Type 0) (w : List ℕ) (j m : ℕ)
    → ((i : ℕ) → j ≤ i → i < j + m → P (event_in w i)) → (e : Event) → Memᴰ e (events_from w j m) → P e
unfolding events_from
events_all P w j zero each e m = absurd (Memᴰ.not-nil m)
events_all P w j (suc n) each e m =
    ⊎_elim
    (λ q. rw q (each j (le_refl j) (omega arith)))
    (events_all P w (suc j) n (λ i a h. each i (omega arith) (omega arith)) e)
    (Memᴰ.cases_cons m)

-- One event more at the end.
pub last_event : (w : List ℕ) (j t : ℕ) → events_from w j (suc t) ≡ events_from w j t ++ event_in w (j + t) ∷ []
unfolding events_from
last_event w j zero = rw add-zero
last_event w j (suc t) =
    let next : suc j + t ≡ j + suc t = omega arith in
    rw (← next) (ap (◌∷◌ (event_in w j)) (last_event w (suc j) t))

-- So it is from the first event on.
pub events_suc : (w : List ℕ) (t : ℕ) → events_in w (suc t) ≡ events_in w t ++ event_in w t ∷ []
events_suc w t = rw zero-add at (last_event w 0 t)

-- There are as many as asked for.
pub length_from : (w : List ℕ) (j m : ℕ) → length (events_from w j m) ≡ m
unfolding events_from
length_from w j zero = refl
length_from w j (suc m) = ap suc (length_from w (suc j) m)

-- So it is from the first event on.
pub events_length : (w : List ℕ) (m : ℕ) → length (events_in w m) ≡ m
events_length w m = length_from w 0 m

-- The copies after one event more.
pub copy_last : (w : List ℕ) (x : Location) (u : Value) (j t : ℕ)
    → copy_from x u (events_from w j (suc t))
    ≡ copy_after x (copy_from x u (events_from w j t)) (event_in w (j + t))
unfolding events_from copy_from
copy_last w x u j zero = rw add-zero
copy_last w x u j (suc t) =
    let next : suc j + t ≡ j + suc t = omega arith in
    rw (← next) (copy_last w x (copy_after x u (event_in w j)) (suc j) t)

-- So it is from the first event on.
pub copies_suc : (w : List ℕ) (x : Location) (t : ℕ)
    → copy_from x 0 (events_in w (suc t)) ≡ copy_after x (copy_from x 0 (events_in w t)) (event_in w t)
copies_suc w x t = rw zero-add at (copy_last w x 0 0 t)

-- ---- the events' words

-- Equal words of an event give equal events.
pub struct_same : {to : ℕ} {w w' : List ℕ} → OnlyIn ROWS to w w' → (j : ℕ) → j < MOST
    → struct_in w' j ≡ struct_in w j
struct_same p j h =
    let first = get_or_below p (EVENTS + 2 * j) (omega arith) in
    let second = get_or_below p (EVENTS + 2 * j + 1) (omega arith) in
    simp (first, second)

pub event_same : {to : ℕ} {w w' : List ℕ} → OnlyIn ROWS to w w' → (j : ℕ) → j < MOST
    → event_in w' j ≡ event_in w j
unfolding event_in
event_same p j h = ap meant (struct_same p j h)

-- Equal words of the events give equal events.
pub same_from : {to : ℕ} {w w' : List ℕ} → OnlyIn ROWS to w w' → (j m : ℕ) → j + m ≤ MOST
    → events_from w' j m ≡ events_from w j m
unfolding events_from
same_from p j zero h = refl
same_from p j (suc m) h = ap₂ ◌∷◌ (event_same p j (omega arith)) (same_from p (suc j) m (omega arith))

-- So it is from the first event on.
pub events_same : {to : ℕ} {w w' : List ℕ} → OnlyIn ROWS to w w' → (m : ℕ) → m ≤ MOST
    → events_in w' m ≡ events_in w m
events_same p m h = same_from p 0 m (omega arith)
