-- A run from any state has few silent steps: each lowers the potential of the location, which an event raises by at
-- most 2.
use Prim.Native.Nat.{ℕ, ◌+◌, ◌*◌, ◌≤◌, ◌<◌}
use native.Mathlib.Omega.{arith}
use mathlib.Core.Path.{refl}
use mathlib.Core.Bool.{not}
use mathlib.Core.List.{List, ◌∷◌, Memᴰ}
use lib.Dec.{eqb}
use lib.ListN.{length}
use Rattle.model.specs.Cxl0.{Machine, Value, event}
use Rattle.model.specs.Cxl0.{Event, LStore, RStore, MStore, Load, LFlush, RFlush, Crash, SetCrash, RMW, Form, L, R, M}
use Rattle.model.specs.Sharers.{has}
use Rattle.model.specs.OneLocation.{Local, Site, stored_at, loaded_at, effect}
use Rattle.model.specs.Paying.{Pays, done, acts, moves, writes}
use Rattle.model.proofs.Tests.{and_r}
use Rattle.model.proofs.Sharers.{has_bound}
use Rattle.model.proofs.Potential.{potential, potential_none, potential_most, after_store, after_load, after_crash}
use Rattle.model.proofs.Potential.{after_set_crash, after_propagate, before_write_back}
use Rattle.model.proofs.Payments.{pays_more}
use Rattle.masks.specs.Sets.{OneToSix}
use Rattle.masks.proofs.Codes.{moved_fits}
use Rattle.rows.specs.Sites.{NamesSix}
use Rattle.rows.proofs.RowSteps.{effect_fits}

module _ (k : Site) (own : OneToSix k.owner) where
  -- The potential of a state.
  abbrev height : Local → ℕ
  height s = potential 6 k.owner s.code

  stored_height : (form : Form) (i : Machine) → OneToSix i → (v : Value) (s : Local)
      → height (stored_at k form i v s) ≤ 2
  stored_height L i o v s = after_store 6 k.owner i o
  stored_height R i o v s = after_store 6 k.owner k.owner own
  stored_height M i o v s = omega (arith, potential_none 6 k.owner)

  event_height : (e : Event) → NamesSix e → (s : Local) → height (effect k (event e) s) ≤ height s + 2
  unfolding effect NamesSix
  event_height (LStore i y v) o s = omega (arith, stored_height L i o v s)
  event_height (RStore i y v) o s = omega (arith, stored_height R i o v s)
  event_height (MStore i y v) o s = omega (arith, stored_height M i o v s)
  event_height (Load i y v) o s = omega (arith, after_load 6 k.owner i s.code o)
  event_height (LFlush i y) o s = omega arith
  event_height (RFlush i y) o s = omega arith
  event_height (Crash i) o s = omega (arith, after_crash 6 k.owner i s.code)
  event_height (SetCrash set) o s = omega (arith, after_set_crash 6 k.owner set s.code)
  event_height (RMW form i y v w) o s = omega (arith, stored_height form i o w (loaded_at i s))

  -- A run pays no more than the potential and two steps for each event.
  pays_height : {es : List Event} {s : Local} {l : ℕ} → ((e : Event) → Memᴰ e es → NamesSix e) → s.code < 64
      → Pays k es s l → Pays k es s (height s + 2 * length es)
  pays_height names fits done = done
  pays_height names fits (acts {e} {es} {s} can p) =
      let six = names e (Memᴰ.head refl) in
      let later = pays_height (λ d m. names d (Memᴰ.tail m)) (effect_fits k own e six s fits) p in
      acts {l = height s + 2 * length (e ∷ es)} can (pays_more k later (omega (arith, event_height e six s)))
  pays_height names fits (moves {s = s} i v p) =
      let held = and_r (not (eqb i k.owner)) (has i s.code) v in
      let lower = after_propagate 6 k.owner i s.code own (has_bound 6 i s.code fits held) v in
      let later = pays_height names (moved_fits k.owner i s.code own fits) p in
      pays_more k (moves i v later) (omega arith)
  pays_height names fits (writes {s = s} v p) =
      let some = before_write_back 6 k.owner s.code v in
      let later = pays_height names (omega arith) p in
      pays_more k (writes v later) (omega (arith, potential_none 6 k.owner))

  -- So it pays no more than two steps for each event and eight.
  pub pays_few : {es : List Event} {s : Local} {l : ℕ} → ((e : Event) → Memᴰ e es → NamesSix e) → s.code < 64
      → Pays k es s l → Pays k es s (8 + 2 * length es)
  pays_few {s = s} names fits p =
      pays_more k (pays_height names fits p) (omega (arith, potential_most 6 k.owner s.code))
