-- Proposition 1 of source 000, section 3.3, over the definitions of `Cxl0` and `Goes`, item by item in its
-- words. For a location x with owner k all eight hold, and from every state, whether or not a run reaches it.
-- If i is no machine of the system or x is not listed, i has no possible event on x, and nothing is said.
-- `Stores` has the work.
use mathlib.Core.Path.{refl}
use mathlib.Core.Logic.{◌≢◌, ◌↔◌}
use mathlib.Core.List.{List, [], ◌∷◌}
use Rattle.model.specs.Cxl0.{Machine, Location, Value, Topology, WellFormed, owner, State, Event, next}
use Rattle.model.specs.Cxl0.{LStore, RStore, MStore, LFlush, RFlush}
use Rattle.model.specs.Goes.{Goes}
use Rattle.model.proofs.Goes.{by_event, instead}
use Rattle.model.proofs.Stores as stores

module _ (sys : Topology) (x : Location) (s s' : State) where
  abbrev k : Machine
  k = owner sys x

  -- s goes to s' by these events, with any silent steps before, between and after.
  abbrev By : List Event → Type 0
  By es = Goes sys es s s'

  -- (1) RStore is stronger than LStore.
  pub rstore_lstore : (i : Machine) (v : Value) → By (RStore i x v ∷ []) → By (LStore i x v ∷ [])
  rstore_lstore i v = instead sys (RStore i x v) (LStore i x v ∷ []) (stores.lstore_moves sys x v i) s

  -- (2) RStore and LStore by the owner are equivalent.
  pub owner_stores : (v : Value) → By (LStore k x v ∷ []) ↔ By (RStore k x v ∷ [])
  owner_stores v = (
    instead sys (LStore k x v) (RStore k x v ∷ []) (stores.owner_lstore sys x v k refl) s,
    rstore_lstore k v,
  )

  -- (3) MStore is stronger than RStore.
  pub mstore_rstore : (i : Machine) (v : Value) → By (MStore i x v ∷ []) → By (RStore i x v ∷ [])
  mstore_rstore i v = instead sys (MStore i x v) (RStore i x v ∷ []) (stores.rstore_writes sys x v i) s

  -- (4) RFlush is stronger than LFlush.
  pub rflush_lflush : (i : Machine) → By (RFlush i x ∷ []) → By (LFlush i x ∷ [])
  unfolding next
  rflush_lflush i =
      instead sys (RFlush i x) (LFlush i x ∷ [])
      (λ t c. by_event sys (LFlush i x) t (stores.rflush_lflush sys i x t c)) s

  -- (5) LFlush after RStore by non-owner is redundant.
  pub rstore_lflush : (j : Machine) (v : Value) → j ≢ k
      → By (RStore j x v ∷ []) → By (RStore j x v ∷ LFlush j x ∷ [])
  rstore_lflush j v d =
      instead sys (RStore j x v) (RStore j x v ∷ LFlush j x ∷ []) (stores.rstore_lflush sys x v j d) s

  -- (6) RFlush after MStore is redundant.
  pub mstore_rflush : (i : Machine) (v : Value) → By (MStore i x v ∷ []) → By (MStore i x v ∷ RFlush i x ∷ [])
  mstore_rflush i v =
      instead sys (MStore i x v) (MStore i x v ∷ RFlush i x ∷ []) (stores.mstore_rflush sys x v i) s

  -- (7) RStore by non-owner is simulated by LStore and LFlush. (So is RStore by the owner.)
  pub lstore_lflush : (j : Machine) (v : Value) → By (LStore j x v ∷ LFlush j x ∷ []) → By (RStore j x v ∷ [])
  lstore_lflush j v = stores.lstore_lflush sys x v j s

  -- (8) MStore is simulated by LStore and RFlush. (Each location's owner is a machine of the system, as in
  -- source 000; otherwise no flush would ask for the owner's copy.)
  pub lstore_rflush : WellFormed sys → (i : Machine) (v : Value)
      → By (LStore i x v ∷ RFlush i x ∷ []) → By (MStore i x v ∷ [])
  lstore_rflush w i v = stores.lstore_rflush sys x v w i s
