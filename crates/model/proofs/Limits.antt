-- What the program's topology means, and what being within the limits gives.
use Prim.Native.Nat.{ℕ, zero, suc, ◌+◌, ◌≤◌, ◌<◌, min}
use native.Mathlib.Numerals.{add-one}
use native.Mathlib.Nat.{le_of_suc-le-suc, not-suc-le-zero}
use native.Mathlib.Omega.{arith}
use mathlib.Core.Path.{◌≡◌, refl, sym, ap, ◌∙◌}
use mathlib.Core.Bool.{Bool, true, false, ◌&&◌}
use mathlib.Core.List.{List, [], ◌∷◌, map}
use borrow.Author.Tests.{ltb-false}
use lib.Dec.{T, leb, ltb, leb→le, ltb→lt, lt→ltb}
use lib.ListN.{length, get_or, take, drop, drop_of_length-le, length-take, length-map}
use lib.ListN.{get_or-map, get_or-eq_default}
use lib.Seq.{get_or-take, drop-cons}
use Rattle.std.specs.List.{list_all}
use Rattle.model.specs.Cxl0.{Location, Home, nowhere, Topology, is_machine, is_location, owner, initial, WellFormed}
use Rattle.model.specs.Meaning.{home_of, topology_of, owners_fit, within_limits}
use Rattle.model.specs.declared.Home as home
use Rattle.model.specs.declared.Topology as topology
use Rattle.model.proofs.Tests.{and_l, and_r, and_i, true→T, same_test}

-- A list is as long as what it is mapped to, which is how an array's length is told.
pub mapped : {A B : Type 0} (f : A → B) (l : List A) (n : ℕ) → length (map f l) ≡ n → length l ≡ n
mapped f l n e = sym (length-map l f) ∙ e

below_min : (x a b : ℕ) → ltb x (min a b) ≡ (ltb x a && ltb x b)
below_min x a b =
    same_test (ltb x (min a b)) (ltb x a && ltb x b)
    (λ t.
    let h = ltb→lt x (min a b) t in
    and_i (ltb x a) (ltb x b) (lt→ltb x a (omega arith)) (lt→ltb x b (omega arith)))
    (λ t.
    let h = ltb→lt x a (and_l (ltb x a) (ltb x b) t) in
    let k = ltb→lt x b (and_r (ltb x a) (ltb x b) t) in
    lt→ltb x (min a b) (omega arith))

module _ (t : topology.Topology) (room : length t.homes ≡ 32) where
  -- A location is listed if its number is below the count, and below the room that there is.
  pub listed : (x : Location) → is_location (topology_of t) x ≡ (ltb x t.locations && ltb x 32)
  unfolding is_location topology_of
  listed x = rw (length-map, length-take, room) (below_min x t.locations 32)

  pub listed_e : (x : Location) → is_location (topology_of t) x ≡ true → (x < t.locations) × (x < 32)
  listed_e x e =
      let h = true→T (sym (listed x) ∙ e) in (
        ltb→lt x t.locations (and_l (ltb x t.locations) (ltb x 32) h),
        ltb→lt x 32 (and_r (ltb x t.locations) (ltb x 32) h),
      )

pub listed_below : (t : topology.Topology) (x : Location) → T (is_location (topology_of t) x) → x < t.locations
unfolding is_location topology_of
listed_below t x h =
    omega (arith, simp (length-map, length-take) at (ltb→lt x (length (topology_of t).homes) h))

-- The struct for `nowhere`.
abbrev pub no_home : home.Home
no_home = record { owner = record { 0 = 0 }; differs = false; initial = 0 }

-- Where a listed location lives stands in the array.
pub home_at : (t : topology.Topology) (x : Location) → x < t.locations
    → home_of (get_or t.homes x no_home) ≡ get_or (topology_of t).homes x nowhere
unfolding topology_of
home_at t x h =
    sym
    (get_or-map home_of (take t.locations t.homes) x no_home
    ∙ ap home_of (get_or-take t.locations t.homes x no_home h))

pub owner_at : (t : topology.Topology) (x : Location) → x < t.locations
    → (get_or t.homes x no_home).owner.0 ≡ owner (topology_of t) x
unfolding owner
owner_at t x h = ap (λ (e : Home). e.owner) (home_at t x h)

-- A location that is not listed lives nowhere.
pub at_nowhere : (sys : Topology) (x : Location) → is_location sys x ≡ false → nowhere ≡ get_or sys.homes x nowhere
unfolding is_location
at_nowhere sys x e = sym (get_or-eq_default sys.homes nowhere (ltb-false x _ e))

pub initial_nowhere : (sys : Topology) (x : Location) → is_location sys x ≡ false → initial sys x ≡ nowhere.initial
unfolding initial
initial_nowhere sys x e = ap (λ (h : Home). h.initial) (sym (at_nowhere sys x e))

-- What shows where a location lives.
pub ruleset homes_found = (mapped, listed_e, home_at, at_nowhere)

-- The locations from number x on: none from the count on, and before it the one in the array and then the rest.
module _ (t : topology.Topology) (room : length t.homes ≡ 32) (few : t.locations ≤ 32) where
  homes_count : length (topology_of t).homes ≡ t.locations
  unfolding topology_of
  homes_count = simp (length-map, length-take, room) (omega arith)

  pub homes_end : (x : ℕ) → t.locations ≤ x → drop x (topology_of t).homes ≡ []
  homes_end x h = drop_of_length-le (topology_of t).homes {i = x} (rw homes_count h)

  pub homes_more : (x : ℕ) → x < t.locations
      → drop x (topology_of t).homes ≡ home_of (get_or t.homes x no_home) ∷ drop (x + 1) (topology_of t).homes
  homes_more x h = rw (add-one x, home_at t x h) (drop-cons (topology_of t).homes x nowhere (rw homes_count h))

-- The owners of a list of homes fit if the owner of each one is a machine.
pub fit_all : (n : ℕ) (hs : List home.Home)
    → owners_fit n (map home_of hs) ≡ list_all (λ h. leb 1 h.owner.0 && leb h.owner.0 n) hs
unfolding owners_fit
fit_all n [] = refl
fit_all n (h ∷ hs) = ap (λ (b : Bool). leb 1 h.owner.0 && leb h.owner.0 n && b) (fit_all n hs)

-- One of owners that fit fits.
owner_fits : (n : ℕ) (hs : List Home) → T (owners_fit n hs) → (x : ℕ) → x < length hs
    → let o = (get_or hs x nowhere).owner in T (leb 1 o && leb o n)
unfolding owners_fit
owner_fits n [] h x l = absurd (not-suc-le-zero l)
owner_fits n (o ∷ hs) h zero l = and_l (leb 1 o.owner && leb o.owner n) (owners_fit n hs) h
owner_fits n (o ∷ hs) h (suc x) l =
    owner_fits n hs (and_r (leb 1 o.owner && leb o.owner n) (owners_fit n hs) h) x (le_of_suc-le-suc l)

-- What a topology within the limits has.
pub record Within (t : topology.Topology) : Type 0 where
  pub machines_few : t.machines ≤ 6
  pub locations_few : t.locations ≤ 32
  pub well-formed : WellFormed (topology_of t)

pub within : (t : topology.Topology) → T (within_limits t) → Within t
unfolding within_limits is_location is_machine owner topology_of
within t h =
    let n = t.machines in
    let fit = owners_fit n (topology_of t).homes in
    let few = leb 1 n && leb n 6 in
    let low = leb t.locations 32 in
    let both = and_l (few && low) fit h in
    record {
      machines_few = leb→le n 6 (and_r (leb 1 n) (leb n 6) (and_l few low both));
      locations_few = leb→le t.locations 32 (and_r few low both);
      well-formed = λ x l.
          owner_fits n (topology_of t).homes (and_r (few && low) fit h) x
          (ltb→lt x (length (topology_of t).homes) l);
    }
