-- A topology is well formed if each of its listed owners is one of its machines.
use Prim.Native.Nat.{ℕ, zero, suc, ◌<◌}
use native.Mathlib.Nat.{not-suc-le-zero, le_of_suc-le-suc}
use mathlib.Core.Bool.{◌&&◌}
use mathlib.Core.List.{List, [], ◌∷◌}
use lib.Dec.{T, leb, ltb→lt}
use lib.ListN.{length, get_or}
use Rattle.model.specs.Cxl0.{Location, Home, nowhere, Topology, is_machine, is_location, owner, WellFormed}
use Rattle.model.specs.Meaning.{owners_fit}
use Rattle.model.proofs.Tests.{and_l, and_r}

fit_at : (n : ℕ) (hs : List Home) (x : Location) (d : Home) → T (owners_fit n hs) → x < length hs
    → T (leb 1 (get_or hs x d).owner && leb (get_or hs x d).owner n)
unfolding owners_fit
fit_at n [] x d t l = absurd (not-suc-le-zero l)
fit_at n (h ∷ hs) zero d t l = and_l (leb 1 h.owner && leb h.owner n) (owners_fit n hs) t
fit_at n (h ∷ hs) (suc x) d t l =
    fit_at n hs x d (and_r (leb 1 h.owner && leb h.owner n) (owners_fit n hs) t) (le_of_suc-le-suc l)

pub owners-fit : (sys : Topology) → T (owners_fit sys.machines sys.homes) → WellFormed sys
unfolding is_location is_machine owner
owners-fit sys t x l =
    fit_at sys.machines sys.homes x nowhere t (ltb→lt x (length sys.homes) l)
