-- The first events of a list name machines and locations of a system if all do.
use Prim.Native.Nat.{ℕ, zero, suc}
use mathlib.Core.List.{List, [], ◌∷◌, map}
use lib.Dec.{T}
use lib.ListN.{take}
use Rattle.model.specs.Cxl0.{Topology, Event, event, named, all_named}
use Rattle.model.proofs.Tests.{and_l, and_r, and_i}

module _ (sys : Topology) where
  pub named_take : (es : List Event) (d : ℕ) → T (all_named sys (map event es))
      → T (all_named sys (map event (take d es)))
  unfolding all_named
  named_take es zero n = tt
  named_take [] (suc d) n = tt
  named_take (e ∷ es) (suc d) n =
      let first = named sys (event e) in
      let rest = all_named sys (map event es) in
      and_i first (all_named sys (map event (take d es))) (and_l first rest n)
      (named_take es d (and_r first rest n))
