-- What `step_fits` asks of a system, as a topology's array has it.
use Prim.Native.Nat.{ℕ}
use mathlib.Core.Path.{◌≡◌, refl, sym}
use mathlib.Core.Bool.{Bool, true, false, not, ◌&&◌}
use lib.Dec.{leb, ltb, eqb}
use lib.ListN.{length, get_or, length-map, length-take}
use borrow.Author.Tests.{ltb-true}
use Rattle.std.proofs.Common.{arith}
use Rattle.std.proofs.lemmas.Bool.Decides.{nat_tests}
use Rattle.model.specs.Cxl0.{is_location, owner}
use Rattle.model.specs.Meaning.{topology_of}
use Rattle.model.specs.Schedule.{Step}
use Rattle.model.specs.declared.Topology as topology
use Rattle.model.proofs.Limits.{no_home, owner_at}
use Rattle.verdict_file.specs.Fitting.{step_fits}

-- Tests in a row. Where the second one fails, the last ones do not count.
in_row : (a b c d : Bool) → (((a && b) && c) && d) ≡ (a && (b && (c && d)))
in_row true true c d = refl
in_row true false c d = refl
in_row false b c d = refl

out_of_row : (a c d e : Bool) → (((a && false) && c) && d) ≡ (a && (false && e))
out_of_row true c d e = refl
out_of_row false c d e = refl

module _ (t : topology.Topology) (homes : length t.homes ≡ 32) where
  -- A location is listed below the count, as far as the array goes.
  listed : (x : ℕ) → is_location (topology_of t) x ≡ (ltb x 32 && ltb x t.locations)
  unfolding is_location topology_of
  listed x = simp (length-map, length-take, homes) (grind (arith, nat_tests))

  -- Its owner stands in the array.
  pub fits_by_array : (p : Step)
      → step_fits (topology_of t) p
      ≡ (ltb p.location 32
      && (ltb p.location t.locations
      && (leb p.machine t.machines
      && not (eqb p.machine (get_or t.homes p.location no_home).owner.0))))
  unfolding step_fits topology_of
  fits_by_array p = rw (listed p.location) (by_count (ltb p.location t.locations) refl)
    where
      x : ℕ
      x = p.location

      few : Bool
      few = leb p.machine (topology_of t).machines

      other : ℕ → Bool
      other i = not (eqb p.machine i)

      by_count : (b : Bool) → ltb x t.locations ≡ b
          → (((ltb x 32 && b) && few) && other (owner (topology_of t) x))
          ≡ (ltb x 32 && (b && (few && other (get_or t.homes x no_home).owner.0)))
      by_count true e =
          let own = (get_or t.homes x no_home).owner.0 in
          rw (sym (owner_at t x (ltb-true x t.locations e))) (in_row (ltb x 32) true few (other own))
      by_count false e =
          let own = (get_or t.homes x no_home).owner.0 in
          out_of_row (ltb x 32) few (other (owner (topology_of t) x)) (few && other own)
