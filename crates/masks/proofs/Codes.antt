-- Codes as numbers: what a machine adds to a code, and what one move to the owner leaves of it.
use Prim.Native.Nat.{ℕ, zero, suc, ◌+◌, ◌/◌, ◌%◌, ◌≤◌, ◌<◌}
use native.Mathlib.Nat.{not-suc-le-zero, lt_of_le_of_lt}
use native.Mathlib.Omega.{arith}
use mathlib.Core.Path.{◌≡◌, refl, sym, ap, ◌∙◌}
use mathlib.Core.Bool.{not}
use borrow.Author.Tests.{eq-eqb}
use lib.Dec.{T, eqb, eqb→eq, eqb_refl}
use Rattle.model.specs.Cxl0.{Machine}
use Rattle.model.specs.Sharers.{has, insert, remove}
use Rattle.model.specs.OneLocation.{moved, Moves, stay, move}
use Rattle.model.proofs.Tests.{by_test, ne_test, or_l}
use Rattle.model.proofs.Sharers.{has_remove, insert_bound, remove_le}
use Rattle.model.proofs.Expand.{has_insert_of}
use Rattle.model.proofs.SilentSteps.{has→some}
use Rattle.model.proofs.SomeSilent.{swap}
use Rattle.masks.specs.Sets.{OneToSix}

-- A machine that the set lacks adds the code of that machine alone.
pub insert_adds : (i : Machine) (c : ℕ) → 1 ≤ i → T (not (has i c)) → insert i c ≡ c + insert i 0
unfolding has insert
insert_adds zero c l t = absurd (not-suc-le-zero l)
insert_adds (suc zero) c l t = omega (arith, ne_test (c % 2) 1 t)
insert_adds (suc (suc i)) c l t = omega (arith, insert_adds (suc i) (c / 2) (omega arith) t)

-- A machine of the set takes the code of that machine alone with it.
pub remove_takes : (i : Machine) (c : ℕ) → T (has i c) → remove i c + insert i 0 ≡ c
unfolding has insert remove
remove_takes zero c t = absurd t
remove_takes (suc zero) c t = omega (arith, eqb→eq (c % 2) 1 t)
remove_takes (suc (suc i)) c t = omega (arith, remove_takes (suc i) (c / 2) t)

-- A machine that is there changes nothing by coming, and one that is not there nothing by leaving.
pub insert_there : (i : Machine) (c : ℕ) → T (has i c) → insert i c ≡ c
unfolding has insert
insert_there zero c t = absurd t
insert_there (suc zero) c t = omega (arith, eqb→eq (c % 2) 1 t)
insert_there (suc (suc i)) c t = omega (arith, insert_there (suc i) (c / 2) t)

pub remove_absent : (i : Machine) (c : ℕ) → T (not (has i c)) → remove i c ≡ c
unfolding has remove
remove_absent zero c t = refl
remove_absent (suc zero) c t = omega (arith, ne_test (c % 2) 1 t)
remove_absent (suc (suc i)) c t = omega (arith, remove_absent (suc i) (c / 2) t)

-- A machine is in the set with it, and not in the set without it.
pub has_itself : (i : Machine) (c : ℕ) → 1 ≤ i → T (has i (insert i c))
has_itself i c l = rw has_insert_of (or_l (eqb i i) (has i c) (eqb_refl i))

pub lacks_itself : (i : Machine) (c : ℕ) → T (not (has i (remove i c)))
lacks_itself i c = rw (has_remove, eq-eqb i i refl) tt

-- With one of machines 1 to 6 more, a code stays below 64.
pub insert_fits : (i : Machine) (c : ℕ) → OneToSix i → c < 64 → insert i c < 64
insert_fits zero c o h = absurd (not-suc-le-zero o.0)
insert_fits (suc i) c o h = insert_bound 6 i c o.1 h

-- A move to one of machines 1 to 6 keeps a code below 64.
pub moved_fits : (k i : Machine) (c : ℕ) → OneToSix k → c < 64 → moved k i c < 64
unfolding moved
moved_fits k i c o h = insert_fits k (remove i c) o (lt_of_le_of_lt (remove_le i c) h)

-- Moves leave the owner a copy, so that they come to code 0 only from code 0, without a move.
pub moves_to_none : {k c d : ℕ} → 1 ≤ k → Moves k c d → d ≡ 0 → c ≡ 0
unfolding moved
moves_to_none l stay z = z
moves_to_none {k} {c} l (move i t r) z =
    absurd (has→some k (moved k i c) (has_itself k (remove i c) l) (moves_to_none l r z))

-- A move of the owner to itself is the owner's coming.
pub moved_owner : (k : Machine) (c : ℕ) → 1 ≤ k → moved k k c ≡ insert k c
unfolding moved
moved_owner k c l =
    by_test (has k c)
    (λ t. insert_adds k (remove k c) l (lacks_itself k c) ∙ remove_takes k c t ∙ sym (insert_there k c t))
    (λ t. ap (insert k) (remove_absent k c t))

module _ (k i : Machine) (c : ℕ) (o : OneToSix k) (h : c < 64) where
  -- Moves of two machines commute.
  pub moved_moved : (j : Machine) → moved k i (moved k j c) ≡ moved k j (moved k i c)
  moved_moved j = swap 6 k i j c o.0 o.1 h

  -- It makes no difference to a move whether the owner was there.
  pub moved_insert : moved k i (insert k c) ≡ moved k i c
  unfolding moved
  moved_insert =
      ap (moved k i) (sym (moved_owner k c o.0)) ∙ moved_moved k
      ∙ moved_owner k (moved k i c) o.0 ∙ insert_there k (moved k i c) (has_itself k (remove i c) o.0)
