-- Codes of sets of machines (document 01: holder sets): bit i - 1 of a code is set if machine i is in the set.
use Rattle.std.specs.Prelude.{ℕ, zero, suc, ◌+◌, ◌-◌, ◌*◌, ◌/◌, ◌%◌, Bool, false, cond, eqb}
use Rattle.std.specs.Int.Bits.{bit_and}

-- Machine i is in the set; machine 0, which is none, is in no set.
unfoldable pub has : (i c : ℕ) → Bool
has zero c = false
has (suc zero) c = eqb (c % 2) 1
has (suc (suc i)) c = has (suc i) (c / 2)

-- The set with machine i, and the set without it.
unfoldable pub insert : (i c : ℕ) → ℕ
insert zero c = c
insert (suc zero) c = 2 * (c / 2) + 1
insert (suc (suc i)) c = 2 * insert (suc i) (c / 2) + c % 2

unfoldable pub remove : (i c : ℕ) → ℕ
remove zero c = c
remove (suc zero) c = 2 * (c / 2)
remove (suc (suc i)) c = 2 * remove (suc i) (c / 2) + c % 2

-- The set c without the machines of the set d.
unfoldable pub remove_all : (d c : ℕ) → ℕ
remove_all d c = c - bit_and c d

-- How many of machines 1 to n are in the set.
unfoldable pub members : (n c : ℕ) → ℕ
members zero c = 0
members (suc n) c = cond (has (suc n) c) (suc (members n c)) (members n c)
