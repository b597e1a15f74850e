-- The full move table of document 01: 384 numbers of 64 bits, one for each owner 1 to 6 and each code 0 to 63. Bit t of
-- a number is set exactly when moves alone, or none, lead from its code to code t: that is a promise (`table_reached`),
-- so that how the numbers are computed here is of no account.
use Rattle.std.specs.Prelude.{ℕ, zero, suc, ◌+◌, ◌*◌, ◌-◌, ◌/◌, ◌%◌, ◌^◌, cond, List, [], ◌∷◌, get_or}
use Rattle.model.specs.Cxl0.{Machine}
use Rattle.model.specs.OneLocation.{movable, moved}

-- 2 ^ t, added up over the codes t that c becomes if machines n to 1 in turn stay or, where they can, move.
unfoldable pub number : Machine → ℕ → ℕ → ℕ
number k zero c = 2 ^ c
number k (suc n) c =
    let gone = number k n (moved k (suc n) c) in
    cond (movable k (suc n) c) gone 0 + number k n c

-- Entries n, n + 1 and so on of the table, m of them: 64 numbers for owner 1, then 64 for owner 2, up to 6.
unfoldable pub entries : ℕ → ℕ → List ℕ
entries zero n = []
entries (suc m) n = number (n / 64 + 1) 6 (n % 64) ∷ entries m (suc n)

unfoldable pub table : List ℕ
table = entries 384 0

-- Its number for owner k and code c.
abbrev pub number_at : Machine → ℕ → ℕ
number_at k c = get_or table ((k - 1) * 64 + c) 0
