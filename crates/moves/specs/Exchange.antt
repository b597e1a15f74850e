-- Sets of machines with machines 1 and k exchanged.
use Rattle.std.specs.Prelude.{ℕ, Bool, cond}
use Rattle.model.specs.Cxl0.{Machine}
use Rattle.model.specs.Sharers.{has, insert, remove}

-- The set with machine i if so told, and else without it.
unfoldable pub put : Machine → Bool → ℕ → ℕ
put i there c = cond there (insert i c) (remove i c)

-- The set with machines 1 and k exchanged: each is there exactly if the other was.
unfoldable pub exchange : Machine → ℕ → ℕ
exchange k c = put 1 (has k c) (put k (has 1 c) c)
