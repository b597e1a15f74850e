-- `rows::load_copies_row` meets its contract: the codes that are not 0, once they gain the machine.
use Prim.Native.Nat.{ℕ}
use mathlib.Core.Path.{◌≡◌}
use mathlib.Core.Logic.{◌≢◌}
use lib.Bits.{bit_and}
use borrow.Author.Rules.{rules}
use Rattle.model.specs.Sharers.{insert}
use Rattle.masks.specs.Sets.{In, Exactly}
use Rattle.rows.proofs.FineRows.{exactly_and, row_if}
use Rattle.rows.proofs.load_copies_row.Goals as goal

-- What the closure makes of a set.
abbrev Made : (i m r : ℕ) → Type 0
Made i m r = (g : ℕ) × Exactly g (λ t. In (insert i t) m) × (s : ℕ) × Exactly s (λ t. t ≢ 0) × (r ≡ bit_and g s)

made : (i m r : ℕ) → Made i m r → Exactly r (λ t. In (insert i t) m × (t ≢ 0))
made i m r (g, gain, s, some, e) = rw e (exactly_and g s _ _ gain some)

pub returns : goal.returns
returns c =
    let rest = c.args.rest in
    let i = c.args.i.0 in
    let any : Made i rest.any c.map.result.any = search rules in
    let one : Made i rest.one c.map.result.one = search rules in
    row_if rest c.map.result c.map.ensures.value (insert i) (λ t. t ≢ 0) (made i rest.any _ any) (made i rest.one _ one)
