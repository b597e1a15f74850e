-- `rows::r_flush_row` meets its contract: code 0 alone.
use Prim.Native.Nat.{ℕ}
use mathlib.Core.Path.{◌≡◌}
use lib.Bits.{bit_and}
use mathlib.Core.Logic.Iff
use borrow.Author.Rules.{rules}
use Rattle.masks.specs.Sets.{In, Exactly}
use Rattle.rows.proofs.FineRows.{exactly_and, row_if}
use Rattle.rows.proofs.r_flush_row.Goals as goal

-- What the closure makes of a set.
abbrev Made : (m r : ℕ) → Type 0
Made m r = (s : ℕ) × Exactly s (λ t. t ≡ 0) × (r ≡ bit_and m s)

made : (m r : ℕ) → Made m r → Exactly r (λ t. In t m × (t ≡ 0))
made m r (s, none, e) = rw e (exactly_and m s (λ t. In t m) _ (λ t h. Iff.rfl) none)

pub returns : goal.returns
returns c =
    let rest = c.args.rest in
    let any : Made rest.any c.map.result.any = search rules in
    let one : Made rest.one c.map.result.one = search rules in
    row_if rest c.map.result c.map.ensures.value (λ t. t) (λ t. t ≡ 0) (made rest.any _ any) (made rest.one _ one)
