-- `rows::rmw_row` meets its contract: the store leads into the row after it from every memory value, from one, or from
-- none.
use mathlib.Core.Path.{◌≡◌, sym, ◌∙◌}
use mathlib.Core.Logic.{inr, ⊎_elim}
use mathlib.Core.Bool.{true≢false}
use Rattle.rows.specs.Rows.{Fine}
use Rattle.rows.proofs.FineRows.{no_state, in_place}
use Rattle.rows.proofs.rmw_row.Goals as goal

-- Where `any` has not the code, the store leads into the row from the row's own memory value alone.
pub returns-then-contains-2 : goal.returns-then-contains-2
returns-then-contains-2 c =
    let args = c.args in
    in_place _ (λ m. m ≡ args.rest.value) (λ m. Fine args.rest args.t m) c.readable_at.result
    (λ m. (
      λ e. inr (c.contains-2.ensures.0 c.if-contains-2.true, e),
      ⊎_elim (λ p. absurd (true≢false (sym (c.contains.ensures.1 p) ∙ c.if-contains.false))) (λ p. p.1),
    ))
    c.readable_at.ensures

pub returns : goal.returns
returns c =
    no_state _ c.any_row.result
    (λ d m p.
    ⊎_elim
    (λ q. true≢false (sym (c.contains.ensures.1 q) ∙ c.if-contains.false))
    (λ q. true≢false (sym (c.contains-2.ensures.1 q.0) ∙ c.if-contains-2.false))
    p.1)
    c.any_row.ensures
