-- Which row meets the Load line, by whether code 0 is fine after the load of v and whether the copies' value
-- u is v.
use mathlib.Core.Path.{◌≡◌, sym, subst}
use mathlib.Core.Logic.Iff
use mathlib.Core.Logic.{◌≢◌, inl, inr, ⊎_elim}
use lib.Dec.{T}
use Rattle.model.specs.Cxl0.{Machine, Value}
use Rattle.model.specs.Sharers.{insert}
use Rattle.model.proofs.SilentSteps.{has→some}
use Rattle.model.specs.OneLocation.{readable_at}
use Rattle.masks.specs.Sets.{In, OneToSix}
use Rattle.masks.proofs.Codes.{has_itself, insert_fits}
use Rattle.rows.specs.declared.Row.{Row}
use Rattle.rows.specs.Rows.{state, Fine, any_row, RowOf, Closed}
use Rattle.rows.proofs.FineRows.{no_state}
use Rattle.rows.proofs.Lines.{reads, Loads}

module _ (rest : Row) (i : Machine) (u v : Value) where
  -- Code 0 is fine after the load: it may read memory, and if u is v, a closed row has every code with i.
  pub from_memory : (r : Row) → OneToSix i → Closed u rest → Fine rest 0 v
      → RowOf (λ c m. T (readable_at v (state c u m))) r
      → RowOf (Loads rest i u v) r
  from_memory r six closed fine readable c m h =
      let read = Iff.trans (Iff.symm (reads u v c m)) (readable c m h) in (
        ⊎_elim (λ p. read.0 (inr (p.0, p.1))) (λ p. read.0 (inl (p.0, p.1))),
        λ f.
            ⊎_elim
            (λ p. inr (p.0, p.1, inl (there p.1)))
            (λ p. inl (p.0, p.1, fine))
            (read.1 f),
      )
    where
      there : u ≡ v → In (insert i c) rest.any
      there e =
          closed (subst (Fine rest 0) (sym e) fine) (insert i c) (insert_fits i c six h)
          (has→some i (insert i c) (has_itself i c six.0))

  -- Code 0 is not fine after the load: it reads the copies, or is not possible.
  module _ (stuck : ¬ Fine rest 0 v) (r : Row) where
    pub from_copies : u ≡ v → RowOf (λ c m. (c ≢ 0) × Fine rest (insert i c) m) r
        → RowOf (Loads rest i u v) r
    from_copies e copies c m h = (
      ⊎_elim (λ p. absurd (stuck p.2)) (λ p. (copies c m h).0 (p.0, p.2)),
      λ f. let q = (copies c m h).1 f in inr (q.0, e, q.1),
    )

    pub from_nothing : u ≢ v → r ≡ any_row 0 → RowOf (Loads rest i u v) r
    from_nothing n =
        no_state (Loads rest i u v) r (λ c m. ⊎_elim (λ p. absurd (stuck p.2)) (λ p. absurd (n p.1)))
