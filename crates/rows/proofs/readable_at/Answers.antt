-- `rows::readable_at` meets its contract: with one memory value the row has every code but 0 if the copies have the
-- value that is read, and code 0 if memory has it.
use Prim.Native.Nat.{ℕ}
use mathlib.Core.Path.{◌≡◌, sym, ◌∙◌}
use mathlib.Core.Logic.Iff
use mathlib.Core.Logic.{◌≢◌, ◌⊎◌, inl, inr, ⊎_elim, ◌↔◌}
use borrow.Author.Tests.{eqb-true, eq-eqb}
use Rattle.masks.proofs.Sets.{in_none}
use Rattle.rows.proofs.FineRows.{exactly_or, row_of}
use Rattle.rows.proofs.Lines.{Reads, reads}
use Rattle.rows.proofs.readable_at.Goals as goal

-- What is read with memory value m, where n is m.
with_value : (u v c n m : ℕ)
    → (Reads u v c n × (n ≡ m)) ↔ (⊥ ⊎ ((((c ≢ 0) × (u ≡ v)) ⊎ ((c ≡ 0) × (m ≡ v))) × (n ≡ m)))
with_value u v c n m = (
  λ p. inr (⊎_elim inl (λ q. inr (q.0, sym p.1 ∙ q.1)) p.0, p.1),
  ⊎_elim absurd (λ p. (⊎_elim inl (λ q. inr (q.0, p.1 ∙ q.1)) p.0, p.1)),
)

pub returns : goal.returns
returns c =
    let copies = c.only_if in
    let some = c.all_but_empty in
    let args = c.args in
    λ d n h.
    Iff.trans (Iff.and (reads args.u args.v d n) Iff.rfl)
    (Iff.trans (with_value args.u args.v d n args.m)
    (row_of 0 _ (λ d. ⊥) (λ d. ((d ≢ 0) × (args.u ≡ args.v)) ⊎ ((d ≡ 0) × (args.m ≡ args.v)))
    (λ d h. (in_none d, absurd))
    (exactly_or copies.result c.only_if-2.result
    (λ d. (d ≢ 0) × (args.u ≡ args.v)) (λ d. (d ≡ 0) × (args.m ≡ args.v))
    (λ d h. Iff.trans (copies.ensures d h) (Iff.and (some.ensures d h) (eqb-true _ _, eq-eqb _ _)))
    (λ d h. Iff.trans (c.only_if-2.ensures d h) (Iff.and (c.single.ensures d h) (eqb-true _ _, eq-eqb _ _))))
    args.m d n h))
