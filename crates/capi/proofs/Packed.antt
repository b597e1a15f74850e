-- What the judge answers, packed, and leaves in each area.
use Prim.Native.Nat.{ℕ}
use mathlib.Core.Path.{◌≡◌, ap, ◌∙◌}
use mathlib.Core.List.{List}
use Rattle.std.specs.Prelude.{Result}
use Rattle.fields.specs.declared.Refusal.{Refusal}
use Rattle.judge.specs.Judging.{Outcome, answer_of, outcome_of, judgement}
use Rattle.judge.specs.declared.Judged.{Judged}
use Rattle.capi.specs.Packing.{pack_judged}

pub judged_packed : (s out : List ℕ) (offset : ℕ) (scratch : List ℕ) (j : Result Judged Refusal)
    {out' scratch' : List ℕ} {packed : ℕ}
    → outcome_of j out' scratch' ≡ judgement s out offset scratch → packed ≡ pack_judged (answer_of j)
    → let o = judgement s out offset scratch in
    (packed ≡ pack_judged o.answer) × ((out' ≡ o.out) × (scratch' ≡ o.scratch))
judged_packed s out offset scratch j same packs = (
  packs ∙ ap (λ (o : Outcome). pack_judged o.answer) same,
  (ap (λ (o : Outcome). o.out) same, ap (λ (o : Outcome). o.scratch) same),
)
