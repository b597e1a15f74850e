-- `fill_allowed` puts the header, a field for each step and the end, each behind the one before.
use Prim.Native.Nat.{ℕ, ◌+◌, ◌*◌, ◌≤◌}
use native.Mathlib.Numerals.{add-one}
use native.Mathlib.Omega.{arith}
use mathlib.Core.Path.{◌≡◌, refl, sym, ap₂, ◌∙◌}
use mathlib.Core.List.{List, map}
use lib.Dec.{T}
use lib.ListN.{length, get_or, length-map}
use Rattle.model.specs.Words.{step_of_word}
use Rattle.verdict_file.specs.Files.{file_most, step_field, step_fields, end}
use Rattle.verdict_file.specs.Writing.{allowed_by, writable}
use Rattle.fields.specs.Put.{put}
use Rattle.verdict_file.proofs.Files.{length_allowed}
use Rattle.fields.proofs.Put.{put_none}
use Rattle.verdict_file.proofs.Words.{fields, few, small, put_word, put_file}
use Rattle.verdict_file.proofs.filling.fill_allowed.Goals as goal

-- The part, and what it becomes, have room for the fields of all steps.
room : (ws l l' : List ℕ) → (file_most ≤ length l) × T (writable (allowed_by ws)) → length l' ≡ length l
    → 8 + 6 * length ws ≤ length l'
room ws l l' r kept = omega (arith, few ws r.1, r.0)

pub loop-word-init : goal.loop-word-init
unfolding step_fields
loop-word-init c = (c.put_header-at.ensures.0, refl, sym (put_none _ 5))

pub put_step-at-requires : goal.put_step-at-requires
put_step-at-requires c = (
  omega (arith, room c.args.steps.now _ _ c.requires c.put_header-at.auto.part),
  small c.args.steps.now c.requires.1 c.loop-word.word-index c.loop-word-test.true,
)

pub loop-word-preserved : goal.loop-word-preserved
loop-word-preserved c =
    let step = c.put_step-at in
    let (at, kept, filled) = c.loop-word.invariant in
    let i = c.loop-word.word-index in
    let bytes : List ℕ = step_field (step_of_word (get_or c.args.steps.now i 0)) in
    let fits : 5 + 6 * i ≤ length c.put_header-at.new.part =
    omega (arith, room c.args.steps.now _ _ c.requires c.put_header-at.auto.part) in
    let more = put_word c.put_header-at.new.part c.args.steps.now i c.loop-word-test.true fits in (
      omega arith,
      step.auto.part ∙ kept,
      step.ensures.1 ∙ ap₂ (λ (l : List ℕ) (n : ℕ). put l n bytes) filled at ∙ rw add-one more,
    )

pub put_end-requires : goal.put_end-requires
put_end-requires c = omega (arith, room c.args.steps.now _ _ c.requires c.put_header-at.auto.part)

pub returns : goal.returns
returns c =
    let ws = c.args.steps.now in
    let (_, part) = c.put_header-at.ensures in
    let (_, part') = c.put_end.ensures in
    let all : c.loop-word.word-index ≡ length ws = omega arith in
    let place : c.loop-word.at ≡ 5 + 6 * length ws = omega arith in
    let filled = c.loop-word.invariant.2 ∙ ap₂ (λ (l : List ℕ) (i : ℕ). put l 5 (fields ws i)) part all in
    let few = room ws _ _ c.requires c.put_header-at.auto.part in
    record {
      value = omega (arith, length_allowed (map step_of_word ws), length-map ws step_of_word);
      part_after =
          part' ∙ ap₂ (λ (l : List ℕ) (n : ℕ). put l n end) filled place
          ∙ put_file c.args.part.now ws (omega (arith, few, c.put_header-at.auto.part));
    }
