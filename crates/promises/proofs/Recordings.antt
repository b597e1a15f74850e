-- What the recorder's contract says of its answer and of the buffer afterwards.
use Prim.Native.Nat.{ℕ, ◌+◌, ◌≤◌, ◌<◌}
use mathlib.Core.Path.{◌≡◌, sym, ap, ◌∙◌}
use mathlib.Core.List.{List, ◌++◌}
use lib.ListN.{length, take, drop}
use Rattle.std.specs.Prelude.{Result}
use Rattle.fields.specs.declared.Refusal.{Refusal}
use Rattle.log_bytes.specs.Records.{Records}
use Rattle.log_bytes.specs.Bytes.{field}
use Rattle.log_bytes.specs.Reading.{refused, unfinished, ended, refusal, nothing, admit, read_fields}
use Rattle.recorder.specs.Recording as recording
use Rattle.recorder.specs.Recording.{count, rejected, answer_of, recorded, written, Call}
use Rattle.recorder.proofs.Answers

module _ (buf : List ℕ) (used tag : ℕ) (payload : List ℕ) (a : Result ℕ Refusal) (buf' : List ℕ)
    (call : Call buf used tag payload a buf') where
  -- The definition's answer, where the call's is known, and the buffer by it.
  says : {o : recording.Recorded} → answer_of a ≡ o → recorded buf used tag payload ≡ o
  says e = sym call.answers ∙ e

  left : {o : recording.Recorded} → answer_of a ≡ o → buf' ≡ written o buf used tag payload
  left e = call.leaves ∙ ap (λ o. written o buf used tag payload) (says e)

  pub record_refused : (number : ℕ) → answer_of a ≡ rejected number → buf' ≡ buf
  record_refused number e = left e

  pub record_writes : (n : ℕ) → answer_of a ≡ count n
      → (n ≡ used + 3 + length payload)
      × (n ≤ length buf)
      × (buf' ≡ take used buf ++ field tag payload ++ drop n buf)
  record_writes n e = let (same, fits) = Answers.new_count buf used tag payload n (says e) in (same, fits, left e)

  pub record_past : length buf < used → answer_of a ≡ rejected 1
  record_past h = call.answers ∙ Answers.used_past buf used tag payload h

  module _ (inside : used ≤ length buf) where
    pub record_used_refused : (number : ℕ) → read_fields 0 nothing (take used buf) ≡ refusal number
        → answer_of a ≡ rejected number
    record_used_refused number e = call.answers ∙ Answers.used_refused buf used tag payload inside number e

    pub record_after_end : (r : Records) (rest : List ℕ) → read_fields 0 nothing (take used buf) ≡ ended r rest
        → answer_of a ≡ rejected 12
    record_after_end r rest e = call.answers ∙ Answers.used_ended buf used tag payload inside r rest e

    module _ (r : Records) (so_far : read_fields 0 nothing (take used buf) ≡ unfinished r) where
      pub record_field_refused : (number : ℕ) → admit r tag (length payload) payload ≡ refused number
          → answer_of a ≡ rejected number
      record_field_refused number e =
          call.answers ∙ Answers.field_refused buf used tag payload inside r so_far number e

      module _ (stands : (number : ℕ) → ¬ (admit r tag (length payload) payload ≡ refused number)) where
        pub record_fits : used + 3 + length payload ≤ length buf
            → answer_of a ≡ count (used + 3 + length payload)
        record_fits h = call.answers ∙ Answers.field_fits buf used tag payload inside r so_far stands h

        pub record_no_room : length buf < used + 3 + length payload → answer_of a ≡ rejected 1
        record_no_room h = call.answers ∙ Answers.field_too_long buf used tag payload inside r so_far stands h
