-- What the converter's contract says of its answer and of the output afterwards, and what a log and its form in the
-- other edition have in common.
use Prim.Native.Nat.{ℕ, ◌≤◌, ◌<◌}
use mathlib.Core.Path.{◌≡◌, refl, sym, ap, ◌∙◌}
use mathlib.Core.Logic.{◌↔◌}
use mathlib.Core.Bool.{true}
use mathlib.Core.List.{List, Memᴰ, ◌++◌}
use lib.ListN.{length, take, drop}
use lib.Seq.{take-append_seam}
use Rattle.std.specs.Prelude.{Result}
use Rattle.model.specs.Cxl0.{Value}
use Rattle.fields.specs.declared.Edition.TheVariants.{Second}
use Rattle.fields.specs.declared.Refusal.{Refusal}
use Rattle.log_bytes.specs.Records.{Records, system_of}
use Rattle.log_bytes.specs.Bytes.{Bytes, encode}
use Rattle.log_bytes.specs.Reading.{Log, accepted, rejected, read_log}
use Rattle.log_bytes.proofs.Checks.{clash}
use Rattle.converter.specs.Values.{values}
use Rattle.converter.specs.Converting.{other, in_edition, Conversion, bytes, form_in, in_other, conversion, output_least}
use Rattle.converter.specs.Converting.{Answer, gives, told, written, answer_of, Converts}
use Rattle.converter.proofs.Conversions.{form_else, too_large, other_read, there_and_back}
use Rattle.converter.proofs.Answered.{short_output, enough_output, told_refused, told_gives, bytes_of_log}
use Rattle.replay.specs.Replaying.{replay_log}
use Rattle.replay.proofs.Demand2.{same_replay}
use Rattle.judge.specs.Judging as judging
use Rattle.judge.specs.Judging.{outcome_of, areas_fit, judgement_of, judgement}
use Rattle.judge.specs.declared.Judged.{Judged}
use Rattle.promises.proofs.Judgements

-- ---- one call

module _ (s out : List ℕ) (a : Result ℕ Refusal) (out' : List ℕ) (call : Converts s out a out') where
  -- The answer and the output by what the call comes to.
  by : (x : Conversion) → conversion s out ≡ x → (answer_of a ≡ told x) × (out' ≡ written x out)
  by x e = (call.answers ∙ ap told e, call.leaves ∙ ap (λ (x : Conversion). written x out) e)

  pub convert_untouched : (number : ℕ) → answer_of a ≡ Answer.refused number → out' ≡ out
  convert_untouched number e =
      (by (Conversion.refused number) (told_refused (conversion s out) number (sym call.answers ∙ e))).1

  pub convert_short : length out < output_least → answer_of a ≡ Answer.refused 1
  convert_short h = (by (Conversion.refused 1) (short_output s out h)).0

  -- Where a length is answered, so many bytes of the output are what the log comes to.
  written_there : (len : ℕ) → answer_of a ≡ gives len
      → (in_other (read_log s) ≡ bytes (take len out')) × (length (take len out') ≡ len)
  written_there len e =
      let (t, same, long) = told_gives (conversion s out) len (sym call.answers ∙ e) in
      let stands : take len out' ≡ t =
      ap (λ (n : ℕ). take n out') (sym long)
      ∙ ap (take (length t)) (by (bytes t) same).1
      ∙ take-append_seam t (drop (length t) out) in
      (bytes_of_log s out t same ∙ ap bytes (sym stands), ap length stands ∙ long)

  module _ (enough : output_least ≤ length out) where
    pub convert_refused : (number : ℕ) → read_log s ≡ rejected number → answer_of a ≡ Answer.refused number
    convert_refused number e = (by (Conversion.refused number) (enough_output s out enough ∙ ap in_other e)).0

    module _ (b : Bytes s) (r : Records) (read : read_log s ≡ accepted r) where
      pub convert_too_large : (answer_of a ≡ Answer.refused 17)
          ↔ ((r.edition ≡ Second) × ((v : Value) × Memᴰ v (values r) × (65535 < v)))
      convert_too_large = (
        λ e.
            let refused = told_refused (conversion s out) 17 (sym call.answers ∙ e) in
            (too_large s r b read).0 (sym (enough_output s out enough) ∙ refused),
        λ over. (by (Conversion.refused 17) (enough_output s out enough ∙ (too_large s r b read).1 over)).0,
      )

      pub convert_writes : ¬ (answer_of a ≡ Answer.refused 17)
          → let t = encode (in_edition (other r.edition) r) in
          (answer_of a ≡ gives (length t)) × (out' ≡ t ++ drop (length t) out)
      convert_writes small =
          let log = enough_output s out enough ∙ ap in_other read in
          let fits : ¬ (form_in (other r.edition) r ≡ Conversion.refused 17) =
          λ e. small (by (Conversion.refused 17) (log ∙ e)).0 in
          by (bytes (encode (in_edition (other r.edition) r))) (log ∙ form_else (other r.edition) r fits)

-- ---- a log and its form in the other edition

module _ (s t : List ℕ) (r : Records) (b : Bytes s) (read : read_log s ≡ accepted r)
    (form : in_other (read_log s) ≡ bytes t) where
  -- The same records in the other edition, of which the system and the events are the same.
  abbrev same : Records
  same = in_edition (other r.edition) r

  form_read : read_log t ≡ accepted same
  form_read = other_read s t r b read form

  -- Replay answers alike, whatever the file.
  form_replayed : (f : List ℕ) → replay_log t f ≡ replay_log s f
  unfolding system_of
  form_replayed = same_replay s t r same read form_read refl refl

  -- They have the same system and the same events, so that the judge leaves the same: answer, file and areas.
  form_judged : (out : List ℕ) (offset : ℕ) (scratch : List ℕ)
      → judgement t out offset scratch ≡ judgement s out offset scratch
  unfolding judgement judgement_of system_of
  form_judged out offset scratch = rw (form_read, read)

-- ---- what was written

module _ (s out : List ℕ) (a : Result ℕ Refusal) (out' : List ℕ) (call : Converts s out a out') (b : Bytes s) (len : ℕ)
    (converted : answer_of a ≡ gives len) where
  abbrev t : List ℕ
  t = take len out'

  form : in_other (read_log s) ≡ bytes t
  form = (written_there s out a out' call len converted).0

  -- The log is accepted: one that is refused has no bytes.
  log : (r : Records) × (read_log s ≡ accepted r)
  log = go (read_log s) refl form
    where
      go : (l : Log) → read_log s ≡ l → in_other l ≡ bytes t → (r : Records) × (read_log s ≡ accepted r)
      go (accepted r) read e = (r, read)
      go (rejected number) read e = clash (cc)

  pub converted_read : (r : Records) → read_log s ≡ accepted r
      → read_log t ≡ accepted (in_edition (other r.edition) r)
  converted_read r read = form_read s t r b read form

  pub converted_back : (back : List ℕ) (c : Result ℕ Refusal) (back' : List ℕ) → Converts t back c back'
      → output_least ≤ length back
      → (answer_of c ≡ gives (length s)) × (back' ≡ s ++ drop (length s) back)
  converted_back back c back' again enough =
      by t back c back' again (bytes s) (enough_output t back enough ∙ there_and_back s t b form)

  pub converted_replayed : (f : List ℕ) → replay_log t f ≡ replay_log s f
  converted_replayed = let (r, read) = log in form_replayed s t r b read form

  pub converted_judged : (area : List ℕ) (offset : ℕ) (scratch : List ℕ)
      → judgement t area offset scratch ≡ judgement s area offset scratch
  converted_judged = let (r, read) = log in form_judged s t r b read form

  -- Two calls of the judge, one for each edition.
  module _ (area : List ℕ) (offset : ℕ) (scratch : List ℕ) (j : Result Judged Refusal) (area' scratch' : List ℕ)
      (first : outcome_of j area' scratch' ≡ judgement s area offset scratch)
      (fit : areas_fit area offset scratch ≡ true)
      (room : List ℕ) (at : ℕ) (words : List ℕ) (k : Result Judged Refusal) (room' words' : List ℕ)
      (second : outcome_of k room' words' ≡ judgement t room at words) (fits : areas_fit room at words ≡ true) where
    pub same_answer : judging.answer_of j ≡ judging.answer_of k
    unfolding system_of
    same_answer =
        let (r, read) = log in
        Judgements.same_answer s area offset scratch j area' scratch' first fit r read
        t room at words k room' words' second fits (in_edition (other r.edition) r) (converted_read r read) refl refl

    pub same_file : (verdict event steps len : ℕ) → judging.answer_of j ≡ judging.gives verdict event steps len
        → take len (drop offset area') ≡ take len (drop at room')
    unfolding system_of
    same_file =
        let (r, read) = log in
        Judgements.same_file s area offset scratch j area' scratch' first fit r read
        t room at words k room' words' second fits (in_edition (other r.edition) r) (converted_read r read) refl refl

    pub same_allowed : ((steps len : ℕ) × (judging.answer_of j ≡ judging.gives 1 0 steps len))
        ↔ ((steps len : ℕ) × (judging.answer_of k ≡ judging.gives 1 0 steps len))
    same_allowed = rw same_answer (λ e. e, λ e. e)

    pub same_impossible : (e : ℕ)
        → ((len : ℕ) × (judging.answer_of j ≡ judging.gives 0 e 0 len))
        ↔ ((len : ℕ) × (judging.answer_of k ≡ judging.gives 0 e 0 len))
    same_impossible e = rw same_answer (λ e. e, λ e. e)
