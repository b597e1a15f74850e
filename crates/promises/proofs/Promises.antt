-- What Malluvom promises: document 01's three demands, and what the change requests add, as theorems. Each speaks of a
-- public call by what its contract ensures, and of nothing else of the program. docs/TRUSTED.md lists the definitions
-- that a reader has to believe. No call that users make has a `requires`, and every call ends: the checker asks that
-- of each function. That the model is the published one is shown beside it: the eight facts of source 000's
-- Proposition 1 in model's `Proposition1`, and what flushes and MStores make sure of in `Persistence`.
use Prim.Native.Nat.{ℕ, ◌+◌, ◌*◌, ◌-◌, ◌≤◌, ◌<◌}
use mathlib.Core.Path.{◌≡◌, refl, ◌∙◌}
use mathlib.Core.Logic.{◌↔◌}
use mathlib.Core.Bool.{Bool, true, false, not}
use mathlib.Core.List.{List, [], ◌∷◌, Memᴰ, ◌++◌, map}
use mathlib.Core.Option.{some}
use lib.Dec.{T}
use lib.ListN.{length, take, drop}
use Rattle.std.specs.Prelude.{Result}
use Rattle.model.specs.Cxl0.{Machine, Location, Value, MachineSet, Home, Topology, WellFormed, initial, State, start}
use Rattle.model.specs.Cxl0.{every_machine, cached, Form, Event, Action, event}
use Rattle.model.specs.Cxl0.{LStore, Load, LFlush, RFlush, Crash, SetCrash, RMW}
use Rattle.model.specs.Cxl0.{named, next, after, Run, HasRun, events, silents, count, is_store, is_load}
use Rattle.model.specs.Sharers.{has}
use Rattle.model.specs.Goes.{store_of, Lists, crash_row}
use Rattle.model.specs.Earlier as earlier
use Rattle.model.specs.Schedule.{Step, weave, schedule, in_order}
use Rattle.model.specs.Shortest.{Smaller}
use Rattle.model.specs.MarkedLogs.{AsMarked, logs, pattern_logs, set_crash_logs, kind_logs, filled, L0}
use Rattle.model.proofs.Theorems
use Rattle.fields.specs.declared.Edition.{Edition}
use Rattle.fields.specs.declared.Edition.TheVariants.{First, Second}
use Rattle.fields.specs.declared.Refusal.{Refusal}
use Rattle.log_bytes.specs.Records.{Records, system_of, WithinLimits}
use Rattle.log_bytes.specs.Bytes.{Bytes, field, encode, ShortRows, NoKindBytes}
use Rattle.log_bytes.specs.Payloads.{Numbers, event_with}
use Rattle.log_bytes.specs.Reading.{Given, Outcome, nothing, admit, read_fields, accepted, rejected, read_log}
use Rattle.log_bytes.proofs.OneForm
use Rattle.log_bytes.proofs.Owned
use Rattle.log_bytes.proofs.ShortRows.{short_rows_zero, short_rows_kinds, no_kind_bytes_kinds}
use Rattle.log_bytes.specs.declared.Head.{Head}
use Rattle.reader.specs.Answers as read
use Rattle.recorder.specs.Recording as recording
use Rattle.recorder.specs.Recording.{Call, Handed, recorded_of, Sequence}
use Rattle.recorder.proofs.Sequences
use Rattle.cursors.specs.Cursors.{first_of}
use Rattle.cursors.specs.Calls.{HomeCalls, EventCalls}
use Rattle.cursors.proofs.Called
use Rattle.converter.specs.Values.{values}
use Rattle.converter.specs.Converting as converting
use Rattle.converter.specs.Converting.{other, in_edition, Converts}
use Rattle.verdict_file.specs.Files.{allowed, impossible, file_of}
use Rattle.verdict_file.specs.Verdicts.{verdict_of}
use Rattle.replay.specs.Replaying as replaying
use Rattle.replay.specs.Replaying.{Stops, Admitted, replay_log}
use Rattle.replay.specs.Answers as replay
use Rattle.replay.specs.declared.Replayed.{Replayed}
use Rattle.replay.proofs.Demand2
use Rattle.moves.specs.Reach.{Reached}
use Rattle.moves.specs.Table.{table, number_at}
use Rattle.moves.proofs.Table
use Rattle.moves.proofs.Owners
use Rattle.scratch.specs.Clearing.{zeros}
use Rattle.judge.specs.Judging.{gives, refused, answer_of, outcome_of, told, areas_fit, judgement}
use Rattle.judge.specs.declared.Judged.{Judged}
use Rattle.promises.proofs.Readings
use Rattle.promises.proofs.Recordings
use Rattle.promises.proofs.Conversions
use Rattle.promises.proofs.Judgements
use Rattle.promises.proofs.Earlier
use Rattle.promises.proofs.WorkedLogs

-- ==== Demand 1: what is refused, and what is accepted

-- A log is accepted exactly when its bytes are the encoding of records within the limits; every other is refused by
-- the number that `read_log` gives, in the documented order.
pub accepted_exactly : (s : List ℕ) → Bytes s → (r : Records)
    → (read_log s ≡ accepted r) ↔ (WithinLimits r × (encode r ≡ s))
accepted_exactly = OneForm.accepted_iff

-- What `read` answered, as its contract ensures it.
module _ (s : List ℕ) (a : Result Head Refusal) (answered : read.meaning_of a ≡ read.summary_of (read_log s)) where
  -- A refused log gives its number.
  pub read_refused : (number : ℕ) → read_log s ≡ rejected number → read.meaning_of a ≡ read.refused number
  read_refused = Readings.read_refused s a answered

  -- An accepted one gives its edition, its machines, which of them are persistent, and how many locations and events
  -- it has.
  pub read_accepted : (r : Records) → read_log s ≡ accepted r
      → read.meaning_of a
      ≡ read.holds r.edition r.machines r.persistent (length r.homes) (length r.events)
  read_accepted = Readings.read_accepted s a answered

  -- The answer is no refusal exactly for the encodings of records within the limits.
  pub read_exactly : Bytes s
      → ((edition : Edition) × (machines persistent locations events : ℕ)
      × (read.meaning_of a ≡ read.holds edition machines persistent locations events))
      ↔ ((r : Records) × WithinLimits r × (encode r ≡ s))
  read_exactly = Readings.read_exactly s a answered

-- The locations and events themselves are what the cursors find in an accepted log: `home_at`, called from the position
-- that `first` answered on until it finds none, and `event_at` from there on, each call as its contract ensures it.
module _ (s : List ℕ) (b : Bytes s) (r : Records) (read : read_log s ≡ accepted r)
    (first : ℕ) (begins : first ≡ first_of s) where
  -- They find its locations, and the numbers of its events, all of them and in their order.
  pub cursors_find : (middle end : ℕ) × (ns : List Numbers)
      × HomeCalls s first r.homes middle
      × EventCalls s middle ns end
      × (map event_with ns ≡ r.events)
  cursors_find = rw begins (Called.records_called s b r read)

  -- They find nothing else.
  pub cursors_only : {middle end : ℕ} {hs : List Home} {ns : List Numbers}
      → HomeCalls s first hs middle → EventCalls s middle ns end
      → (hs ≡ r.homes) × (map event_with ns ≡ r.events)
  cursors_only = rw begins (Called.only_records s b r read)

-- What `record` answered, and the buffer afterwards, as its contract ensures them.
module _ (buf : List ℕ) (used tag : ℕ) (payload : List ℕ) (a : Result ℕ Refusal) (buf' : List ℕ)
    (call : Call buf used tag payload a buf') where
  -- A refusal leaves every byte of the buffer as it was.
  pub record_refused : (number : ℕ) → recording.answer_of a ≡ recording.rejected number → buf' ≡ buf
  record_refused = Recordings.record_refused buf used tag payload a buf' call

  -- A new count is that of the used bytes with the field, which stands after them; no other byte changes.
  pub record_writes : (n : ℕ) → recording.answer_of a ≡ recording.count n
      → (n ≡ used + 3 + length payload)
      × (n ≤ length buf)
      × (buf' ≡ take used buf ++ field tag payload ++ drop n buf)
  record_writes = Recordings.record_writes buf used tag payload a buf' call

  -- A used count past the buffer gives 1.
  pub record_past : length buf < used → recording.answer_of a ≡ recording.rejected 1
  record_past = Recordings.record_past buf used tag payload a buf' call

  -- Then the used bytes are read. They give their refusal, or 12 if they hold the end.
  module _ (inside : used ≤ length buf) where
    pub record_used_refused : (number : ℕ) → read_fields 0 nothing (take used buf) ≡ Outcome.refusal number
        → recording.answer_of a ≡ recording.rejected number
    record_used_refused = Recordings.record_used_refused buf used tag payload a buf' call inside

    pub record_after_end : (r : Records) (rest : List ℕ)
        → read_fields 0 nothing (take used buf) ≡ Outcome.ended r rest
        → recording.answer_of a ≡ recording.rejected 12
    record_after_end = Recordings.record_after_end buf used tag payload a buf' call inside

    -- Then the new field is read after them. It gives its refusal; one that is not refused gives the new count, or 1 if
    -- it does not fit.
    module _ (r : Records) (so_far : read_fields 0 nothing (take used buf) ≡ Outcome.unfinished r) where
      pub record_field_refused : (number : ℕ) → admit r tag (length payload) payload ≡ Given.refused number
          → recording.answer_of a ≡ recording.rejected number
      record_field_refused = Recordings.record_field_refused buf used tag payload a buf' call inside r so_far

      module _ (stands : (number : ℕ) → ¬ (admit r tag (length payload) payload ≡ Given.refused number)) where
        pub record_fits : used + 3 + length payload ≤ length buf
            → recording.answer_of a ≡ recording.count (used + 3 + length payload)
        record_fits = Recordings.record_fits buf used tag payload a buf' call inside r so_far stands

        pub record_no_room : length buf < used + 3 + length payload → recording.answer_of a ≡ recording.rejected 1
        record_no_room = Recordings.record_no_room buf used tag payload a buf' call inside r so_far stands

-- What `convert` answered, and the output afterwards, as its contract ensures them.
module _ (s out : List ℕ) (a : Result ℕ Refusal) (out' : List ℕ) (call : Converts s out a out') where
  -- A refusal leaves every byte of the output as it was.
  pub convert_untouched : (number : ℕ) → converting.answer_of a ≡ converting.Answer.refused number → out' ≡ out
  convert_untouched = Conversions.convert_untouched s out a out' call

  -- An output of fewer than 4,096 bytes gives 1, whatever the log.
  pub convert_short : length out < 4096 → converting.answer_of a ≡ converting.Answer.refused 1
  convert_short = Conversions.convert_short s out a out' call

  module _ (enough : 4096 ≤ length out) where
    -- A refused log gives its number.
    pub convert_refused : (number : ℕ) → read_log s ≡ rejected number
        → converting.answer_of a ≡ converting.Answer.refused number
    convert_refused = Conversions.convert_refused s out a out' call enough

    module _ (b : Bytes s) (r : Records) (read : read_log s ≡ accepted r) where
      -- An accepted one gives 17 exactly where it is of edition 2 and a value in it is over 65,535, an initial one or
      -- one that an event stores or reads.
      pub convert_too_large : (converting.answer_of a ≡ converting.Answer.refused 17)
          ↔ ((r.edition ≡ Second) × ((v : Value) × Memᴰ v (values r) × (65535 < v)))
      convert_too_large = Conversions.convert_too_large s out a out' call enough b r read

      -- Otherwise the bytes of the same records in the other edition stand at the front of the output, and the answer
      -- is their length; the rest is as it was.
      pub convert_writes : ¬ (converting.answer_of a ≡ converting.Answer.refused 17)
          → let t = encode (in_edition (other r.edition) r) in
          (converting.answer_of a ≡ converting.gives (length t)) × (out' ≡ t ++ drop (length t) out)
      convert_writes = Conversions.convert_writes s out a out' call enough b r read

-- What `judge` answered, and the areas afterwards, as its contract ensures them.
module _ (s out : List ℕ) (offset : ℕ) (scratch : List ℕ) (j : Result Judged Refusal) (out' scratch' : List ℕ)
    (judged : outcome_of j out' scratch' ≡ judgement s out offset scratch) where
  -- Areas that are too short give 1, whatever the log, and both stay as they were.
  pub judge_short : areas_fit out offset scratch ≡ false
      → (answer_of j ≡ refused 1) × (out' ≡ out) × (scratch' ≡ scratch)
  judge_short = Judgements.judge_short s out offset scratch j out' scratch' judged

  module _ (fit : areas_fit out offset scratch ≡ true) where
    -- A refused log gives its number, and both areas stay as they were.
    pub judge_refused : (number : ℕ) → read_log s ≡ rejected number
        → (answer_of j ≡ refused number) × (out' ≡ out) × (scratch' ≡ scratch)
    judge_refused = Judgements.judge_refused s out offset scratch j out' scratch' judged fit

    -- Every accepted log gets a verdict.
    module _ (r : Records) (read : read_log s ≡ accepted r) where
      -- The answer is that of the verdict on its events, whose file was written from the offset on; the rest of the
      -- output is as it was, and the scratch area is all zero.
      pub judge_writes : let v = verdict_of (system_of r) r.events in
          (answer_of j ≡ told v)
          × (take (length (file_of v)) (drop offset out') ≡ file_of v)
          × (take offset out' ≡ take offset out)
          × (drop (offset + length (file_of v)) out' ≡ drop (offset + length (file_of v)) out)
          × (scratch' ≡ zeros (length scratch))
      judge_writes = Judgements.judge_writes s out offset scratch j out' scratch' judged fit r read

-- ==== Demand 2: one byte form, and replay

-- A log has one byte form.
pub one_form : (s t : List ℕ) → Bytes s → Bytes t → (r : Records)
    → read_log s ≡ accepted r → read_log t ≡ accepted r → s ≡ t
one_form = OneForm.one_form

-- What a sequence of accepted calls of `record` wrote, the end last, is read as the records that were handed in.
pub recorded_read : {buf buf' : List ℕ} {used : ℕ} {hs : List Handed} → Sequence buf 0 hs buf' used
    → read_log (take used buf') ≡ accepted (recorded_of hs)
recorded_read = Sequences.recorded_read

-- Where `convert` gives a length, so many bytes of the output are the log in the other edition.
module _ (s out : List ℕ) (a : Result ℕ Refusal) (out' : List ℕ) (call : Converts s out a out') (b : Bytes s) (len : ℕ)
    (converted : converting.answer_of a ≡ converting.gives len) where
  -- They are read as the same records in the other edition.
  pub converted_read : (r : Records) → read_log s ≡ accepted r
      → read_log (take len out') ≡ accepted (in_edition (other r.edition) r)
  converted_read = Conversions.converted_read s out a out' call b len converted

  -- There and back gives the same bytes.
  pub converted_back : (back : List ℕ) (c : Result ℕ Refusal) (back' : List ℕ) → Converts (take len out') back c back'
      → 4096 ≤ length back
      → (converting.answer_of c ≡ converting.gives (length s)) × (back' ≡ s ++ drop (length s) back)
  converted_back = Conversions.converted_back s out a out' call b len converted

  -- Replay gives the same answer in both editions, whatever the file,
  pub converted_replayed : (f : List ℕ) → replay_log (take len out') f ≡ replay_log s f
  converted_replayed = Conversions.converted_replayed s out a out' call b len converted

  -- and so does the judge: its outcome for the one is its outcome for the other.
  pub converted_judged : (area : List ℕ) (offset : ℕ) (scratch : List ℕ)
      → judgement (take len out') area offset scratch ≡ judgement s area offset scratch
  converted_judged = Conversions.converted_judged s out a out' call b len converted

-- What `replay` answered, as its contract ensures it.
module _ (s f : List ℕ) (a : Result Replayed Refusal) (replayed : replay.answer_of a ≡ replay_log s f) where
  -- A refused log gives its number, whatever the file.
  pub replay_log_refused : (number : ℕ) → read_log s ≡ rejected number
      → replay.answer_of a ≡ replaying.Answer.refused number
  replay_log_refused number e = replayed ∙ Demand2.log_refused s f number e

  -- With an accepted log, 13 exactly when the file is not of the form, does not say allowed or does not fit the log.
  pub replay_file_refused : (r : Records) → read_log s ≡ accepted r
      → (replay.answer_of a ≡ replaying.Answer.refused 13) ↔ ((ps : List Step) → ¬ Admitted s f r ps)
  replay_file_refused r read = rw replayed (Demand2.file_refused s f r read)

  -- Yes exactly when log and schedule are admitted and together are a run of the whole system from empty caches and
  -- initial memories.
  pub replay_yes : (replay.answer_of a ≡ replaying.Answer.yes)
      ↔ ((r : Records) × (ps : List Step) × Admitted s f r ps × Run (system_of r) (weave r.events ps))
  replay_yes = rw replayed (Demand2.yes_exactly s f)

  -- Where no row of a location has a kind byte, these are the runs of before W-206: a crash asks the owner's kind.
  pub replay_yes_no_kinds : (r : Records) → read_log s ≡ accepted r → NoKindBytes r
      → (replay.answer_of a ≡ replaying.Answer.yes)
      ↔ ((ps : List Step) × Admitted s f r ps
      × earlier.Run (system_of r) (initial (system_of r)) (weave r.events ps))
  replay_yes_no_kinds r read none =
      Earlier.admitted_run r (initial (system_of r)) (no_kind_bytes_kinds r none) (λ x. refl) s f read replay_yes

  -- Where every row of a location has length 1, these are the runs of document 01, from zeroed memories.
  pub replay_yes_short : (r : Records) → read_log s ≡ accepted r → ShortRows r
      → (replay.answer_of a ≡ replaying.Answer.yes)
      ↔ ((ps : List Step) × Admitted s f r ps × earlier.Run (system_of r) earlier.zeros (weave r.events ps))
  replay_yes_short r read short =
      Earlier.admitted_run r earlier.zeros (short_rows_kinds r short) (short_rows_zero r short) s f read replay_yes

  -- No and k exactly when they are admitted and k events pass before the first thing not possible.
  pub replay_no : (k : ℕ)
      → (replay.answer_of a ≡ replaying.Answer.no k)
      ↔ ((r : Records)
      × (ps : List Step)
      × Admitted s f r ps
      × Stops (system_of r) (weave r.events ps) (start (system_of r)) k)
  replay_no k = rw replayed (Demand2.no_exactly s f k)

  -- What is admitted and is no run gets no.
  pub replay_no_otherwise : (r : Records) (ps : List Step) → Admitted s f r ps
      → ¬ Run (system_of r) (weave r.events ps)
      → (k : ℕ) × (replay.answer_of a ≡ replaying.Answer.no k)
  replay_no_otherwise r ps admitted not_run =
      let (k, said) = Demand2.no_otherwise s f r ps admitted not_run in
      (k, replayed ∙ said)

-- ==== Demand 3: allowed and impossible

-- What `judge` answered to an accepted log, with areas that fit.
module _ (s out : List ℕ) (offset : ℕ) (scratch : List ℕ) (j : Result Judged Refusal) (out' scratch' : List ℕ)
    (judged : outcome_of j out' scratch' ≡ judgement s out offset scratch) (fit : areas_fit out offset scratch ≡ true)
    (r : Records) (read : read_log s ≡ accepted r) where
  -- Allowed exactly when some choice of silent steps, any number, anywhere, makes a run of all events.
  pub allowed_exactly : ((steps len : ℕ) × (answer_of j ≡ gives 1 0 steps len)) ↔ HasRun (system_of r) r.events
  allowed_exactly = Judgements.allowed_exactly s out offset scratch j out' scratch' judged fit r read

  -- Impossible at event e exactly when the first e events have no run and the first e - 1 have one.
  pub impossible_exactly : (e : ℕ)
      → ((len : ℕ) × (answer_of j ≡ gives 0 e 0 len))
      ↔ (¬ HasRun (system_of r) (take e r.events) × HasRun (system_of r) (take (e - 1) r.events))
  impossible_exactly = Judgements.impossible_exactly s out offset scratch j out' scratch' judged fit r read

  -- A log without kind bytes is judged as it was before W-206: a crash asks the owner's kind.
  module _ (none : NoKindBytes r) where
    pub allowed_exactly_no_kinds : ((steps len : ℕ) × (answer_of j ≡ gives 1 0 steps len))
        ↔ earlier.HasRun (system_of r) (initial (system_of r)) r.events
    allowed_exactly_no_kinds =
        Earlier.has_run r (initial (system_of r)) (no_kind_bytes_kinds r none) (λ x. refl) r.events allowed_exactly

    pub impossible_exactly_no_kinds : (e : ℕ)
        → ((len : ℕ) × (answer_of j ≡ gives 0 e 0 len))
        ↔ (¬ earlier.HasRun (system_of r) (initial (system_of r)) (take e r.events)
        × earlier.HasRun (system_of r) (initial (system_of r)) (take (e - 1) r.events))
    impossible_exactly_no_kinds e =
        Earlier.no_run r (initial (system_of r)) (no_kind_bytes_kinds r none) (λ x. refl)
        (take e r.events) (take (e - 1) r.events) (impossible_exactly e)

  -- One in which every row of a location has length 1 is judged as document 01 has it, whose memories start as zero.
  module _ (short : ShortRows r) where
    pub allowed_exactly_short : ((steps len : ℕ) × (answer_of j ≡ gives 1 0 steps len))
        ↔ earlier.HasRun (system_of r) earlier.zeros r.events
    allowed_exactly_short =
        Earlier.has_run r earlier.zeros (short_rows_kinds r short) (short_rows_zero r short) r.events allowed_exactly

    pub impossible_exactly_short : (e : ℕ)
        → ((len : ℕ) × (answer_of j ≡ gives 0 e 0 len))
        ↔ (¬ earlier.HasRun (system_of r) earlier.zeros (take e r.events)
        × earlier.HasRun (system_of r) earlier.zeros (take (e - 1) r.events))
    impossible_exactly_short e =
        Earlier.no_run r earlier.zeros (short_rows_kinds r short) (short_rows_zero r short)
        (take e r.events) (take (e - 1) r.events) (impossible_exactly e)

  -- The file of an allowed verdict gets yes from replay with that log.
  pub allowed_replays : (steps len : ℕ) → answer_of j ≡ gives 1 0 steps len
      → replay_log s (take len (drop offset out')) ≡ replaying.Answer.yes
  allowed_replays = Judgements.allowed_replays s out offset scratch j out' scratch' judged fit r read

  -- The step count is the number of its fields with tag 11, one for each step, and at most 256.
  pub step_count : (steps len : ℕ) → answer_of j ≡ gives 1 0 steps len
      → (ps : List Step)
      × (take len (drop offset out') ≡ file_of (allowed ps))
      × (length ps ≡ steps)
      × (steps ≤ 256)
  step_count = Judgements.step_count s out offset scratch j out' scratch' judged fit r read

  -- It is at most two for each store of the log and one for each load.
  pub step-bound : (steps len : ℕ) → answer_of j ≡ gives 1 0 steps len
      → steps ≤ 2 * count is_store r.events + count is_load r.events
  step-bound = Judgements.step-bound s out offset scratch j out' scratch' judged fit r read

  -- Its schedule is the shortest: no run of the log's events, with any number of silent steps, anywhere, has fewer.
  pub allowed_fewest : (steps len : ℕ) → answer_of j ≡ gives 1 0 steps len
      → (acts : List Action) → events acts ≡ r.events → Run (system_of r) acts → steps ≤ length (silents acts)
  allowed_fewest = Judgements.allowed_fewest s out offset scratch j out' scratch' judged fit r read

  -- The steps of the file make such a run, and of the runs with as few none has a schedule that is smaller at the first
  -- difference, by its numbers: events before, location, machine (0 for a write-back).
  pub allowed_smallest : (steps len : ℕ) → answer_of j ≡ gives 1 0 steps len
      → (ps : List Step)
      × (take len (drop offset out') ≡ file_of (allowed ps))
      × Run (system_of r) (weave r.events ps)
      × ((acts : List Action) → events acts ≡ r.events → Run (system_of r) acts
      → length (silents acts) ≡ steps → ¬ Smaller (schedule acts) ps)
  allowed_smallest = Judgements.allowed_smallest s out offset scratch j out' scratch' judged fit r read

  -- The file of an impossible verdict names the event that the answer names.
  pub impossible_file : (e len : ℕ) → answer_of j ≡ gives 0 e 0 len
      → take len (drop offset out') ≡ file_of (impossible e)
  impossible_file = Judgements.impossible_file s out offset scratch j out' scratch' judged fit r read

-- So nothing is left to the program: two calls of `judge` on the same log, with areas of the same contents, give the
-- same answer and leave the same bytes.
pub judge_one : (s out : List ℕ) (offset : ℕ) (scratch : List ℕ) (j k : Result Judged Refusal)
    → (out' scratch' out'' scratch'' : List ℕ)
    → outcome_of j out' scratch' ≡ judgement s out offset scratch
    → outcome_of k out'' scratch'' ≡ judgement s out offset scratch
    → (answer_of j ≡ answer_of k) × (out' ≡ out'') × (scratch' ≡ scratch'')
judge_one = Judgements.judge_one

-- What `judge` answered to a log and to what `convert` made of it, with areas that fit.
module _ (s out : List ℕ) (a : Result ℕ Refusal) (out' : List ℕ) (call : Converts s out a out') (b : Bytes s) (len : ℕ)
    (converted : converting.answer_of a ≡ converting.gives len)
    (area : List ℕ) (offset : ℕ) (scratch : List ℕ) (j : Result Judged Refusal) (area' scratch' : List ℕ)
    (first : outcome_of j area' scratch' ≡ judgement s area offset scratch) (fit : areas_fit area offset scratch ≡ true)
    (room : List ℕ) (at : ℕ) (words : List ℕ) (k : Result Judged Refusal) (room' words' : List ℕ)
    (second : outcome_of k room' words' ≡ judgement (take len out') room at words)
    (fits : areas_fit room at words ≡ true) where
  -- The answer is the same in both editions, and so are the bytes of the file, wherever it was put.
  pub same_answer : answer_of j ≡ answer_of k
  same_answer =
      Conversions.same_answer s out a out' call b len converted
      area offset scratch j area' scratch' first fit room at words k room' words' second fits

  pub same_file : (verdict event steps len : ℕ) → answer_of j ≡ gives verdict event steps len
      → take len (drop offset area') ≡ take len (drop at room')
  same_file =
      Conversions.same_file s out a out' call b len converted
      area offset scratch j area' scratch' first fit room at words k room' words' second fits

  -- So the verdict is: allowed in one exactly where in the other, impossible at the same event.
  pub same_allowed : ((steps len : ℕ) × (answer_of j ≡ gives 1 0 steps len))
      ↔ ((steps len : ℕ) × (answer_of k ≡ gives 1 0 steps len))
  same_allowed =
      Conversions.same_allowed s out a out' call b len converted
      area offset scratch j area' scratch' first fit room at words k room' words' second fits

  pub same_impossible : (e : ℕ)
      → ((len : ℕ) × (answer_of j ≡ gives 0 e 0 len)) ↔ ((len : ℕ) × (answer_of k ≡ gives 0 e 0 len))
  same_impossible =
      Conversions.same_impossible s out a out' call b len converted
      area offset scratch j area' scratch' first fit room at words k room' words' second fits

-- In every run the silent steps number at most twice the stores and once the loads.
pub bound : (sys : Topology) → WellFormed sys → (acts : List Action) → Run sys acts
    → length (silents acts) ≤ 2 * count is_store (events acts) + count is_load (events acts)
bound = Theorems.bound

-- Any choice of silent steps at any places is a schedule: a run is its events woven with its schedule, which is in
-- order.
pub weave_run : (sys : Topology) (acts : List Action) → Run sys acts
    → T (in_order 0 (length (events acts)) (schedule acts)) × (weave (events acts) (schedule acts) ≡ acts)
weave_run = Theorems.weave_run

-- And back: a schedule in order is the schedule of what it weaves with events, and these are the events of that.
pub schedule_weave : (es : List Event) (ps : List Step) → T (in_order 0 (length es) ps)
    → (events (weave es ps) ≡ es) × (schedule (weave es ps) ≡ ps)
schedule_weave = Theorems.schedule_weave

-- ==== The model

-- The system of every accepted log is well formed: what is said of well-formed systems, as in `bound` and
-- `copies_agree`, is said of it.
pub accepted_well_formed : (s : List ℕ) (r : Records) → read_log s ≡ accepted r → WellFormed (system_of r)
accepted_well_formed = Owned.accepted_well_formed

-- Copies of one location always agree in value, in every state that a run reaches.
pub copies_agree : (sys : Topology) → WellFormed sys → (acts : List Action) → Run sys acts
    → (i j : Machine) (x : Location) (u v : Value)
    → (after sys acts (start sys)).cache i x ≡ some u → (after sys acts (start sys)).cache j x ≡ some v → u ≡ v
copies_agree = Theorems.copies_agree

-- The fourteen marked logs have the verdicts that document 01 gives them, by the definitions alone.
pub marked_logs : AsMarked logs
marked_logs = Theorems.marked_logs

-- The tenth of them, on any system: no events are allowed, with no steps.
pub no_events : (sys : Topology) → verdict_of sys [] ≡ allowed []
no_events = WorkedLogs.no_events

-- The fourth of them with two machines, as document 01 works it out: what its bytes say, its verdict, that no other
-- schedule makes a run of its events, and what `judge` answers and writes.
pub case_4 : let s : List ℕ =
    0x01 ∷ 0x02 ∷ 0x00 ∷ 0x02 ∷ 0x03
    ∷ 0x02 ∷ 0x01 ∷ 0x00 ∷ 0x02
    ∷ 0x03 ∷ 0x05 ∷ 0x00 ∷ 0x01 ∷ 0x01 ∷ 0x00 ∷ 0x01 ∷ 0x00
    ∷ 0x03 ∷ 0x05 ∷ 0x00 ∷ 0x05 ∷ 0x01 ∷ 0x00 ∷ 0x00 ∷ 0x00
    ∷ 0x03 ∷ 0x05 ∷ 0x00 ∷ 0x07 ∷ 0x02 ∷ 0x00 ∷ 0x00 ∷ 0x00
    ∷ 0x03 ∷ 0x05 ∷ 0x00 ∷ 0x04 ∷ 0x01 ∷ 0x00 ∷ 0x00 ∷ 0x00
    ∷ 0x04 ∷ 0x00 ∷ 0x00 ∷ [] in
    let es = LStore 1 L0 1 ∷ LFlush 1 L0 ∷ Crash 2 ∷ Load 1 L0 0 ∷ [] in
    let r : Records = record { edition = First; machines = 2; persistent = 3; homes = filled 2 0 ∷ []; events = es } in
    let ps : List Step = record { before = 1; location = 0; machine = 1 } ∷ [] in
    (read_log s ≡ accepted r)
    × (verdict_of (system_of r) es ≡ allowed ps)
    × ((acts : List Action) → events acts ≡ es → Run (system_of r) acts → schedule acts ≡ ps)
    × ((out : List ℕ) (offset : ℕ) (scratch : List ℕ) (j : Result Judged Refusal) (out' scratch' : List ℕ)
    → areas_fit out offset scratch ≡ true → outcome_of j out' scratch' ≡ judgement s out offset scratch
    → (answer_of j ≡ gives 1 0 1 14)
    × (take 14 (drop offset out')
    ≡ 0x10 ∷ 0x02 ∷ 0x00 ∷ 0x01 ∷ 0x00 ∷ 0x11 ∷ 0x03 ∷ 0x00 ∷ 0x01 ∷ 0x00 ∷ 0x01 ∷ 0x04 ∷ 0x00 ∷ 0x00 ∷ []))
case_4 = ((WorkedLogs.reads).0, WorkedLogs.verdict_4, WorkedLogs.only_4, WorkedLogs.judged_4)

-- The fifth of them with two machines: operation 6, an RFlush, in its place makes event 4 impossible.
pub case_5 : let s : List ℕ =
    0x01 ∷ 0x02 ∷ 0x00 ∷ 0x02 ∷ 0x03
    ∷ 0x02 ∷ 0x01 ∷ 0x00 ∷ 0x02
    ∷ 0x03 ∷ 0x05 ∷ 0x00 ∷ 0x01 ∷ 0x01 ∷ 0x00 ∷ 0x01 ∷ 0x00
    ∷ 0x03 ∷ 0x05 ∷ 0x00 ∷ 0x06 ∷ 0x01 ∷ 0x00 ∷ 0x00 ∷ 0x00
    ∷ 0x03 ∷ 0x05 ∷ 0x00 ∷ 0x07 ∷ 0x02 ∷ 0x00 ∷ 0x00 ∷ 0x00
    ∷ 0x03 ∷ 0x05 ∷ 0x00 ∷ 0x04 ∷ 0x01 ∷ 0x00 ∷ 0x00 ∷ 0x00
    ∷ 0x04 ∷ 0x00 ∷ 0x00 ∷ [] in
    let es = LStore 1 L0 1 ∷ RFlush 1 L0 ∷ Crash 2 ∷ Load 1 L0 0 ∷ [] in
    let r : Records = record { edition = First; machines = 2; persistent = 3; homes = filled 2 0 ∷ []; events = es } in
    (read_log s ≡ accepted r)
    × (verdict_of (system_of r) es ≡ impossible 4)
    × ((out : List ℕ) (offset : ℕ) (scratch : List ℕ) (j : Result Judged Refusal) (out' scratch' : List ℕ)
    → areas_fit out offset scratch ≡ true → outcome_of j out' scratch' ≡ judgement s out offset scratch
    → (answer_of j ≡ gives 0 4 0 8)
    × (take 8 (drop offset out') ≡ 0x10 ∷ 0x02 ∷ 0x00 ∷ 0x00 ∷ 0x04 ∷ 0x04 ∷ 0x00 ∷ 0x00 ∷ []))
case_5 = ((WorkedLogs.reads).1, WorkedLogs.verdict_5, WorkedLogs.judged_5)

-- ==== The change requests

-- What W-204 and W-211 ask stands with the demands, and so does that W-202 and W-206 change nothing for older logs.

-- W-201: a read-modify-write is a load of the first value and the matching store of the second with no silent step
-- between. A list with it is a run exactly where the list with these two in its place is one,
pub rmw_run : (sys : Topology) (form : Form) (i : Machine) (x : Location) (v w : Value) (before acts : List Action)
    → Run sys (before ++ event (RMW form i x v w) ∷ acts)
    ↔ Run sys (before ++ event (Load i x v) ∷ event (store_of form i x w) ∷ acts)
rmw_run = Theorems.rmw_run

-- and both lead to the same state.
pub rmw_after : (sys : Topology) (form : Form) (i : Machine) (x : Location) (v w : Value)
    → (acts : List Action) (s : State)
    → after sys (event (RMW form i x v w) ∷ acts) s
    ≡ after sys (event (Load i x v) ∷ event (store_of form i x w) ∷ acts) s
rmw_after = Theorems.rmw_after

-- W-202: a memory starts with its initial value, and a volatile one returns to it in a crash of its owner. Seven logs
-- that show it have their verdicts, by the definitions alone.
pub pattern-logs : AsMarked pattern_logs
pattern-logs = Theorems.pattern-logs

-- W-203: the machines of a set crash in one step. Their single crashes in a row, in any order and with no silent step
-- between them, come to the same: a list with the set crash is a run exactly where it is one with the row in its place,
pub set_crash_run : (sys : Topology) (set : MachineSet) (is : List Machine) → Lists set is
    → (before acts : List Action)
    → Run sys (before ++ event (SetCrash set) ∷ acts) ↔ Run sys (before ++ (map event (crash_row is) ++ acts))
set_crash_run = Theorems.set_crash_run

-- both lead to the same state,
pub set_crash_after : (sys : Topology) (set : MachineSet) (is : List Machine) → Lists set is
    → (acts : List Action) (s : State)
    → after sys (event (SetCrash set) ∷ acts) s ≡ after sys (map event (crash_row is) ++ acts) s
set_crash_after = Theorems.set_crash_after

-- and every set of machines of the system has such a row.
pub set_crash_row : (sys : Topology) (set : MachineSet) → T (named sys (event (SetCrash set)))
    → (is : List Machine) × Lists set is
set_crash_row = Theorems.set_crash_row

-- So events that have a run with the set crash have one with the row in its place.
pub set_crash_has_run : (sys : Topology) (set : MachineSet) (is : List Machine) → Lists set is
    → (es fs : List Event)
    → HasRun sys (es ++ SetCrash set ∷ fs) → HasRun sys (es ++ (crash_row is ++ fs))
set_crash_has_run = Theorems.set_crash_has_run

-- Not the other way round, since copies may move between single crashes. With machine 1 volatile and owning L0, LStore
-- by 2 of 5, crash 1, crash 2, load by 2 of 5 is allowed; with the set {1, 2} in place of the two crashes it is
-- impossible, at the load. That holds whichever of the other machines are persistent.
pub set-crash-logs : (others : Machine → Bool) → AsMarked (set_crash_logs others)
set-crash-logs = Theorems.set-crash-logs

-- A crash of all machines together leaves every cache empty.
pub set_crash_all : (sys : Topology) (set : MachineSet) → T (every_machine sys.machines (λ j. has j set))
    → (s : State) (x : Location) → T (not (cached sys (next sys (event (SetCrash set)) s) x))
set_crash_all = Theorems.set_crash_all

-- W-205: what `reach` answered, as its contract ensures it, is the number of the full table for that owner and code.
pub reach_number : (k c r : ℕ) → Reached k c r → 1 ≤ k → k ≤ 6 → c < 64 → r ≡ number_at k c
reach_number k c r answered one six code = Owners.same_number k c (one, six) code r answered

-- That table is document 01's: in its number for an owner and a code, bit t is set exactly if moves alone, or none,
-- reach code t.
pub table_reached : (k c : ℕ) → 1 ≤ k → k ≤ 6 → c < 64 → Reached k c (number_at k c)
table_reached k c one six code = Owners.in_table k c (one, six) code

-- It has 384 numbers, among them those that document 01 names.
pub table_numbers : (length table ≡ 384)
    × (number_at 2 1 ≡ 6)
    × (number_at 1 3 ≡ 10)
    × (number_at 1 6 ≡ 106)
    × ((k : Machine) → 1 ≤ k → k ≤ 6 → number_at k 0 ≡ 1)
table_numbers = Table.checks

-- W-206: a crash asks each location for its kind. Twelve logs that show it, with a journal in persistent memory and an
-- index in volatile memory behind one host, have their verdicts, by the definitions alone.
pub kind-logs : AsMarked kind_logs
kind-logs = Theorems.kind-logs
