-- What the judge's contract says of its answer and of the areas that it was lent.
use Prim.Native.Nat.{ℕ, ◌+◌, ◌*◌, ◌-◌, ◌≤◌}
use native.Mathlib.Omega.{arith}
use mathlib.Core.Path.{◌≡◌, sym, ap, ◌∙◌}
use mathlib.Core.Logic.{◌↔◌}
use mathlib.Core.Bool.{true, false}
use mathlib.Core.List.{List, ◌++◌, append_assoc}
use lib.Dec.{leb→le}
use lib.ListN.{length, take, drop, length-append}
use lib.Seq.{take_at, drop_at, length-take-le}
use Rattle.std.specs.Prelude.{Result}
use Rattle.model.specs.Cxl0.{Action, Run, HasRun, events, silents, count, is_store, is_load}
use Rattle.model.specs.Schedule.{Step, weave, schedule}
use Rattle.model.specs.Shortest.{Smaller, Shortest}
use Rattle.model.proofs.Tests.{true→T}
use Rattle.fields.specs.declared.Refusal.{Refusal}
use Rattle.log_bytes.specs.Records.{Records, system_of}
use Rattle.log_bytes.specs.Reading.{accepted, rejected, read_log}
use Rattle.verdict_file.specs.Files.{Verdict, allowed, impossible, file_of}
use Rattle.fields.specs.Put.{put}
use Rattle.verdict_file.specs.Verdicts.{verdict_of}
use Rattle.verdict_file.specs.Writing.{room}
use Rattle.verdict_file.proofs.Verdicts.{Right}
use Rattle.fields.proofs.Put.{put_there}
use Rattle.replay.specs.Replaying as replaying
use Rattle.replay.specs.Replaying.{replay_log}
use Rattle.scratch.specs.Clearing.{zeros}
use Rattle.judge.specs.Judging.{gives, refused, answer_of, told, Outcome, outcome_of, refusal, verdict, areas_fit}
use Rattle.judge.specs.Judging.{judgement_of, judgement}
use Rattle.judge.specs.declared.Judged.{Judged}
use Rattle.judge.proofs.RightVerdicts.{right_bound, right_few, right_replays, judged_right}
use Rattle.judge.proofs.Deciding.{fit_out}
use Rattle.promises.proofs.Verdicts as verdicts

-- Bytes put at a position leave those before it and those after them.
module _ (l : List ℕ) (at : ℕ) (bytes : List ℕ) (h : at ≤ length l) where
  put_before : take at (put l at bytes) ≡ take at l
  unfolding put
  put_before =
      ap (take at) (append_assoc (take at l) bytes (drop (at + length bytes) l))
      ∙ take_at (take at l) (bytes ++ drop (at + length bytes) l) at (length-take-le at l h)

  put_after : drop (at + length bytes) (put l at bytes) ≡ drop (at + length bytes) l
  unfolding put
  put_after =
      drop_at (take at l ++ bytes) (drop (at + length bytes) l) (at + length bytes)
      (length-append (take at l) bytes ∙ ap (λ (n : ℕ). n + length bytes) (length-take-le at l h))

module _ (s out : List ℕ) (offset : ℕ) (scratch : List ℕ) (j : Result Judged Refusal) (out' scratch' : List ℕ)
    (judged : outcome_of j out' scratch' ≡ judgement s out offset scratch) where
  -- A refusal, area by area.
  untouched : (number : ℕ) → outcome_of j out' scratch' ≡ refusal number out scratch
      → (answer_of j ≡ refused number) × (out' ≡ out) × (scratch' ≡ scratch)
  unfolding refusal
  untouched number e =
      (ap (λ (o : Outcome). o.answer) e, ap (λ (o : Outcome). o.out) e, ap (λ (o : Outcome). o.scratch) e)

  pub judge_short : areas_fit out offset scratch ≡ false
      → (answer_of j ≡ refused 1) × (out' ≡ out) × (scratch' ≡ scratch)
  unfolding judgement
  judge_short e = untouched 1 (rw e at judged)

  module _ (fit : areas_fit out offset scratch ≡ true) where
    by_log : outcome_of j out' scratch' ≡ judgement_of (read_log s) out offset scratch
    unfolding judgement
    by_log = rw fit at judged

    pub judge_refused : (number : ℕ) → read_log s ≡ rejected number
        → (answer_of j ≡ refused number) × (out' ≡ out) × (scratch' ≡ scratch)
    unfolding judgement_of
    judge_refused number e = untouched number (rw e at by_log)

    module _ (r : Records) (read : read_log s ≡ accepted r) where
      abbrev v : Verdict
      v = verdict_of (system_of r) r.events

      right : Right (system_of r) r.events v
      right = judged_right s r read

      given : outcome_of j out' scratch' ≡ verdict v out offset scratch
      unfolding judgement_of
      given = rw read at by_log

      says : answer_of j ≡ told v
      unfolding verdict
      says = ap (λ (o : Outcome). o.answer) given

      file : out' ≡ put out offset (file_of v)
      unfolding verdict
      file = ap (λ (o : Outcome). o.out) given

      inside : offset ≤ length out
      unfolding room
      inside =
          omega (arith, leb→le (offset + 1544) (length out) (true→T (fit_out out offset scratch fit)))

      stands : take (length (file_of v)) (drop offset out') ≡ file_of v
      stands =
          ap (λ (l : List ℕ). take (length (file_of v)) (drop offset l)) file
          ∙ put_there out offset (file_of v) inside

      -- So many bytes of the output from the offset on.
      abbrev from_offset : ℕ → List ℕ
      from_offset n = take n (drop offset out')

      pub judge_writes : (answer_of j ≡ told v)
          × (take (length (file_of v)) (drop offset out') ≡ file_of v)
          × (take offset out' ≡ take offset out)
          × (drop (offset + length (file_of v)) out' ≡ drop (offset + length (file_of v)) out)
          × (scratch' ≡ zeros (length scratch))
      unfolding verdict
      judge_writes = (
        says,
        stands,
        ap (take offset) file ∙ put_before out offset (file_of v) inside,
        ap (drop (offset + length (file_of v))) file ∙ put_after out offset (file_of v) inside,
        ap (λ (o : Outcome). o.scratch) given,
      )

      pub allowed_exactly : ((steps len : ℕ) × (answer_of j ≡ gives 1 0 steps len)) ↔ HasRun (system_of r) r.events
      allowed_exactly = rw says (verdicts.allowed_exactly (system_of r) r.events v right)

      pub impossible_exactly : (e : ℕ)
          → ((len : ℕ) × (answer_of j ≡ gives 0 e 0 len))
          ↔ (¬ HasRun (system_of r) (take e r.events) × HasRun (system_of r) (take (e - 1) r.events))
      impossible_exactly e = rw says (verdicts.impossible_exactly (system_of r) r.events v right e)

      -- A verdict that says allowed, and its file.
      module _ (steps len : ℕ) (e : answer_of j ≡ gives 1 0 steps len) where
        found : (ps : List Step) × (v ≡ allowed ps) × (length ps ≡ steps) × (length (file_of v) ≡ len)
        found = verdicts.told_allowed v (sym says ∙ e)

        bytes : take len (drop offset out') ≡ file_of (allowed found.0)
        bytes = ap from_offset (sym found.3) ∙ stands ∙ ap file_of found.1

        right_steps : Right (system_of r) r.events (allowed found.0)
        right_steps = rw found.1 at right

        pub allowed_replays : replay_log s (take len (drop offset out')) ≡ replaying.Answer.yes
        allowed_replays = rw bytes (right_replays s r read found.0 right_steps)

        pub step_count : (ps : List Step)
            × (take len (drop offset out') ≡ file_of (allowed ps))
            × (length ps ≡ steps)
            × (steps ≤ 256)
        step_count = (
          found.0,
          bytes,
          found.2,
          omega (arith, found.2, right_few s r read found.0 right_steps),
        )

        pub step-bound : steps ≤ 2 * count is_store r.events + count is_load r.events
        step-bound = omega (arith, found.2, right_bound s r read found.0 right_steps)

        -- The steps are the shortest schedule.
        shortest : Shortest (system_of r) r.events found.0
        unfolding Right
        shortest = right_steps

        pub allowed_fewest : (acts : List Action) → events acts ≡ r.events → Run (system_of r) acts
            → steps ≤ length (silents acts)
        allowed_fewest acts of run = omega (arith, found.2, shortest.fewest acts of run)

        pub allowed_smallest : (ps : List Step)
            × (take len (drop offset out') ≡ file_of (allowed ps))
            × Run (system_of r) (weave r.events ps)
            × ((acts : List Action) → events acts ≡ r.events → Run (system_of r) acts
            → length (silents acts) ≡ steps → ¬ Smaller (schedule acts) ps)
        allowed_smallest = (
          found.0,
          bytes,
          shortest.run,
          λ acts of run same. shortest.smallest acts of run (same ∙ sym found.2),
        )

      pub impossible_file : (e len : ℕ) → answer_of j ≡ gives 0 e 0 len
          → take len (drop offset out') ≡ file_of (impossible e)
      impossible_file e len t =
          let (same, long) = verdicts.told_impossible v (sym says ∙ t) in
          ap from_offset (sym long) ∙ stands ∙ ap file_of same

-- Two calls for logs of the same system with the same events, each with areas that fit: the verdict is the same, so the
-- answers are, and the files.
module _ (s out : List ℕ) (offset : ℕ) (scratch : List ℕ) (j : Result Judged Refusal) (out' scratch' : List ℕ)
    (first : outcome_of j out' scratch' ≡ judgement s out offset scratch) (fit : areas_fit out offset scratch ≡ true)
    (r : Records) (read : read_log s ≡ accepted r)
    (t room : List ℕ) (at : ℕ) (words : List ℕ) (k : Result Judged Refusal) (room' words' : List ℕ)
    (second : outcome_of k room' words' ≡ judgement t room at words) (fits : areas_fit room at words ≡ true)
    (q : Records) (reads : read_log t ≡ accepted q)
    (system : system_of q ≡ system_of r) (all : q.events ≡ r.events) where
  abbrev v₁ : Verdict
  v₁ = v s out offset scratch j out' scratch' first fit r read

  abbrev v₂ : Verdict
  v₂ = v t room at words k room' words' second fits q reads

  same_verdict : v₁ ≡ v₂
  same_verdict = rw (system, all)

  pub same_answer : answer_of j ≡ answer_of k
  same_answer =
      says s out offset scratch j out' scratch' first fit r read
      ∙ ap told same_verdict
      ∙ sym (says t room at words k room' words' second fits q reads)

  pub same_file : (verdict event steps len : ℕ) → answer_of j ≡ gives verdict event steps len
      → take len (drop offset out') ≡ take len (drop at room')
  same_file verdict event steps len e =
      let here = stands s out offset scratch j out' scratch' first fit r read in
      let there = stands t room at words k room' words' second fits q reads in
      let long = verdicts.told_length v₁ (sym (says s out offset scratch j out' scratch' first fit r read) ∙ e) in
      let long' = ap (λ (u : Verdict). length (file_of u)) (sym same_verdict) ∙ long in
      (rw long at here) ∙ ap file_of same_verdict ∙ sym (rw long' at there)

-- Two calls for the same log and the same areas leave the same.
pub judge_one : (s out : List ℕ) (offset : ℕ) (scratch : List ℕ) (j k : Result Judged Refusal)
    → (out' scratch' out'' scratch'' : List ℕ)
    → outcome_of j out' scratch' ≡ judgement s out offset scratch
    → outcome_of k out'' scratch'' ≡ judgement s out offset scratch
    → (answer_of j ≡ answer_of k) × (out' ≡ out'') × (scratch' ≡ scratch'')
judge_one s out offset scratch j k out' scratch' out'' scratch'' first second =
    let same = first ∙ sym second in
    (ap (λ (o : Outcome). o.answer) same, ap (λ (o : Outcome). o.out) same, ap (λ (o : Outcome). o.scratch) same)
