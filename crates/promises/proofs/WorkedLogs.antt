-- Three logs of document 01, computed from the definitions: the one without events, and cases 4 and 5 with two
-- machines, from the bytes of the log to those of the verdict file.
use Prim.Native.Nat.{ℕ, suc}
use native.Mathlib.Omega.{arith}
use mathlib.Core.Path.{◌≡◌, refl, sym, ap, ◌∙◌, subst}
use mathlib.Core.Logic.{◌⊎◌, inl, inr, ⊎_elim}
use mathlib.Core.Bool.{Bool, true, false, cond}
use mathlib.Core.List.Memᴰ
use mathlib.Core.List.{List, [], ◌∷◌, flat_map, Memᴰ}
use mathlib.Core.Option.{none, some}
use lib.Dec.{T}
use lib.ListN.{take, drop}
use Rattle.std.specs.Prelude.{Result}
use Rattle.model.specs.Cxl0.{is_machine, is_location, owner, initial, keeps, is_persistent, start, some_machine}
use Rattle.model.specs.Cxl0.{every_machine, cached, crashes, clears, named, enabled, next, possible, runs}
use Rattle.model.specs.Cxl0.{Topology, Event, LStore, Load, LFlush, RFlush, Crash, Action, Run, events}
use Rattle.model.specs.Cxl0.{count, is_store, is_load}
use Rattle.model.specs.MarkedLogs.{filled, L0}
use Rattle.model.specs.Operations.{event_of}
use Rattle.model.specs.Sharers.{has}
use Rattle.model.specs.Schedule.{Step, silent_of, due, steps, weave_from, weave, schedule, in_order}
use Rattle.model.specs.Schedule as schedules
use Rattle.model.specs.Explanations.{below, first, steps_for, schedules_of, step_bound, schedules_for, explains}
use Rattle.model.specs.Explanations.{explanation, first_unexplained}
use Rattle.model.proofs.Firsts.{first_some}
use Rattle.model.proofs.ListedSchedules.{Before, all_in_order, run_listed}
use Rattle.model.proofs.Explanations.{run_explains}
use Rattle.fields.specs.Uses.{uses}
use Rattle.fields.specs.Numbers.{bytes_of, number_in}
use Rattle.fields.specs.Fields.{length_in}
use Rattle.fields.specs.declared.Edition.TheVariants.{First}
use Rattle.fields.specs.declared.Refusal.{Refusal}
use Rattle.log_bytes.specs.Records.{Records, system_of}
use Rattle.log_bytes.specs.Bytes.{field}
use Rattle.log_bytes.specs.Payloads.{edition_of, length_fits, operation_fits, has_initial, has_kind, home_in, numbers_in}
use Rattle.log_bytes.specs.Format.{admit_by, read_by}
use Rattle.log_bytes.specs.Reading.{nothing, permitted, room, head, kind_fits, home, occurrence, contents}
use Rattle.log_bytes.specs.Reading.{accepted, read_log}
use Rattle.log_bytes.proofs.Owned.{accepted_well_formed}
use Rattle.verdict_file.specs.Files.{allowed, impossible, header, step_field, step_fields, end, file_of}
use Rattle.verdict_file.specs.Verdicts.{verdict_of}
use Rattle.judge.specs.Judging.{gives, answer_of, told, outcome_of, areas_fit, judgement}
use Rattle.judge.specs.declared.Judged.{Judged}
use Rattle.promises.proofs.Judgements.{judge_writes}

-- ---- no events

pub no_events : (sys : Topology) → verdict_of sys [] ≡ allowed []
unfolding
    verdict_of explanation explains schedules_for schedules_of step_bound first below flat_map count
    steps weave_from weave in_order runs
no_events sys = refl

-- ---- the logs

-- Two machines with persistent memory, L0 of machine 2, and these events.
abbrev pub records : List Event → Records
records es = record { edition = First; machines = 2; persistent = 3; homes = filled 2 0 ∷ []; events = es }

abbrev pub system : List Event → Topology
system es = system_of (records es)

-- The second event is an LFlush in case 4 and an RFlush, operation 6, in case 5.
abbrev pub events4 : List Event
events4 = LStore 1 L0 1 ∷ LFlush 1 L0 ∷ Crash 2 ∷ Load 1 L0 0 ∷ []

abbrev pub events5 : List Event
events5 = LStore 1 L0 1 ∷ RFlush 1 L0 ∷ Crash 2 ∷ Load 1 L0 0 ∷ []

abbrev pub bytes : ℕ → List ℕ
bytes flush =
    0x01 ∷ 0x02 ∷ 0x00 ∷ 0x02 ∷ 0x03
    ∷ 0x02 ∷ 0x01 ∷ 0x00 ∷ 0x02
    ∷ 0x03 ∷ 0x05 ∷ 0x00 ∷ 0x01 ∷ 0x01 ∷ 0x00 ∷ 0x01 ∷ 0x00
    ∷ 0x03 ∷ 0x05 ∷ 0x00 ∷ flush ∷ 0x01 ∷ 0x00 ∷ 0x00 ∷ 0x00
    ∷ 0x03 ∷ 0x05 ∷ 0x00 ∷ 0x07 ∷ 0x02 ∷ 0x00 ∷ 0x00 ∷ 0x00
    ∷ 0x03 ∷ 0x05 ∷ 0x00 ∷ 0x04 ∷ 0x01 ∷ 0x00 ∷ 0x00 ∷ 0x00
    ∷ 0x04 ∷ 0x00 ∷ 0x00 ∷ []

pub reads : (read_log (bytes 5) ≡ accepted (records events4)) × (read_log (bytes 6) ≡ accepted (records events5))
unfolding
    event_of read_log read_by nothing admit_by permitted room length_in number_in length_fits operation_fits contents
    edition_of has_initial has_kind home_in numbers_in head kind_fits home occurrence uses
reads = (refl, refl)

-- ---- the verdicts

-- After 1 event, at location 0, machine 1's copy moves.
abbrev pub move : Step
move = record { before = 1; location = 0; machine = 1 }

-- Of case 4 the explanation, and how many of the listed schedules explain it; of case 5 that none does, and the least
-- number of events that have no explanation.
computed : (explanation (system events4) events4 ≡ some (move ∷ []))
    × (count (explains (system events4) events4) (schedules_for (system events4) events4) ≡ 1)
    × (explanation (system events5) events5 ≡ none)
    × (first_unexplained (system events5) events5 ≡ 4)
unfolding
    system_of explanation first_unexplained explains schedules_for schedules_of steps_for step_bound first below
    flat_map
    silent_of due schedules.later steps weave_from weave in_order count is_store is_load
    is_machine is_location owner initial keeps is_persistent start some_machine every_machine cached
    has crashes clears named enabled next possible runs
computed = (refl, refl, refl, refl)

pub verdict_4 : verdict_of (system events4) events4 ≡ allowed (move ∷ [])
unfolding verdict_of
verdict_4 = rw (computed.0, verdict_of)

pub verdict_5 : verdict_of (system events5) events5 ≡ impossible 4
unfolding verdict_of
verdict_5 = rw (computed.2, verdict_of) (rw computed.3)

-- ---- case 4 has one schedule

module _ {A : Type 0} (test : A → Bool) where
  -- Where none is counted, no member passes.
  none_passes : (l : List A) → count test l ≡ 0 → (a : A) → Memᴰ a l → ¬ T (test a)
  unfolding count
  none_passes [] e a m t = Memᴰ.not-nil m
  none_passes (c ∷ l) e a m t = go (test c) refl (none_passes l) e
    where
      go : (b : Bool) → test c ≡ b → (count test l ≡ 0 → (a : A) → Memᴰ a l → ¬ T (test a))
          → cond b (suc (count test l)) (count test l) ≡ 0 → ⊥
      go true p later e = omega (arith, e)
      go false p later e =
          ⊎_elim (λ same. subst T (ap test same ∙ p) t) (λ i. later e a i t) (Memᴰ.cases_cons m)

  -- Where one is counted, two members that pass are the same.
  one_passes : (l : List A) → count test l ≡ 1
      → (a b : A) → Memᴰ a l → Memᴰ b l → T (test a) → T (test b) → a ≡ b
  unfolding count
  one_passes [] e a b m n t u = absurd (Memᴰ.not-nil m)
  one_passes (c ∷ l) e a b m n t u =
      go (test c) refl (one_passes l) e (Memᴰ.cases_cons m) (Memᴰ.cases_cons n)
    where
      go : (d : Bool) → test c ≡ d
          → (count test l ≡ 1 → (a b : A) → Memᴰ a l → Memᴰ b l → T (test a) → T (test b) → a ≡ b)
          → cond d (suc (count test l)) (count test l) ≡ 1
          → (a ≡ c) ⊎ Memᴰ a l → (b ≡ c) ⊎ Memᴰ b l → a ≡ b
      go true p later e (inl here) (inl as_well) = here ∙ sym as_well
      go true p later e (inl here) (inr j) = absurd (none_passes l (omega (arith, e)) b j u)
      go true p later e (inr i) n = absurd (none_passes l (omega (arith, e)) a i t)
      go false p later e (inl here) n = absurd (subst T (ap test here ∙ p) t)
      go false p later e (inr i) (inl here) = absurd (subst T (ap test here ∙ p) u)
      go false p later e (inr i) (inr j) = later e a b i j t u

pub only_4 : (acts : List Action) → events acts ≡ events4 → Run (system events4) acts → schedule acts ≡ move ∷ []
unfolding explanation
only_4 acts of run =
    let test = explains (system events4) events4 in
    let listed = schedules_for (system events4) events4 in
    let found = first_some Before test listed (move ∷ []) (all_in_order (system events4) events4) computed.0 in
    let well-formed = accepted_well_formed (bytes 5) (records events4) reads.0 in
    one_passes test listed computed.1 (schedule acts) (move ∷ [])
    (rw of at (run_listed (system events4) well-formed acts run)) found.member
    (rw of at (run_explains (system events4) acts run)) found.passes

-- ---- what the judge answers and writes

module _ (out : List ℕ) (offset : ℕ) (scratch : List ℕ) (j : Result Judged Refusal) (out' scratch' : List ℕ)
    (fit : areas_fit out offset scratch ≡ true) where
  pub judged_4 : outcome_of j out' scratch' ≡ judgement (bytes 5) out offset scratch
      → (answer_of j ≡ gives 1 0 1 14)
      × (take 14 (drop offset out')
      ≡ 0x10 ∷ 0x02 ∷ 0x00 ∷ 0x01 ∷ 0x00 ∷ 0x11 ∷ 0x03 ∷ 0x00 ∷ 0x01 ∷ 0x00 ∷ 0x01 ∷ 0x04 ∷ 0x00 ∷ 0x00 ∷ [])
  unfolding told file_of header step_fields step_field end field bytes_of
  judged_4 judged =
      let w = judge_writes (bytes 5) out offset scratch j out' scratch' judged fit (records events4) reads.0 in
      let (answer, file, _, _, _) = rw verdict_4 at w in
      (answer, file)

  pub judged_5 : outcome_of j out' scratch' ≡ judgement (bytes 6) out offset scratch
      → (answer_of j ≡ gives 0 4 0 8)
      × (take 8 (drop offset out') ≡ 0x10 ∷ 0x02 ∷ 0x00 ∷ 0x00 ∷ 0x04 ∷ 0x04 ∷ 0x00 ∷ 0x00 ∷ [])
  unfolding told file_of header end field bytes_of
  judged_5 judged =
      let w = judge_writes (bytes 6) out offset scratch j out' scratch' judged fit (records events5) reads.1 in
      let (answer, file, _, _, _) = rw verdict_5 at w in
      (answer, file)
