-- Demand 2: replay says yes if and only if the log and the schedule together are a CXL0 run of the whole
-- system from empty caches and zeroed memories; otherwise it says how many events passed before the first
-- thing not possible.
use Prim.Native.Nat.{ℕ}
use mathlib.Core.Path.{◌≡◌, refl, sym, ap₂, ◌∙◌}
use mathlib.Core.Logic.{◌↔◌}
use mathlib.Core.List.{List}
use mathlib.Core.Option.{Option, none, some, none-ne-some}
use lib.Dec.{T}
use lib.ListN.{length}
use Rattle.model.specs.Cxl0.{Topology, start, Event, Run}
use Rattle.model.specs.Schedule.{Step, weave}
use Rattle.log_bytes.specs.Records.{Records, system_of}
use Rattle.log_bytes.specs.Reading.{Log, accepted, rejected, read_log}
use Rattle.log_bytes.proofs.Checks.{clash}
use Rattle.verdict_file.specs.Files.{allowed, file_of}
use Rattle.verdict_file.specs.Fitting.{schedule_fits}
use Rattle.schedules.specs.Schedules.{read_schedule}
use Rattle.schedules.proofs.Accepted.{accepts}
use Rattle.replay.specs.Replaying.{Answer, replayed, with_schedule, with_log, replay_log}
use Rattle.replay.specs.Replaying.{Stops, Admitted}
use Rattle.replay.proofs.Replays.{yes_iff_run, no_iff_stops, not_run_no, never_refused}

-- An answer that is no refusal is the replay of what was read.
module _ (a : Answer) (answered : (n : ℕ) → Answer.refused n ≡ a → ⊥) where
  of_schedule : (r : Records) (o : Option (List Step)) → with_schedule r o ≡ a
      → (ps : List Step) × (o ≡ some ps) × (replayed (system_of r) r.events ps ≡ a)
  of_schedule r none e = absurd (answered 13 e)
  of_schedule r (some ps) e = (ps, refl, e)

  of_log : (l : Log) (f : List ℕ) → with_log l f ≡ a
      → (r : Records)
      × (ps : List Step)
      × (l ≡ accepted r)
      × (read_schedule (system_of r) (length r.events) f ≡ some ps)
      × (replayed (system_of r) r.events ps ≡ a)
  of_log (rejected n) f e = absurd (answered n e)
  of_log (accepted r) f e =
      let (ps, read, here) = of_schedule r (read_schedule (system_of r) (length r.events) f) e in
      (r, ps, refl, read, here)

-- A log and a file that are admitted are replayed.
replay_admitted : (s f : List ℕ) (r : Records) (ps : List Step) → Admitted s f r ps
    → replay_log s f ≡ replayed (system_of r) r.events ps
unfolding replay_log
replay_admitted s f r ps a =
    rw (a.log, (accepts (system_of r) (length r.events) ps f).1 (a.file, a.fits))

-- An answer that is no refusal is the replay of a log and a file that are admitted.
of_admitted : (a : Answer) → ((n : ℕ) → Answer.refused n ≡ a → ⊥) → (s f : List ℕ) → replay_log s f ≡ a
    → (r : Records) × (ps : List Step) × Admitted s f r ps × (replayed (system_of r) r.events ps ≡ a)
unfolding replay_log
of_admitted a answered s f e =
    let (r, ps, log, read, said) = of_log a answered (read_log s) f e in
    let (file, fits) = (accepts (system_of r) (length r.events) ps f).0 read in
    (r, ps, record { log = log; file = file; fits = fits }, said)

not_yes : (n : ℕ) → Answer.refused n ≡ Answer.yes → ⊥
not_yes n e = clash (cc)

not_no : (k n : ℕ) → Answer.refused n ≡ Answer.no k → ⊥
not_no k n e = clash (cc)

-- Yes exactly where log and schedule are admitted and the events, woven with the steps, are a run of the whole system.
pub yes_exactly : (s f : List ℕ)
    → (replay_log s f ≡ Answer.yes)
    ↔ ((r : Records) × (ps : List Step) × Admitted s f r ps × Run (system_of r) (weave r.events ps))
yes_exactly s f = (
  λ e.
      let (r, ps, admitted, said) = of_admitted Answer.yes not_yes s f e in
      (r, ps, admitted, (yes_iff_run (system_of r) r.events ps).0 said),
  λ (r, ps, admitted, run). replay_admitted s f r ps admitted ∙ (yes_iff_run (system_of r) r.events ps).1 run,
)

-- No and k exactly where they are admitted and k events pass, with the steps before them, before the first thing not
-- possible.
pub no_exactly : (s f : List ℕ) (k : ℕ)
    → (replay_log s f ≡ Answer.no k)
    ↔ ((r : Records)
    × (ps : List Step)
    × Admitted s f r ps
    × Stops (system_of r) (weave r.events ps) (start (system_of r)) k)
no_exactly s f k = (
  λ e.
      let (r, ps, admitted, said) = of_admitted (Answer.no k) (not_no k) s f e in
      (r, ps, admitted, (no_iff_stops (system_of r) r.events ps k).0 said),
  λ (r, ps, admitted, stops).
      replay_admitted s f r ps admitted ∙ (no_iff_stops (system_of r) r.events ps k).1 stops,
)

-- What is admitted and is no run gets no.
pub no_otherwise : (s f : List ℕ) (r : Records) (ps : List Step) → Admitted s f r ps
    → ¬ Run (system_of r) (weave r.events ps) → (k : ℕ) × (replay_log s f ≡ Answer.no k)
no_otherwise s f r ps admitted not_run =
    let (k, said) = not_run_no (system_of r) r.events ps not_run in
    (k, replay_admitted s f r ps admitted ∙ said)

-- A refused log gives its number, whatever the file.
pub log_refused : (s f : List ℕ) (number : ℕ) → read_log s ≡ rejected number
    → replay_log s f ≡ Answer.refused number
unfolding replay_log
log_refused s f number e = rw e

-- With an accepted log, 13 exactly where the file is not that of steps that fit the log.
module _ (s f : List ℕ) (r : Records) (log : read_log s ≡ accepted r) where
  abbrev sys : Topology
  sys = system_of r

  abbrev n : ℕ
  n = length r.events

  by_schedule : (o : Option (List Step)) → read_schedule sys n f ≡ o
      → (with_schedule r o ≡ Answer.refused 13) ↔ ((ps : List Step) → ¬ Admitted s f r ps)
  by_schedule none read =
      (λ e ps a. none-ne-some ps (sym read ∙ (accepts sys n ps f).1 (a.file, a.fits)), λ h. refl)
  by_schedule (some ps) read =
      let (file, fits) = (accepts sys n ps f).0 read in (
        λ e. absurd (never_refused sys r.events ps 13 e),
        λ h. absurd (h ps (record { log = log; file = file; fits = fits })),
      )

  pub file_refused : (replay_log s f ≡ Answer.refused 13) ↔ ((ps : List Step) → ¬ Admitted s f r ps)
  unfolding replay_log
  file_refused = rw log (by_schedule (read_schedule sys n f) refl)

-- The file with steps that fit an accepted log and make a run of it gets yes.
pub written_yes : (s : List ℕ) (r : Records) (ps : List Step) → read_log s ≡ accepted r
    → T (schedule_fits (system_of r) (length r.events) ps) → Run (system_of r) (weave r.events ps)
    → replay_log s (file_of (allowed ps)) ≡ Answer.yes
written_yes s r ps log fits run =
    (yes_exactly s (file_of (allowed ps))).1 (r, ps, record { log = log; file = refl; fits = fits }, run)

-- Logs of the same system with the same events are replayed alike, whatever the file.
pub same_replay : (s t : List ℕ) (r q : Records) → read_log s ≡ accepted r → read_log t ≡ accepted q
    → system_of q ≡ system_of r → q.events ≡ r.events → (f : List ℕ) → replay_log t f ≡ replay_log s f
unfolding replay_log
same_replay s t r q read reads system events f =
    let by : Topology → List Event → Answer =
    λ (sys : Topology) (es : List Event). replayed_with sys es (read_schedule sys (length es) f) in
    let said : Records → Option (List Step) = λ p. read_schedule (system_of p) (length p.events) f in
    rw (read, reads) (by_parts q (said q) ∙ ap₂ by system events ∙ sym (by_parts r (said r)))
  where
    replayed_with : Topology → List Event → Option (List Step) → Answer
    replayed_with sys es none = Answer.refused 13
    replayed_with sys es (some ps) = replayed sys es ps

    by_parts : (r : Records) (o : Option (List Step)) → with_schedule r o ≡ replayed_with (system_of r) r.events o
    by_parts r none = refl
    by_parts r (some ps) = refl
