-- Of a log without kind bytes what is said of runs is said of those of before request W-206, and of a log all of whose
-- rows have length 1 it is said of document 01's, whose memories start as zero.
use Prim.Native.Nat.{ℕ}
use mathlib.Core.Path.{◌≡◌, sym, ◌∙◌}
use mathlib.Core.Logic.{◌↔◌}
use mathlib.Core.List.{List}
use Rattle.model.specs.Cxl0.{Location, Value, initial, Event, Action, Run, HasRun}
use Rattle.model.specs.Earlier as earlier
use Rattle.model.specs.Earlier.{OwnersKinds}
use Rattle.model.specs.Schedule.{Step, weave}
use Rattle.model.proofs.Earlier.{same_run, same_has_run}
use Rattle.log_bytes.specs.Records.{Records, system_of}
use Rattle.log_bytes.specs.Reading.{accepted, read_log}
use Rattle.replay.specs.Replaying.{Admitted}
use Rattle.promises.proofs.Verdicts.{same_records}

module _ (r : Records) (first : Location → Value)
    (kinds : OwnersKinds (system_of r)) (wakes : (x : Location) → initial (system_of r) x ≡ first x) where
  abbrev HasEarlierRun : List Event → Type 0
  HasEarlierRun = earlier.HasRun (system_of r) first

  same : (es : List Event) → HasRun (system_of r) es ↔ HasEarlierRun es
  same = same_has_run (system_of r) first kinds wakes

  -- What says that events have a run, or that some have none and others have one, says so of the earlier runs.
  pub has_run : {A : Type 0} (es : List Event) → A ↔ HasRun (system_of r) es → A ↔ HasEarlierRun es
  has_run es h = (λ a. (same es).0 (h.0 a), λ run. h.1 ((same es).1 run))

  pub no_run : {A : Type 0} (es fs : List Event) → A ↔ (¬ HasRun (system_of r) es × HasRun (system_of r) fs)
      → A ↔ (¬ HasEarlierRun es × HasEarlierRun fs)
  no_run es fs h = (
    λ a. (λ run. (h.0 a).0 ((same es).1 run), (same fs).0 (h.0 a).1),
    λ b. h.1 (λ run. b.0 ((same es).0 run), (same fs).1 b.1),
  )

  both : (acts : List Action) → Run (system_of r) acts ↔ earlier.Run (system_of r) first acts
  both = same_run (system_of r) first kinds wakes

  -- And what says that log and schedule are admitted and a run.
  pub admitted_run : {A : Type 0} (s f : List ℕ) → read_log s ≡ accepted r
      → A ↔ ((q : Records) × (ps : List Step) × Admitted s f q ps × Run (system_of q) (weave q.events ps))
      → A ↔ ((ps : List Step) × Admitted s f r ps × earlier.Run (system_of r) first (weave r.events ps))
  admitted_run s f read h = (
    λ a.
        let (q, ps, admitted, run) = h.0 a in
        let e = same_records (sym admitted.log ∙ read) in
        (ps, rw e at admitted, (both (weave r.events ps)).0 (rw e at run)),
    λ b. h.1 (r, b.0, b.1, (both (weave r.events b.0)).1 b.2),
  )
