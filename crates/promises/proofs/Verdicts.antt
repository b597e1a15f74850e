-- What the right verdict says of a log, in both directions.
use Prim.Native.Nat.{ℕ, ◌-◌, ◌<◌}
use native.Mathlib.Omega.{arith}
use mathlib.Core.Path.{◌≡◌, refl, ap, subst}
use mathlib.Core.Logic.{◌↔◌}
use mathlib.Core.List.{List}
use lib.ListN.{length, take}
use Rattle.model.specs.Cxl0.{Topology, Event, HasRun, FirstImpossible}
use Rattle.model.specs.Schedule.{Step}
use Rattle.model.proofs.Prefixes.{has_run_prefix, has_run_fewer}
use Rattle.log_bytes.specs.Records.{Records}
use Rattle.log_bytes.specs.Reading.{Log, accepted, rejected}
use Rattle.verdict_file.specs.Files.{Verdict, allowed, impossible, file_of}
use Rattle.verdict_file.proofs.Verdicts.{Right, right_runs}
use Rattle.judge.specs.Judging.{Answer, gives, refused, told}

-- The numbers that an answer gives.
abbrev given_verdict : Answer → ℕ
given_verdict (gives v e steps len) = v
given_verdict (refused number) = 0

abbrev given_event : Answer → ℕ
given_event (gives v e steps len) = e
given_event (refused number) = 0

abbrev given_steps : Answer → ℕ
given_steps (gives v e steps len) = steps
given_steps (refused number) = 0

abbrev given_length : Answer → ℕ
given_length (gives v e steps len) = len
given_length (refused number) = 0

-- An answer that tells of an allowed verdict gives the number of its steps and the length of its file; so for
-- an impossible one.
pub told_allowed : (v : Verdict) {steps len : ℕ} → told v ≡ gives 1 0 steps len
    → (ps : List Step) × (v ≡ allowed ps) × (length ps ≡ steps) × (length (file_of v) ≡ len)
unfolding told
told_allowed (allowed ps) t = (ps, refl, ap given_steps t, ap given_length t)
told_allowed (impossible e) t = absurd (omega (arith, ap given_verdict t))

pub told_impossible : (v : Verdict) {e len : ℕ} → told v ≡ gives 0 e 0 len
    → (v ≡ impossible e) × (length (file_of v) ≡ len)
unfolding told
told_impossible (allowed ps) t = absurd (omega (arith, ap given_verdict t))
told_impossible (impossible d) t = (ap impossible (ap given_event t), ap given_length t)

-- In either case the answer gives the length of the file.
pub told_length : (v : Verdict) {verdict event steps len : ℕ} → told v ≡ gives verdict event steps len
    → length (file_of v) ≡ len
unfolding told
told_length (allowed ps) t = ap given_length t
told_length (impossible e) t = ap given_length t

-- Two accepted readings of a log have the same records.
pub same_records : {r q : Records} → accepted r ≡ accepted q → r ≡ q
same_records {r} {q} e = ap (records r) e
  where
    records : Records → Log → Records
    records d (accepted r) = r
    records d (rejected number) = d

module _ (sys : Topology) (es : List Event) where
  -- The first e events have no run, and the first e - 1 have one.
  abbrev pub EndsAt : ℕ → Type 0
  EndsAt e = ¬ HasRun sys (take e es) × HasRun sys (take (e - 1) es)

  first_ends : (e : ℕ) → FirstImpossible sys es e → EndsAt e
  unfolding FirstImpossible
  first_ends e f = (f.2, f.3 (e - 1) (omega (arith, f.0)))

  -- The first impossible event is the only one of which that is so.
  ends_first : (d e : ℕ) → FirstImpossible sys es d → EndsAt e → d ≡ e
  unfolding FirstImpossible
  ends_first d e f ends =
      let low : ¬ (e < d) = λ h. ends.0 (f.3 e h) in
      let high : ¬ (d < e) = λ h. f.2 (has_run_fewer sys es d (e - 1) (omega arith) ends.1) in
      omega arith

  -- Where an event is impossible, the whole list has no run.
  ends_none : (e : ℕ) → EndsAt e → ¬ HasRun sys es
  ends_none e ends run = ends.0 (has_run_prefix sys es e run)

  -- The verdict says allowed exactly where the events have a run.
  pub allowed_exactly : (v : Verdict) → Right sys es v
      → ((steps len : ℕ) × (told v ≡ gives 1 0 steps len)) ↔ HasRun sys es
  unfolding told Right
  allowed_exactly (allowed ps) right =
      (λ t. right_runs sys es ps right, λ run. (length ps, length (file_of (allowed ps)), refl))
  allowed_exactly (impossible e) right = (
    λ t. absurd (omega (arith, ap given_verdict t.2)),
    λ run. absurd (ends_none e (first_ends e right) run),
  )

  -- It says impossible at e exactly where the first e events have no run and the first e - 1 have one.
  pub impossible_exactly : (v : Verdict) → Right sys es v → (e : ℕ)
      → ((len : ℕ) × (told v ≡ gives 0 e 0 len)) ↔ EndsAt e
  unfolding told Right
  impossible_exactly (allowed ps) right e = (
    λ t. absurd (omega (arith, ap given_verdict t.1)),
    λ ends. absurd (ends_none e ends (right_runs sys es ps right)),
  )
  impossible_exactly (impossible d) right e = (
    λ t. subst EndsAt (ap given_event t.1) (first_ends d right),
    λ ends.
        let same = ends_first d e right ends in
        (length (file_of (impossible d)), ap (λ (k : ℕ). gives 0 k 0 (length (file_of (impossible d)))) same),
  )
