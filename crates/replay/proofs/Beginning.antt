-- Before the first event and step: what reading the schedule tells, and where the replay stands.
use Prim.Native.Nat.{ℕ, ◌+◌, ◌≤◌}
use native.Mathlib.Omega.{arith}
use mathlib.Core.Path.{◌≡◌, refl, sym, ap, subst}
use mathlib.Core.Bool.{◌&&◌}
use mathlib.Core.List.{List}
use mathlib.Core.Option.{Option, none, some}
use lib.Dec.{T, leb, leb→le}
use lib.ListN.{length}
use Rattle.model.specs.Cxl0.{Topology, start}
use Rattle.model.specs.Schedule.{Step, weave, in_order}
use Rattle.model.specs.Meaning.{topology_of}
use Rattle.model.proofs.Tests.{and_l, and_r}
use Rattle.log_bytes.specs.Records.{Records, system_of}
use Rattle.log_bytes.proofs.Checks.{clash}
use Rattle.cursors.specs.Opening.{Opens}
use Rattle.cursors.specs.Cursors.{Events}
use Rattle.cursors.specs.declared.Opened.{Opened}
use Rattle.verdict_file.specs.Answers.{gives, refused}
use Rattle.verdict_file.specs.Fitting.{every_step_fits, schedule_fits}
use Rattle.schedules.specs.Schedules.{read_schedule, counted}
use Rattle.schedules.proofs.Accepted.{accepts, from_first}
use Rattle.replay.specs.Replaying.{Answer, replayed, with_schedule}
use Rattle.replay.specs.Places.{Stands}
use Rattle.replay.specs.declared.walking.Place.{Place}

-- ---- what the schedule reader tells

-- A count is that of the steps that were read.
pub steps_read : (o : Option (List Step)) (m : ℕ) → gives m ≡ counted o
    → (ps : List Step) × (o ≡ some ps) × (length ps ≡ m)
steps_read none m e = clash (cc)
steps_read (some ps) m e = (ps, refl, (cc))

-- A refusal is 13, and no steps were read.
pub none_read : (o : Option (List Step)) (number : ℕ) → refused number ≡ counted o
    → (o ≡ none) × (number ≡ 13)
none_read none number e = (refl, (cc))
none_read (some ps) number e = clash (cc)

module _ (sys : Topology) (n : ℕ) (ps : List Step) (f : List ℕ) (read : read_schedule sys n f ≡ some ps) where
  -- At most 256 steps are read, and they are in order.
  few_steps : length ps ≤ 256
  unfolding schedule_fits
  few_steps =
      let few = leb (length ps) 256 in
      let order = in_order 0 n ps in
      leb→le (length ps) 256
      (and_l few order (and_l (few && order) (every_step_fits sys ps) ((accepts sys n ps f).0 read).1))

  read_in_order : T (in_order 0 n ps)
  unfolding schedule_fits
  read_in_order =
      let few = leb (length ps) 256 in
      let order = in_order 0 n ps in
      and_r few order (and_l (few && order) (every_step_fits sys ps) ((accepts sys n ps f).0 read).1)

-- A count is at most 256.
pub count_few : (sys : Topology) (n : ℕ) (f : List ℕ) (m : ℕ) → gives m ≡ counted (read_schedule sys n f)
    → m ≤ 256
count_few sys n f m e =
    let (ps, read, count) = steps_read (read_schedule sys n f) m e in
    rw (← count) (few_steps sys n ps f read)

-- ---- where the replay begins

-- At the system's start, with no event passed, at the first event and the first step: everything is ahead.
pub stands_first : {s f : List ℕ} {r : Records} {o : Opened} (n : ℕ) (ps : List Step) (w : Place)
    → Opens s r o → read_schedule (topology_of o.topology) n f ≡ some ps → length r.events ≡ n
    → w.passed ≡ 0 → w.event ≡ o.events → w.step ≡ 5
    → let sys = topology_of o.topology in
    Stands s f o.topology n (replayed sys r.events ps) (n + length ps) (start sys) w
unfolding replayed weave
stands_first {s} {f} {r} {o} n ps w opened read count passed event step =
    let sys = topology_of o.topology in
    record {
      limits = opened.limits;
      es = r.events;
      ps = ps;
      end = opened.end;
      events = subst (λ (at : ℕ). Events s at r.events opened.end) (sym event) opened.events;
      steps = rw step (from_first sys n ps f read);
      ahead = rw count refl;
      all = rw (passed, count) (omega arith);
      least = 0;
      order = read_in_order sys n ps f read;
      answer = rw passed refl;
    }

-- ---- what the answer is

module _ (r : Records) (sys : Topology) (n : ℕ) (f : List ℕ) (system : sys ≡ system_of r)
    (count : length r.events ≡ n) where
  -- With steps that were read, the answer is the replay.
  pub with_steps : (ps : List Step) → read_schedule sys n f ≡ some ps
      → with_schedule r (read_schedule (system_of r) (length r.events) f) ≡ replayed sys r.events ps
  with_steps ps read =
      rw (← system, count, read) (ap (λ (x : Topology). replayed x r.events ps) (sym system))

  -- With none, it is refusal 13.
  pub with_none : read_schedule sys n f ≡ none
      → with_schedule r (read_schedule (system_of r) (length r.events) f) ≡ Answer.refused 13
  with_none read = rw (← system, count, read)
