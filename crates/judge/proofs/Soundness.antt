-- What was found of the events in the scratch area is the right verdict on them. It can be issued, and is then the
-- judge's answer and its file.
use Prim.Native.Nat.{ℕ, ◌≤◌}
use native.Mathlib.Omega.{arith}
use mathlib.Core.Path.{◌≡◌}
use mathlib.Core.Bool.{true}
use mathlib.Core.List.{List}
use lib.ListN.{length, drop, length-map, length-take}
use Rattle.std.specs.Prelude.{Result}
use Rattle.fields.specs.declared.Refusal.{Refusal}
use Rattle.model.specs.Cxl0.{Topology, WellFormed, Event, FirstImpossible}
use Rattle.model.specs.Meaning.{topology_of}
use Rattle.model.specs.declared.Topology as topology
use Rattle.model.proofs.Limits.{within}
use Rattle.model.proofs.Tests.{T→true}
use Rattle.verdict_file.specs.Files.{Verdict, allowed, impossible, file_of, events_most}
use Rattle.fields.specs.Put.{put}
use Rattle.verdict_file.specs.Writing.{writable, room, output}
use Rattle.verdict_file.proofs.Writing.{file}
use Rattle.verdict_file.proofs.Writable.{fits_writable, event_writable}
use Rattle.scratch.specs.Layout.{LOG}
use Rattle.scratch.proofs.Events.{events_length}
use Rattle.events.specs.Linking.{logged}
use Rattle.weighing.specs.Weighing.{Weighable, Finds, Concluded}
use Rattle.weighing.specs.declared.Weighed.{Weighed}
use Rattle.verdict_file.proofs.Verdicts.{Right}
use Rattle.judge.specs.Judging.{answer_of, told}
use Rattle.judge.specs.Issuing.{verdict_found, Issuable, Issued}
use Rattle.judge.specs.declared.Judged.{Judged}
use Rattle.judge.proofs.RightVerdicts.{shortest_fits}

-- The verdict that was found is right.
pub concluded_right : {t : topology.Topology} {n : ℕ} {w : List ℕ} (found : Weighed) {w' : List ℕ}
    → Concluded t n w found w' → Right (topology_of t) (logged n w) (verdict_found found w')
unfolding Right Finds
concluded_right (Weighed.Allowed steps) done = done.finds
concluded_right (Weighed.Impossible number) done = done.finds

-- A verdict of a verdict file's form that was issued to an output with room is told and written.
pub issued_whole : (v : Verdict) {out : List ℕ} {offset : ℕ} → room out offset ≡ true → writable v ≡ true
    → {out' : List ℕ} {j : Result Judged Refusal} → Issued v out offset out' j
    → (answer_of j ≡ told v) × (out' ≡ put out offset (file_of v))
unfolding output
issued_whole v {out} {offset} fits form issued =
    let written = file out offset v fits form in
    (rw written at issued.answer, rw written at issued.file)

-- No more events than a log has.
module _ {t : topology.Topology} {n : ℕ} {w : List ℕ} (can : Weighable t n w) (few : n ≤ events_most) where
  abbrev sys : Topology
  sys = topology_of t

  abbrev es : List Event
  es = logged n w

  size : length es ≡ n
  size = events_length (drop LOG w) n

  few_locations : length sys.homes ≤ 32
  unfolding topology_of
  few_locations = simp (length-map, length-take) (omega (arith, (within t can.limits).locations_few))

  few_machines : sys.machines ≤ 6
  unfolding topology_of
  few_machines = (within t can.limits).machines_few

  well_formed : WellFormed sys
  well_formed = (within t can.limits).well-formed

  -- It can be issued.
  pub concluded_issuable : (found : Weighed) {w' : List ℕ} → Concluded t n w found w' → Issuable found w'
  unfolding Issuable Finds FirstImpossible
  concluded_issuable (Weighed.Allowed steps) done = omega (arith, done.few, done.frame.sized, can.linked.room)
  concluded_issuable (Weighed.Impossible number) done = omega (arith, done.finds.1, size)

  -- A right verdict is of a verdict file's form.
  right_writable : (v : Verdict) → Right sys es v → writable v ≡ true
  unfolding Right FirstImpossible
  right_writable (allowed ps) right =
      let fits = shortest_fits sys well_formed es (omega (arith, size)) ps right in
      T→true (fits_writable sys few_machines few_locations (length es) (omega (arith, size)) ps fits)
  right_writable (impossible e) right =
      T→true (event_writable (length es) e (omega (arith, size)) right.0 right.1)

  -- Where the output has room, it is told and written.
  pub right_issued : (v : Verdict) → Right sys es v → {out : List ℕ} {offset : ℕ} → room out offset ≡ true
      → {out' : List ℕ} {j : Result Judged Refusal} → Issued v out offset out' j
      → (answer_of j ≡ told v) × (out' ≡ put out offset (file_of v))
  right_issued v right fits issued = issued_whole v fits (right_writable v right) issued
