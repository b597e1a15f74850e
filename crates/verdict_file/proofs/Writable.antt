-- What is right for a log within the limits is of a verdict file's form: steps that fit the log, an event of it.
use Prim.Native.Nat.{ℕ, ◌≤◌}
use native.Mathlib.Omega.{arith}
use mathlib.Core.Bool.{not, ◌&&◌}
use mathlib.Core.List.{List, [], ◌∷◌}
use lib.Dec.{T, leb, ltb, eqb, leb→le, ltb→lt, le→leb, lt→ltb}
use lib.ListN.{length}
use Rattle.model.specs.Cxl0.{Topology, is_location, owner}
use Rattle.model.specs.Schedule.{Step, in_order}
use Rattle.model.proofs.Tests.{and_i, and_l, and_r}
use Rattle.verdict_file.specs.Files.{allowed, impossible, steps_most, events_most}
use Rattle.verdict_file.specs.Fitting.{step_fits, every_step_fits, schedule_fits}
use Rattle.verdict_file.specs.Writing.{three_bytes, all_three_bytes, writable}

-- A system and a log within the limits.
module _ (sys : Topology) (machines : sys.machines ≤ 6) (homes : length sys.homes ≤ 32)
    (n : ℕ) (events : n ≤ events_most) where
  -- A step that fits names a location and a machine that each fit a byte.
  bytes : (p : Step) → p.before ≤ n → T (step_fits sys p) → T (three_bytes p)
  unfolding step_fits is_location three_bytes
  bytes p h t =
      let x = p.location in
      let i = p.machine in
      let both = and_l (is_location sys x && leb i sys.machines) (not (eqb i (owner sys x))) t in
      let listed = ltb→lt x (length sys.homes) (and_l (is_location sys x) (leb i sys.machines) both) in
      let machine = leb→le i sys.machines (and_r (is_location sys x) (leb i sys.machines) both) in
      and_i (ltb p.before 256 && ltb x 256) (ltb i 256)
      (and_i (ltb p.before 256) (ltb x 256) (lt→ltb p.before 256 (omega arith)) (lt→ltb x 256 (omega arith)))
      (lt→ltb i 256 (omega arith))

  -- The counts of events before are in order up to 128 too, and all steps have three bytes.
  ordered_fit : (least : ℕ) (ps : List Step) → T (in_order least n ps) → T (every_step_fits sys ps)
      → T (all_three_bytes ps) × T (in_order least events_most ps)
  unfolding in_order every_step_fits all_three_bytes
  ordered_fit least [] o f = (tt, tt)
  ordered_fit least (p ∷ ps) o f =
      let b = p.before in
      let low = leb least b in
      let here = and_l (low && leb b n) (in_order b n ps) o in
      let most = leb→le b n (and_r low (leb b n) here) in
      let rest = ordered_fit b ps (and_r (low && leb b n) (in_order b n ps) o)
      (and_r (step_fits sys p) (every_step_fits sys ps) f) in
      let first = and_l (step_fits sys p) (every_step_fits sys ps) f in (
        and_i (three_bytes p) (all_three_bytes ps) (bytes p most first) rest.0,
        and_i (low && leb b events_most) (in_order b events_most ps)
            (and_i low (leb b events_most) (and_l low (leb b n) here) (le→leb b events_most (omega arith)))
            rest.1,
      )

  -- Steps that fit the log are of the form.
  pub fits_writable : (ps : List Step) → T (schedule_fits sys n ps) → T (writable (allowed ps))
  unfolding schedule_fits writable
  fits_writable ps t =
      let short = leb (length ps) steps_most in
      let few = and_l (short && in_order 0 n ps) (every_step_fits sys ps) t in
      let steps = ordered_fit 0 ps (and_r short (in_order 0 n ps) few)
      (and_r (short && in_order 0 n ps) (every_step_fits sys ps) t) in
      and_i (short && all_three_bytes ps) (in_order 0 events_most ps)
      (and_i short (all_three_bytes ps) (and_l short (in_order 0 n ps) few) steps.0)
      steps.1

-- So is the number of an event of the log.
pub event_writable : (n e : ℕ) → n ≤ events_most → 1 ≤ e → e ≤ n → T (writable (impossible e))
unfolding writable
event_writable n e few low high =
    and_i (leb 1 e) (leb e events_most) (le→leb 1 e low) (le→leb e events_most (omega arith))
