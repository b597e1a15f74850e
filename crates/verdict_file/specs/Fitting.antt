-- Which steps fit a log (document 01, "Refusals by number", 13).
use Rattle.std.specs.Prelude.{ℕ, Bool, true, not, ◌&&◌, List, [], ◌∷◌, leb, eqb, length}
use Rattle.model.specs.Cxl0.{Topology, is_location, owner}
use Rattle.model.specs.Schedule.{Step, in_order}
use Rattle.verdict_file.specs.Files.{steps_most}

-- A step names a listed location, and a machine up to n that is not its owner; machine 0 means write-back.
unfoldable pub step_fits : Topology → Step → Bool
step_fits sys p =
    is_location sys p.location
    && leb p.machine sys.machines
    && not (eqb p.machine (owner sys p.location))

unfoldable pub every_step_fits : Topology → List Step → Bool
every_step_fits sys [] = true
every_step_fits sys (p ∷ ps) = step_fits sys p && every_step_fits sys ps

-- The steps fit a log of n events on a system: few enough, each after no more events than there are and no
-- fewer than the step before it, and each of the system.
unfoldable pub schedule_fits : Topology → ℕ → List Step → Bool
schedule_fits sys n ps = leb (length ps) steps_most && in_order 0 n ps && every_step_fits sys ps
