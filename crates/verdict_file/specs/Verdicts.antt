-- The verdict on the events of a system: allowed, with their explanation, or impossible at the least e such that the
-- first e events have none.
use Rattle.std.specs.Prelude.{List}
use Rattle.std.proofs.Math.Option.{none, some}
use Rattle.model.specs.Cxl0.{Topology, Event}
use Rattle.model.specs.Explanations.{explanation, first_unexplained}
use Rattle.verdict_file.specs.Files.{Verdict, allowed, impossible}

unfoldable pub verdict_of : Topology → List Event → Verdict
verdict_of sys es =
    elim (explanation sys es) [ some ps ↦ allowed ps | none ↦ impossible (first_unexplained sys es) ]
