-- `cxl0_replay` packs what `replay` answers.
use mathlib.Core.Path.{ap, ◌∙◌}
use Rattle.capi.specs.Packing.{pack_replayed}
use Rattle.capi.proofs.cxl0_replay.Goals as goal

pub returns : goal.returns
returns c = c.pack_replayed.ensures ∙ ap pack_replayed c.replay.ensures
