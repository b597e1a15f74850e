-- `cxl0_read` packs what `read` answers.
use mathlib.Core.Path.{ap, ◌∙◌}
use Rattle.capi.specs.Packing.{pack_summary}
use Rattle.capi.proofs.cxl0_read.Goals as goal

pub returns : goal.returns
returns c = c.pack_reading.ensures ∙ ap pack_summary c.read.ensures
