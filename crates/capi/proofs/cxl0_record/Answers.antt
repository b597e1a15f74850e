-- `cxl0_record` packs what `record` answers.
use mathlib.Core.Path.{ap, ◌∙◌}
use Rattle.capi.specs.Packing.{pack_recorded}
use Rattle.capi.proofs.Sizes.{recorded_fits}
use Rattle.capi.proofs.cxl0_record.Goals as goal

pub pack_length-requires : goal.pack_length-requires
pack_length-requires c = recorded_fits _ _ _ _ _ c.record.ensures.result_value

pub returns : goal.returns
returns c =
    record {
      value = c.pack_length.ensures.recorded ∙ ap pack_recorded c.record.ensures.result_value;
      buf_after = c.record.ensures.buf_after;
    }
