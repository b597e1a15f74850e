-- `cxl0_convert` packs what `convert` answers.
use native.Mathlib.Omega.{arith}
use mathlib.Core.Path.{ap, ◌∙◌}
use Rattle.log_bytes.proofs.Each.{bytes_by_index}
use Rattle.capi.specs.Packing.{pack_converted}
use Rattle.capi.proofs.Sizes.{converted_fits, length_fits}
use Rattle.capi.proofs.cxl0_convert.Goals as goal

pub pack_length-requires : goal.pack_length-requires
pack_length-requires c =
    let bytes = bytes_by_index c.args.log.now (λ i. omega (arith, c.type_inv.log i)) in
    length_fits c.convert.result (converted_fits _ _ bytes _ c.convert.ensures.result_value)

pub returns : goal.returns
returns c =
    record {
      value = c.pack_length.ensures.converted ∙ ap pack_converted c.convert.ensures.result_value;
      out_after = c.convert.ensures.out_after;
    }
