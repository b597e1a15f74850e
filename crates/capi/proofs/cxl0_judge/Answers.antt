-- `cxl0_judge` packs what `judge` answers.
use Rattle.capi.proofs.Sizes.{judged_fits}
use Rattle.capi.proofs.Packed.{judged_packed}
use Rattle.capi.proofs.cxl0_judge.Goals as goal

pub pack_judged-requires : goal.pack_judged-requires
pack_judged-requires c = judged_fits _ _ _ _ _ c.judge.ensures

pub returns : goal.returns
returns c =
    let judged = c.judge in
    let r = judged_packed _ _ _ _ judged.result judged.ensures c.pack_judged.ensures in
    record {
      value = r.0;
      out_after = r.1.0;
      scratch_after = r.1.1;
    }
