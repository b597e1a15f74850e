-- `over_event` meets its contract.
use Rattle.std.proofs.Common.{refl, ap}
use Rattle.model.specs.OneLocation.{Local}
use Rattle.entries.specs.Entries.{short_of}
use Rattle.scratch.proofs.Events.{meant_read}
use Rattle.blocks.proofs.treading.over_event.Goals as goal

pub returns : goal.returns
unfolding short_of
returns c =
    let a = c.args in
    let read = meant_read a.w.now a.t c.get_event.result c.get_event.ensures in
    let leads = rw (read, c.from.ensures) at c.act_at-made.ensures.leads in
    record {
      code = ap (λ (s : Local). s.code) leads;
      memory = ap (λ (s : Local). s.memory) leads;
      fits = c.act_at-made.ensures.fits;
      end = refl;
      steps = refl;
    }
