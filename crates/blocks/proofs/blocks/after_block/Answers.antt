-- `after_block` meets its contract.
use Rattle.blocks.proofs.Places.{closed}
use Rattle.blocks.proofs.blocks.after_block.Goals as goal

pub returns : goal.returns
returns c = closed c.get_segment-last.ensures c.get_event.ensures (rw c.unwrap_or.ensures at c.act_at-made.ensures)
