-- `moves::exchanged` meets its contract: it is tried for each machine and each code.
use Prim.Native.Nat.{ℕ, ◌-◌}
use mathlib.Core.Bool.{Bool}
use lib.Dec.{eqb, eqb→eq}
use Rattle.model.specs.Cxl0.{Machine, every_machine}
use Rattle.model.specs.Sharers.{has, insert, remove}
use Rattle.masks.proofs.Constants.{every}
use Rattle.moves.specs.Exchange.{put, exchange}
use Rattle.moves.proofs.Everywhere.{holds}
use Rattle.moves.proofs.Swaps.{swap}
use Rattle.moves.proofs.exchanged.Goals as goal

right : Machine → ℕ → Bool
right k c = eqb (swap 8 1 (k - 1) c) (exchange k c)

pub returns : goal.returns
unfolding every_machine every right exchange put has insert remove
returns c =
    let args = c.args in
    let pre = c.requires in
    eqb→eq _ _ (holds right tt args.k.0 args.code pre.1 pre.0)
