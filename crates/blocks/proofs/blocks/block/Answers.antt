-- `block` meets its contract.
use Rattle.blocks.proofs.WholeBlocks.{laid, restable, none, ahead, blocked_end, closable, blocked_known}
use Rattle.blocks.proofs.blocks.block.Goals as goal

pub weigh_all-requires : goal.weigh_all-requires
weigh_all-requires c =
    laid c.requires c.split-b.ensures

pub rest-steps-requires : goal.rest-steps-requires
rest-steps-requires c =
    restable c.requires c.split-b.ensures c.weigh_all.ensures

pub returns-then-steps-ge-FAR : goal.returns-then-steps-ge-FAR
returns-then-steps-ge-FAR c =
    none c.requires c.split-b.ensures c.weigh_all.ensures
    (rw c.rest-steps.ensures at c.if-steps-ge-FAR.true)

pub walk-end-requires : goal.walk-end-requires
walk-end-requires c =
    rw c.rest-steps.ensures
    (ahead c.requires c.split-b.ensures c.weigh_all.ensures
    (rw c.rest-steps.ensures at c.if-steps-ge-FAR.false))

pub returns-then-b-k : goal.returns-then-b-k
returns-then-b-k c =
    blocked_end c.requires c.split-b.ensures c.weigh_all.ensures
    (rw c.rest-steps.ensures at c.walk-end.ensures) c.if-b-k.true

pub after_block-requires : goal.after_block-requires
after_block-requires c =
    closable c.requires c.split-b.ensures c.weigh_all.ensures
    (rw c.rest-steps.ensures at c.walk-end.ensures) c.if-b-k.false

pub returns : goal.returns
returns c =
    blocked_known c.requires c.split-b.ensures c.weigh_all.ensures
    (rw c.rest-steps.ensures at c.walk-end.ensures) c.if-b-k.false c.after_block.ensures
