-- `levels::gap` meets its contract, by whether a write-back pays.
use native.Mathlib.Nat.{le_refl}
use Rattle.levels.specs.Tasks.{back_in}
use Rattle.levels.proofs.Gaps.{pays, pays_not, gap_dry, gap_back}
use Rattle.levels.proofs.gap.Goals as goal

pub returns-then-q-w : goal.returns-then-q-w
returns-then-q-w c q s next b =
    let ready = c.requires.0 in
    let level = c.args.level in
    let t = c.args.t in
    let left = back_in c.args.w.now t in
    let less = pays c.args.q.writes left level c.if-q-w.true in
    gap_back ready level q s c.requires.1 c.onward.result c.one_move.result c.args.under
    (c.onward.ensures q s next) b c.one_move.ensures
    (rw (s.backs t (le_refl t) ready.order) less)
    c.holding.result c.holding.ensures

pub returns : goal.returns
returns c q s next b =
    let ready = c.requires.0 in
    let level = c.args.level in
    let t = c.args.t in
    let left = back_in c.args.w.now t in
    let less = pays_not c.args.q.writes left level c.requires.2 c.if-q-w.false in
    gap_dry ready level q s c.requires.1 c.onward.result c.one_move.result c.args.under
    (c.onward.ensures q s next) b c.one_move.ensures
    (rw (s.backs t (le_refl t) ready.order) less)
