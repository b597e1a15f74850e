-- `fewest` meets its contract. The loop's invariant: the levels below the one at hand have been tried.
use native.Mathlib.Omega.{arith}
use mathlib.Core.Path.{sym, ◌∙◌}
use mathlib.Core.Bool.{true≢false}
use Rattle.masks.specs.Sets.{In}
use Rattle.levels.specs.Tasks.{level_in}
use Rattle.levels.proofs.Counting.{tried_none, passable, found, tried_more, full, exhausted}
use Rattle.levels.proofs.fewest.Goals as goal

pub loop-level-init : goal.loop-level-init
loop-level-init c = tried_none c.requires.0 c.args.c

pub pass-more-requires : goal.pass-more-requires
pass-more-requires c =
    passable c.requires.0 c.loop-level.invariant.reached (omega (arith, c.requires.2))

pub returns-then-contains : goal.returns-then-contains
returns-then-contains c =
    found c.requires.0 c.loop-level.invariant c.requires.1 c.pass-more.ensures c.args.below c.requires.2
    c.loop-level-test.true (c.contains.ensures.0 c.if-contains.true)

-- No mask has changed, and the level is not below `high`.
pub returns-then-q-level : goal.returns-then-q-level
returns-then-q-level c =
    let absent :
    ¬ In c.args.c (level_in c.pass-more.new.w c.args.from) =
    λ i. true≢false (sym (c.contains.ensures.1 i) ∙ c.if-contains.false) in
    full c.requires.0 c.loop-level.invariant c.requires.1 c.pass-more.ensures c.args.below c.requires.2 absent
    c.if-not-more.true c.if-q-level.true

pub loop-level-preserved : goal.loop-level-preserved
loop-level-preserved c =
    let absent :
    ¬ In c.args.c (level_in c.pass-more.new.w c.args.from) =
    λ i. true≢false (sym (c.contains.ensures.1 i) ∙ c.if-contains.false) in
    tried_more c.requires.0 c.loop-level.invariant c.requires.1 c.pass-more.ensures absent

pub returns : goal.returns
returns c =
    exhausted c.loop-level.invariant c.args.below c.requires.2 c.loop-level-test.false
