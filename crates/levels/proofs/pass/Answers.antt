-- `levels::pass` meets its contract. The loop's invariant: the gaps from t on are done.
use Prim.Native.Nat.{ℕ, ◌-◌, ◌<◌}
use native.Mathlib.Omega.{arith}
use mathlib.Core.Bool.{Bool}
use mathlib.Core.List.{List}
use Rattle.levels.specs.declared.Task.{Task}
use Rattle.levels.specs.Tasks.{Ready}
use Rattle.levels.proofs.Passes.{Passing, passing_more, passed, ready_gap}
use Rattle.levels.proofs.pass.Goals as goal

-- The area is ready for the gap before t.
ready_before : {q : Task} {from level t rest : ℕ} {more : Bool} {w w' : List ℕ}
    → Ready q from w → Passing q from level w t rest more w' → from < t → Ready q (t - 1) w'
ready_before {q} {from} {level} {t} {rest} {more} {w} {w'} ready passing inside =
    ready_gap q from level w ready t rest more w' passing (t - 1) (omega arith) inside

pub gap-rest-requires : goal.gap-rest-requires
gap-rest-requires c =
    let r = ready_before c.requires.ready c.loop-t.invariant c.loop-t-test.true in
    let pre = c.requires in
    (r, pre.least, omega (arith, pre.most))

pub loop-t-preserved : goal.loop-t-preserved
loop-t-preserved c =
    let at = c.loop-t in
    passing_more c.args.q c.args.from c.args.level c.args.w.now c.requires.ready
    at.t at.rest at.more at.w at.invariant
    (at.t - 1) (omega (arith, c.loop-t-test.true)) c.loop-t-test.true
    c.below-under.result c.gap-rest.result c.below-under.ensures c.gap-rest.ensures

pub returns : goal.returns
returns c =
    let at = c.loop-t in
    passed c.args.q c.args.from c.args.level c.args.w.now c.requires.ready
    at.t at.rest at.more at.w at.invariant c.loop-t-test.false
