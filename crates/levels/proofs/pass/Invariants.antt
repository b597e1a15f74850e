-- `levels::pass` meets its contract. The loop's invariant: the gaps from t on are done.
use Rattle.levels.proofs.Passes.{Passing}
use Rattle.levels.proofs.pass.Given as goal

abbrev pub invariant-loop-t : goal.invariant-loop-t
invariant-loop-t l = Passing l.q l.from l.level l.initial.w l.t l.rest l.more l.w
