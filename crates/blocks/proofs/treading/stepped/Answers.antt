-- `stepped` meets its contract.
use Rattle.std.proofs.Common.{refl, sym, arith}
use Rattle.masks.specs.Sets.{OneToSix}
use Rattle.blocks.proofs.Choosing.{after_write, after_move}
use Rattle.blocks.proofs.treading.stepped.Goals as goal
use Rattle.blocks.proofs.treading.stepped.Goals.{in-WriteBack, in-Move}

pub returns : goal.returns
returns c =
    elim c.match-step.branch [
      | in-WriteBack w ↦
          rw (w.in-WriteBack.is, w.code-is)
          (record {
            leads = sym (after_write _ _);
            fits = omega arith;
            end = refl;
            steps = omega arith;
          })
      | in-Move w ↦
          let six : OneToSix w.in-Move.i.0 = rw w.in-Move.is at c.requires.1 in
          rw (w.in-Move.is, w.code-is)
          (record {
            leads = rw w.moved_code.ensures.0 (sym (after_move _ _ _ six.0));
            fits = w.moved_code.ensures.1;
            end = refl;
            steps = omega arith;
          })
    ]
