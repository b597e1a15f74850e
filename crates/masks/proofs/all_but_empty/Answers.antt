-- `masks::all_but_empty` meets its contract: its mask is tried at every code.
use mathlib.Core.Bool.{not}
use lib.Dec.{eqb}
use Rattle.model.proofs.Tests.{ne_test, ne→test}
use Rattle.masks.proofs.Constants.{every, exactly}
use Rattle.masks.proofs.all_but_empty.Goals as goal

pub returns : goal.returns
unfolding every
returns c t h =
    let e = exactly 0xffff_ffff_ffff_fffe (λ s. not (eqb s 0)) tt t h in
    (λ i. ne_test t 0 (e.0 i), λ z. e.1 (ne→test t 0 z))
