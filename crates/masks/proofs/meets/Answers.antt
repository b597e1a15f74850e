-- `masks::meets` meets its contract.
use borrow.Author.Rules.{rules}
use borrow.Author.Tests.{eqb-false, ne_eqb, not-true}
use mathlib.Core.Path.{ap}
use mathlib.Core.Bool.{not}
use Rattle.masks.proofs.Sets.{meet}
use Rattle.masks.proofs.meets.Goals as goal

pub returns : goal.returns
returns c =
    let common = meet 64 c.args.a c.args.b (search rules) in
    (λ e. common.0 (eqb-false _ _ (not-true _ e)), λ t. ap not (ne_eqb _ _ (common.1 t)))
