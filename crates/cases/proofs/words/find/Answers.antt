-- `find` passes no such byte: `position` gives the first one.
use Rattle.std.proofs.Common.{◌≡◌, ◌-◌, arith, get_or-drop, get_or-take, rules, tests}
use Rattle.std.proofs.lemmas.Iterator.{IsFirst-from_position, YieldsList-from_slice}
use Rattle.std.proofs.lemmas.Option.{MatchOption-at_none, MatchOption-at_some}
use Rattle.cases.proofs.words.find.Goals as goal

pub returns-in-Some-clause-before : goal.returns-in-Some-clause-before
returns-in-Some-clause-before c =
    let b = c.args.byte in
    let first =
    MatchOption-at_some _ _ _ c.in-Some.is
    (IsFirst-from_position _ _ _ (λ x. x ≡ b) (λ x. x ≡ b → ⊥) c.position.ensures.ran
    (YieldsList-from_slice _ c.iter.ensures.rest) (λ x q k. search (rules, tests)) (λ x q k. search (rules, tests))) in
    λ k low high same.
    first.2 (k - c.args.from) 0 (omega arith) (omega arith)
    (grind (arith, get_or-take, get_or-drop))

pub returns-in-None-clause-before : goal.returns-in-None-clause-before
returns-in-None-clause-before c =
    let b = c.args.byte in
    let none =
    MatchOption-at_none _ _ c.in-None.is
    (IsFirst-from_position _ _ _ (λ x. x ≡ b) (λ x. x ≡ b → ⊥) c.position.ensures.ran
    (YieldsList-from_slice _ c.iter.ensures.rest) (λ x q k. search (rules, tests)) (λ x q k. search (rules, tests))) in
    λ k low high same.
    none (k - c.args.from) 0 (omega arith) (omega arith)
    (grind (arith, get_or-take, get_or-drop))
