-- `same_cost` meets its contract.
use Prim.Native.Nat.{ℕ, ◌+◌, ◌≤◌, min}
use mathlib.Core.Path.{◌≡◌, sym, ◌∙◌, ap, subst}
use Rattle.levels.specs.Stretches.{FAR}
use Rattle.levels.specs.Tasks.{Fewest}
use Rattle.segments.specs.Weighing.{written_of}
use Rattle.segments.proofs.Cheapest.{same_through, same_written, same_sought}
use Rattle.segments.proofs.weighing.same_cost.Goals as goal

pub returns-then-seen : goal.returns-then-seen
returns-then-seen c = same_through c.requires c.if-s.false c.if-seen.true

pub returns-then-paid-back : goal.returns-then-paid-back
returns-then-paid-back c =
    let paid : let a = c.args in
    c.written-paid.result ≡ written_of a.s a.back a.seen =
    c.written-paid.ensures in
    let a = c.args in
    let few = subst (λ (n : ℕ). n ≤ a.back + 1) paid c.if-paid-back.true in
    subst (λ (n : ℕ). Fewest a.q a.s.first a.s.code FAR a.w.now n a.w.now) (sym paid)
    (same_written c.requires c.if-s.false c.if-seen.false few)

-- Less was sought.
pub returns : goal.returns
returns c =
    let paid : let a = c.args in
    c.written-paid.result ≡ written_of a.s a.back a.seen =
    c.written-paid.ensures in
    let a = c.args in
    let r = c.fewest-2.result in
    let v = c.fewest-2.new.w in
    let found : ℕ → Type 0 = λ n. Fewest a.q a.s.first a.s.code n a.w.now r v in
    let all = same_sought c.requires c.if-s.false (subst found paid c.fewest-2.ensures) in
    let least = c.min.ensures ∙ ap (λ (n : ℕ). min n r) paid in
    subst (λ (n : ℕ). Fewest a.q a.s.first a.s.code FAR a.w.now n v) (sym least) all
