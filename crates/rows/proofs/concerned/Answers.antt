-- `concerned` meets its contract: a known event names its location or is a crash, which concerns every location. So it
-- is right to ask first whether the location's byte is that of the site, which a crash need not say.
use Prim.Native.Nat.{ℕ}
use mathlib.Core.Path.{◌≡◌, sym, ap, ◌∙◌}
use mathlib.Core.Logic.{◌⊎◌, ⊎_elim, ◌≢◌}
use borrow.Author.Rules.{rules}
use mathlib.Core.Bool.{true, not}
use borrow.Author.Tests.{eqb-true, eq-eqb}
use lib.Dec.{T, T_not, eqb}
use Rattle.model.specs.OneLocation.{is_here_or_nowhere, event_at}
use Rattle.model.specs.Operations.{is_operation, is_located}
use Rattle.model.specs.Meaning.{meant}
use Rattle.model.specs.declared.Event as event
use Rattle.model.proofs.Tests.{by_test, T→true}
use Rattle.model.proofs.Operations.{not_crash, at-location, at_crash}
use Rattle.model.proofs.Locations.{crash_everywhere}
use Rattle.rows.proofs.concerned.Goals as goal

-- An event at a location concerns it alone.
at_one : (e : event.Event) (x : ℕ) → T (is_located e.operation) → event_at x (meant e) ≡ eqb x e.location.0
unfolding event_at
at_one e x at = ap (is_here_or_nowhere x) (at-location e at)

-- Any event concerns the location that its byte says.
here : (e : event.Event) (x : ℕ) → x ≡ e.location.0 → true ≡ event_at x (meant e)
here e x same =
    by_test (is_located e.operation)
    (λ at. sym (at_one e x at ∙ eq-eqb x e.location.0 same))
    (λ no. sym (T→true (crash_everywhere x (meant e) (at_crash e (T_not (is_located e.operation) no)))))

-- A crash concerns every location.
crash : (e : event.Event) (x : ℕ) → (e.operation ≡ 7) ⊎ (e.operation ≡ 11) → true ≡ event_at x (meant e)
unfolding is_located is_operation
crash e x which =
    let nowhere : T (not (is_located e.operation)) = ⊎_elim (λ is. rw is tt) (λ is. rw is tt) which in
    sym (T→true (crash_everywhere x (meant e) (at_crash e (T_not (is_located e.operation) nowhere))))

pub returns-then-eq : goal.returns-then-eq
returns-then-eq c =
    let a = c.args in
    c.if-eq.true ∙ here a.e a.site.location.0 (eqb-true _ _ (sym c.eq.ensures ∙ c.if-eq.true))

pub returns-in-7 : goal.returns-in-7
returns-in-7 c = crash c.args.e c.args.site.location.0 c.in-7.is

-- Any other event whose byte says another location does not concern this one.
pub returns-in_default : goal.returns-in_default
returns-in_default c =
    let e = c.args.e in
    let x = c.args.site.location.0 in
    let n₇ : e.operation ≢ 7 = search rules in
    let n₁₁ : e.operation ≢ 11 = search rules in
    let at = not_crash c.requires.operation n₇ n₁₁ in
    sym (at_one e x at ∙ sym c.eq.ensures ∙ c.if-eq.false)
