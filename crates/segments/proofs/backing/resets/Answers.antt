-- `segments::backing::resets` meets its contract: only crashes, 7 and 11, reset memory.
use native.Mathlib.Omega.{arith}
use mathlib.Core.Path.{◌≡◌, refl, ◌∙◌}
use mathlib.Core.Bool.{Bool, true, false, and-true}
use lib.Dec.{T, eqb}
use Rattle.model.specs.Cxl0.{Machine, crashes}
use Rattle.model.specs.Sharers.{has}
use Rattle.model.specs.Operations.{is_operation, is_located, event_of}
use Rattle.model.specs.OneLocation.{clears_site}
use Rattle.model.specs.Meaning.{meant}
use Rattle.model.specs.declared.Event as event
use Rattle.model.proofs.Operations.{by_number, not_crash}
use Rattle.entries.specs.Entries.{site_meant}
use Rattle.entries.specs.declared.Site.{Site}
use Rattle.segments.proofs.backing.resets.Goals as goal

-- An event at a location crashes no machine.
no-crash : (e : event.Event) (j : Machine) → T (is_located e.operation) → crashes (meant e) j ≡ false
unfolding crashes is_located is_operation
no-crash e j =
    by_number e (λ op f. T (is_located op) → crashes f j ≡ false)
    (λ at. refl) (λ at. refl) (λ at. refl) (λ at. refl) (λ at. refl) (λ at. refl)
    (λ at. refl) (λ at. refl) (λ at. refl)
    (λ at. absurd at)
    (λ op none at. absurd (none at))

module _ (site : Site) (e : event.Event) where
  abbrev resets : Bool
  resets = clears_site (meant e) (site_meant site)

  -- A crash resets what its machine owns.
  by-crash : site.volatile ≡ true → e.operation ≡ 7 → eqb site.owner.0 e.machine.0 ≡ resets
  unfolding crashes event_of
  by-crash v seven = rw (v, seven, and-true (eqb site.owner.0 e.machine.0))

  -- A set crash resets what its machines own.
  by-set : site.volatile ≡ true → e.operation ≡ 11 → has site.owner.0 e.location.0 ≡ resets
  unfolding crashes event_of
  by-set v eleven = rw (eleven, v, and-true (has site.owner.0 e.location.0))

  -- No other event resets memory.
  no-reset : T (is_operation e.operation) → ¬ (e.operation ≡ 7) → ¬ (e.operation ≡ 11) → false ≡ resets
  no-reset is n other = rw (no-crash e site.owner.0 (not_crash is n other))

pub returns-in-7 : goal.returns-in-7
returns-in-7 c = c.eq.ensures ∙ by-crash c.args.site c.args.e c.if-not-site.false c.in-7.is

pub returns-in-11 : goal.returns-in-11
returns-in-11 c = c.holds.ensures ∙ by-set c.args.site c.args.e c.if-not-site.false c.in-11.is

pub returns-in_default : goal.returns-in_default
returns-in_default c = no-reset c.args.site c.args.e c.requires.0.operation (omega arith) (omega arith)
