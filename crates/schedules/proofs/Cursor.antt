-- The cursor and the steps of a file: what stands at a position, and what the bytes from there give.
use Prim.Native.Nat.{ℕ, ◌+◌, ◌≤◌}
use native.Mathlib.Omega.{arith}
use mathlib.Core.Path.{◌≡◌, refl, sym, ap, ◌∙◌}
use mathlib.Core.Bool.{Bool, true, false, cond, and-true, and-false}
use mathlib.Core.List.{List, [], ◌∷◌}
use mathlib.Core.Option.{Option, none, some, map, map-eq-none_iff, map-eq-some_iff}
use lib.ListN.{length, drop, length-drop}
use lib.Seq.{drop-drop}
use borrow.Author.Tests.{le-leb, ne_eqb}
use Rattle.model.specs.Schedule.{Step}
use Rattle.log_bytes.proofs.Checks.{clash}
use Rattle.schedules.specs.Schedules.{starts, begins, is_end, first_step, step_at, read_steps}
use Rattle.schedules.proofs.Fields.{passed, long}

-- A step at the front and the steps after it, or none at the end.
abbrev after : Option Step → Bool → Option (List Step) → Option (List Step)
after (some p) ended more = map (λ ps. p ∷ ps) more
after none ended more = cond ended (some []) none

either : (b : Bool) (p : Step) (more : Option (List Step))
    → cond b (map {B = List Step} (λ ps. p ∷ ps) more) none ≡ after (cond b (some p) none) false more
either true p more = refl
either false p more = refl

-- The bytes after a header are a step's field and bytes that give the other steps, or the end.
steps_from : (s : List ℕ) → read_steps s ≡ after (first_step s) (is_end s) (read_steps (drop 6 s))
unfolding read_steps first_step is_end begins
steps_from [] = refl
steps_from (t ∷ []) = refl
steps_from (t ∷ lo ∷ []) = refl
steps_from (t ∷ lo ∷ hi ∷ []) = rw (and-true (starts 0x04 0 t lo hi))
steps_from (t ∷ lo ∷ hi ∷ b ∷ []) = rw (and-false (starts 0x04 0 t lo hi))
steps_from (t ∷ lo ∷ hi ∷ b ∷ x ∷ []) = rw (and-false (starts 0x04 0 t lo hi))
steps_from (t ∷ lo ∷ hi ∷ b ∷ x ∷ i ∷ s) =
    let n : ℕ = length (t ∷ lo ∷ hi ∷ b ∷ x ∷ i ∷ s) in
    let no_end = and-false (starts 0x04 0 t lo hi) in
    rw (le-leb 6 n (omega arith), le-leb 3 n (omega arith), ne_eqb n 3 (omega arith), no_end)
    (either (starts 0x11 3 t lo hi) (record { before = b; location = x; machine = i }) (read_steps s))

-- A first step is at the front, and where there is none there are no steps.
first_read_step : (o : Option Step) (ended : Bool) (more : Option (List Step)) {p : Step} {ps : List Step}
    → after o ended more ≡ some (p ∷ ps) → (o ≡ some p) × (more ≡ some ps)
first_read_step none true more e = clash (cc)
first_read_step none false more e = clash (cc)
first_read_step (some q) ended more e =
    let (qs, rest, same) = (map-eq-some_iff (λ qs. q ∷ qs) more).0 e in
    (cc, cc)

no_step : (o : Option Step) (ended : Bool) (more : Option (List Step))
    → after o ended more ≡ some [] → o ≡ none
no_step none ended more e = refl
no_step (some q) ended more e =
    let (qs, rest, same) = (map-eq-some_iff (λ qs. q ∷ qs) more).0 e in
    clash (cc)

module _ (s : List ℕ) (at : ℕ) where
  -- A step and the next position, from the step at the front.
  placed : Step → Step × ℕ
  placed p = (p, at + 6)

  -- Where a step is found, the next position is in the file.
  pub within : {p : Step} {next : ℕ} → step_at s at ≡ some (p, next) → next ≤ length s
  unfolding step_at first_step placed
  within e =
      let (q, first, place) = (map-eq-some_iff placed (first_step (drop at s))).0 e in
      let whole = (passed (begins 0x11 3 (drop at s)) _ first).0 in
      let there = ap (λ r. r.1) place in
      omega (arith, length-drop at s, long 0x11 3 (drop at s) whole, there)

  -- The steps from there are it and those from the next position.
  pub found : {p : Step} {next : ℕ} → step_at s at ≡ some (p, next)
      → read_steps (drop at s) ≡ map (λ ps. p ∷ ps) (read_steps (drop next s))
  unfolding step_at placed
  found e =
      let (q, first, place) = (map-eq-some_iff placed (first_step (drop at s))).0 e in
      steps_from (drop at s) ∙ rw (first, ap (λ r. r.0) place, drop-drop 6 at s, ap (λ r. r.1) place)

  -- Where none is found, there is the end, or the bytes give no steps.
  pub absent : step_at s at ≡ none → read_steps (drop at s) ≡ cond (is_end (drop at s)) (some []) none
  unfolding step_at placed
  absent e = steps_from (drop at s) ∙ rw ((map-eq-none_iff placed (first_step (drop at s))).0 e)

  -- So from a position where the bytes give steps, the cursor finds them one after the other, and then none.
  pub walks : {p : Step} {ps : List Step} → read_steps (drop at s) ≡ some (p ∷ ps)
      → (step_at s at ≡ some (p, at + 6)) × (read_steps (drop (at + 6) s) ≡ some ps)
  unfolding step_at
  walks e =
      let there = sym (steps_from (drop at s)) ∙ e in
      let (first, more) = first_read_step (first_step (drop at s)) _ (read_steps (drop 6 (drop at s))) there in
      (rw first, rw (← drop-drop 6 at s) more)

  pub stops : read_steps (drop at s) ≡ some [] → step_at s at ≡ none
  unfolding step_at
  stops e = rw (no_step (first_step (drop at s)) _ _ (sym (steps_from (drop at s)) ∙ e))
