-- The operation numbers: each with its event, the definition's own tests read off as a table; which numbers there are;
-- and what holds of the event at its number.
use Prim.Native.Nat.{ℕ, suc, ◌≤◌}
use native.Mathlib.Nat.{eq-or-lt_of_le, not-le_of_lt}
use mathlib.Core.Path.{◌≡◌, refl, sym, subst}
use mathlib.Core.Logic.{◌≢◌, ⊎_elim}
use mathlib.Core.Bool.{Bool, true, false, cond, not, ◌&&◌, ◌||◌}
use mathlib.Core.List.{[], ◌∷◌, map}
use mathlib.Core.Option.{some}
use lib.Dec.{T, eqb, eqb→eq, leb, lit≤}
use lib.Ieee.Fits.{eq→eqb}
use borrow.Author.Tests.{leb-true}
use Rattle.model.specs.Cxl0.{Machine, Location, Value, Topology, is_machine, is_location, named}
use Rattle.model.specs.Cxl0.{Event, LStore, RStore, MStore, Load, LFlush, RFlush, Crash, SetCrash}
use Rattle.model.specs.Cxl0.{RMW, L, R, M}
use Rattle.model.specs.Cxl0 as cxl0
use Rattle.model.specs.Operations.{is_operation, is_located, event_of}
use Rattle.model.specs.OneLocation.{location_of, is_crash}
use Rattle.model.specs.Meaning.{meant}
use Rattle.model.specs.declared.Event as event
use Rattle.model.proofs.Tests.{T→true, not→false, and_i, and_l, and_r, or_l, or_r, ne_test, ne→test}

-- Numbers 1 to 11 are those of the events, in the order of document 01 and its change requests W-201 and W-203.
pub numbered : (i : Machine) (x : Location) (v w : Value)
    → map (λ (op : ℕ). event_of op i x v w) (1 ∷ 2 ∷ 3 ∷ 4 ∷ 5 ∷ 6 ∷ 7 ∷ 8 ∷ 9 ∷ 10 ∷ 11 ∷ [])
    ≡ LStore i x v ∷ RStore i x v ∷ MStore i x v ∷ Load i x v ∷ LFlush i x ∷ RFlush i x ∷ Crash i
    ∷ RMW L i x v w ∷ RMW R i x v w ∷ RMW M i x v w ∷ SetCrash x ∷ []
unfolding event_of
numbered i x v w = refl

-- The operations have the numbers 1 to 11.
pub operation_range : {op : ℕ} → T (is_operation op) → (1 ≤ op) × (op ≤ 11)
unfolding is_operation
operation_range {op} is =
    let low = leb 1 op in
    let high = leb op 11 in
    (leb-true 1 op (T→true {b = low} (and_l low high is)), leb-true op 11 (T→true {b = high} (and_r low high is)))

-- So nothing is left for the last arm of a match, after those for 1 to 11 and 0.
next_key : {k op : ℕ} → k ≤ op → op ≢ k → suc k ≤ op
next_key h n = ⊎_elim (λ e. absurd (n (sym e))) (λ l. l) (eq-or-lt_of_le h)

abbrev Unmatched : ℕ → Type 0
Unmatched op =
    (((((((((((Unit {0} × (op ≢ 1)) × (op ≢ 2)) × (op ≢ 3)) × (op ≢ 4)) × (op ≢ 5)) × (op ≢ 6)) × (op ≢ 7))
    × (op ≢ 8)) × (op ≢ 9)) × (op ≢ 10)) × (op ≢ 11)) × (op ≢ 0)

pub no_other : {op : ℕ} → T (is_operation op) → Unmatched op → ⊥
no_other {op} is ((((((((((((_, n₁), n₂), n₃), n₄), n₅), n₆), n₇), n₈), n₉), n₁₀), n₁₁), n₀) =
    let range = operation_range is in
    let past₅ : 5 ≤ op = next_key (next_key (next_key (next_key range.0 n₁) n₂) n₃) n₄ in
    let past₈ : 8 ≤ op = next_key (next_key (next_key past₅ n₅) n₆) n₇ in
    let past : 12 ≤ op = next_key (next_key (next_key (next_key past₈ n₈) n₉) n₁₀) n₁₁ in
    not-le_of_lt past range.1

-- A number that no arm for 0 to 11 matches is no operation's.
pub no_operation : {op : ℕ} → Unmatched op → is_operation op ≡ false
no_operation {op} n = go (is_operation op) (λ t. no_other t n)
  where
    go : (b : Bool) → (T b → ⊥) → b ≡ false
    go true f = absurd (f tt)
    go false f = refl

-- ---- the event at its number

-- P holds of the event that a test of the number picks.
choose : (P : ℕ → Event → Type 0) (op n : ℕ) {e f : Event} → P n e → (op ≢ n → P op f)
    → P op (cond (eqb op n) e f)
choose P op n {e} {f} p q = go (eqb op n) (eqb→eq op n) (ne_test op n)
  where
    go : (b : Bool) → (T b → op ≡ n) → (T (not b) → op ≢ n) → P op (cond b e f)
    go true t s = subst (λ (k : ℕ). P k e) (sym (t tt)) p
    go false t s = q (s tt)

-- An operation is at a location exactly where it is no crash's, 7 or 11.
pub not_crash : {op : ℕ} → T (is_operation op) → op ≢ 7 → op ≢ 11 → T (is_located op)
unfolding is_located
not_crash {op} is n₇ n₁₁ =
    and_i (is_operation op) (not (eqb op 7 || eqb op 11)) is
    (rw (not→false {b = eqb op 7} (ne→test op 7 n₇), not→false {b = eqb op 11} (ne→test op 11 n₁₁)) tt)

pub located_numbers : {op : ℕ} → T (is_located op) → T (is_operation op) × (op ≢ 7) × (op ≢ 11)
unfolding is_located
located_numbers {op} at =
    let crash = eqb op 7 || eqb op 11 in
    let none : crash ≡ false = not→false (and_r (is_operation op) (not crash) at) in (
      and_l (is_operation op) (not crash) at,
      λ e. absurd (rw none at (or_l (eqb op 7) (eqb op 11) (eq→eqb e))),
      λ e. absurd (rw none at (or_r (eqb op 7) (eqb op 11) (eq→eqb e))),
    )

-- The numbers of the operations at a location are 1 to 6 and 8 to 10.
located_number : {op : ℕ} → T (is_located op)
    → op ≢ 1 → op ≢ 2 → op ≢ 3 → op ≢ 4 → op ≢ 5 → op ≢ 6 → op ≢ 8 → op ≢ 9 → op ≢ 10 → ⊥
located_number {op} at n₁ n₂ n₃ n₄ n₅ n₆ n₈ n₉ n₁₀ =
    let (is, n₇, n₁₁) = located_numbers at in
    let n₀ : op ≢ 0 = λ e. not-le_of_lt (subst (◌≤◌ 1) e (operation_range is).0) (lit≤ tt) in
    no_other is ((((((((((((tt, n₁), n₂), n₃), n₄), n₅), n₆), n₇), n₈), n₉), n₁₀), n₁₁), n₀)

-- What holds of each operation at a location at its number, of a set crash at 11, and of a crash at every other number,
-- holds of the event at its number.
pub by_number : (e : event.Event) (P : ℕ → Event → Type 0)
    → let i : Machine = e.machine.0 in let y : Location = e.location.0 in
    let v : Value = e.value in let w : Value = e.written in
    P 1 (LStore i y v) → P 2 (RStore i y v) → P 3 (MStore i y v) → P 4 (Load i y v)
    → P 5 (LFlush i y) → P 6 (RFlush i y)
    → P 8 (RMW L i y v w) → P 9 (RMW R i y v w) → P 10 (RMW M i y v w)
    → P 11 (SetCrash y)
    → ((op : ℕ) → ¬ T (is_located op) → P op (Crash i))
    → P e.operation (meant e)
unfolding event_of
by_number e P p₁ p₂ p₃ p₄ p₅ p₆ p₈ p₉ p₁₀ p₁₁ q =
    let op = e.operation in
    choose P op 1 p₁ (λ n₁. choose P op 2 p₂ (λ n₂. choose P op 3 p₃ (λ n₃.
    choose P op 4 p₄ (λ n₄. choose P op 5 p₅ (λ n₅. choose P op 6 p₆ (λ n₆.
    choose P op 8 p₈ (λ n₈. choose P op 9 p₉ (λ n₉. choose P op 10 p₁₀ (λ n₁₀.
    choose P op 11 p₁₁ (λ n₁₁.
    q op (λ at. located_number at n₁ n₂ n₃ n₄ n₅ n₆ n₈ n₉ n₁₀)))))))))))

module _ (e : event.Event) where
  -- The operations at a location name it, and a machine and it are what they name.
  pub at-location : T (is_located e.operation) → location_of (meant e) ≡ some e.location.0
  unfolding location_of is_located is_operation
  at-location =
      by_number e (λ op f. T (is_located op) → location_of f ≡ some e.location.0)
      (λ at. refl) (λ at. refl) (λ at. refl) (λ at. refl) (λ at. refl) (λ at. refl)
      (λ at. refl) (λ at. refl) (λ at. refl)
      (λ at. absurd at)
      (λ op not at. absurd (not at))

  pub named_at_location : (sys : Topology) → T (is_located e.operation)
      → named sys (cxl0.event (meant e)) ≡ (is_machine sys e.machine.0 && is_location sys e.location.0)
  unfolding named is_located is_operation
  named_at_location sys =
      by_number e
      (λ op f. T (is_located op)
      → named sys (cxl0.event f) ≡ (is_machine sys e.machine.0 && is_location sys e.location.0))
      (λ at. refl) (λ at. refl) (λ at. refl) (λ at. refl) (λ at. refl) (λ at. refl)
      (λ at. refl) (λ at. refl) (λ at. refl)
      (λ at. absurd at)
      (λ op not at. absurd (not at))

  -- At any other number stands a crash.
  pub at_crash : ¬ T (is_located e.operation) → T (is_crash (meant e))
  unfolding location_of is_crash is_located is_operation
  at_crash =
      by_number e (λ op f. ¬ T (is_located op) → T (is_crash f))
      (λ n. absurd (n tt)) (λ n. absurd (n tt)) (λ n. absurd (n tt))
      (λ n. absurd (n tt)) (λ n. absurd (n tt)) (λ n. absurd (n tt))
      (λ n. absurd (n tt)) (λ n. absurd (n tt)) (λ n. absurd (n tt))
      (λ n. tt)
      (λ op n m. tt)
