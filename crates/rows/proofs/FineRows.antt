-- What a set made by `&` or `|` has, and what a row has, by what the sets that they are made of have.
use Prim.Native.Nat.{ℕ}
use mathlib.Core.Path.{◌≡◌, refl, sym}
use mathlib.Core.Logic.{◌≢◌, ◌⊎◌, inl, inr, ⊎_elim, ⊎_map}
use mathlib.Core.Logic.Iff
use mathlib.Core.Logic.{◌↔◌}
use lib.Bits.{bit_and, bit_or}
use Rattle.model.specs.Cxl0.{Value}
use Rattle.masks.specs.Sets.{In, Exactly}
use Rattle.masks.proofs.Sets.{in_none, in_some, in_and, in_or}
use Rattle.rows.specs.declared.Row.{Row}
use Rattle.rows.specs.Rows.{Fine, Empty, any_row, RowOf}

abbrev pub row : ℕ → ℕ → Value → Row
row a o w = record { any = a; one = o; value = w }

sum_iff : {A B C D : Type 0} → A ↔ C → B ↔ D → (A ⊎ B) ↔ (C ⊎ D)
unfolding ⊎_map
sum_iff h k = (⊎_map h.0 k.0, ⊎_map h.1 k.1)

module _ (a b : ℕ) (P Q : ℕ → Type 0) (p : Exactly a P) (q : Exactly b Q) where
  -- The codes of both sets, and those of one set or the other.
  pub exactly_and : Exactly (bit_and a b) (λ c. P c × Q c)
  exactly_and c h = Iff.trans (in_and a b c) (Iff.and (p c h) (q c h))

  pub exactly_or : Exactly (bit_or a b) (λ c. P c ⊎ Q c)
  exactly_or c h = Iff.trans (in_or a b c) (sum_iff (p c h) (q c h))

  -- The row of both sets has the codes with P at every memory value, and those with Q at its own value.
  pub row_of : (w : Value) → RowOf (λ c m. P c ⊎ (Q c × (m ≡ w))) (row a b w)
  row_of w c m h = Iff.symm (sum_iff (p c h) (Iff.and (q c h) Iff.rfl))

-- A row r with the memory value of `rest`.
module _ (rest r : Row) (same : r.value ≡ rest.value) (to : ℕ → ℕ) where
  -- If its sets have the codes that `to` takes into those of `rest`, it has the states that `to` takes into `rest`.
  pub row_to : Exactly r.any (λ c. In (to c) rest.any) → Exactly r.one (λ c. In (to c) rest.one)
      → RowOf (λ c m. Fine rest (to c) m) r
  row_to any one c m h = rw same (Iff.symm (sum_iff (any c h) (Iff.and (one c h) Iff.rfl)))

  -- Of these the row may have only the ones with P.
  pub row_if : (P : ℕ → Type 0) → Exactly r.any (λ c. In (to c) rest.any × P c)
      → Exactly r.one (λ c. In (to c) rest.one × P c) → RowOf (λ c m. P c × Fine rest (to c) m) r
  row_if P any one c m h =
      rw same (
        λ p. ⊎_elim (λ q. inl ((any c h).1 (q, p.0))) (λ q. inr ((one c h).1 (q.0, p.0), q.1)) p.1,
        ⊎_elim
            (λ p. let q = (any c h).0 p in (q.1, inl q.0))
            (λ p. let q = (one c h).0 p.0 in (q.1, inr (q.0, p.1))),
      )

-- The row of a set has its codes at every memory value.
pub fine_any : (a c m : ℕ) → In c a ↔ Fine (any_row a) c m
unfolding any_row
fine_any a c m = (inl, ⊎_elim (λ p. p) (λ p. absurd (in_none c p.0)))

-- The row of no codes has no state.
pub no_state : (P : ℕ → Value → Type 0) (r : Row) → ((c m : ℕ) → ¬ P c m) → r ≡ any_row 0 → RowOf P r
no_state P r none e c m h =
    (λ p. absurd (none c m p), λ f. absurd (in_none c ((fine_any 0 c m).1 (rw e at f))))

-- A second test of the memory value changes nothing where it is passed, and may be put in the place of another.
pub passed : (P : ℕ → Value → Type 0) (Q : Value → Type 0) (r : Row) → ((m : Value) → Q m) → RowOf P r
    → RowOf (λ c m. P c m × Q m) r
passed P Q r all row c m h = (λ p. (row c m h).0 p.0, λ f. ((row c m h).1 f, all m))

pub in_place : (P : ℕ → Value → Type 0) (Q Q' : Value → Type 0) (r : Row) → ((m : Value) → Q m ↔ Q' m)
    → RowOf (λ c m. P c m × Q m) r → RowOf (λ c m. P c m × Q' m) r
in_place P Q Q' r same row c m h = Iff.trans (Iff.and Iff.rfl (Iff.symm (same m))) (row c m h)

module _ (rest : Row) where
  -- A row with no code in `any` or `one` has no state, and one with a code there has one.
  pub row_none : bit_or rest.any rest.one ≡ 0 → Empty rest
  row_none e c m f =
      in_none c (rw e at ((in_or rest.any rest.one c).1 (⊎_elim inl (λ j. inr j.0) f)))

  pub row_some : bit_or rest.any rest.one ≢ 0 → ¬ Empty rest
  row_some some none =
      let code = in_some (bit_or rest.any rest.one) some in
      ⊎_elim
      (λ i. none code.0 0 (inl i))
      (λ i. none code.0 rest.value (inr (i, refl)))
      ((in_or rest.any rest.one code.0).0 code.1)

module _ (rest : Row) (m : Value) where
  -- The codes that a row has at its own value.
  pub codes_at : rest.value ≡ m → Exactly (bit_or rest.any rest.one) (λ c. Fine rest c m)
  codes_at e c h =
      let union = in_or rest.any rest.one c in (
        λ i. ⊎_elim inl (λ j. inr (j, sym e)) (union.0 i),
        λ f. union.1 (⊎_elim inl (λ j. inr j.0) f),
      )
