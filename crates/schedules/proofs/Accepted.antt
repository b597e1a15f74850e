-- The schedule reader accepts exactly the files that say allowed and fit the log, so reading what the writer
-- wrote gives the same steps back.
use Prim.Native.Nat.{ℕ, ◌≤◌}
use native.Mathlib.Omega.{arith}
use mathlib.Core.Path.{◌≡◌, refl, sym, ap, ◌∙◌}
use mathlib.Core.Bool.{Bool, true}
use mathlib.Core.List.{List, [], ◌∷◌, ◌++◌, append_assoc}
use mathlib.Core.Option.{Option, none, some, map}
use mathlib.Core.Option.{map-eq-some_iff, some-injective, none-ne-some}
use mathlib.Core.Logic.{◌↔◌}
use lib.Dec.{T}
use lib.ListN.{length, take, drop}
use Rattle.model.specs.Cxl0.{Topology}
use Rattle.model.specs.Schedule.{Step}
use Rattle.model.proofs.Tests.{T→true, true→T}
use Rattle.fields.specs.Numbers.{bytes_of}
use Rattle.log_bytes.specs.Bytes.{field}
use Rattle.verdict_file.specs.Files.{allowed, header, step_field, step_fields, end, file_of}
use Rattle.verdict_file.specs.Answers.{gives}
use Rattle.verdict_file.specs.Writing.{answer, output}
use Rattle.verdict_file.specs.Fitting.{schedule_fits}
use Rattle.fields.proofs.Put.{put_there}
use Rattle.verdict_file.proofs.Writing.{has_room, given}
use Rattle.schedules.specs.Schedules.{starts, read_steps, says_allowed, read_allowed}
use Rattle.schedules.specs.Schedules.{kept, read_schedule}
use Rattle.schedules.proofs.Fields.{passed, tag_and_length, header_bytes, says_header}

-- Bytes that give steps are the steps' fields and the end.
steps_bytes : (s : List ℕ) {ps : List Step} → read_steps s ≡ some ps → s ≡ step_fields ps ++ end
unfolding read_steps step_fields step_field end field bytes_of
steps_bytes [] {ps} e = absurd (none-ne-some ps e)
steps_bytes (t ∷ []) {ps} e = absurd (none-ne-some ps e)
steps_bytes (t ∷ lo ∷ []) {ps} e = absurd (none-ne-some ps e)
steps_bytes (t ∷ lo ∷ hi ∷ []) {ps} e =
    let (ok, empty) = passed (starts 0x04 0 t lo hi) (some []) e in
    let (tag, low, high) = tag_and_length 0x04 0 t lo hi ok in
    rw (tag, low, high, ← some-injective [] ps empty)
steps_bytes (t ∷ lo ∷ hi ∷ b ∷ []) {ps} e = absurd (none-ne-some ps e)
steps_bytes (t ∷ lo ∷ hi ∷ b ∷ x ∷ []) {ps} e = absurd (none-ne-some ps e)
steps_bytes (t ∷ lo ∷ hi ∷ b ∷ x ∷ i ∷ s) {ps} e =
    let p : Step = record { before = b; location = x; machine = i } in
    let (ok, more) = passed (starts 0x11 3 t lo hi) (map (λ qs. p ∷ qs) (read_steps s)) e in
    let (tag, low, high) = tag_and_length 0x11 3 t lo hi ok in
    let (qs, read, first) = (map-eq-some_iff (λ qs. p ∷ qs) (read_steps s)).0 more in
    rw (tag, low, high, ← first) (ap (λ (r : List ℕ). 0x11 ∷ 3 ∷ 0 ∷ b ∷ x ∷ i ∷ r) (steps_bytes s read))

-- And the steps' fields with the end give the steps.
bytes_steps : (ps : List Step) → read_steps (step_fields ps ++ end) ≡ some ps
unfolding read_steps starts step_fields step_field end field bytes_of
bytes_steps [] = refl
bytes_steps (p ∷ ps) = rw (bytes_steps ps)

-- Steps that were kept passed the test.
kept_some : (test : List Step → Bool) (o : Option (List Step)) {ps : List Step}
    → kept test o ≡ some ps → (o ≡ some ps) × T (test ps)
kept_some test none {ps} e = absurd (none-ne-some ps e)
kept_some test (some qs) {ps} e =
    let (ok, same) = passed (test qs) (some qs) e in
    (same, rw (← some-injective qs ps same) (true→T ok))

module _ (sys : Topology) (n : ℕ) (ps : List Step) where
  -- The file of steps that fit the log gives these steps.
  pub reads_back : T (schedule_fits sys n ps) → read_schedule sys n (file_of (allowed ps)) ≡ some ps
  unfolding read_schedule read_allowed file_of header field bytes_of
  reads_back fits =
      let bytes : List ℕ = step_fields ps ++ end in
      let ok : schedule_fits sys n ps ≡ true = T→true fits in
      rw (append_assoc (header 1 0) (step_fields ps) end, says_header bytes, bytes_steps ps, ok)

  -- The bytes that give steps are the file that says allowed with these steps, and the steps fit the log.
  pub accepts : (s : List ℕ)
      → (read_schedule sys n s ≡ some ps) ↔ ((s ≡ file_of (allowed ps)) × T (schedule_fits sys n ps))
  unfolding read_schedule read_allowed file_of
  accepts s = (to, λ e. rw e.0 (reads_back e.1))
    where
      to : read_schedule sys n s ≡ some ps → (s ≡ file_of (allowed ps)) × T (schedule_fits sys n ps)
      to e =
          let (read, fits) = kept_some (schedule_fits sys n) (read_allowed s) e in
          let (says, steps) = passed (says_allowed s) (read_steps (drop 5 s)) read in
          let rest = ap (λ (r : List ℕ). header 1 0 ++ r) (steps_bytes (drop 5 s) steps) in
          (header_bytes s says ∙ rest ∙ sym (append_assoc (header 1 0) (step_fields ps) end), fits)

  -- The steps are those that the cursor walks, from the first one on.
  pub from_first : (s : List ℕ) → read_schedule sys n s ≡ some ps → read_steps (drop 5 s) ≡ some ps
  unfolding read_schedule read_allowed
  from_first s e =
      (passed (says_allowed s) (read_steps (drop 5 s)) (kept_some (schedule_fits sys n) (read_allowed s) e).0).1

  -- What the writer left at the offset, read as a schedule, gives the steps that it was handed.
  pub written_reads_back : (out : List ℕ) (offset k : ℕ) → answer out offset (allowed ps) ≡ gives k
      → T (schedule_fits sys n ps)
      → read_schedule sys n (take k (drop offset (output out offset (allowed ps)))) ≡ some ps
  unfolding output
  written_reads_back out offset k e fits =
      let (enough, says, len) = given out offset (allowed ps) e in
      let inside : offset ≤ length out = omega (arith, has_room out offset enough) in
      rw (e, len, put_there out offset (file_of (allowed ps)) inside) (reads_back fits)
