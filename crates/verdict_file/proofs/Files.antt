-- Lengths of verdict files.
use Prim.Native.Nat.{ℕ, ◌+◌, ◌*◌, ◌≤◌}
use native.Mathlib.Omega.{arith}
use mathlib.Core.Path.{◌≡◌, refl}
use mathlib.Core.List.{List, [], ◌∷◌}
use lib.ListN.{length, length-append}
use Rattle.model.specs.Schedule.{Step}
use Rattle.fields.specs.Numbers.{bytes_of}
use Rattle.log_bytes.specs.Bytes.{field}
use Rattle.verdict_file.specs.Files.{Verdict, allowed, impossible, steps_most, file_most}
use Rattle.verdict_file.specs.Files.{header, step_field, step_fields, end, file_of}

pub length_step_fields : (ps : List Step) → length (step_fields ps) ≡ 6 * length ps
unfolding step_fields step_field field bytes_of
length_step_fields [] = refl
length_step_fields (p ∷ ps) = omega (arith, length_step_fields ps)

pub length_allowed : (ps : List Step) → length (file_of (allowed ps)) ≡ 8 + 6 * length ps
unfolding file_of header end field bytes_of
length_allowed ps = simp (length-append, length_step_fields ps) (omega arith)

pub length_impossible : (event : ℕ) → length (file_of (impossible event)) ≡ 8
unfolding file_of header end field bytes_of
length_impossible event = refl

-- The steps of a verdict; impossible has none.
abbrev pub steps_of : Verdict → List Step
steps_of (allowed ps) = ps
steps_of (impossible event) = []

-- A file of at most 256 steps has at most 1,544 bytes.
pub short : (v : Verdict) → length (steps_of v) ≤ steps_most → length (file_of v) ≤ file_most
short (allowed ps) h = omega (arith, length_allowed ps)
short (impossible event) h = omega (arith, length_impossible event)
