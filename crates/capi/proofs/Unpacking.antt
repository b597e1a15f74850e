-- The parts of an answer are read back from their bits: those of a packed answer are the answer's.
use Prim.Native.Nat.{ℕ, zero, suc, ◌+◌, ◌-◌, ◌/◌, ◌%◌, ◌^◌, ◌<◌}
use native.Mathlib.Omega.{arith}
use lib.Dec.{eqb}
use mathlib.Core.Path.{◌≡◌, refl}
use mathlib.Core.Bool.{cond}
use mathlib.Core.List.{List, [], ◌∷◌}
use Rattle.fields.specs.declared.Edition.{Edition}
use Rattle.reader.specs.Answers.{holds}
use Rattle.recorder.specs.Recording.{count}
use Rattle.converter.specs.Converting as converting
use Rattle.replay.specs.Replaying.{no}
use Rattle.judge.specs.Judging.{gives}
use Rattle.capi.specs.Packing.{pack_recorded, pack_summary, pack_converted, pack_replayed, pack_judged}
use Rattle.capi.specs.Version.{requests, pack_version}

-- So many bits of a number from a place on.
abbrev pub bits : (from size : ℕ) → ℕ → ℕ
bits from size packed = packed / 2 ^ from % 2 ^ size

pub recorded_parts : (n : ℕ) → n < 2 ^ 32
    → let p = pack_recorded (count n) in
    (bits 0 8 p ≡ 0) × (bits 8 32 p ≡ n)
recorded_parts n l = (omega arith, omega arith)

pub summary_parts : (d : Edition) (n q x e : ℕ) → n < 2 ^ 8 → x < 2 ^ 8 → e < 2 ^ 8
    → let p = pack_summary (holds d n q x e) in
    (bits 0 8 p ≡ 0) × (bits 8 8 p ≡ n) × (bits 16 8 p ≡ x) × (bits 24 8 p ≡ e)
summary_parts d n q x e l m k = (omega arith, omega arith, omega arith, omega arith)

pub converted_parts : (n : ℕ) → n < 2 ^ 24
    → let p = pack_converted (converting.gives n) in
    (bits 0 8 p ≡ 0) × (bits 8 24 p ≡ n)
converted_parts n l = (omega arith, omega arith)

pub no_parts : (n : ℕ) → n < 2 ^ 8
    → let p = pack_replayed (no n) in
    (bits 0 8 p ≡ 0) × (bits 8 1 p ≡ 0) × (bits 16 8 p ≡ n)
no_parts n l = (omega arith, omega arith, omega arith)

pub judged_parts : (v e s l : ℕ) → v < 2 → e < 2 ^ 8 → s < 2 ^ 16 → l < 2 ^ 16
    → let p = pack_judged (gives v e s l) in
    (bits 0 8 p ≡ 0) × (bits 8 1 p ≡ v) × (bits 16 8 p ≡ e) × (bits 24 16 p ≡ s) × (bits 40 16 p ≡ l)
judged_parts v e s l a b c d = (omega arith, omega arith, omega arith, omega arith, omega arith)

-- The requests whose bits are set, of so many from the first one on.
abbrev pub requests_in : (packed first many : ℕ) → List ℕ
requests_in packed first zero = []
requests_in packed first (suc k) =
    let rest = requests_in packed (suc first) k in
    cond (eqb (bits (8 + (first - 201)) 1 packed) 1) (first ∷ rest) rest

-- 56 requests, W-201 to W-256, have a bit in a number of 64 bits.
pub version_parts : let p = pack_version requests in
    (bits 0 8 p ≡ 0) × (requests_in p 201 56 ≡ requests)
version_parts = (refl, refl)
