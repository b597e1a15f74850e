-- `hex_bytes` puts `hex_pairs` at the start of the output: what is left to put is what the pairs ahead say.
use Rattle.std.proofs.Common.{◌≡◌, ℕ, ◌+◌, ◌*◌, ◌≤◌, List, ◌∷◌, Some, slice_get, length, drop, refl}
use Rattle.std.proofs.Common.{length-drop, arith, rules}
use lib.Seq.{drop-drop}
use Rattle.text.specs.declared.Parsed.{Parsed}
use Rattle.text.specs.Putting.{put}
use Rattle.text.specs.Reading.{hex_pairs, bytes_read}
use Rattle.text.proofs.Puts.{Put, left_one, left_none, left_full}
use Rattle.text.proofs.Pairs.{no_byte, first_byte}
use Rattle.text.proofs.hex_bytes.Goals as goal

pub loop-place-init : goal.loop-place-init
loop-place-init c = record { count = refl; from = omega arith; left = (refl, refl) }

-- A byte that was given is the first of them, and more than its digits are there.
first : (text : List ℕ) (at byte : ℕ) → slice_get (hex_pairs (drop at text)) 0 ≡ Some byte
    → (at + 2 ≤ length text) × (hex_pairs (drop at text) ≡ byte ∷ hex_pairs (drop (at + 2) text))
first text at byte gave =
    let (two, split) = first_byte (drop at text) byte gave in
    (omega (arith, length-drop at text), rw (← drop-drop) split)

pub overflow_add-read : goal.overflow_add-read
overflow_add-read c = omega (arith, (first c.args.text.now c.loop-place.read.at c.in-Some.byte (cc)).0)

pub loop-place-preserved : goal.loop-place-preserved
loop-place-preserved c =
    let ahead = first c.args.text.now c.loop-place.read.at c.in-Some.byte (cc) in
    let one = left_one _ _ _ _ _ _ _ (omega arith) (rw ahead.1 at c.loop-place.invariant.left) in
    record { count = refl; from = omega arith; left = one }

-- What was put so far is all of it, if nothing more is to be put or fits.
module _ (text : List ℕ) (at : ℕ) (out left : List ℕ) (read : Parsed) where
  whole : read.at ≡ at + 2 * read.value → Put out 0 (hex_pairs (drop at text)) read.value left
      → (read ≡ bytes_read text at out) × (left ≡ put out 0 (hex_pairs (drop at text)))
  unfolding bytes_read
  whole from (count, bytes) = (rw (← count, ← from), bytes)

pub returns-in_default : goal.returns-in_default
returns-in_default c =
    let none = no_byte (hex_pairs (drop c.loop-place.read.at c.args.text.now)) (search rules) in
    let left = left_none _ _ _ _ _ (rw none at c.loop-place.invariant.left) in
    let put = rw (← c.loop-place.invariant.count) at left in
    let all = whole c.args.text.now c.args.at c.args.out.now c.loop-place.out c.loop-place.read (omega arith) put in
    record { value = all.0; out_after = all.1 }

pub returns-after-loop-place : goal.returns-after-loop-place
returns-after-loop-place c =
    let ahead = hex_pairs (drop c.loop-place.read.at c.args.text.now) in
    let left = left_full _ _ _ _ _ ahead (omega arith) c.loop-place.invariant.left in
    let put = rw (← c.loop-place.invariant.count) at left in
    let all = whole c.args.text.now c.args.at c.args.out.now c.loop-place.out c.loop-place.read (omega arith) put in
    record { value = all.0; out_after = all.1 }
