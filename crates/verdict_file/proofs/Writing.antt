-- What a writer that has asked its questions comes to, and what its answer says.
use Prim.Native.Nat.{ℕ, ◌+◌, ◌-◌, ◌≤◌}
use native.Mathlib.Omega.{arith}
use mathlib.Core.Path.{◌≡◌, refl, sym, ap, ◌∙◌}
use mathlib.Core.Bool.{Bool, true, false, cond}
use mathlib.Core.List.{List}
use lib.Dec.{leb}
use lib.ListN.{length}
use borrow.Rule.Slice.PartMut.{mid_of, put_mid}
use borrow.Author.Tests.{leb-true}
use Rattle.log_bytes.proofs.Checks.{clash}
use Rattle.verdict_file.specs.Files.{Verdict, file_of, file_most}
use Rattle.verdict_file.specs.Answers.{gives, refused}
use Rattle.fields.specs.Put.{put}
use Rattle.verdict_file.specs.Writing.{writable, room, answer, output}
use Rattle.fields.proofs.Put.{put-part, length_part}

pub has_room : (out : List ℕ) (offset : ℕ) → room out offset ≡ true → offset + file_most ≤ length out
unfolding room
has_room out offset e = leb-true (offset + file_most) (length out) e

module _ (out : List ℕ) (offset : ℕ) (v : Verdict) where
  -- No room: 1.
  pub no_room : room out offset ≡ false → answer out offset v ≡ refused 1
  unfolding answer
  no_room e = rw e

  -- Room, but not a verdict file's form: 13.
  pub no_form : room out offset ≡ true → writable v ≡ false → answer out offset v ≡ refused 13
  unfolding answer
  no_form e f = rw (e, f)

  -- Room, and the form: the length of the file.
  pub file : room out offset ≡ true → writable v ≡ true → answer out offset v ≡ gives (length (file_of v))
  unfolding answer
  file e f = rw (e, f)

  -- A refusal changes nothing.
  pub refuses : {number : ℕ} → answer out offset v ≡ refused number
      → (refused number ≡ answer out offset v) × (out ≡ output out offset v)
  unfolding output
  refuses e = (sym e, rw e)

  -- The file is put at the front of the part from the offset on.
  pub writes : {n : ℕ} {new : List ℕ} → answer out offset v ≡ gives (length (file_of v)) → n ≡ length (file_of v)
      → new ≡ put (mid_of offset (length out - offset) out) 0 (file_of v)
      → (gives n ≡ answer out offset v) × (put_mid offset (length out - offset) out new ≡ output out offset v)
  unfolding output
  writes e n p =
      let there = ap (put_mid offset (length out - offset) out) p ∙ put-part out offset (file_of v) in
      (ap gives n ∙ sym e, rw e there)

  -- A length is answered only where there are room and the form, and it is the file's.
  pub given : {n : ℕ} → answer out offset v ≡ gives n
      → (room out offset ≡ true) × (writable v ≡ true) × (n ≡ length (file_of v))
  unfolding answer
  given {n} = by_questions (room out offset) (writable v)
    where
      len : ℕ
      len = length (file_of v)

      by_questions : (b c : Bool) → cond b (cond c (gives len) (refused 13)) (refused 1) ≡ gives n
          → (b ≡ true) × (c ≡ true) × (n ≡ len)
      by_questions true true e = (refl, refl, (cc))
      by_questions true false e = clash (cc)
      by_questions false c e = clash (cc)

-- A writer asks first whether the output has room for the longest file.
module _ (out : List ℕ) (offset : ℕ) {found : Bool} (asked : found ≡ leb (offset + file_most) (length out)) where
  -- Where it has, the part from the offset on is long enough.
  pub part_fits : found ≡ true → file_most ≤ length (mid_of offset (length out - offset) out)
  unfolding room
  part_fits e =
      let fits : offset + file_most ≤ length out = has_room out offset (sym asked ∙ e) in
      omega (arith, length_part out offset)

  -- Where not, the answer is 1, and nothing changes.
  pub refuses_room : (v : Verdict) → found ≡ false
      → (refused 1 ≡ answer out offset v) × (out ≡ output out offset v)
  unfolding room
  refuses_room v e = refuses out offset v (no_room out offset v (sym asked ∙ e))

  -- Then it asks whether the verdict is of the form.
  module _ (v : Verdict) {form : Bool} (formed : form ≡ writable v) (e : found ≡ true) where
    -- Where not, the answer is 13, and nothing changes.
    pub refuses_form : form ≡ false → (refused 13 ≡ answer out offset v) × (out ≡ output out offset v)
    unfolding room
    refuses_form f = refuses out offset v (no_form out offset v (sym asked ∙ e) (sym formed ∙ f))

    -- Where it is, the answer is the length of the file, which is put at the front of the part.
    pub writes_file : form ≡ true → {n : ℕ} {new : List ℕ} → n ≡ length (file_of v)
        → new ≡ put (mid_of offset (length out - offset) out) 0 (file_of v)
        → (gives n ≡ answer out offset v) × (put_mid offset (length out - offset) out new ≡ output out offset v)
    unfolding room
    writes_file f = writes out offset v (file out offset v (sym asked ∙ e) (sym formed ∙ f))
