-- Issuing a verdict: what it takes, and the judge's answer to what a writer of the verdict file says.
use Prim.Native.Nat.{ℕ, ◌+◌, ◌-◌, ◌≤◌, ◌<◌}
use native.Mathlib.Nat.{add-sub_cancel_left}
use mathlib.Core.Path.{◌≡◌, sym, ap, ◌∙◌}
use mathlib.Core.List.{List}
use lib.ListN.{length, take, drop, length-map}
use Rattle.std.specs.Prelude.{Result, Ok, Err}
use Rattle.model.specs.Words.{step_of_word}
use Rattle.fields.specs.Refusals.{number_of}
use Rattle.fields.specs.declared.Refusal.{Refusal}
use Rattle.verdict_file.specs.Files.{Verdict, impossible, file_of}
use Rattle.verdict_file.specs.Answers as written
use Rattle.verdict_file.specs.Writing.{allowed_by, answer, output}
use Rattle.verdict_file.proofs.Writing.{given}
use Rattle.judge.specs.Judging.{gives, answer_of, told}
use Rattle.scratch.specs.Layout.{SORTED}
use Rattle.scratch.specs.Words.{words_at}
use Rattle.scratch.proofs.Segments.{words_from}
use Rattle.weighing.specs.declared.Weighed.{Weighed}
use Rattle.judge.specs.Issuing.{Issuable, Issued}
use Rattle.judge.specs.declared.Judged.{Judged}

-- The steps are in the area.
pub issuable_steps : {found : Weighed} {steps : ℕ} → found ≡ Weighed.Allowed steps → (w : List ℕ) → Issuable found w
    → SORTED + steps ≤ length w
unfolding Issuable
issuable_steps e w can = rw e at can

-- The number is a byte.
pub issuable_number : {found : Weighed} {number : ℕ} → found ≡ Weighed.Impossible number
    → (w : List ℕ) → Issuable found w → number < 256
unfolding Issuable
issuable_number e w can = rw e at can

-- What the writer answered, and the output that it left.
module _ (v : Verdict) {out out' : List ℕ} {offset : ℕ} {x : Result ℕ Refusal}
    (told_by : written.answer_of x ≡ answer out offset v) (file : out' ≡ output out offset v) where
  -- A length was written: it is the file's.
  pub issued : {n : ℕ} {j : Result Judged Refusal} → x ≡ Ok n → (n ≡ length (file_of v) → answer_of j ≡ told v)
      → Issued v out offset out' j
  issued {n} e tell =
      let wrote : answer out offset v ≡ written.gives n = sym told_by ∙ ap written.answer_of e in
      record { answer = rw wrote (tell (given out offset v wrote).2); file = file }

  pub not_issued : {why : Refusal} → x ≡ Err why → Issued v out offset out' (Err why)
  not_issued {why} e =
      let none : answer out offset v ≡ written.refused (number_of why) = sym told_by ∙ ap written.answer_of e in
      record { answer = rw none; file = file }

-- An answer with the file's length tells of the verdict.
pub tells_impossible : (event n : ℕ) → n ≡ length (file_of (impossible event))
    → gives 0 event 0 n ≡ told (impossible event)
unfolding told
tells_impossible event n e = ap (gives 0 event 0) e

pub tells_allowed : (ws : List ℕ) (n : ℕ) → n ≡ length (file_of (allowed_by ws))
    → gives 1 0 (length ws) n ≡ told (allowed_by ws)
unfolding told
tells_allowed ws n e = rw (length-map ws step_of_word, e)

-- ---- the steps that are lent to the writer

-- The part of a list from a place on, as the program lends it, and as the words of the schedule.
pub part_words : (place count : ℕ) (l : List ℕ)
    → take (place + count - place) (drop place l) ≡ words_at place count l
part_words place count l = rw add-sub_cancel_left (sym (words_from place count l))
