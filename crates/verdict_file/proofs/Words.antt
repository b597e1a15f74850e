-- Steps packed in words, one after the other.
use Prim.Native.Nat.{ℕ, zero, suc, ◌+◌, ◌*◌, ◌<◌, ◌≤◌, ◌^◌, ◌/◌, ◌%◌}
use native.Mathlib.Omega.{arith}
use native.Mathlib.Nat.{le_of_suc-le-suc, not-suc-le-zero}
use mathlib.Core.Path.{◌≡◌, refl, sym, ap, ◌∙◌}
use mathlib.Core.Bool.{Bool, true, false, ◌&&◌}
use mathlib.Core.List.{List, [], ◌∷◌, ◌++◌, map, append_assoc, append-nil}
use lib.Dec.{T, leb, ltb, leb→le, ltb→lt, lt→ltb}
use lib.ListN.{length, get_or, take, drop, length-map, length-append}
use lib.Seq.{take-suc, take-length, drop-cons, length-take-le}
use borrow.Author.Tests.{lt-ltb}
use Rattle.model.proofs.Tests.{and_l, and_r, same_test}
use Rattle.model.specs.Schedule.{Step, in_order}
use Rattle.model.specs.Words.{step_of_word}
use Rattle.fields.specs.Numbers.{bytes_of}
use Rattle.log_bytes.specs.Bytes.{field}
use Rattle.verdict_file.specs.Files.{steps_most, events_most, header, step_field, step_fields, end, file_of}
use Rattle.fields.specs.Put.{put}
use Rattle.verdict_file.specs.Writing.{allowed_by, three_bytes, all_three_bytes, writable, comes_next}
use Rattle.verdict_file.proofs.Files.{length_step_fields}
use Rattle.fields.proofs.Put.{put_more}

-- The fields of the first i words.
abbrev pub fields : List ℕ → ℕ → List ℕ
fields ws i = step_fields (map step_of_word (take i ws))

pub length_fields : (ws : List ℕ) (i : ℕ) → i ≤ length ws → length (fields ws i) ≡ 6 * i
length_fields ws i h = rw (length_step_fields, length-map, length-take-le)

append_fields : (us ws : List ℕ)
    → step_fields (map step_of_word (us ++ ws))
    ≡ step_fields (map step_of_word us) ++ step_fields (map step_of_word ws)
unfolding step_fields
append_fields [] ws = refl
append_fields (u ∷ us) ws = rw (append_fields us ws, append_assoc)

-- One word more is one field more.
pub fields_more : (ws : List ℕ) (i : ℕ) → i < length ws
    → fields ws (suc i) ≡ fields ws i ++ step_field (step_of_word (get_or ws i 0))
unfolding step_fields
fields_more ws i h = rw (take-suc ws i 0 h, append_fields (take i ws) (get_or ws i 0 ∷ []), append-nil)

-- The steps of the words are of a verdict file, where the step before them has `least` events before it.
abbrev pub follow : ℕ → List ℕ → Bool
follow least ws = all_three_bytes (map step_of_word ws) && in_order least events_most (map step_of_word ws)

and_both : (a b c d : Bool) → ((a && b) && (c && d)) ≡ ((a && c) && (b && d))
and_both true b true d = refl
and_both true true false d = refl
and_both true false false d = refl
and_both false b c d = refl

-- The words from i on follow if the word at i comes next and those after it follow.
pub follow_from : (ws : List ℕ) (i least : ℕ) → i < length ws
    → let p = step_of_word (get_or ws i 0) in
    follow least (drop i ws) ≡ (comes_next least p && follow p.before (drop (suc i) ws))
unfolding all_three_bytes in_order comes_next
follow_from ws i least h =
    let p = step_of_word (get_or ws i 0) in
    let rest = map step_of_word (drop (suc i) ws) in
    rw (drop-cons ws i 0 h)
    (and_both (three_bytes p) (all_three_bytes rest) (leb least p.before && leb p.before events_most)
    (in_order p.before events_most rest))

-- A word is a step of three bytes if it is below 2 ^ 24: then its highest number, the machine, fits a byte.
pub packed_step : (w : ℕ) → three_bytes (step_of_word w) ≡ ltb w (2 ^ 24)
unfolding three_bytes step_of_word
packed_step w =
    rw (lt-ltb (w % 256) 256 (omega arith), lt-ltb (w / 256 % 256) 256 (omega arith))
    (same_test (ltb (w / 65536) 256) (ltb w (2 ^ 24))
    (λ t. lt→ltb w (2 ^ 24) (omega (arith, ltb→lt (w / 65536) 256 t)))
    (λ t. lt→ltb (w / 65536) 256 (omega (arith, ltb→lt w (2 ^ 24) t))))

bytes_at : (ws : List ℕ) (i : ℕ) → i < length ws → T (all_three_bytes (map step_of_word ws)) → get_or ws i 0 < 2 ^ 24
unfolding all_three_bytes
bytes_at [] i h t = absurd (not-suc-le-zero h)
bytes_at (w ∷ ws) zero h t =
    let first = and_l (three_bytes (step_of_word w)) (all_three_bytes (map step_of_word ws)) t in
    ltb→lt w (2 ^ 24) (rw packed_step at first)
bytes_at (w ∷ ws) (suc i) h t =
    bytes_at ws i (le_of_suc-le-suc h) (and_r (three_bytes (step_of_word w)) (all_three_bytes (map step_of_word ws)) t)

module _ (ws : List ℕ) (ok : T (writable (allowed_by ws))) where
  abbrev steps : List Step
  steps = map step_of_word ws

  abbrev short : Bool
  short = leb (length steps) steps_most

  fit : T (short && all_three_bytes steps)
  unfolding writable
  fit = and_l (short && all_three_bytes steps) (in_order 0 events_most steps) ok

  pub few : length ws ≤ steps_most
  few =
      let h = leb→le (length steps) steps_most (and_l short (all_three_bytes steps) fit) in
      omega (arith, length-map ws step_of_word)

  -- Each word is a step of three bytes.
  pub small : (i : ℕ) → i < length ws → get_or ws i 0 < 2 ^ 24
  small i h = bytes_at ws i h (and_r short (all_three_bytes steps) fit)

-- A word's field is put behind the fields of the words before it, where five bytes are a header's.
pub put_word : (l ws : List ℕ) (i : ℕ) → i < length ws → 5 + 6 * i ≤ length l
    → put (put l 5 (fields ws i)) (5 + 6 * i) (step_field (step_of_word (get_or ws i 0)))
    ≡ put l 5 (fields ws (suc i))
put_word l ws i h k =
    let len : 5 + length (fields ws i) ≡ 5 + 6 * i = omega (arith, length_fields ws i (omega arith)) in
    put_more l 5 (5 + 6 * i) (fields ws i) (step_field (step_of_word (get_or ws i 0))) len k
    ∙ ap (put l 5) (sym (fields_more ws i h))

-- The header, the fields of all words and the end are the file.
pub put_file : (l ws : List ℕ) → 5 + 6 * length ws ≤ length l
    → put (put (put l 0 (header 1 0)) 5 (fields ws (length ws))) (5 + 6 * length ws) end
    ≡ put l 0 (file_of (allowed_by ws))
unfolding file_of header field bytes_of
put_file l ws k =
    let all : List ℕ = fields ws (length ws) in
    let front : List ℕ = header 1 0 ++ all in
    let len = length_fields ws (length ws) (omega arith) in
    let place : 0 + length front ≡ 5 + 6 * length ws = omega (arith, length-append (header 1 0) all, len) in
    rw (put_more l 0 5 (header 1 0) all refl (omega arith))
    (put_more l 0 (5 + 6 * length ws) front end place k ∙ rw (take-length ws))
