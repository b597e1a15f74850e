-- The verdict file of case 4 with two machines, whose one schedule document 01 gives, one with event 4, and the edges
-- of a verdict file's form.
use Prim.Native.Nat.{ℕ, ◌^◌}
use mathlib.Core.Path.{◌≡◌, refl}
use mathlib.Core.Bool.{true, false}
use mathlib.Core.List.{List, [], ◌∷◌, map}
use lib.ListN.{replicate}
use Rattle.model.specs.Schedule.{Step, in_order}
use Rattle.model.specs.Words.{step_of_word}
use Rattle.fields.specs.Numbers.{bytes_of}
use Rattle.log_bytes.specs.Bytes.{field}
use Rattle.verdict_file.specs.Files.{Verdict, allowed, impossible}
use Rattle.verdict_file.specs.Files.{header, step_field, step_fields, end, file_of}
use Rattle.verdict_file.specs.Writing.{allowed_by, three_bytes, all_three_bytes, writable}

unfoldable pub steps : List Step
steps = record { before = 1; location = 0; machine = 1 } ∷ []

unfoldable pub bytes : List ℕ
bytes = 0x10 ∷ 0x02 ∷ 0x00 ∷ 0x01 ∷ 0x00 ∷ 0x11 ∷ 0x03 ∷ 0x00 ∷ 0x01 ∷ 0x00 ∷ 0x01 ∷ 0x04 ∷ 0x00 ∷ 0x00 ∷ []

written : file_of (allowed steps) ≡ bytes
unfolding steps bytes file_of header step_fields step_field end field bytes_of
written = refl

written_impossible : file_of (impossible 4) ≡ 0x10 ∷ 0x02 ∷ 0x00 ∷ 0x00 ∷ 0x04 ∷ 0x04 ∷ 0x00 ∷ 0x00 ∷ []
unfolding file_of header end field bytes_of
written_impossible = refl

-- Steps after so many events, and the edges of the form: 256 steps, three bytes, counts that stay or rise to 128, and
-- events 1 to 128.
after : List ℕ → Verdict
after ns = allowed (map (λ n. record { before = n; location = 0; machine = 0 }) ns)

edges : map writable
    (after (0 ∷ 0 ∷ 128 ∷ []) ∷ after (replicate 256 0) ∷ impossible 1 ∷ impossible 128 ∷ [])
    ≡ true ∷ true ∷ true ∷ true ∷ []
unfolding after writable three_bytes all_three_bytes in_order
edges = refl

past_the_edges : map writable
    (after (1 ∷ 0 ∷ []) ∷ after (129 ∷ []) ∷ after (replicate 257 0) ∷ allowed_by (2 ^ 24 ∷ [])
    ∷ impossible 0 ∷ impossible 129 ∷ [])
    ≡ false ∷ false ∷ false ∷ false ∷ false ∷ false ∷ []
unfolding after writable three_bytes all_three_bytes in_order step_of_word
past_the_edges = refl
