-- `fill_impossible` puts the header and the end behind it.
use Prim.Native.Nat.{ℕ}
use native.Mathlib.Omega.{arith}
use mathlib.Core.Path.{refl, ap₂, ◌∙◌}
use mathlib.Core.List.{List}
use Rattle.fields.specs.Numbers.{bytes_of}
use Rattle.log_bytes.specs.Bytes.{field}
use Rattle.verdict_file.specs.Files.{header, end, file_of}
use Rattle.fields.specs.Put.{put}
use Rattle.fields.proofs.Put.{put_more}
use Rattle.verdict_file.proofs.filling.fill_impossible.Goals as goal

pub returns : goal.returns
unfolding file_of header end field bytes_of
returns c =
    let part = c.args.part.now in
    let head = c.put_header-at.ensures in
    let last = c.put_end.ensures in
    let file = put_more part 0 5 (header 0 c.args.event) end refl (omega (arith, c.requires)) in
    record {
      value = omega (arith, head.0, last.0);
      part_after = last.1 ∙ ap₂ (λ (l : List ℕ) (n : ℕ). put l n end) head.1 head.0 ∙ file;
    }
