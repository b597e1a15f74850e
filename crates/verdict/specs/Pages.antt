-- What is put on the page that the program prints.
use Rattle.std.specs.Prelude.{◌≡◌, ℕ, List}
use Rattle.text.specs.Putting.{put, after}
use Rattle.verdict.specs.declared.Page.{Page}

-- A text was put behind what stands on the page.
pub record Puts (text : List ℕ) (p p' : Page) : Type 0 where
  pub bytes : p'.bytes ≡ put p.bytes p.end text
  pub end : p'.end ≡ after p.bytes p.end text
