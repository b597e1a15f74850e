-- `put_end` puts the end there.
use Rattle.fields.specs.Numbers.{bytes_of}
use Rattle.log_bytes.specs.Bytes.{field}
use Rattle.verdict_file.specs.Files.{end}
use Rattle.verdict_file.proofs.filling.put_end.Goals as goal

pub returns : goal.returns
unfolding end field bytes_of
returns c = c.put.ensures
