use Rattle.std.proofs.Common.{◌≡◌, length}
use Rattle.std.specs.Str.{bytes_eq}
use Rattle.percent_encoding.specs.Percent.{percent_decode}
use Rattle.percent_encoding.specs.Iter.{decoded_bytes}
use Rattle.lsp_folder.proofs.names.read_alike.Given as goal

abbrev pub invariant-bytes : goal.invariant-bytes
invariant-bytes l = bytes_eq (decoded_bytes l.left) (decoded_bytes l.right) ≡ bytes_eq (percent_decode l.text) (percent_decode l.other)

abbrev pub decreases-bytes : goal.decreases-bytes
decreases-bytes l = length (decoded_bytes l.left)
