use Rattle.lsp_text.proofs.OffsetLaws.{own_offset}
use Rattle.lsp_text.proofs.laws.places_have_their_offsets.Goals as goal

pub returns : goal.returns
returns c file text o p = own_offset file text o p
