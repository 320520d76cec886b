use Rattle.lsp_text.proofs.Boundaries.{boundary_place}
use Rattle.lsp_text.proofs.laws.boundaries_are_places.Goals as goal

pub returns : goal.returns
returns c e text o = boundary_place e text o
