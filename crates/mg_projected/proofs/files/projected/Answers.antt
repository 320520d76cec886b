use Rattle.mg_projected.proofs.Once.{only_of}
use Rattle.mg_projected.proofs.files.projected.Goals as goal

pub returns-clause-answered : goal.returns-clause-answered
returns-clause-answered c = c.projected_of.ensures.right

pub returns-clause-only : goal.returns-clause-only
returns-clause-only c = only_of c.args.file c.args.bytes.now c.projected_of.result c.projected_of.ensures

pub returns-clause-nothing : goal.returns-clause-nothing
returns-clause-nothing c = c.projected_of.ensures.answers
