use Rattle.mg_faults.proofs.Alike as alike
use Rattle.mg_faults.proofs.one_list.Goals as goal

pub returns : goal.returns
returns c = alike.one_list
