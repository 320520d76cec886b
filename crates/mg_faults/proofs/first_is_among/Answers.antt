use Rattle.mg_faults.proofs.Laws as laws
use Rattle.mg_faults.proofs.first_is_among.Goals as goal

pub returns : goal.returns
returns c = record { among = laws.first_is_among; none = laws.none_where_accepted }
