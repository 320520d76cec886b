-- The laws.
use Rattle.mg_accepted.proofs.Alike.{same_refusal}
use Rattle.mg_accepted.proofs.Apart.{not_refused}
use Rattle.mg_faults.specs.Faults.{FirstIsAmong, NoneWhereAccepted}
use Rattle.mg_faults.proofs.Among as all

pub first_is_among : FirstIsAmong
first_is_among = all.among same_refusal

pub none_where_accepted : NoneWhereAccepted
none_where_accepted = all.none_where_accepted not_refused
