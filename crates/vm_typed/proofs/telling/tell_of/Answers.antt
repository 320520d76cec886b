use Rattle.std.proofs.Common.{ap, refl, None, Some}
use Rattle.vm_model.specs.Actions.{Telling, Call, Return}
use Rattle.vm_actions.specs.Table.{sort_of}
use Rattle.vm_flat.specs.Flat.{action_of_flat}
use Rattle.vm_typed.proofs.telling.tell_of.Goals as goal

pub call_telling-requires-clause-next : goal.call_telling-requires-clause-next
call_telling-requires-clause-next c =
    c.requires.next (Call Telling c.in-CallTelling.class c.in-CallTelling.method) (ap action_of_flat c.in-CallTelling.is)

pub return_telling-requires : goal.return_telling-requires
return_telling-requires c =
    record { next = c.requires.next (Return (Some (sort_of c.in-Return.sort))) (ap action_of_flat c.in-Return.is) }

pub return_nothing_telling-requires : goal.return_nothing_telling-requires
return_nothing_telling-requires c = record { next = c.requires.next (Return None) (ap action_of_flat c.in-ReturnNothing.is) }
