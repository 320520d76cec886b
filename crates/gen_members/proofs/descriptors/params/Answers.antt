use Rattle.std.proofs.Common.{sym}
use Rattle.std.proofs.lemmas.List.{take-map}
use Rattle.jv_core.specs.View.{slot_of}
use Rattle.gen_members.proofs.descriptors.params.Goals as goal

pub returns-then-count-slots : goal.returns-then-count-slots
returns-then-count-slots c = rw c.as_slice-slots.ensures.items
    (sym (take-map slot_of c.args.method.now.params c.args.method.now.slots.items))
