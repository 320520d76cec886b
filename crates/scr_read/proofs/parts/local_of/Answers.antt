use Rattle.std.proofs.Common.{[], refl}
use Rattle.scr_tree.specs.Local.{tree_of}
use Rattle.scr_tree.specs.View.{written}
use Rattle.scr_tree.specs.Written.{written_of}
use Rattle.scr_read.proofs.Moved.{parts_valid, parts_refused, parts_made}
use Rattle.scr_read.proofs.parts.local_of.Goals as goal

pub protocol_of-requires : goal.protocol_of-requires
protocol_of-requires c =
    let t = written c.args.file c.args.name c.args.me c.args.roles.items c.args.body.items [] in
    parts_valid t refl (written_of c.args.file c.in_ok-written.written) _ c.in_ok-written.ensures c.requires c.in_ok-fault.ensures
    c.in-None.is

pub returns-in-Some : goal.returns-in-Some
returns-in-Some c =
    let t = written c.args.file c.args.name c.args.me c.args.roles.items c.args.body.items [] in
    parts_refused t (written_of c.args.file c.in_ok-written.written) _ c.in-Some.fault c.refusal.result c.in_ok-written.ensures
    c.in_ok-fault.ensures c.in-Some.is c.refusal.ensures

pub returns-in_ok-protocol_of-in-None : goal.returns-in_ok-protocol_of-in-None
returns-in_ok-protocol_of-in-None c =
    let t = written c.args.file c.args.name c.args.me c.args.roles.items c.args.body.items [] in
    parts_made t (tree_of c.in_ok-protocol_of-in-None.field-0) refl (written_of c.args.file c.in_ok-written.written) _
    c.in_ok-written.ensures c.in_ok-fault.ensures c.in-None.is
    c.in_ok-protocol_of-in-None.ensures
