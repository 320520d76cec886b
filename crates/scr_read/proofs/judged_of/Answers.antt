use Rattle.std.proofs.Common.{Option, sym, subst}
use Rattle.std.proofs.lemmas.Grind.{merely}
use Rattle.scr_tree.specs.Faults.{IsFault}
use Rattle.scr_tree.specs.Tree.{LocalTree}
use Rattle.scr_tree.specs.Written.{written_of}
use Rattle.scr_judge.specs.Fault.{fault_of}
use Rattle.scr_judge.specs.declared.fault.Fault.{Fault}
use Rattle.scr_judge.proofs.Faultless.{faultless}
use Rattle.scr_read.specs.Outcome.{Outcome, Protocol, Refused, fault_answer, refused, found}
use Rattle.scr_read.proofs.Named.{can_be_written}
use Rattle.scr_read.proofs.Staged.{told_by}
use Rattle.scr_read.proofs.judged_of.Goals as goal

pub protocol_of-requires : goal.protocol_of-requires
protocol_of-requires c =
    let w = written_of c.args.file c.in_ok-written.written in
    let none = subst (λ (f : Option Fault). IsFault w (fault_of f)) c.in-None.is c.in_ok-fault.ensures in
    merely (faultless w none (can_be_written c.args.file c.args.bytes.now w c.in_ok-written.ensures))

pub returns-in-Some : goal.returns-in-Some
returns-in-Some c =
    let w = written_of c.args.file c.in_ok-written.written in
    let f = c.in-Some.fault in
    let fault = subst (λ (o : Option Fault). IsFault w (fault_of o)) c.in-Some.is c.in_ok-fault.ensures in
    told_by (Outcome c.args.file c.args.bytes.now) (fault_answer c.refusal.result)
    (Refused f.condition f.place f.name) c.refusal.ensures
    (refused {w = w} {condition = f.condition} {place = f.place} {name = f.name} c.in_ok-written.ensures fault)

pub returns-in_ok-protocol_of-in-None : goal.returns-in_ok-protocol_of-in-None
returns-in_ok-protocol_of-in-None c =
    let w = written_of c.args.file c.in_ok-written.written in
    let none = subst (λ (f : Option Fault). IsFault w (fault_of f)) c.in-None.is c.in_ok-fault.ensures in
    subst (λ (t : LocalTree). Outcome c.args.file c.args.bytes.now (Protocol t)) (sym c.in_ok-protocol_of-in-None.ensures)
    (found {w = w} c.in_ok-written.ensures none)
