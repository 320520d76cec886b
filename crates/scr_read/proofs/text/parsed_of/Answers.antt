use Rattle.std.proofs.Common.{Some, refl, sym, subst}
use Rattle.mg_text.specs.Call.{Name}
use Rattle.mg_read.specs.Culprit.{culprit}
use Rattle.mg_read.specs.First.{Judged}
use Rattle.scr_tree.specs.Tok.{toks}
use Rattle.scr_tree.specs.Written.{written_of}
use Rattle.scr_read.specs.Unsupported.{IsUnsupported}
use Rattle.scr_read.specs.declared.words.ProtocolKind.TheVariants as kinds
use Rattle.scr_read.specs.Outcome.{Outcome, Unsupported, Syntax, unsupported, syntax}
use Rattle.scr_read.proofs.Staged.{told, says_syntax, spells_of}
use Rattle.scr_read.proofs.text.parsed_of.Goals as goal

pub returns-in-Some : goal.returns-in-Some
returns-in-Some c =
    let ts = toks c.args.tokens.now in
    let found = subst (λ (n : Name). Judged (IsUnsupported kinds.Local) ts (Some (culprit c.in-Some.place n)))
    (sym c.in_ok-name.ensures) c.in-Some.ensures in
    told (Outcome c.args.file c.args.bytes.now) (Unsupported c.in-Some.place c.in_ok-name.name) (unsupported {tokens = ts} c.requires found)

pub returns-in-Ok : goal.returns-in-Ok
returns-in-Ok c =
    spells_of c.args.file c.args.bytes.now (toks c.args.tokens.now)
    (written_of c.args.file c.in-Ok.written) refl c.requires c.in_default.ensures
    (c.in-Ok.ensures.found c.args.file)

pub returns-in-Err-Syntax : goal.returns-in-Err-Syntax
returns-in-Err-Syntax c =
    let says = says_syntax c.in-Err-Syntax.field-0 c.in-Err-Syntax.place c.in-Err-Syntax.field-0-is in
    told (Outcome c.args.file c.args.bytes.now) Syntax (syntax {tokens = toks c.args.tokens.now} c.requires c.in_default.ensures
    (c.in-Err-Syntax.ensures.none says))
