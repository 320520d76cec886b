use Rattle.std.proofs.Common.{inl, inr, refl, sym, ap, subst, ◌∙◌, None, length}
use Rattle.mg_delivery.specs.Outside.{stream}
use Rattle.mg_top.specs.Ending.{wrong}
use Rattle.mg_delivery.specs.Lines.{read_line}
use Rattle.mg_delivery.specs.declared.status.Status.TheVariants as statuses
use Rattle.mg_words.specs.inner.Judging.{command_of, IsJudged}
use Rattle.std.proofs.lemmas.Result.{err_from_is_err_and}
use Rattle.mg_delivery.proofs.ReadingLemmas.{same_length}
use Rattle.mg_top.proofs.CommandLemmas.{said_due, given_due, unread_due, left_due, unread_of}
use Rattle.mg_top.proofs.top.prepare.Goals as goal

pub returns-in-Wrong : goal.returns-in-Wrong
returns-in-Wrong g c = λ o e.
    said_due c.args.words.now _ _ statuses.Words c.in_ok-line-in-Wrong.line _ c.said.result c.said.ensures.actions c.said.ensures.status
    c.in_ok-line-in-Wrong.ensures (wrong _ (subst (IsJudged c.args.words.now) c.in-Wrong.is c.in_ok-command.ensures)) (inl refl)

pub carry_out-requires-clause-known : goal.carry_out-requires-clause-known
carry_out-requires-clause-known g c =
    (c.args.words.now, subst (IsJudged c.args.words.now) c.in-Known.is c.in_ok-command.ensures)

pub carry_out-requires-clause-same : goal.carry_out-requires-clause-same
carry_out-requires-clause-same g c =
    let read = c.in-Ok.ensures (stream None 0) (stream None 0) in
    ap length (sym c.files.ensures) ∙ same_length _ _ c.files.result.now c.in-Ok.contents.items read.0 ∙
    ap length (sym c.as_slice.ensures.items)

pub returns-in_err-line-in-Err-Failed : goal.returns-in_err-line-in-Err-Failed
returns-in_err-line-in-Err-Failed g c = λ o e.
    let unread = (rw c.in-Err-Failed.field-0-is at c.in-Err-Failed.ensures) o e in
    let may = unread_of c.args.words.now _ (command_of c.in-Known.command) c.files.result.now c.in-Err-Failed.name.now unread.0 unread.1
    unread.2 _ (subst (IsJudged c.args.words.now) c.in-Known.is c.in_ok-command.ensures) c.files.ensures c.read_limit.ensures unread.3 unread.4 in
    let f = err_from_is_err_and c.from_residual-in_err-line-in-Err-Failed.result c.from_residual-in_err-line-in-Err-Failed.ensures.1 in
    left_due c.args.words.now _ _ c.from_residual-in_err-line-in-Err-Failed.result f.0 f.1 (inr (c.in-Err-Failed.name.now, may, unread.5))

pub returns-in-Ok : goal.returns-in-Ok
returns-in-Ok g c = λ o e.
    let read = c.in-Ok.ensures o e in
    given_due c.args.words.now _ _ (command_of c.in-Known.command) c.files.result.now c.in-Ok.contents.items c.as_slice.result.now _
    c.carry_out.result (subst (IsJudged c.args.words.now) c.in-Known.is c.in_ok-command.ensures) c.files.ensures c.read_limit.ensures
    read.0 c.as_slice.ensures.items read.1 c.carry_out.ensures

pub returns-in_ok-line-in-Err-Failed : goal.returns-in_ok-line-in-Err-Failed
returns-in_ok-line-in-Err-Failed g c = λ o e.
    let unread = (rw c.in-Err-Failed.field-0-is at c.in-Err-Failed.ensures) o e in
    let may = unread_of c.args.words.now _ (command_of c.in-Known.command) c.files.result.now c.in-Err-Failed.name.now unread.0 unread.1
    unread.2 _ (subst (IsJudged c.args.words.now) c.in-Known.is c.in_ok-command.ensures) c.files.ensures c.read_limit.ensures unread.3 unread.4 in
    let said = rw c.in-Err-Failed.field-0-is at c.in_ok-line-in-Err-Failed.ensures in
    said_due c.args.words.now _ _ statuses.ReadFault c.in_ok-line-in-Err-Failed.line (read_line c.in-Err-Failed.name.now)
    c.said-in-Err-Failed.result c.said-in-Err-Failed.ensures.actions c.said-in-Err-Failed.ensures.status said
    (unread_due c.args.words.now _ _ c.in-Err-Failed.name.now may unread.5) (inr (c.in-Err-Failed.name.now, may, unread.5))

pub returns-in-Err-Memory : goal.returns-in-Err-Memory
returns-in-Err-Memory g c = λ o e. inl ((rw c.in-Err-Memory.field-0-is at c.in-Err-Memory.ensures) o e)
