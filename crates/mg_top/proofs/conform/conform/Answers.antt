use Rattle.std.proofs.Common.{[], ◌∷◌, refl, sym, subst, Err}
use Rattle.std.proofs.lemmas.Result.{err_from_is_err_and}
use Rattle.scr_tree.specs.Local.{tree_of}
use Rattle.mg_refusal.specs.declared.stop.Stop.{Stop}
use Rattle.mg_words.specs.Words.{Conform}
use Rattle.mg_top.specs.inner.Preparing.{IsCarried}
use Rattle.mg_top.proofs.ConformLemmas.{followed, no_protocol, list_refused}
use Rattle.mg_top.proofs.conform.conform.Goals as goal

pub returns-in_err-local : goal.returns-in_err-local
returns-in_err-local c = λ protocol calls ends.
    let e = err_from_is_err_and c.from_residual.result c.from_residual.ensures.1 in
    rw (e.1, e.2) (no_protocol protocol calls c.args.bytes.now c.args.listed.now _ (c.in_err-local.ensures protocol ends))

pub returns-in-Err : goal.returns-in-Err
returns-in-Err c = λ protocol calls ends.
    subst (λ (z : Stop). IsCarried (Conform (protocol ∷ calls ∷ [])) (c.args.bytes.now ∷ c.args.listed.now ∷ []) (Err z))
    (sym c.in_file.ensures)
    (list_refused protocol calls c.args.bytes.now c.args.listed.now (tree_of c.in_ok-local.local) c.in-Err.fault c.stop_of.result
    (c.in_ok-local.ensures protocol ends) c.in-Err.ensures c.stop_of.ensures)

pub returns-in_err-follow : goal.returns-in_err-follow
returns-in_err-follow c = λ protocol calls ends.
    let e = err_from_is_err_and c.from_residual-in_err-follow.result c.from_residual-in_err-follow.ensures.1 in
    rw (e.1, e.2) tt

pub returns : goal.returns
returns c = λ protocol calls ends.
    followed protocol calls c.args.bytes.now c.args.listed.now (tree_of c.in_ok-local.local) c.in-Ok.list.items c.as_slice.result.now
    c.in_ok-follow.field-0 (c.in_ok-local.ensures protocol ends) c.in-Ok.list refl c.in-Ok.ensures c.as_slice.ensures.items
    c.in_ok-follow.ensures
