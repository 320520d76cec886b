use Rattle.std.proofs.Common.{Bor, sym, ap, ◌∙◌, map, option_map}
use Rattle.jv_tree.specs.declared.tree.Decl.{Decl}
use Rattle.jv_types.specs.inner.Deciding.{found_of}
use Rattle.jv_types.proofs.Answering.{early_told, early_kept, types_none, typestates_apart}
use Rattle.jv_types.proofs.declarations.tables_of.Goals as goal

pub returns-in-Some-clause-fault : goal.returns-in-Some-clause-fault
returns-in-Some-clause-fault c =
    early_told c.args.files.now c.args.typestates.now c.args.origins.now c.as_slice.result.now
    (ap (map (λ (d : Bor Decl). d.now)) c.as_slice.ensures.value ∙ c.in_ok-decls.ensures) (found_of c.in-Some.found)
    (sym (ap (option_map found_of) c.in-Some.is) ∙ c.in_ok-found.ensures)

pub build-requires-clause-types : goal.build-requires-clause-types
build-requires-clause-types c =
    types_none c.args.files.now c.args.typestates.now c.args.origins.now c.as_slice.result.now
    (ap (map (λ (d : Bor Decl). d.now)) c.as_slice.ensures.value ∙ c.in_ok-decls.ensures)
    (sym (ap (option_map found_of) c.in_default.is) ∙ c.in_ok-found.ensures)

pub build-requires-clause-typestates : goal.build-requires-clause-typestates
build-requires-clause-typestates c =
    typestates_apart c.args.files.now c.args.typestates.now c.args.origins.now c.as_slice.result.now
    (ap (map (λ (d : Bor Decl). d.now)) c.as_slice.ensures.value ∙ c.in_ok-decls.ensures)
    (sym (ap (option_map found_of) c.in_default.is) ∙ c.in_ok-found.ensures) c.requires

pub returns-clause-fine : goal.returns-clause-fine
returns-clause-fine c =
    early_kept c.args.files.now c.args.typestates.now c.args.origins.now c.as_slice.result.now
    (ap (map (λ (d : Bor Decl). d.now)) c.as_slice.ensures.value ∙ c.in_ok-decls.ensures)
    (sym (ap (option_map found_of) c.in_default.is) ∙ c.in_ok-found.ensures)
