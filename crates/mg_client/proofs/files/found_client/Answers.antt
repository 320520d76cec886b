use Rattle.std.proofs.Common.{[], ◌∷◌, Bool, option_map, sym, ap, ◌∙◌, subst}
use Rattle.scr_tree.specs.Local.{tree_of}
use Rattle.stm_api.specs.View.{written_of}
use Rattle.mg_sources.specs.Files.{source_of, sources}
use Rattle.mg_client.specs.inner.Answered.{IsJudged}
use Rattle.mg_client.proofs.Whole.{is_java}
use Rattle.mg_client.proofs.Found.{none_made, never_played}
use Rattle.mg_client.proofs.files.found_client.Goals as goal

pub returns-in_default : goal.returns-in_default
returns-in_default c = λ number spells file h.
    none_made (option_map (λ p. p.now) c.args.package_name) (source_of number c.args.name.now c.args.bytes.now)
    (tree_of c.args.local.now) spells (sym c.in_ok-file.ensures ∙ ap (option_map written_of) c.in_default.is) file h

pub is_accepted-requires-clause-java : goal.is_accepted-requires-clause-java
is_accepted-requires-clause-java c =
    is_java (option_map (λ p. p.now) c.args.package_name) (tree_of c.args.local.now) (written_of c.in-Some.file) c.in_ok-file-2.file
    (sym c.in_ok-file.ensures ∙ ap (option_map written_of) c.in-Some.is) c.in_ok-file-2.ensures

pub returns-else-branch : goal.returns-else-branch
returns-else-branch c = λ number spells file h.
    never_played (option_map (λ p. p.now) c.args.package_name) (source_of number c.args.name.now c.args.bytes.now)
    (tree_of c.args.local.now) spells (written_of c.in-Some.file) c.in_ok-file-2.file
    (sym c.in_ok-file.ensures ∙ ap (option_map written_of) c.in-Some.is) c.in_ok-file-2.ensures
    (subst (λ (b : Bool). IsJudged (sources (c.args.name.now ∷ c.in_ok-file-2.file.name ∷ [])
    (c.args.bytes.now ∷ c.in_ok-file-2.file.text ∷ [])) b) c.if-branch.false c.in_ok-is_accepted.ensures) file h
