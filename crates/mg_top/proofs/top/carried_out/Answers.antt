use Rattle.std.proofs.Common.{◌≡◌, ◌∙◌, length, option_map, subst, sym, arith}
use Rattle.mg_words.specs.declared.words.Command.{Command}
use Rattle.mg_words.specs.Words.{files_of, IsCommand}
use Rattle.mg_words.specs.inner.Judging.{command_of, asked_of, cast_of}
use Rattle.mg_words.proofs.LawLemmas.{asked_of_run, asked_of_exec}
use Rattle.mg_words.proofs.WordsLemmas.{kinds_of, kinds_of_classes, kinds_of_run, kinds_of_show, protocols_of, protocols_of_client}
use Rattle.mg_words.proofs.RefineLemmas.{two_files, kinds_of_two}
use Rattle.mg_words.proofs.ProjectLemmas.{one_file}
use Rattle.mg_words.proofs.LoadLemmas.{workload_of}
use Rattle.mg_words.proofs.FitLemmas.{fit_files}
use Rattle.mg_top.specs.inner.Preparing.{IsCarried}
use Rattle.mg_top.proofs.ConformLemmas.{conform_carried, two_contents, two_conformed}
use Rattle.mg_top.proofs.top.carried_out.Goals as goal

pub translate-requires-clause-scribble : goal.translate-requires-clause-scribble
translate-requires-clause-scribble c =
    let known = c.requires.known in
    protocols_of known.0 c.in-Translate.files.now (option_map (λ p. p.now) c.in-Translate.package_name)
    (option_map (λ f. f.now) c.in-Translate.folder)
    (subst (λ (z : Command). IsCommand (command_of z) known.0) c.in-Translate.is known.1)

pub client-requires-clause-scribble : goal.client-requires-clause-scribble
client-requires-clause-scribble c =
    let known = c.requires.known in
    λ k d lt. (protocols_of_client known.0 c.in-Client.files.now (option_map (λ p. p.now) c.in-Client.package_name)
    (option_map (λ f. f.now) c.in-Client.folder)
    (subst (λ (z : Command). IsCommand (command_of z) known.0) c.in-Client.is known.1) k d lt).1

pub returns-in-Conform : goal.returns-in-Conform
returns-in-Conform c =
    let known = c.requires.known in
    let is = subst (λ (z : Command). IsCommand (command_of z) known.0) c.in-Conform.is known.1 in
    let two = sym (subst (λ (z : Command). length (files_of (command_of z)) ≡ length c.args.contents.now) c.in-Conform.is c.requires.same)
    ∙ two_conformed known.0 c.in-Conform.files.now is in
    subst (λ (z : Command). IsCarried (command_of z) c.args.contents.now c.conform.result) (sym c.in-Conform.is)
    (conform_carried known.0 c.in-Conform.files.now c.args.contents.now _ _ c.conform.result is
    (two_contents c.args.contents.now _ _ _ _ two c.index-contents-0.is c.index-contents-1.is c.as_slice.ensures
    c.as_slice-in-Conform.ensures) c.conform.ensures)

pub check-requires-clause-kinds : goal.check-requires-clause-kinds
check-requires-clause-kinds c =
    let known = c.requires.known in
    kinds_of known.0 c.in-Check.all c.in-Check.files.now (subst (λ (z : Command). IsCommand (command_of z) known.0) c.in-Check.is known.1)

pub show-requires-clause-kinds : goal.show-requires-clause-kinds
show-requires-clause-kinds c =
    let known = c.requires.known in
    kinds_of_show known.0 c.in-Show.files.now (subst (λ (z : Command). IsCommand (command_of z) known.0) c.in-Show.is known.1)

pub compile-requires-clause-kinds : goal.compile-requires-clause-kinds
compile-requires-clause-kinds c =
    let known = c.requires.known in
    kinds_of_classes known.0 (option_map (λ w. w.now) c.in-Compile.folder) c.in-Compile.files.now
    (subst (λ (z : Command). IsCommand (command_of z) known.0) c.in-Compile.is known.1)

pub run-requires-clause-kinds : goal.run-requires-clause-kinds
run-requires-clause-kinds c =
    let known = c.requires.known in
    kinds_of_run known.0 (asked_of c.in-Run.asked) c.in-Run.files.now (subst (λ (z : Command). IsCommand (command_of z) known.0) c.in-Run.is
    known.1)

pub run-requires-clause-asked : goal.run-requires-clause-asked
run-requires-clause-asked c =
    let known = c.requires.known in
    asked_of_run known.0 (asked_of c.in-Run.asked) c.in-Run.files.now (subst (λ (z : Command). IsCommand (command_of z) known.0) c.in-Run.is
    known.1)

pub exec-requires-clause-asked : goal.exec-requires-clause-asked
exec-requires-clause-asked c =
    let known = c.requires.known in
    asked_of_exec known.0 (asked_of c.in-Exec.asked) c.in-Exec.files.now
    (subst (λ (z : Command). IsCommand (command_of z) known.0) c.in-Exec.is known.1)

pub refine-requires-clause-two : goal.refine-requires-clause-two
refine-requires-clause-two c =
    let known = c.requires.known in
    two_files known.0 c.in-Refine.files.now (subst (λ (z : Command). IsCommand (command_of z) known.0) c.in-Refine.is known.1)

pub refine-requires-clause-same : goal.refine-requires-clause-same
refine-requires-clause-same c =
    let known = c.requires.known in
    sym (subst (λ (z : Command). length (files_of (command_of z)) ≡ length c.args.contents.now) c.in-Refine.is c.requires.same)
    ∙ two_files known.0 c.in-Refine.files.now (subst (λ (z : Command). IsCommand (command_of z) known.0) c.in-Refine.is known.1)

pub refine-requires-clause-kinds : goal.refine-requires-clause-kinds
refine-requires-clause-kinds c =
    let known = c.requires.known in
    kinds_of_two known.0 c.in-Refine.files.now (subst (λ (z : Command). IsCommand (command_of z) known.0) c.in-Refine.is known.1)

pub project-requires : goal.project-requires
project-requires c =
    let known = c.requires.known in
    sym (subst (λ (z : Command). length (files_of (command_of z)) ≡ length c.args.contents.now) c.in-Project.is c.requires.same)
    ∙ one_file known.0 (option_map (λ w. w.now) c.in-Project.folder) c.in-Project.files.now
    (subst (λ (z : Command). IsCommand (command_of z) known.0) c.in-Project.is known.1)

pub returns-in-Project : goal.returns-in-Project
returns-in-Project c =
    let known = c.requires.known in
    subst (λ (z : Command). IsCarried (command_of z) c.args.contents.now c.project.result) (sym c.in-Project.is)
    (c.project.ensures c.in-Project.files.now
    (one_file known.0 (option_map (λ w. w.now) c.in-Project.folder) c.in-Project.files.now
    (subst (λ (z : Command). IsCommand (command_of z) known.0) c.in-Project.is known.1)))

pub returns-in-Exec : goal.returns-in-Exec
returns-in-Exec c =
    subst (λ (z : Command). IsCarried (command_of z) c.args.contents.now c.exec.result) (sym c.in-Exec.is)
    (c.exec.ensures c.in-Exec.files.now
    (subst (λ (z : Command). length (files_of (command_of z)) ≡ length c.args.contents.now) c.in-Exec.is c.requires.same))

pub returns-in-Verify : goal.returns-in-Verify
returns-in-Verify c =
    subst (λ (z : Command). IsCarried (command_of z) c.args.contents.now c.verify.result) (sym c.in-Verify.is)
    (c.verify.ensures c.in-Verify.files.now
    (subst (λ (z : Command). length (files_of (command_of z)) ≡ length c.args.contents.now) c.in-Verify.is c.requires.same))

pub load-requires-clause-some : goal.load-requires-clause-some
load-requires-clause-some c =
    let known = c.requires.known in
    let is = subst (λ (z : Command). IsCommand (command_of z) known.0) c.in-Load.is known.1 in
    let some = (workload_of known.0 c.in-Load.branches c.in-Load.seed is).some in
    omega arith

pub load-requires-clause-most : goal.load-requires-clause-most
load-requires-clause-most c =
    let known = c.requires.known in
    (workload_of known.0 c.in-Load.branches c.in-Load.seed
    (subst (λ (z : Command). IsCommand (command_of z) known.0) c.in-Load.is known.1)).most

pub returns-in-Load : goal.returns-in-Load
returns-in-Load c =
    subst (λ (z : Command). IsCarried (command_of z) c.args.contents.now c.load.result) (sym c.in-Load.is)
    (c.load.ensures c.args.contents.now)

pub fit-requires-clause-files : goal.fit-requires-clause-files
fit-requires-clause-files c =
    let known = c.requires.known in
    fit_files known.0 (cast_of c.in-Fit.cast) c.in-Fit.files.now (subst (λ (z : Command). IsCommand (command_of z) known.0) c.in-Fit.is
    known.1)
