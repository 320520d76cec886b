use Rattle.std.proofs.Common.{arith}
use Rattle.std.proofs.lemmas.Grind.{common_steps}
use Rattle.std.proofs.Common.{[], ◌∷◌, option_map, refl, codes}
use Rattle.std.specs.Prelude.{Some, None}
use Rattle.mg_words.specs.Words.{out_words}
use Rattle.mg_words.proofs.WordsLemmas.{wrong_placed, placed_at, named_folder, no_folder, refuted}
use Rattle.mg_words.proofs.ProjectLemmas.{few_out, wrong_folder, few_protocols, wrong_protocol, wrong_surplus}
use Rattle.mg_words.proofs.words.judge_project.Goals as goal

pub returns-in-Wrong : goal.returns-in-Wrong
returns-in-Wrong c = wrong_placed (codes "project") (few_out [] refl) (λ w r n. wrong_folder (w ∷ r) w r refl n) c.args.words.now
    c.in-Wrong.word c.in-Wrong.ensures

pub returns-in-None : goal.returns-in-None
returns-in-None c =
    let folder = option_map (λ f. f.now) c.in-In.folder in
    placed_at (codes "project") c.args.words.now (out_words folder) c.in-In.files.now None c.in-In.ensures.0
    (few_protocols folder c.in-In.files.now (named_folder c.in-In.folder c.in-In.ensures.1) c.in-None.ensures.cases)

pub returns-then-not-is_file : goal.returns-then-not-is_file
returns-then-not-is_file c =
    let folder = option_map (λ f. f.now) c.in-In.folder in
    placed_at (codes "project") c.args.words.now (out_words folder) c.in-In.files.now (Some c.in-Some.file.now) c.in-In.ensures.0
    (wrong_protocol folder c.in-In.files.now _ _ (named_folder c.in-In.folder c.in-In.ensures.1)
    (λ n. c.in-In.ensures.2 (no_folder c.in-In.folder n)) c.in-Some.ensures.cases.0 (refuted c.if-not-is_file.ensures.1))

pub returns-in-Some-split_first : goal.returns-in-Some-split_first
returns-in-Some-split_first c =
    let folder = option_map (λ f. f.now) c.in-In.folder in
    placed_at (codes "project") c.args.words.now (out_words folder) c.in-In.files.now (Some c.in-Some-split_first.word.now)
    c.in-In.ensures.0
    (wrong_surplus folder c.in-In.files.now _ _ _ _ (named_folder c.in-In.folder c.in-In.ensures.1)
    c.in-Some.ensures.cases.0 c.in-Some-split_first.ensures.cases.0 (c.if-not-is_file.ensures.0 refl))

pub returns-in-None-split_first : goal.returns-in-None-split_first
returns-in-None-split_first c = grind (arith, common_steps)
