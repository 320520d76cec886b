-- Which words are the command `project`, and which can't follow.
use Rattle.std.proofs.Common.{◌≡◌, List, [], ◌∷◌, ◌++◌, length, Option, Some, None, codes, refl, sym, ap, ◌∙◌, subst, append_assoc, arith}
use Rattle.std.specs.Prelude.{IfSome}
use Rattle.mg_words.specs.Words.{Word, Command, Project, IsFileName}
use Rattle.mg_words.specs.Words.{IsFileOf}
use Rattle.mg_words.specs.Words.{IsOneProtocol, out_words, IsBehind, IsCommand, AreCommand, CanBegin, AreWrong}
use Rattle.mg_words.proofs.Verbs.{project, mark}
use Rattle.mg_words.proofs.WordsLemmas.{out, some_source, some_class, named, is_name, head_is, tail_is, filled, empty_is, few, wrong_at}
use Rattle.mg_words.proofs.WordsLemmas.{files_behind, folder_behind, folder_lacks, same_folder}

-- ---- what can begin the command

begins_protocol : (folder : Option Word) (file : Word) → IfSome folder IsFileName → IsFileOf (codes ".scr") file
    → CanBegin AreCommand (project ∷ (out_words folder ++ file ∷ []))
begins_protocol folder file name h = (
  [],
  (
    Project folder (file ∷ []),
    (
      (out_words folder ++ file ∷ []) ++ [],
      refl,
      (append_assoc (out_words folder) (file ∷ []) [], name, record { file = file; one = refl; scribble = h }),
    ),
  ),
)

begins_folder : (folder : Option Word) → IfSome folder IsFileName → CanBegin AreCommand (project ∷ (out_words folder ++ []))
begins_folder None name = let b = begins_protocol None some_source name named in (some_source ∷ b.0, b.1)
begins_folder (Some f) name = let b = begins_protocol (Some f) some_source name named in (some_source ∷ b.0, b.1)

begins_out : CanBegin AreCommand (project ∷ out ∷ [])
begins_out = let b = begins_folder (Some some_class) is_name in (some_class ∷ b.0, b.1)

-- ---- what stands behind the word

pub is_project : (command : Command) (rest : List Word) → IsCommand command (project ∷ rest)
    → (folder : Option Word) × (files : List Word) × (command ≡ Project folder files) × IsBehind (Project folder files) rest
is_project (Project folder files) rest (r, e, b) = (folder, files, refl, subst (IsBehind (Project folder files)) (sym (tail_is e)) b)
is_project other rest (r, e, b) = absurd (omega (arith, ap mark (head_is e)))

-- the option isn't a file
no_protocol : (rest : List Word) → IsOneProtocol (out ∷ rest) → ⊥
no_protocol rest one = let first : IsFileOf (codes ".scr") out = subst (IsFileOf (codes ".scr")) (sym (head_is one.one)) one.scribble in
    first.0 refl

protocol_behind : (command : Command) (folder : Option Word) (rest : List Word) → (folder ≡ None → (r : List Word) → rest ≡ out ∷ r → ⊥)
    → IsCommand command (project ∷ (out_words folder ++ rest)) → IsOneProtocol rest
protocol_behind command folder rest plain is =
    let (d, files, same, (e, name, one)) = is_project command (out_words folder ++ rest) is in
    files_behind IsOneProtocol no_protocol d files folder rest plain e one

folder_word : (command : Command) (f : Word) (rest : List Word) → IsCommand command (project ∷ out ∷ f ∷ rest) → IsFileName f
folder_word command f rest is =
    let (d, files, same, (e, name, one)) = is_project command (out ∷ f ∷ rest) is in folder_behind IsOneProtocol no_protocol d files f rest
    e name one

out_is_none : (command : Command) → IsCommand command (project ∷ out ∷ []) → ⊥
out_is_none command is =
    let (d, files, same, (e, name, one)) = is_project command (out ∷ []) is in folder_lacks IsOneProtocol no_protocol d files e one

folder_is_none : (command : Command) (folder : Option Word) → IsCommand command (project ∷ (out_words folder ++ [])) → ⊥
folder_is_none command folder is = filled (protocol_behind command folder [] (λ n r. filled) is).one

-- words don't begin with the option where their first word doesn't
plain_first : (folder : Option Word) (files : List Word) (word : Word) (more after : List Word) →
    (folder ≡ None → (r : List Word) → files ≡ out ∷ r → ⊥)
    → files ≡ word ∷ more → folder ≡ None → (r : List Word) → word ∷ after ≡ out ∷ r → ⊥
plain_first folder files word more after plain e n r is = plain n more (e ∙ ap (λ (w : Word). w ∷ more) (head_is is))

-- ---- what is judged

pub few_out : (rest : List Word) → length rest ≡ 0 → AreWrong (project ∷ out ∷ rest) None
few_out rest e = few (project ∷ out ∷ []) rest e begins_out out_is_none

pub wrong_folder : (rest : List Word) (word : Word) (more : List Word) → rest ≡ word ∷ more → (IsFileName word → ⊥)
    → AreWrong (project ∷ out ∷ rest) (Some word)
wrong_folder rest word more e isnt = wrong_at (project ∷ out ∷ []) rest word more e begins_out
    (λ b. isnt (folder_word b.1.0 word b.0 b.1.1))

pub few_protocols : (folder : Option Word) (files : List Word) → IfSome folder IsFileName → length files ≡ 0
    → AreWrong (project ∷ (out_words folder ++ files)) None
few_protocols folder files name e =
    subst (λ (z : List Word). AreWrong (project ∷ (out_words folder ++ z)) None) (sym (empty_is files e)) (
      begins_folder folder name,
      λ k. folder_is_none k.0 folder k.1,
    )

-- what stands in front of some words, and then what stands behind them
shifted : (folder : Option Word) (before more : List Word) → (project ∷ (out_words folder ++ before)) ++ more
    ≡ project ∷ (out_words folder ++ (before ++ more))
shifted folder before more = ap (λ (z : List Word). project ∷ z) (append_assoc (out_words folder) before more)

-- behind a folder, or where none is named, a word can't follow
wrong_behind : (folder : Option Word) (before files : List Word) (word : Word) (more : List Word) → files ≡ before ++ word ∷ more
    → CanBegin AreCommand (project ∷ (out_words folder ++ before))
    → ((command : Command) (after : List Word) → IsCommand command (project ∷ (out_words folder ++ (before ++ word ∷ after))) → ⊥)
    → AreWrong (project ∷ (out_words folder ++ files)) (Some word)
wrong_behind folder before files word more e begins cannot = record {
  before = project ∷ (out_words folder ++ before);
  after = more;
  stands = ap (λ (z : List Word). project ∷ (out_words folder ++ z)) e ∙ sym (shifted folder before (word ∷ more));
  begins = begins;
  wrong = λ b. cannot b.1.0 b.0 (subst (IsCommand b.1.0) (append_assoc (project ∷ (out_words folder ++ before)) (word ∷ []) b.0 ∙
      shifted folder before (word ∷ b.0)) b.1.1);
}

pub wrong_protocol : (folder : Option Word) (files : List Word) (word : Word) (more : List Word) → IfSome folder IsFileName
    → (folder ≡ None → (r : List Word) → files ≡ out ∷ r → ⊥) → files ≡ word ∷ more → (IsFileOf (codes ".scr") word → ⊥)
    → AreWrong (project ∷ (out_words folder ++ files)) (Some word)
wrong_protocol folder files word more name plain e isnt = wrong_behind folder [] files word more e (begins_folder folder name) cannot where
  cannot : (command : Command) (after : List Word) → IsCommand command (project ∷ (out_words folder ++ word ∷ after)) → ⊥
  cannot command after is =
      let one : IsOneProtocol (word ∷ after) = protocol_behind command folder (word ∷ after)
      (plain_first folder files word more after plain e) is in
      isnt (subst (IsFileOf (codes ".scr")) (sym (head_is one.one)) one.scribble)

pub wrong_surplus : (folder : Option Word) (files : List Word) (file word : Word) (more more' : List Word) → IfSome folder IsFileName
    → files ≡ file ∷ more → more ≡ word ∷ more' → IsFileOf (codes ".scr") file
    → AreWrong (project ∷ (out_words folder ++ files)) (Some word)
wrong_surplus folder files file word more more' name e e' h =
    wrong_behind folder (file ∷ []) files word more' (e ∙ ap (λ (z : List Word). file ∷ z) e') (begins_protocol folder file name h) cannot
  where
    plain : folder ≡ None → (r : List Word) (after : List Word) → file ∷ after ≡ out ∷ r → ⊥
    plain n r after is = let first : IsFileOf (codes ".scr") out = subst (IsFileOf (codes ".scr")) (head_is is) h in first.0 refl

    cannot : (command : Command) (after : List Word) → IsCommand command (project ∷ (out_words folder ++ file ∷ word ∷ after)) → ⊥
    cannot command after is =
        let one : IsOneProtocol (file ∷ word ∷ after) = protocol_behind command folder (file ∷ word ∷ after)
        (λ n r. plain n r (word ∷ after)) is in
        filled (sym (tail_is one.one))

pub one_protocol : (files : List Word) (file : Word) (more : List Word) → files ≡ file ∷ more → length more ≡ 0 →
    IsFileOf (codes ".scr") file → IsOneProtocol files
one_protocol files file more e n h = record { file = file; one = e ∙ ap (λ (z : List Word). file ∷ z) (empty_is more n); scribble = h }

pub same_project : (command : Command) (folder : Option Word) (files rest : List Word) → IsBehind (Project folder files) rest
    → IsCommand command (project ∷ rest) → Project folder files ≡ command
same_project command folder files rest (e, name, one) is =
    let (d, g, same, (e', name', one')) = is_project command rest is in
    let (here, there) = same_folder IsOneProtocol no_protocol folder d files g (sym e ∙ e') one one' in
    (λ i. Project (here i) (there i)) ∙ sym same

-- the file of the command is one
pub one_file : (words : List Word) (folder : Option Word) (files : List Word) → IsCommand (Project folder files) words → length files ≡ 1
one_file words folder files (r, e, (behind, name, one)) = ap length one.one
