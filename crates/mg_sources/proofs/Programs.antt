-- What reading the program of a command answers.
use Rattle.std.proofs.Common.{◌≡◌, ℕ, List, [], ◌∷◌, ◌++◌, map, Some, None, Result, Ok, Err, sym, ap, ◌∙◌, subst}
use Rattle.std.specs.Prelude.{OnOk}
use Rattle.std.proofs.lemmas.List.{append-nil, map-append}
use Rattle.mg_text.specs.Row.{Row}
use Rattle.mg_text.specs.declared.memory.Memory.{Memory}
use Rattle.mg_read.specs.First.{Judged, with_earlier}
use Rattle.scr_tree.specs.Tree.{LocalTree}
use Rattle.ts_tree.specs.Typestate.{Typestate}
use Rattle.jv_tree.specs.View.{file_of}
use Rattle.jv_tree.specs.declared.tree.File.{File as KeptFile}
use Rattle.stm_gen.specs.Numbered.{typestate_of}
use Rattle.stm_api.specs.Api.{IsApi}
use Rattle.stm_api.specs.View.{written_of}
use Rattle.stm_api.specs.declared.files.ApiFile.{ApiFile}
use Rattle.mg_sources.specs.Files.{Source, sources}
use Rattle.mg_sources.specs.Reading.{Part, Protocol, States, Classes, EachSpells, Refuses}
use Rattle.mg_sources.specs.Sources.{Sourced, AreProgram, FirstRefusal, SharesRole}
use Rattle.mg_sources.specs.Sources as together
use Rattle.mg_sources.specs.View.{sourced_of}
use Rattle.mg_sources.specs.declared.part.Part.{Part as KeptPart}
use Rattle.mg_sources.specs.declared.sources.Sources.{Sources as KeptSources}
use Rattle.mg_refusal.specs.Refusals.{Refusal}
use Rattle.mg_refusal.specs.Order.{Answers, AnswersOnly, at_first, at_next}
use Rattle.mg_refusal.specs.declared.stop.Stop.{Stop}
use Rattle.mg_refusal.proofs.Orders.{refused_by, unless_refused, never_ok}
use Rattle.mg_sources.specs.Parts.{part_of}
use Rattle.mg_sources.specs.inner.Answers.{Make, Appends}
use Rattle.mg_sources.proofs.Together.{spelled_from, not_both, one_program}

-- ---- the ways out

module _ (files : List Source) (stop : Stop) (answer : Result KeptSources Stop) (is : answer ≡ Err stop) where
  pub parts_failed : Answers (λ (parts : Row KeptPart). EachSpells files (map part_of parts.items)) (λ r. Judged Refuses files (Some r))
      (Err stop) →
      Answers (λ s. AreProgram files (sourced_of s)) (FirstRefusal files) answer
  parts_failed h =
      refused_by (λ (parts : Row KeptPart). EachSpells files (map part_of parts.items)) (λ r. Judged Refuses files (Some r))
      (λ s. AreProgram files (sourced_of s)) (FirstRefusal files) (λ r j. at_first j) stop h answer is

  pub roles_failed : (parts : List Part) → EachSpells files parts →
      Answers (λ (done : Unit {0}). Judged SharesRole (with_earlier files) None)
      (λ r. Judged SharesRole (with_earlier files) (Some r)) (Err stop) → Answers (λ s. AreProgram files (sourced_of s))
      (FirstRefusal files) answer
  roles_failed parts each h =
      refused_by (λ (done : Unit {0}). Judged SharesRole (with_earlier files) None) (λ r. Judged SharesRole (with_earlier files) (Some r))
      (λ s. AreProgram files (sourced_of s)) (FirstRefusal files) (λ r j. at_next parts each j) stop h answer is

pub of_slice : (files : List Source) (parts slice : List KeptPart) → slice ≡ parts → EachSpells files (map part_of parts) →
    EachSpells files (map part_of slice)
of_slice files parts slice e each = subst (λ (z : List KeptPart). EachSpells files (map part_of z)) (sym e) each

pub is_program : (names contents : List (List ℕ)) (parts : List Part) (s : Sourced) → EachSpells (sources names contents) parts
    → Judged SharesRole (with_earlier (sources names contents)) None → Make 0 parts s → AreProgram (sources names contents) s
is_program names contents parts s each apart make = record { spell = spelled_from 0 names contents parts s each make; apart = apart }

-- ---- what follows from its being one answer

module _ (files : List Source) (answer : Result KeptSources Stop) (h : Answers (λ s. AreProgram files (sourced_of s))
    (FirstRefusal files) answer)
  where
    pub that_alone : (s : Sourced) → AreProgram files s → AnswersOnly (λ k. sourced_of k ≡ s) answer
    that_alone s are =
        unless_refused (λ s. AreProgram files (sourced_of s)) (FirstRefusal files) (λ k. sourced_of k ≡ s) answer h
        (λ k is. one_program files (sourced_of k) s is are) (λ r first. not_both are first)

    pub no_program : (r : Refusal) → FirstRefusal files r → OnOk answer ⊥
    no_program r first = never_ok (λ s. AreProgram files (sourced_of s)) (FirstRefusal files) answer h (λ k is. not_both is first)

-- ---- what a part stands for is appended

pub adds_typestate : (r : Result Unit Memory) (number : ℕ) (typestate : Typestate) (before after : KeptSources) →
    OnOk r (after.files ≡ before.files)
    → OnOk r (after.typestates.items ≡ before.typestates.items ++ typestate ∷ []) →
    OnOk r (after.origins.items ≡ before.origins.items ++ number ∷ [])
    → OnOk r (Appends number (States typestate) (sourced_of before) (sourced_of after))
adds_typestate (Err e) number typestate before after f t o = tt
adds_typestate (Ok x) number typestate before after f t o = record {
  files = [];
  typestates = typestate ∷ [];
  stands = together.states;
  grown = ap (λ (z : Row KeptFile). map file_of z.items) f ∙ sym (append-nil (map file_of before.files.items));
  grown_too = t;
  origins = o;
}

pub adds_file : (r : Result Unit Memory) (number : ℕ) (file : KeptFile) (before after : KeptSources) →
    OnOk r (after.files.items ≡ before.files.items ++ file ∷ [])
    → after.typestates ≡ before.typestates → after.origins ≡ before.origins →
    OnOk r (Appends number (Classes (file_of file)) (sourced_of before) (sourced_of after))
adds_file (Err e) number file before after f t o = tt
adds_file (Ok x) number file before after f t o = record {
  files = file_of file ∷ [];
  typestates = [];
  stands = together.classes;
  grown = ap (map file_of) f ∙ map-append file_of before.files.items (file ∷ []);
  grown_too = ap (λ (z : Row Typestate). z.items) t ∙ sym (append-nil before.typestates.items);
  origins = ap (λ (z : Row ℕ). z.items) o ∙ sym (append-nil before.origins.items);
}

-- the files of an API were appended, and then the typestate
pub adds_protocol : (r : Result Unit Memory) (number : ℕ) (local : LocalTree) (typestate : Typestate) (api : List ApiFile)
    (before after : KeptSources) (files : Row KeptFile)
    → typestate ≡ typestate_of local → IsApi local (map written_of api)
    → map file_of files.items ≡ map file_of before.files.items ++ map (λ f. f.tree) (map written_of api)
    → OnOk r (after.files ≡ files) → OnOk r (after.typestates.items ≡ before.typestates.items ++ typestate ∷ [])
    → OnOk r (after.origins.items ≡ before.origins.items ++ number ∷ []) →
    OnOk r (Appends number (Protocol local) (sourced_of before) (sourced_of after))
adds_protocol (Err e) number local typestate api before after files is made grown f t o = tt
adds_protocol (Ok x) number local typestate api before after files is made grown f t o = record {
  files = map (λ f. f.tree) (map written_of api);
  typestates = typestate_of local ∷ [];
  stands = together.protocol made;
  grown = ap (λ (z : Row KeptFile). map file_of z.items) f ∙ grown;
  grown_too = t ∙ ap (λ (z : Typestate). before.typestates.items ++ z ∷ []) is;
  origins = o;
}
