-- The sources of a program of a folder have names that tell their kinds.
use Rattle.std.proofs.Common.{◌≡◌, ℕ, List, ◌++◌, length, Bool, true, false, ◌&&◌, ◌||◌, refl, sym, ap, ◌∙◌, ◌-◌, take, drop}
use Rattle.std.proofs.Common.{take-append-drop, codes, subst}
use Rattle.std.specs.Prelude.{nat_eq, All}
use Rattle.std.specs.List.{ends_with}
use Rattle.std.proofs.lemmas.List.{length-map}
use Rattle.std.proofs.lemmas.List.Elements.{All-map}
use Rattle.std.proofs.lemmas.Slice.Eq.{bytes_eq-Decides}
use Rattle.lsp_text.specs.declared.documents.Documents.{Documents}
use Rattle.mg_sources.specs.Files.{Kind, Scribble, Typestates, Java, EndsWith, suffix_of}
use Rattle.lsp_folder.specs.declared.program.File.{File}
use Rattle.lsp_folder.specs.declared.program.Member.{Member}
use Rattle.lsp_folder.specs.declared.program.Program.{Program}
use Rattle.lsp_folder.specs.Names.{is_part, is_source}
use Rattle.lsp_folder.specs.Programs.{IsProgramOf}
use Rattle.lsp_folder.proofs.Parts.{are_parts}
use Rattle.lsp_server.specs.inner.Fitting.{IsFit}

ends_is : (name suffix : List ℕ) → ends_with nat_eq name suffix ≡ true → EndsWith suffix name
ends_is name suffix h =
    let k : ℕ = length name - length suffix in
    let tail : suffix ≡ drop k name = (bytes_eq-Decides suffix (drop k name)).0 h in
    (take k name, sym (take-append-drop k name) ∙ ap (λ (z : List ℕ). take k name ++ z) (sym tail))

right : (a b : Bool) → (a && b) ≡ true → b ≡ true
right true b e = e
right false b e = absurd (let no : ⊥ = cc in no)

abbrev HasKind : List ℕ → Type 0
HasKind name = (kind : Kind) × EndsWith (suffix_of kind) name

-- one of the three endings
one_of : (name : List ℕ) (a b c : Bool) → ends_with nat_eq name (codes ".scr") ≡ a → ends_with nat_eq name (codes ".protocol") ≡ b →
    ends_with nat_eq name (codes ".java") ≡ c → (a || (b || c)) ≡ true → HasKind name
one_of name true b c ea eb ec e = (Scribble, ends_is name (codes ".scr") ea)
one_of name false true c ea eb ec e = (Typestates, ends_is name (codes ".protocol") eb)
one_of name false false true ea eb ec e = (Java, ends_is name (codes ".java") ec)
one_of name false false false ea eb ec e = absurd (let no : ⊥ = cc in no)

kind_of : (name : List ℕ) → is_source name ≡ true → HasKind name
kind_of name e = one_of name _ _ _ refl refl refl e

kind_of_part : (document name : List ℕ) → is_part document name ≡ true → HasKind name
kind_of_part document name e = kind_of name (right _ _ (right _ _ e))

pub fits : (documents : Documents) (document : List ℕ) (files : List File) (program : Program) →
    IsProgramOf documents document files program → IsFit program
fits documents document files program is = record {
  same = ap length is.names ∙ length-map is.members _ ∙ sym (ap length is.contents ∙ length-map is.members _);
  kinds = subst (All HasKind) (sym is.names) (All-map HasKind (λ (m : Member). m.name) is.members
      (λ k m less. kind_of_part document _ (are_parts documents document files is.members is.are k m less)));
}

-- the same program, said of the same documents
pub program_at : (one other : Documents) (document name : List ℕ) (files : List File) (program : Program) → one ≡ other → document ≡ name →
    IsProgramOf one document files program → IsProgramOf other name files program
program_at one other document name files program d n is =
    subst (λ (s : List ℕ). IsProgramOf other s files program) n (subst (λ (ds : Documents). IsProgramOf ds document files program) d is)
