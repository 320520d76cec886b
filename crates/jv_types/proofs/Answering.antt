-- What the table of a program and its faults are, from what was found.
use Rattle.std.proofs.Common.{◌≡◌, ℕ, List, [], ◌∷◌, ◌++◌, map, length, Bor, Option, Some, None, true, refl, sym, ap, subst, ◌∙◌, arith}
use Rattle.std.proofs.lemmas.List.{map-append}
use Rattle.mg_text.specs.Call.{Name}
use Rattle.mg_text.specs.Places.{start_of}
use Rattle.mg_read.specs.Culprit.{Culprit, culprit}
use Rattle.ts_tree.specs.Typestate.{Typestate}
use Rattle.jv_tree.specs.declared.tree.Decl.{Decl as KeptDecl}
use Rattle.jv_tree.specs.declared.tree.File.{File as KeptFile}
use Rattle.jv_tree.specs.View.{decl_of, file_of}
use Rattle.jv_rules.specs.declared.condition.Condition.{Condition}
use Rattle.jv_rules.specs.Program.{Program, decls_of}
use Rattle.jv_rules.specs.Faults.{IsTableFault}
use Rattle.jv_rules.specs.inner.Deciding.{first_by}
use Rattle.jv_types.specs.declared.fault.TypeFault.{TypeFault}
use Rattle.jv_types.specs.declared.judged.Wrong.{Wrong}
use Rattle.jv_types.specs.declared.judged.Wrong.TheVariants as wrongs
use Rattle.jv_types.specs.Outcome.{fault_told, TellsFault}
use Rattle.jv_types.specs.View.{program_of}
use Rattle.jv_types.specs.inner.Blaming.{is_in, are_new}
use Rattle.jv_types.specs.inner.Repeating.{repeat_type, repeat_typestate, repeat_in}
use Rattle.jv_types.specs.inner.Kept.{kept_decls}
use Rattle.jv_types.specs.inner.Deciding.{early_in, early_found, IsLater}
use Rattle.jv_types.specs.inner.Judging.{Tells, TellsOne}
use Rattle.jv_types.proofs.Building.{none_some, none_or}
use Rattle.jv_types.proofs.Declared.{early_fault, later_fault, later_by, no_repeats}
use Rattle.jv_types.proofs.Entries.{map-map}
use Rattle.jv_types.proofs.NewNames.{new_join}

abbrev OnTold : (Option (Condition × Culprit) → Type 0) → Option (Condition × Culprit) → Type 0
OnTold Is None = Unit {0}
OnTold Is (Some f) = Is (Some f)

-- an error that tells this fault tells one of these
pub told_as : (Is : Option (Condition × Culprit) → Type 0) (x : Condition × Culprit) (e : TypeFault) → TellsFault (λ r. r ≡ Some x) e →
    Is (Some x) → TellsFault Is e
told_as Is x e t is = go (fault_told e) t
  where
    go : (o : Option (Condition × Culprit)) → OnTold (λ r. r ≡ Some x) o → OnTold Is o
    go None t = t
    go (Some f) t = subst Is (sym t) is

-- the same of what is wrong
pub told_one : (Is : Option (Condition × Culprit) → Type 0) (w : Wrong) (e : TypeFault) →
    ((fault : Option (Condition × Culprit)) → Tells w fault → TellsFault (λ r. r ≡ fault) e) → TellsOne Is w → TellsFault Is e
told_one Is wrongs.Memory e told t = go (fault_told e) (told None tt)
  where
    go : (o : Option (Condition × Culprit)) → OnTold (λ r. r ≡ None) o → OnTold Is o
    go None h = tt
    go (Some f) h = let no : ⊥ = cc in absurd no
told_one Is (wrongs.Fault k p n) e told t = told_as Is (k, culprit p n.now) e (told (Some (k, culprit p n.now)) refl) t

pub one_more : (P Q : Option (Condition × Culprit) → Type 0) → ((f : Condition × Culprit) → P (Some f) → Q (Some f)) → (w : Wrong) →
    TellsOne P w → TellsOne Q w
one_more P Q f wrongs.Memory t = t
one_more P Q f (wrongs.Fault k p n) t = f (k, culprit p n.now) t

typestates_new : (ts : List Typestate) (files : List ℕ) (met : List Name) → length files ≡ length ts → repeat_typestate met ts files ≡ None
    → are_new met (map (λ t. t.name) ts) ≡ true
typestates_new [] files met n e = refl
typestates_new (t ∷ ts) [] met n e = absurd (omega arith)
typestates_new (t ∷ ts) (f ∷ files) met n e =
    let h = none_some (is_in met t.name) (culprit (start_of f) t.name) (repeat_typestate (met ++ t.name ∷ []) ts files) e in
    new_join met (map (λ x. x.name) ts) t.name h.0 (typestates_new ts files (met ++ t.name ∷ []) (omega arith) h.1)

decls_kept : (files : List KeptFile) → map decl_of (kept_decls files) ≡ decls_of (map file_of files)
decls_kept [] = refl
decls_kept (f ∷ fs) = map-append decl_of f.decls.items (kept_decls fs) ∙ ap (λ ds. map decl_of f.decls.items ++ ds) (decls_kept fs)

module _ (files : List KeptFile) (ts : List Typestate) (origins : List ℕ) (ds : List (Bor KeptDecl))
    (all : map (λ d. d.now) ds ≡ kept_decls files) where
  seen_decls : map (λ (d : Bor KeptDecl). decl_of d.now) ds ≡ decls_of (map file_of files)
  seen_decls = sym (map-map (λ (d : Bor KeptDecl). d.now) decl_of ds) ∙ ap (map decl_of) all ∙ decls_kept files

  early_is : early_in (map (λ (d : Bor KeptDecl). decl_of d.now) ds) ts origins ≡ early_found (program_of files ts) origins
  early_is = ap (λ xs. early_in xs ts origins) seen_decls

  pub early_told : (f : Condition × Culprit) → Some f ≡ early_in (map (λ d. decl_of d.now) ds) ts origins →
      IsTableFault (program_of files ts) origins (Some f)
  early_told f e = early_fault (program_of files ts) origins f (sym early_is ∙ sym e)

  module _ (none : None ≡ early_in (map (λ d. decl_of d.now) ds) ts origins) where
    early_none : early_found (program_of files ts) origins ≡ None
    early_none = sym early_is ∙ sym none

    pub types_none : repeat_type [] (map decl_of (kept_decls files)) ≡ None
    types_none = ap (repeat_type []) (decls_kept files) ∙ (none_or _ _ (no_repeats (program_of files ts) origins early_none).0).0

    pub typestates_apart : length origins ≡ length ts → are_new [] (map (λ t. t.name) ts) ≡ true
    typestates_apart n = typestates_new ts origins [] n (none_or _ _ (no_repeats (program_of files ts) origins early_none).0).1

    pub members_none : first_by repeat_in (map (λ d. decl_of d.now) ds) ≡ None
    members_none = ap (first_by repeat_in) seen_decls ∙ (no_repeats (program_of files ts) origins early_none).1

  -- of the declarations as they are kept
  pub early_kept : None ≡ early_in (map (λ d. decl_of d.now) ds) ts origins → early_in (map decl_of (kept_decls files)) ts origins ≡ None
  early_kept none = ap (λ xs. early_in xs ts origins) (decls_kept files ∙ sym seen_decls) ∙ sym none

-- what is found later is a fault of the declarations
pub later_as : (files : List KeptFile) (ts : List Typestate) (origins : List ℕ) → early_in (map decl_of (kept_decls files)) ts origins ≡
    None → (p : Program) → p ≡ program_of files ts →
    (r : Option (Condition × Culprit)) → IsLater p r → IsTableFault (program_of files ts) origins r
later_as files ts origins none p same r h =
    subst (λ q. IsTableFault q origins r) same
    (subst (IsTableFault p origins) (sym (h.is ∙ later_by p h.entries h.classes h.each origins))
    (later_fault p origins (ap (λ q. early_found q origins) same ∙ ap (λ xs. early_in xs ts origins) (sym (decls_kept files)) ∙ none)))
