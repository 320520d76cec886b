-- What is written for the files that `translate` reads.
use Rattle.std.proofs.Common.{◌≡◌, ◌<◌, ◌+◌, ℕ, zero, suc, List, [], ◌∷◌, ◌++◌, All, map, length, get_or, take, None, refl, sym, ap}
use Rattle.std.proofs.Common.{◌∙◌, subst, arith, codes, Result, Ok, Err, append_assoc}
use Rattle.std.specs.Prelude.{OnOk}
use Rattle.std.proofs.lemmas.List.{append-nil, take_more, map-append}
use Rattle.mg_read.specs.First.{Judged, clean, later}
use Rattle.scr_tree.specs.Tree.{LocalTree}
use Rattle.mg_delivery.specs.declared.delivery.Action.{Action}
use Rattle.mg_delivery.specs.declared.delivery.Action.TheVariants as acts
use Rattle.mg_words.specs.Words.{Word, IsFileOf}
use Rattle.mg_sources.specs.Files.{Source, Scribble, source_of, sources_from, HaveKinds}
use Rattle.mg_sources.specs.Reading.{Part, Protocol, States, Classes, EachSpells, Refuses}
use Rattle.mg_sources.specs.Parts.{part_of}
use Rattle.mg_sources.specs.declared.part.Part.{Part as KeptPart}
use Rattle.mg_sources.proofs.OneKind.{no_states, no_classes, excludes}
use Rattle.mg_delivery.specs.Files.{Output}
use Rattle.mg_top.specs.Translation.{Target, IsTypestateFile, IsTranslation, api_written, EachTranslates, none, one}
use Rattle.mg_text.specs.declared.memory.Memory.{Memory}
use Rattle.api_package.specs.Heads.{headed}
use Rattle.stm_api.specs.Api.{IsApi}
use Rattle.stm_api.specs.View.{written_of}
use Rattle.stm_api.specs.declared.files.ApiFile.{ApiFile}
use Rattle.mg_top.specs.inner.Preparing.{locals_in, AddsPart, AddsTranslation, EachIsWritten}
use Rattle.mg_top.specs.inner.Preparing as preparing

-- files that are translated aren't refused
pub none_refused_of_translated : {to : Target} {files : List Source} {actions : List Action} → EachTranslates to files actions
    → Judged Refuses files None
none_refused_of_translated none = clean
none_refused_of_translated (one {source = f} t rest) = later (λ r. excludes f (Protocol t.local) r t.spelled)
    (none_refused_of_translated rest)

-- names of local protocols tell of which kind they are
pub scribble_kinds : (names : List Word) → All (IsFileOf (codes ".scr")) names → HaveKinds names
scribble_kinds names each k d lt = (Scribble, (each k d lt).1)

-- the translations of protocols are those of the files that spell them
pub translated : (to : Target) (n : ℕ) (names : List Word) (contents : List (List ℕ)) (parts : List Part) (actions : List Action) →
    All (IsFileOf (codes ".scr")) names
    → EachSpells (sources_from n names contents) parts → EachIsWritten to (locals_in parts) actions →
    EachTranslates to (sources_from n names contents) actions
translated to n [] contents [] actions scribble each preparing.none = none
translated to n [] contents (p ∷ ps) actions scribble each written = absurd each
translated to n (x ∷ xs) [] [] actions scribble each preparing.none = none
translated to n (x ∷ xs) [] (p ∷ ps) actions scribble each written = absurd each
translated to n (x ∷ xs) (b ∷ bs) [] actions scribble each written = absurd each
translated to n (x ∷ xs) (b ∷ bs) (Protocol l ∷ ps) actions scribble (reads, rest) (preparing.one {actions = more} t written) =
    one (record { local = l; spelled = reads; translation = t })
    (translated to (suc n) xs bs ps more (λ k d lt. scribble (suc k) d (omega arith)) rest written)
translated to n (x ∷ xs) (b ∷ bs) (States t ∷ ps) actions scribble (reads, rest) written =
    absurd (no_states (source_of n x b) t (scribble zero x (omega arith)).1 reads)
translated to n (x ∷ xs) (b ∷ bs) (Classes c ∷ ps) actions scribble (reads, rest) written =
    absurd (no_classes (source_of n x b) c (scribble zero x (omega arith)).1 reads)

pub written_push : {to : Target} {locals : List LocalTree} {actions : List Action} (l : LocalTree) (writes : List Action) →
    EachIsWritten to locals actions → IsTranslation to l writes → EachIsWritten to (locals ++ l ∷ []) (actions ++ writes)
written_push {to} l writes preparing.none t =
    subst (EachIsWritten to (l ∷ [])) (append-nil writes) (preparing.one t preparing.none)
written_push {to} l writes (preparing.one {local = k} {writes = ws} {locals = ls} {actions = more} t' rest) t =
    subst (EachIsWritten to (k ∷ (ls ++ l ∷ []))) (sym (append_assoc ws more writes)) (preparing.one t' (written_push l writes rest t))

-- one more part is written
locals_push : (parts : List Part) (p : Part) → locals_in (parts ++ p ∷ []) ≡ locals_in parts ++ locals_in (p ∷ [])
locals_push [] p = refl
locals_push (Protocol l ∷ ps) p = ap (λ (z : List LocalTree). l ∷ z) (locals_push ps p)
locals_push (States t ∷ ps) p = locals_push ps p
locals_push (Classes c ∷ ps) p = locals_push ps p

part_written : {to : Target} {locals : List LocalTree} {actions actions' : List Action} (p : Part) →
    EachIsWritten to locals actions
    → AddsPart to p actions actions' → EachIsWritten to (locals ++ locals_in (p ∷ [])) actions'
part_written {to} {locals} (Protocol l) before added = subst (EachIsWritten to (locals ++ l ∷ [])) (sym added.grown)
    (written_push l added.writes before added.translation)
part_written {to} {locals} {actions} {actions'} (States t) before same =
    subst (λ (z : List LocalTree). EachIsWritten to z actions') (sym (append-nil locals))
    (subst (EachIsWritten to locals) (sym same) before)
part_written {to} {locals} {actions} {actions'} (Classes c) before same =
    subst (λ (z : List LocalTree). EachIsWritten to z actions') (sym (append-nil locals))
    (subst (EachIsWritten to locals) (sym same) before)

pub written_more : {to : Target} {actions actions' : List Action} (parts : List KeptPart) (i : ℕ) (p : KeptPart) → i < length parts
    →
    p ≡ get_or parts i p → EachIsWritten to (locals_in (map part_of (take i parts))) actions →
    AddsPart to (part_of p) actions actions' →
    EachIsWritten to (locals_in (map part_of (take (i + 1) parts))) actions'
written_more {to} {actions} {actions'} parts i p lt is before added =
    let names : map part_of (take (i + 1) parts) ≡ map part_of (take i parts) ++ part_of p ∷ [] =
    ap (map part_of) (take_more parts i p lt ∙ ap (λ (z : KeptPart). take i parts ++ z ∷ []) (sym is)) ∙ map-append part_of (take i parts)
    (p ∷ []) in
    subst (λ (z : List LocalTree). EachIsWritten to z actions')
    (sym (ap locals_in names ∙ locals_push (map part_of (take i parts)) (part_of p)))
    (part_written (part_of p) before added)

-- a protocol's typestate and the files of its API are appended
pub adds_translation : (r : Result Unit Memory) (to : Target) (local : LocalTree) (before pushed after : List Action)
    (files listed : List ApiFile) (file : Output) → IsTypestateFile to.folder local file → IsApi local (map written_of files) → listed ≡ files
    →
    pushed ≡ before ++ acts.Write file ∷ [] → OnOk r (after ≡ pushed ++ map (api_written to.folder) (headed to.package_name (map written_of listed))) →
    OnOk r (AddsTranslation to local before after)
adds_translation (Err e) to local before pushed after files listed file is api same grown h = tt
adds_translation (Ok x) to local before pushed after files listed file is api same grown h =
    let rest : List Action = map (api_written to.folder) (headed to.package_name (map written_of files)) in record {
      writes = acts.Write file ∷ rest;
      translation = record { typestate = file; is_typestate = is; files = map written_of files; is_api = api; both = refl };
      grown = h ∙ ap (λ (z : List ApiFile). pushed ++ map (api_written to.folder) (headed to.package_name (map written_of z))) same ∙
          ap (λ (z : List Action). z ++ rest) grown
          ∙ append_assoc before (acts.Write file ∷ []) rest;
    }
