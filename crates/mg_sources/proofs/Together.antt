-- What files spell, one after another, is one program.
use Rattle.std.proofs.Common.{◌≡◌, ◌+◌, ℕ, suc, List, [], ◌∷◌, ◌++◌, map, length, refl, sym, ap, ◌∙◌, subst, arith, append_assoc, None}
use Rattle.std.proofs.lemmas.List.{append-nil}
use Rattle.mg_text.specs.Call.{Name}
use Rattle.mg_read.specs.First.{Judged, clean, later}
use Rattle.mg_read.proofs.Judging.{no_both}
use Rattle.scr_tree.specs.Tree.{LocalTree}
use Rattle.scr_tree.specs.Meaning.{protocol_of}
use Rattle.ts_tree.specs.Typestate.{Typestate}
use Rattle.jv_tree.specs.Source.{File}
use Rattle.mg_text.specs.Places.{start_of}
use Rattle.stm_gen.specs.Numbered.{typestate_of}
use Rattle.stm_api.specs.Api.{ApiText, IsApi, class_file, enum_files}
use Rattle.stm_api.specs.Doings.{Doing, all_doings, call_of, Firsts}
use Rattle.stm_api.specs.Doings as doing
use Rattle.std.specs.Prelude.{Contains}
use Rattle.mg_sources.specs.Files.{Source, sources_from}
use Rattle.mg_sources.specs.Reading.{Part, Reads, EachSpells, Refuses}
use Rattle.mg_sources.specs.Sources.{Sourced, empty, adding, Stands, Spell, AreProgram, FirstRefusal}
use Rattle.mg_sources.specs.Sources as together
use Rattle.mg_refusal.specs.Refusals.{Refusal}
use Rattle.mg_refusal.specs.Order.{at_first, at_next}
use Rattle.mg_sources.specs.inner.Answers.{Make, Appends}
use Rattle.mg_sources.specs.inner.Answers as answers
use Rattle.mg_sources.proofs.OneKind.{one_part, excludes}

-- what files spell, one after another, is what they spell together
pub spelled_from : (n : ℕ) (names contents : List (List ℕ)) (parts : List Part) (sourced : Sourced) →
    EachSpells (sources_from n names contents) parts
    → Make n parts sourced → Spell (sources_from n names contents) sourced
spelled_from n [] contents [] sourced each answers.none = together.none
spelled_from n [] contents (l ∷ ls) sourced each make = absurd each
spelled_from n (x ∷ xs) [] [] sourced each answers.none = together.none
spelled_from n (x ∷ xs) [] (l ∷ ls) sourced each make = absurd each
spelled_from n (x ∷ xs) (b ∷ bs) [] sourced each make = absurd each
spelled_from n (x ∷ xs) (b ∷ bs) (l ∷ ls) sourced (reads, more) (answers.one {rest = rest} st make) =
    together.one reads st (spelled_from (suc n) xs bs ls rest more make)

-- files that spell a program aren't refused
pub none_refused_of : {files : List Source} {sourced : Sourced} → Spell files sourced → Judged Refuses files None
none_refused_of together.none = clean
none_refused_of (together.one {source = f} {part = l} reads st more) = later (λ r. excludes f l r reads) (none_refused_of more)

pub not_both : {files : List Source} {sourced : Sourced} {r : Refusal} → AreProgram files sourced → FirstRefusal files r → ⊥
not_both are (at_first h) = no_both (none_refused_of are.spell) h
not_both are (at_next parts each h) = no_both are.apart h

-- ---- there is one program

-- the first doings are some doings
one_first : (me : Name) {seen others : List Name} {ds es firsts gs : List Doing} → Firsts me seen ds firsts → Firsts me others es gs →
    seen ≡ others → ds ≡ es
    → firsts ≡ gs
one_first me doing.none doing.none e k = refl
one_first me doing.none (doing.again c more) e k = absurd (let no : ⊥ = cc in no)
one_first me doing.none (doing.first c more) e k = absurd (let no : ⊥ = cc in no)
one_first me (doing.again c more) doing.none e k = absurd (let no : ⊥ = cc in no)
one_first me (doing.first c more) doing.none e k = absurd (let no : ⊥ = cc in no)
one_first me (doing.again {more = ds} c more) (doing.again {more = es} c' more') e k =
    let rest : ds ≡ es = cc in one_first me more more' e rest
one_first me (doing.again {doing = d} c more) (doing.first {seen = s} {doing = d'} new more') e k =
    let same : d ≡ d' = cc in
    absurd (new (subst (λ (z : Doing). Contains s (call_of me z)) same (subst (λ (z : List Name). Contains z (call_of me d)) e c)))
one_first me (doing.first {seen = s} {doing = d} new more) (doing.again {doing = d'} c more') e k =
    let same : d' ≡ d = cc in
    absurd (new (subst (λ (z : Doing). Contains s (call_of me z)) same (subst (λ (z : List Name). Contains z (call_of me d')) (sym e) c)))
one_first me (doing.first {doing = d} {more = ds} new more) (doing.first {doing = d'} {more = es} new' more') e k =
    let same : d ≡ d' = cc in
    let rest : ds ≡ es = cc in
    let firsts = one_first me more more' (λ i. e i ++ call_of me (same i) ∷ []) rest in
    λ i. same i ∷ firsts i

pub one_api : (local : LocalTree) (a b : List ApiText) → IsApi local a → IsApi local b → a ≡ b
one_api local a b p q =
    p.are_files
    ∙ ap (λ (z : List Doing). class_file (start_of local.file) local.me z ∷ enum_files (start_of local.file) local.me
    (all_doings (protocol_of local)))
    (one_first local.me p.are_firsts q.are_firsts refl refl)
    ∙ sym q.are_files

record Alike (fs gs : List File) (ts us : List Typestate) : Type 0 where
  files : fs ≡ gs
  typestates : ts ≡ us

one_standing : {part other : Part} {fs gs : List File} {ts us : List Typestate} → Stands part fs ts → Stands other gs us → part ≡ other →
    Alike fs gs ts us
one_standing (together.protocol {local = l} {api = a} p) (together.protocol {local = k} {api = b} q) e =
    let same : l ≡ k = cc in
    let apis : a ≡ b = one_api k a b (subst (λ (z : LocalTree). IsApi z a) same p) q in
    record { files = ap (map (λ f. f.tree)) apis; typestates = λ i. typestate_of (same i) ∷ [] }
one_standing (together.protocol p) together.states e = absurd (let no : ⊥ = cc in no)
one_standing (together.protocol p) together.classes e = absurd (let no : ⊥ = cc in no)
one_standing together.states (together.protocol q) e = absurd (let no : ⊥ = cc in no)
one_standing (together.states {typestate = t}) (together.states {typestate = u}) e =
    let same : t ≡ u = cc in record { files = refl; typestates = λ i. same i ∷ [] }
one_standing together.states together.classes e = absurd (let no : ⊥ = cc in no)
one_standing together.classes (together.protocol q) e = absurd (let no : ⊥ = cc in no)
one_standing together.classes together.states e = absurd (let no : ⊥ = cc in no)
one_standing (together.classes {file = f}) (together.classes {file = g}) e =
    let same : f ≡ g = cc in record { files = λ i. same i ∷ []; typestates = refl }

one_spelling : {files others : List Source} {s t : Sourced} → Spell files s → Spell others t → files ≡ others → s ≡ t
one_spelling together.none together.none e = refl
one_spelling together.none (together.one r st more) e = absurd (let no : ⊥ = cc in no)
one_spelling (together.one r st more) together.none e = absurd (let no : ⊥ = cc in no)
one_spelling (together.one {source = f} {sources = fs} {part = p} r st more)
    (together.one {source = g} {sources = gs} {part = q} r' st' more') e =
    let same : f ≡ g = cc in
    let rest : fs ≡ gs = cc in
    let part : p ≡ q = one_part g p q (subst (λ (z : Source). Reads z p) same r) r' in
    let alike = one_standing st st' part in
    let left = one_spelling more more' rest in
    λ i. adding (same i).number (alike.files i) (alike.typestates i) (left i)

pub one_program : (files : List Source) (s t : Sourced) → AreProgram files s → AreProgram files t → s ≡ t
one_program files s t a b = one_spelling a.spell b.spell refl

-- ---- what parts stand for, in a loop

-- one program behind another
abbrev pub joined : Sourced → Sourced → Sourced
joined s t = record {
  program = record { files = s.program.files ++ t.program.files; typestates = s.program.typestates ++ t.program.typestates };
  origins = s.origins ++ t.origins;
}

joined_empty : (s : Sourced) → joined s empty ≡ s
joined_empty s = λ i. record {
  program = record { files = append-nil s.program.files i; typestates = append-nil s.program.typestates i };
  origins = append-nil s.origins i;
}

-- what the parts before this number stand for is made, and these parts are left
pub record MadeSoFar (all : List Part) (number : ℕ) (left : List Part) (so_far : Sourced) : Type 0 where
  pub makes : (rest : Sourced) → Make number left rest → Make 0 all (joined so_far rest)
  pub count : number + length left ≡ length all

pub made_start : (all : List Part) (s : Sourced) → s ≡ empty → MadeSoFar all 0 all s
made_start all s e = record {
  makes = λ rest m. subst (λ (z : Sourced). Make 0 all (joined z rest)) (sym e) m;
  count = omega arith;
}

pub made_more : {all : List Part} {number next : ℕ} {part : Part} {left : List Part} {before after : Sourced} →
    MadeSoFar all number (part ∷ left) before
    → next ≡ suc number → Appends number part before after → MadeSoFar all next left after
made_more {all} {number} {next} {part} {left} {before} {after} m is a = record {
  makes = λ rest more.
      let made = m.makes (adding number a.files a.typestates rest) (answers.one a.stands (subst (λ (z : ℕ). Make z left rest) is more)) in
      let same : joined before (adding number a.files a.typestates rest) ≡ joined after rest =
      λ i. record {
        program = record {
          files = (sym (append_assoc before.program.files a.files rest.program.files) ∙ ap (λ (z : List File). z ++ rest.program.files)
              (sym a.grown)) i;
          typestates = (sym (append_assoc before.program.typestates a.typestates rest.program.typestates)
              ∙ ap (λ (z : List Typestate). z ++ rest.program.typestates) (sym a.grown_too)) i;
        };
        origins = (sym (append_assoc before.origins (map (λ t. number) a.typestates) rest.origins) ∙ ap (λ (z : List ℕ). z ++ rest.origins)
            (sym a.origins)) i;
      } in
      subst (Make 0 all) same made;
  count = let c = m.count in omega (arith, c, is);
}

pub made_end : {all : List Part} {number : ℕ} {s : Sourced} → MadeSoFar all number [] s → Make 0 all s
made_end {all} {number} {s} m = subst (Make 0 all) (joined_empty s) (m.makes empty answers.none)

-- a list without length is empty
pub nothing_left : {X : Type 0} (xs : List X) → length xs ≡ 0 → xs ≡ []
nothing_left [] e = refl
nothing_left (x ∷ xs) e = absurd (omega (arith, e))
