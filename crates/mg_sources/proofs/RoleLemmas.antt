-- Which of the files are protocols of one role: roles that are put into a set, one after another.
use Rattle.std.proofs.Common.{◌≡◌, ◌↔◌, ◌<◌, ◌≤◌, ◌+◌, ℕ, zero, suc, Bool, true, false, not, List, [], ◌∷◌, ◌++◌, map, length, get_or, take}
use Rattle.std.proofs.Common.{Contains, IsTrue, String, Some, None, refl, sym, ap, ◌∙◌, subst, arith, true≢false, Decides, cond}
use Rattle.std.proofs.Common.{⊎_elim, codes}
use Rattle.std.proofs.lemmas.List.{take_more, length-map, append-nil}
use Rattle.std.proofs.lemmas.List.Elements.{Contains-push, Contains-push_cases, Contains-append_left, Contains-append_right}
use Rattle.std.proofs.lemmas.Slice.Eq.{bytes_eq-Decides}
use Rattle.std.specs.HashSet.{HashSet, contains_text}
use Rattle.std.specs.Str.{bytes_eq}
use Rattle.std.proofs.lemmas.Grind.{common_steps}
use Rattle.mg_text.specs.Places.{start_of}
use Rattle.mg_read.specs.First.{Judged, with_earlier}
use Rattle.mg_read.proofs.Scanning.{Left, left_here, left_later, left_end}
use Rattle.scr_tree.specs.Tree.{LocalTree}
use Rattle.mg_refusal.specs.Refusals.{Refusal, refusal_at}
use Rattle.mg_sources.specs.Files.{Source, source_of, sources}
use Rattle.mg_sources.specs.Reading.{Part, Protocol, States, Classes, Reads, EachSpells}
use Rattle.mg_sources.specs.Sources.{IsOfRole, SharesRole}
use Rattle.mg_sources.specs.declared.part.Part.{Part as KeptPart}
use Rattle.mg_sources.specs.Parts.{part_of}
use Rattle.mg_sources.specs.inner.Answers.{role_in}
use Rattle.mg_sources.proofs.OneKind.{one_part}
use Rattle.mg_sources.proofs.PartLemmas.{same_length, source_there}

-- the roles of the parts that are protocols
abbrev pub roles : List Part → List (List ℕ)
roles [] = []
roles (part ∷ parts) = role_in part ++ roles parts

roles_append : (ps qs : List Part) → roles (ps ++ qs) ≡ roles ps ++ roles qs
roles_append [] qs = refl
roles_append (Protocol l ∷ ps) qs = ap (λ (z : List (List ℕ)). l.me ∷ z) (roles_append ps qs)
roles_append (States t ∷ ps) qs = roles_append ps qs
roles_append (Classes f ∷ ps) qs = roles_append ps qs

each_take : (i : ℕ) (files : List Source) (parts : List Part) → EachSpells files parts → EachSpells (take i files) (take i parts)
each_take zero files parts each = tt
each_take (suc i) [] [] each = tt
each_take (suc i) [] (l ∷ ls) each = absurd each
each_take (suc i) (f ∷ fs) [] each = absurd each
each_take (suc i) (f ∷ fs) (l ∷ ls) (first, rest) = (first, each_take i fs ls rest)

each_at : (i : ℕ) (files : List Source) (parts : List Part) (f : Source) (l : Part) → EachSpells files parts → i < length files →
    Reads (get_or files i f) (get_or parts i l)
each_at i [] parts f l each lt = absurd (omega arith)
each_at i (g ∷ gs) [] f l each lt = absurd each
each_at zero (g ∷ gs) (k ∷ ks) f l (first, rest) lt = first
each_at (suc i) (g ∷ gs) (k ∷ ks) f l (first, rest) lt = each_at i gs ks f l rest (omega arith)

-- a role of the parts is that of a file
behind : (f : Source) (fs : List Source) (role : List ℕ) → (e : Source) × Contains fs e × IsOfRole e role →
    (e : Source) × Contains (f ∷ fs) e × IsOfRole e role
behind f fs role found = (found.0, Contains-append_right (f ∷ []) fs found.0 found.1, found.2)

file_of_role : (files : List Source) (parts : List Part) (role : List ℕ) → EachSpells files parts → Contains (roles parts) role →
    (e : Source) × Contains files e × IsOfRole e role
file_of_role [] [] role each (k, lt, is) = absurd (omega arith)
file_of_role [] (l ∷ ls) role each has = absurd each
file_of_role (f ∷ fs) [] role each has = absurd each
file_of_role (f ∷ fs) (Protocol l ∷ ls) role (first, rest) (zero, lt, is) = (f, (zero, omega arith, refl), (l, first, is))
file_of_role (f ∷ fs) (Protocol l ∷ ls) role (first, rest) (suc k, lt, is) =
    behind f fs role (file_of_role fs ls role rest (k, omega arith, is))
file_of_role (f ∷ fs) (States t ∷ ls) role (first, rest) has = behind f fs role (file_of_role fs ls role rest has)
file_of_role (f ∷ fs) (Classes g ∷ ls) role (first, rest) has = behind f fs role (file_of_role fs ls role rest has)

same_local : (l k : LocalTree) → Protocol l ≡ Protocol k → l ≡ k
same_local l k e = cc

no_protocol_states : {P : Type 0} (l : LocalTree) (t : _) → Protocol l ≡ States t → P
no_protocol_states l t e = absurd cc

no_protocol_classes : {P : Type 0} (l : LocalTree) (f : _) → Protocol l ≡ Classes f → P
no_protocol_classes l f e = absurd cc

-- the role of a file that spells this part
role_here : (f : Source) (part : Part) (role : List ℕ) → Reads f part → IsOfRole f role → role_in part ≡ role ∷ []
role_here f (Protocol l) role only (local, reads, me) =
    ap (λ (z : List ℕ). z ∷ []) (ap (λ (z : LocalTree). z.me)
    (sym (same_local local l (one_part f (Protocol local) (Protocol l) reads only))) ∙ me)
role_here f (States t) role only (local, reads, me) = no_protocol_states local t (one_part f (Protocol local) (States t) reads only)
role_here f (Classes g) role only (local, reads, me) = no_protocol_classes local g (one_part f (Protocol local) (Classes g) reads only)

-- and the other way round
role_of_file : (files : List Source) (parts : List Part) (e : Source) (role : List ℕ) → EachSpells files parts → Contains files e →
    IsOfRole e role → Contains (roles parts) role
role_of_file [] parts e role each (k, lt, is) of = absurd (omega arith)
role_of_file (f ∷ fs) [] e role each has of = absurd each
role_of_file (f ∷ fs) (l ∷ ls) e role (first, rest) (zero, lt, is) of =
    let here = role_here f l role first (subst (λ (z : Source). IsOfRole z role) (sym is) of) in
    Contains-append_left (role_in l) (roles ls) role (subst (λ (z : List (List ℕ)). Contains z role) (sym here) (zero, omega arith, refl))
role_of_file (f ∷ fs) (l ∷ ls) e role (first, rest) (suc k, lt, is) of =
    Contains-append_right (role_in l) (roles ls) role (role_of_file fs ls e role rest (k, omega arith, is) of)

-- a file that spells a part of this role is of this role
heads : (r q : List ℕ) → ◌≡◌ {A = List (List ℕ)} (r ∷ []) (q ∷ []) → r ≡ q
heads r q e = cc

no_cons : {P : Type 0} (r : List ℕ) → ◌≡◌ {A = List (List ℕ)} [] (r ∷ []) → P
no_cons r e = absurd cc

is_of_role : (f : Source) (part : Part) (role : List ℕ) → Reads f part → role_in part ≡ role ∷ [] → IsOfRole f role
is_of_role f (Protocol local) role reads e = (local, reads, heads local.me role e)
is_of_role f (States t) role reads e = no_cons role e
is_of_role f (Classes g) role reads e = no_cons role e

-- a test by its negation
true_from_not : (b : Bool) → not b ≡ false → b ≡ true
true_from_not true e = refl
true_from_not false e = sym e

false_from_not : (b : Bool) → not b ≡ true → b ≡ false
false_from_not true e = sym e
false_from_not false e = refl

-- what stands in a list that got one more name
has_pushed : (t b c : Bool) (names : List (List ℕ)) (name q : List ℕ) → Decides t (name ≡ q) → (IsTrue b ↔ Contains names q) →
    c ≡ cond t true b → IsTrue c ↔ Contains (names ++ name ∷ []) q
has_pushed true b c names name q d h e = (λ _. subst (Contains (names ++ name ∷ [])) (d.0 refl) (Contains-push names name), λ _. e)
has_pushed false b c names name q d h e = (
  λ has. Contains-append_left names (name ∷ []) q (h.0 (sym e ∙ has)),
  λ k. ⊎_elim (λ old. e ∙ h.1 old) (λ same. absurd (true≢false (sym (d.1 same)))) (Contains-push_cases names name q k),
)

-- the names in a set are those of a list
abbrev pub HasExactly : {A S : Type 0} → HashSet (String A) S → List (List ℕ) → Type 0
HasExactly set names = (name : List ℕ) → IsTrue (contains_text set name) ↔ Contains names name

-- no role yet
pub nothing_yet : {A S : Type 0} (set : HashSet (String A) S) → set.keys ≡ [] → HasExactly set []
nothing_yet set e = λ q. grind (arith, common_steps, e)

-- the part at an index
mapped_at : (parts : List KeptPart) (i : ℕ) (l : KeptPart) (d : Part) → i < length parts → l ≡ get_or parts i l →
    get_or (map part_of parts) i d ≡ part_of l
mapped_at [] i l d lt e = absurd (omega arith)
mapped_at (k ∷ ks) zero l d lt e = ap part_of (sym e)
mapped_at (k ∷ ks) (suc i) l d lt e = mapped_at ks i l d (omega arith) e

-- a step of the loop: the part at an index is judged
module _ (parts : List KeptPart) (i : ℕ) where
  -- the roles of one more part
  pub roles_next : i < length parts → (l : KeptPart) → l ≡ get_or parts i l → roles (take (i + 1) (map part_of parts)) ≡ roles
      (take i (map part_of parts)) ++ role_in (part_of l)
  roles_next lt l is =
      let short : i < length (map part_of parts) = subst (λ (k : ℕ). i < k) (sym (length-map parts part_of)) lt in
      let at : part_of l ≡ get_or (map part_of parts) i (part_of l) = sym (mapped_at parts i l (part_of l) lt is) in
      ap roles (take_more (map part_of parts) i (part_of l) short ∙ ap (λ (z : Part). take i (map part_of parts) ++ z ∷ []) (sym at))
      ∙ roles_append (take i (map part_of parts)) (part_of l ∷ [])
      ∙ ap (λ (z : List (List ℕ)). roles (take i (map part_of parts)) ++ z) (append-nil (role_in (part_of l)))

  module _ (names contents : List (List ℕ)) (each : EachSpells (sources names contents) (map part_of parts)) where
    abbrev count : length (sources names contents) ≡ length parts
    count = same_length (sources names contents) (map part_of parts) each ∙ length-map parts part_of

    pub end_of : Left SharesRole (sources names contents) i → length parts ≤ i → Judged SharesRole (with_earlier (sources names contents))
        None
    end_of left h = left_end SharesRole left (omega (arith, count))

    module _ (left : Left SharesRole (sources names contents) i) (lt : i < length parts) (l : KeptPart) (is' : l ≡ get_or parts i l) where
      abbrev file : Source
      file = source_of i (get_or names i []) (get_or contents i [])

      abbrev within : i < length (sources names contents)
      within = omega (arith, count)

      abbrev file_is : file ≡ get_or (sources names contents) i file
      file_is = source_there names contents i within

      abbrev only : Reads file (part_of l)
      only =
          let at : get_or (map part_of parts) i (part_of l) ≡ part_of l = mapped_at parts i l (part_of l) lt is' in
          subst (λ (z : Source). Reads z (part_of l)) (sym file_is)
          (subst (λ (z : Part). Reads (get_or (sources names contents) i file) z) at (each_at i (sources names contents) (map part_of parts)
          file (part_of l) each within))

      abbrev before : EachSpells (take i (sources names contents)) (take i (map part_of parts))
      before = each_take i (sources names contents) (map part_of parts) each

      -- a part that has no role shares none
      pub without_role : role_in (part_of l) ≡ [] → Left SharesRole (sources names contents) (i + 1)
      without_role none =
          left_later SharesRole left file within file_is
          (λ r h. no_cons h.role (sym none ∙ role_here file (part_of l) h.role only h.of_role))

      module _ {A S : Type 0} (set : HashSet (String A) S) (exact : HasExactly set (roles (take i (map part_of parts)))) (role : List ℕ)
          (is_role : role_in (part_of l) ≡ role ∷ []) (key : List ℕ) (key_is : key ≡ role) where
        pub shared : not (contains_text set key) ≡ false → (r : Refusal) → r ≡ refusal_at (codes "SameRole") (start_of i) role →
            Judged SharesRole (with_earlier (sources names contents)) (Some r)
        shared old r said =
            let has = (exact role).0 (ap (contains_text set) (sym key_is) ∙ true_from_not (contains_text set key) old) in
            let found = file_of_role (take i (sources names contents)) (take i (map part_of parts)) role before has in
            left_here SharesRole left file within file_is r
            (record {
              role = role;
              of_role = is_of_role file (part_of l) role only is_role;
              earlier = found.0;
              stands = found.1;
              also =
                  found.2;
              said = said;
            })

        pub apart : not (contains_text set key) ≡ true → Left SharesRole (sources names contents) (i + 1)
        apart new = left_later SharesRole left file within file_is refuted where
          refuted : (r : Refusal) → SharesRole (take i (sources names contents), file) r → ⊥
          refuted r h =
              let role_is : h.role ≡ key = heads h.role role (sym (role_here file (part_of l) h.role only h.of_role) ∙ is_role) ∙
              sym key_is in
              let has = role_of_file (take i (sources names contents)) (take i (map part_of parts)) h.earlier h.role before h.stands h.also
              in
              true≢false (sym ((exact h.role).1 has) ∙ ap (contains_text set) role_is ∙ false_from_not (contains_text set key) new)

-- the set got the role of the part at an index
pub exact_next : {A S : Type 0} (set set' : HashSet (String A) S) (before after : List (List ℕ)) (key : List ℕ) → after ≡ before ++ key ∷ []
    → HasExactly set before
    → ((q : List ℕ) → contains_text set' q ≡ cond (bytes_eq key q) true (contains_text set q)) → HasExactly set' after
exact_next set set' before after key grown exact e =
    subst (HasExactly set') (sym grown) (λ q. has_pushed (bytes_eq key q) (contains_text set q) (contains_text set' q) before key q
    (bytes_eq-Decides key q) (exact q) (e q))
