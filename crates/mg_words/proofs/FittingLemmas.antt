-- What the code finds as it goes over the words of `fit`: the roles that were read, and the files behind them.
use Rattle.std.proofs.Common.{◌≡◌, ◌≢◌, ℕ, ◌<◌, ◌-◌, ◌^◌, List, [], ◌∷◌, ◌++◌, All, length, take, get_or, Option, Some, None, Bool, true}
use Rattle.std.proofs.Common.{false, not, eqb, eqb-true, codes, refl, sym, ap, ◌∙◌, subst, arith, append_assoc, length-append}
use Rattle.std.specs.Prelude.{Contains, is_some, option_map, position, if◌then◌else◌}
use Rattle.std.specs.List.{IsDistinct}
use Rattle.std.specs.Str.{bytes_eq}
use Rattle.std.proofs.lemmas.List.Quantifiers.{position-Some}
use Rattle.scr_tree.specs.Words.{IsName}
use Rattle.mg_text.specs.Interned.{with_text}
use Rattle.mg_text.proofs.Numbered.{list_any-from_None}
use Rattle.mg_words.specs.declared.words.Judged.{Judged}
use Rattle.mg_words.specs.Words.{Word, RoleClass, role_names, Fit, IsFileOf, IsSourceName, AreGlobalAndSources, role_words, HasNames}
use Rattle.mg_words.specs.Words.{IsCommand, AreCommand, CanBegin, AreWrong}
use Rattle.mg_words.specs.inner.Judging.{role_read, roles_in, has_name, IsFirstOther, IsJudged, CanBeNamed, AreNamed, IsFitting}
use Rattle.mg_words.proofs.Verbs.{fit}
use Rattle.mg_words.proofs.WordsLemmas.{head_is, tail_is, filled, empty_is, All-push, none_yet}
use Rattle.mg_words.proofs.NameLemmas.{is_has, never_both, same_name, names_push, distinct_push}
use Rattle.mg_words.proofs.RoleLemmas.{word_of_role}
use Rattle.mg_words.proofs.LawLemmas.{new_text}
use Rattle.mg_words.proofs.CodeLemmas.{front}
use Rattle.mg_words.proofs.FitLemmas.{role_option, words_of, words_on, no_global, roles_are, few_words, none_distinct, begins_option, few_behind}
use Rattle.mg_words.proofs.FitLemmas.{wrong_behind, with_value, few_files, no_roles, wrong_global, few_sources, wrong_source, are_fit}

-- ---- the roles that were read

pub begun : (words names : List Word) → names ≡ [] → AreNamed words names words
begun words names none =
    record { roles = []; stand = refl; named = none; right = none_yet HasNames; distinct = subst (IsDistinct bytes_eq) (sym none) none_distinct }

distinct_roles : (words names rest : List Word) (h : AreNamed words names rest) → IsDistinct bytes_eq (role_names h.roles)
distinct_roles words names rest h = subst (IsDistinct bytes_eq) h.named h.distinct

-- one more role was read
pub more_at : (words names rest : List Word) (option value : Word) (behind left new : List Word) (role : Word) → AreNamed words names rest
    → rest ≡ option ∷ behind → option ≡ role_option → behind ≡ value ∷ left → CanBeNamed names value → role ≡ (role_read value).role
    → new ≡ with_text names role → AreNamed words new left
more_at words names rest option value behind left new role h is name is' (right, fresh) same added = record {
  roles = h.roles ++ role_read value ∷ [];
  stand = stand;
  named = now ∙ (λ i. h.named i ++ same i ∷ []) ∙ sym (names_push h.roles (role_read value));
  right = All-push HasNames h.roles (role_read value) h.right right;
  distinct = subst (IsDistinct bytes_eq) (sym (now ∙ (λ i. h.named i ++ same i ∷ []) ∙ sym (names_push h.roles (role_read value))))
      (distinct_push h.roles (role_read value) (distinct_roles words names rest h)
      (λ k. fresh (subst (λ (z : List Word). Contains z (role_read value).role) (sym h.named) k)));
} where
  now : new ≡ names ++ role ∷ []
  now =
      added ∙ ap (λ (z : Option ℕ). if is_some z then names else names ++ role ∷ [])
      (new_text names role (λ k. fresh (subst (Contains names) same k)))

  words_are : role_option ∷ value ∷ left ≡ role_words (role_read value) ++ left
  words_are = ap (λ (w : Word). role_option ∷ w ∷ left) (word_of_role value right.1.starts)

  stand : words ≡ words_of (h.roles ++ role_read value ∷ []) ++ left
  stand =
      h.stand ∙ ap (λ (z : List Word). words_of h.roles ++ z)
      (is ∙ (λ i. name i ∷ is' i) ∙ words_are)
      ∙ sym (append_assoc (words_of h.roles) (role_words (role_read value)) left)
      ∙ ap (λ (z : List Word). z ++ left) (sym (words_on h.roles (role_read value ∷ [])))

few_so_far : (words names rest : List Word) (h : AreNamed words names rest) → length words < 2 ^ 64 → length h.roles < 2 ^ 63
few_so_far words names rest h small =
    omega (arith, few_words h.roles, ap length h.stand, length-append (words_of h.roles) rest)

begins_so_far : (words names rest : List Word) (h : AreNamed words names rest) → length words < 2 ^ 64
    → CanBegin AreCommand (fit ∷ (words_of h.roles ++ role_option ∷ []))
begins_so_far words names rest h small =
    begins_option h.roles (record { right = h.right; distinct = distinct_roles words names rest h }) (few_so_far words names rest h small)

-- the role is lacking behind its option
pub few_at : (words names rest : List Word) (option : Word) (behind : List Word) → AreNamed words names rest → length words < 2 ^ 64
    → rest ≡ option ∷ behind → option ≡ role_option → length behind ≡ 0 → AreWrong (fit ∷ words) None
few_at words names rest option behind h small is name none =
    subst (λ (z : List Word). AreWrong (fit ∷ z) None)
    (sym (h.stand ∙ ap (λ (z : List Word). words_of h.roles ++ z) (is ∙ (λ i. name i ∷ empty_is behind none i))))
    (few_behind h.roles (role_option ∷ []) h.right (begins_so_far words names rest h small)
    (λ command goes. cannot goes.more goes.files goes.words goes.are)) where
      cannot : (more : List RoleClass) (files : List Word) → role_option ∷ [] ≡ words_of more ++ files → AreGlobalAndSources files → ⊥
      cannot [] files e are = no_global [] files e are
      cannot (r ∷ rs) files e are = filled (tail_is e)

-- a word that names no role that can follow
pub wrong_at : (words names rest : List Word) (option value : Word) (behind left : List Word) → AreNamed words names rest
    → length words < 2 ^ 64 → rest ≡ option ∷ behind → option ≡ role_option → behind ≡ value ∷ left → (CanBeNamed names value → ⊥)
    → AreWrong (fit ∷ words) (Some value)
wrong_at words names rest option value behind left h small is name is' isnt =
    subst (λ (z : List Word). AreWrong (fit ∷ z) (Some value))
    (sym (h.stand ∙ ap (λ (z : List Word). words_of h.roles ++ z) (is ∙ (λ i. name i ∷ is' i))))
    (wrong_behind h.roles (role_option ∷ []) value left h.right (begins_so_far words names rest h small) (λ command more goes.
    isnt (subst (λ (z : List Word). CanBeNamed z value) (sym h.named)
    (with_value h.roles goes.more value more goes.files goes.words goes.are goes.cast))))

-- the words end behind roles
pub end_at : (words names rest : List Word) → AreNamed words names rest → length rest ≡ 0 → AreWrong (fit ∷ words) None
end_at words names rest h none =
    subst (λ (z : List Word). AreWrong (fit ∷ z) None)
    (sym (h.stand ∙ ap (λ (z : List Word). words_of h.roles ++ z) (empty_is rest none)))
    (few_files h.roles h.right (distinct_roles words names rest h))

-- ---- whether a role can be named

-- the role that a word names, as the code has it
pub no_role_name : (names : List Word) (word : Word) (r : RoleClass) → r ≡ role_read word → (IsName r.role → ⊥)
    → (false ≡ true → CanBeNamed names word) × (CanBeNamed names word → false ≡ true)
no_role_name names word r e isnt =
    (λ t. absurd (let no : ⊥ = cc in no), λ h. absurd (isnt (subst (λ (z : RoleClass). IsName z.role) (sym e) h.0.0)))

pub no_role_class : (names : List Word) (word : Word) (r : RoleClass) → r ≡ role_read word → (IsName r.class → ⊥)
    → (false ≡ true → CanBeNamed names word) × (CanBeNamed names word → false ≡ true)
no_role_class names word r e isnt =
    (λ t. absurd (let no : ⊥ = cc in no), λ h. absurd (isnt (subst (λ (z : RoleClass). IsName z.class) (sym e) h.0.1)))

pub can_named : {A : Type 0} (names : List Word) (word : Word) (r : RoleClass) (f : A → ℕ) (found : Option A) (none : Bool)
    → r ≡ role_read word → IsName r.role → IsName r.class → option_map f found ≡ position (bytes_eq r.role) names → is_some found ≡ not none
    → (none ≡ true → CanBeNamed names word) × (CanBeNamed names word → none ≡ true)
can_named names word r f None none e role class place is = (
  λ t. subst (λ (z : RoleClass). HasNames z × (Contains names z.role → ⊥)) e (
    (role, class),
    λ k. never_both (has_name names r.role) (is_has names r.role k) (list_any-from_None (bytes_eq r.role) names (sym place)),
  ),
  λ h. was none is,
) where
  was : (t : Bool) → false ≡ not t → t ≡ true
  was true k = refl
  was false k = absurd cc
can_named names word r f (Some x) none e role class place is =
    (λ t. absurd (never none is t), λ h. absurd (subst (λ (z : RoleClass). Contains names z.role → ⊥) (sym e) h.1 there)) where
      never : (t : Bool) → true ≡ not t → t ≡ true → ⊥
      never true k t = cc
      never false k t = cc

      there : Contains names r.role
      there =
          let (within, same, first) = position-Some (bytes_eq r.role) names (f x) r.role (sym place) in
          (f x, within, sym (same_name r.role (get_or names (f x) r.role) same))

-- ---- files behind the words of a cast

pub plain_at : (rest : List Word) (word : Word) (behind : List Word) → rest ≡ word ∷ behind → (word ≡ role_option → ⊥)
    → (more : List Word) → rest ≡ role_option ∷ more → ⊥
plain_at rest word behind is isnt more e = isnt (head_is (sym is ∙ e))

pub fitting_at : (words names rest cast : List Word) (result : Judged) → AreNamed words names rest
    → cast ≡ take (length words - length rest) words → IsFitting cast rest result → IsJudged (fit ∷ words) result
fitting_at words names rest cast result h kept is =
    subst (λ (z : List Word). IsJudged (fit ∷ z) result) (sym h.stand)
    (is h.roles (kept ∙ front words (words_of h.roles) rest h.stand) h.right (distinct_roles words names rest h))

-- the files, where the cast's words are these
abbrev IsPlain : List Word → Type 0
IsPlain files = (more : List Word) → files ≡ role_option ∷ more → ⊥

-- what holds of the words with the files of a cast
abbrev Behind : List Word → List Word → Option Word → Type 0
Behind cast files word = (roles : List RoleClass) → cast ≡ words_of roles → All HasNames roles → IsDistinct bytes_eq (role_names roles)
    → AreWrong (fit ∷ (words_of roles ++ files)) word

some_roles : (cast : List Word) (roles : List RoleClass) → cast ≡ words_of roles → eqb (length cast) 0 ≡ false → roles ≢ []
some_roles cast [] e some = λ n. never_both (eqb (length cast) 0) (ap (λ (z : List Word). eqb (length z) 0) e) some
some_roles cast (r ∷ rs) e some = λ n. cc

at_files : (roles : List RoleClass) (files : List Word) (word : Word) (after : List Word) (wrong : Option Word) → files ≡ word ∷ after
    → AreWrong (fit ∷ (words_of roles ++ word ∷ after)) wrong → AreWrong (fit ∷ (words_of roles ++ files)) wrong
at_files roles files word after wrong is h = subst (λ (z : List Word). AreWrong (fit ∷ (words_of roles ++ z)) wrong) (sym is) h

still : (files : List Word) (word : Word) (after : List Word) → files ≡ word ∷ after → IsPlain files → IsPlain (word ∷ after)
still files word after is plain = λ more e. plain more (is ∙ e)

pub lacks_files : (cast files : List Word) → length files ≡ 0 → Behind cast files None
lacks_files cast files none = λ roles kept right distinct.
    subst (λ (z : List Word). AreWrong (fit ∷ (words_of roles ++ z)) None) (sym (empty_is files none)) (few_files roles right distinct)

pub lacks_roles : (cast files : List Word) (word : Word) (after : List Word) → files ≡ word ∷ after → IsPlain files
    → eqb (length cast) 0 ≡ true → Behind cast files (Some word)
lacks_roles cast files word after is plain none = λ roles kept right distinct. go roles kept where
  go : (roles : List RoleClass) → cast ≡ words_of roles → AreWrong (fit ∷ (words_of roles ++ files)) (Some word)
  go [] kept = at_files [] files word after (Some word) is (no_roles word after (still files word after is plain))
  go (r ∷ rs) kept =
      let empty : length cast ≡ 0 = eqb-true (length cast) 0 none in absurd (omega (arith, ap length kept))

pub other_global : (cast files : List Word) (word : Word) (after : List Word) → files ≡ word ∷ after → IsPlain files
    → (IsFileOf (codes ".scr") word → ⊥) → Behind cast files (Some word)
other_global cast files word after is plain isnt = λ roles kept right distinct.
    at_files roles files word after (Some word) is (wrong_global roles word after right distinct (still files word after is plain) isnt)

pub other_source_at : (cast files : List Word) (global : Word) (sources : List Word) (word : Word) → files ≡ global ∷ sources → IsPlain files
    → eqb (length cast) 0 ≡ false → IsFileOf (codes ".scr") global → IsFirstOther IsSourceName sources (Some word)
    → Behind cast files (Some word)
other_source_at cast files global sources word is plain some h other = λ roles kept right distinct.
    at_files roles files global sources (Some word) is
    (wrong_source roles global sources word (some_roles cast roles kept some) right distinct (still files global sources is plain) h other)

pub lacks_sources : (cast files : List Word) (global : Word) (sources : List Word) → files ≡ global ∷ sources → IsPlain files
    → eqb (length cast) 0 ≡ false → IsFileOf (codes ".scr") global → length sources ≡ 0 → Behind cast files None
lacks_sources cast files global sources is plain some h none = λ roles kept right distinct.
    let one : files ≡ global ∷ [] = is ∙ ap (λ (z : List Word). global ∷ z) (empty_is sources none) in
    at_files roles files global [] None one
    (few_sources roles global (some_roles cast roles kept some) right distinct (still files global [] one plain) h)

pub known_fit : (cast files : List Word) (global : Word) (sources : List Word) → files ≡ global ∷ sources
    → eqb (length cast) 0 ≡ false → IsFileOf (codes ".scr") global → IsFirstOther IsSourceName sources None → eqb (length sources) 0 ≡ false
    → (roles : List RoleClass) → cast ≡ words_of roles → All HasNames roles → IsDistinct bytes_eq (role_names roles)
    → IsCommand (Fit (roles_in cast) files) (fit ∷ (words_of roles ++ files))
known_fit cast files global sources is some h each filled_so = λ roles kept right distinct.
    let same : roles_in cast ≡ roles = ap roles_in kept ∙ roles_are roles right in
    subst (λ (z : List Word). IsCommand (Fit (roles_in cast) z) (fit ∷ (words_of roles ++ z))) (sym is)
    (subst (λ (z : List RoleClass). IsCommand (Fit z (global ∷ sources)) (fit ∷ (words_of roles ++ global ∷ sources))) (sym same)
    (are_fit roles global sources (some_roles cast roles kept some) right distinct h (not_none sources filled_so, each)))
  where
    not_none : (xs : List Word) → eqb (length xs) 0 ≡ false → xs ≢ []
    not_none xs e n = never_both (eqb (length xs) 0) (ap (λ (z : List Word). eqb (length z) 0) n) e
