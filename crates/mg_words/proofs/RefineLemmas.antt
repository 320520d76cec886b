-- Which words are the command `refine`, and which can't follow.
use Rattle.std.proofs.Common.{◌≡◌, List, [], ◌∷◌, All, length, Some, None, codes, refl, sym, ap, ◌∙◌, subst, arith}
use Rattle.mg_sources.specs.Files.{EndsWith}
use Rattle.mg_words.specs.Words.{Word, Command, Refine, IsFileOf}
use Rattle.mg_words.specs.Words.{IsBehind, IsCommand, AreCommand, CanBegin, AreWrong}
use Rattle.mg_words.proofs.Verbs.{refine, mark}
use Rattle.mg_words.proofs.WordsLemmas.{head_is, tail_is, filled, All-cons, All-one, few, wrong_at}

named : IsFileOf (codes ".protocol") (codes "P.protocol")
named = (λ e. cc, (codes "P", refl))

-- ---- what can begin the command

begins_second : (first second : Word) → IsFileOf (codes ".protocol") first → IsFileOf (codes ".protocol") second
    → CanBegin AreCommand (refine ∷ first ∷ second ∷ [])
begins_second first second h h' = (
  [],
  (
    Refine (first ∷ second ∷ []),
    (first ∷ second ∷ [], refl, (refl, record { first = first; second = second; two = refl; of_first = h; of_second = h' })),
  ),
)

begins_first : (first : Word) → IsFileOf (codes ".protocol") first → CanBegin AreCommand (refine ∷ first ∷ [])
begins_first first h = let b = begins_second first (codes "P.protocol") h named in (codes "P.protocol" ∷ b.0, b.1)

begins_refine : CanBegin AreCommand (refine ∷ [])
begins_refine = let b = begins_first (codes "P.protocol") named in (codes "P.protocol" ∷ b.0, b.1)

-- ---- what stands behind the word

pub is_refine : (command : Command) (rest : List Word) → IsCommand command (refine ∷ rest)
    → (files : List Word) × (command ≡ Refine files) × IsBehind (Refine files) rest
is_refine (Refine files) rest (r, e, b) = (files, refl, subst (IsBehind (Refine files)) (sym (tail_is e)) b)
is_refine other rest (r, e, b) = absurd (omega (arith, ap mark (head_is e)))

first_word : (command : Command) (p : Word) (more : List Word) → IsCommand command (refine ∷ p ∷ more) → IsFileOf (codes ".protocol") p
first_word command p more is =
    let (files, same, (e, h)) = is_refine command (p ∷ more) is in subst (IsFileOf (codes ".protocol")) (sym (head_is (e ∙ h.two)))
    h.of_first

second_word : (command : Command) (p q : Word) (more : List Word) → IsCommand command (refine ∷ p ∷ q ∷ more)
    → IsFileOf (codes ".protocol") q × (more ≡ [])
second_word command p q more is =
    let (files, same, (e, h)) = is_refine command (p ∷ q ∷ more) is in
    let two = e ∙ h.two in
    (subst (IsFileOf (codes ".protocol")) (sym (head_is (tail_is two))) h.of_second, tail_is (tail_is two))

refine_is_none : (command : Command) → IsCommand command (refine ∷ []) → ⊥
refine_is_none command is = let (files, same, (e, h)) = is_refine command [] is in filled (e ∙ h.two)

first_is_none : (first : Word) (command : Command) → IsCommand command (refine ∷ first ∷ []) → ⊥
first_is_none first command is = let (files, same, (e, h)) = is_refine command (first ∷ []) is in filled (tail_is (e ∙ h.two))

-- ---- what is judged

pub few_refine : (rest : List Word) → length rest ≡ 0 → AreWrong (refine ∷ rest) None
few_refine rest e = few (refine ∷ []) rest e begins_refine refine_is_none

pub few_first : (rest : List Word) (first : Word) (more : List Word) → rest ≡ first ∷ more → IsFileOf (codes ".protocol") first
    → length more ≡ 0 → AreWrong (refine ∷ rest) None
few_first rest first more is h e =
    subst (λ (z : List Word). AreWrong (refine ∷ z) None) (sym is) (few (refine ∷ first ∷ []) more e (begins_first first h)
    (first_is_none first))

pub wrong_first : (rest : List Word) (word : Word) (more : List Word) → rest ≡ word ∷ more → (IsFileOf (codes ".protocol") word → ⊥)
    → AreWrong (refine ∷ rest) (Some word)
wrong_first rest word more e isnt = wrong_at (refine ∷ []) rest word more e begins_refine (λ b. isnt (first_word b.1.0 word b.0 b.1.1))

pub wrong_second : (rest : List Word) (first word : Word) (more more' : List Word) → rest ≡ first ∷ more → more ≡ word ∷ more'
    → IsFileOf (codes ".protocol") first → (IsFileOf (codes ".protocol") word → ⊥) → AreWrong (refine ∷ rest) (Some word)
wrong_second rest first word more more' e e' h isnt =
    subst (λ (ws : List Word). AreWrong (refine ∷ ws) (Some word)) (sym e)
    (wrong_at (refine ∷ first ∷ []) more word more' e' (begins_first first h) (λ b. isnt (second_word b.1.0 first word b.0 b.1.1).0))

pub wrong_surplus : (rest : List Word) (first second word : Word) (more more' more'' : List Word) → rest ≡ first ∷ more
    → more ≡ second ∷ more' → more' ≡ word ∷ more'' → IsFileOf (codes ".protocol") first → IsFileOf (codes ".protocol") second
    → AreWrong (refine ∷ rest) (Some word)
wrong_surplus rest first second word more more' more'' e e' e'' h h' =
    subst (λ (ws : List Word). AreWrong (refine ∷ ws) (Some word)) (sym (e ∙ ap (λ (z : List Word). first ∷ z) e'))
    (wrong_at (refine ∷ first ∷ second ∷ []) more' word more'' e'' (begins_second first second h h')
    (λ b. filled (sym (second_word b.1.0 first second (word ∷ b.0) b.1.1).1)))

pub same_refine : (command : Command) (files rest : List Word) → IsBehind (Refine files) rest → IsCommand command (refine ∷ rest)
    → Refine files ≡ command
same_refine command files rest (e, two) is = let (g, same, (e', two')) = is_refine command rest is in ap Refine (sym e ∙ e') ∙ sym same

-- the files of the command are two, and of typestates
pub two_files : (words files : List Word) → IsCommand (Refine files) words → length files ≡ 2
two_files words files (r, e, (behind, two)) = ap length two.two

pub kinds_of_two : (words files : List Word) → IsCommand (Refine files) words → All (EndsWith (codes ".protocol")) files
kinds_of_two words files (r, e, (behind, two)) =
    subst (All (EndsWith (codes ".protocol"))) (sym two.two)
    (All-cons (EndsWith (codes ".protocol")) two.first (two.second ∷ []) two.of_first.1
    (All-one (EndsWith (codes ".protocol")) two.second two.of_second.1))
