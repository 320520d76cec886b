-- Names of protocols, and names in their order.
use Rattle.std.proofs.Common.{◌≡◌, ℕ, ◌+◌, ◌<◌, ◌≤◌, Bool, true, false, if◌then◌else◌, List, [], ◌∷◌, ◌++◌, map, length, get_or, drop}
use Rattle.std.proofs.Common.{Option, Some, None, refl, sym, ap, subst, ◌∙◌, true≢false, append_assoc}
use Rattle.std.specs.Str.{bytes_eq}
use Rattle.std.proofs.lemmas.List.{at_drop_more, at_drop_all, map-append}
use Rattle.std.proofs.lemmas.Grind.{common_steps}
use Rattle.std.proofs.lemmas.Slice.Eq.{bytes_eq-Decides}
use Rattle.mg_text.specs.Call.{Name}
use Rattle.mg_read.specs.Culprit.{Culprit, culprit}
use Rattle.mg_read.specs.First.{Judged, clean, here, later, behind}
use Rattle.scr_tree.specs.Going.{DuplicateProtocol}
use Rattle.scr_tree.specs.Written.{WrittenPart, name_in, part_written}
use Rattle.scr_tree.specs.declared.written.WrittenPart.{WrittenPart as Part}
use Rattle.scr_judge.specs.inner.Gone.{part_name, with_names, named_again}
use Rattle.scr_judge.specs.inner.Seen.{Names, with_name}
use Rattle.scr_judge.proofs.Duplicates.{HasNames, has_more}

-- ---- the loops

module _ (has : Names) (ps : List Part) (i : ℕ) where
  pub names_step : (x : Part) → i < length ps → x ≡ get_or ps i x → with_names (map part_name (drop i ps)) has
      ≡ with_names (map part_name (drop (i + 1) ps)) (with_name x.name has)
  names_step x within is =
      at_drop_more (λ qs. with_names (map part_name qs) has) ps i x within ∙
      ap (λ (y : Part). with_names (map part_name (drop (i + 1) ps)) (with_name y.name has)) (sym is)

  pub names_past : length ps ≤ i → with_names (map part_name (drop i ps)) has ≡ has
  names_past h = at_drop_all (λ qs. with_names (map part_name qs) has) ps i h

  pub again_step : (x : Part) → i < length ps → x ≡ get_or ps i x →
      named_again has (drop i ps) ≡ (if has x.name then Some (culprit x.place x.name) else named_again (with_name x.name has)
      (drop (i + 1) ps))
  again_step x within is =
      at_drop_more (named_again has) ps i x within
      ∙ ap (λ (y : Part). if has y.name then Some (culprit y.place y.name) else named_again (with_name y.name has) (drop (i + 1) ps))
      (sym is)

  pub again_past : length ps ≤ i → named_again has (drop i ps) ≡ None
  again_past h = at_drop_all (named_again has) ps i h

pub ruleset name_steps = (common_steps, names_step, names_past)

pub ruleset again_steps = (common_steps, again_step, again_past)

-- ---- the set has the names

pub one_more : (has : Names) (names : List Name) (name : Name) → HasNames has names → HasNames (with_name name has) (names ++ name ∷ [])
one_more has names name h = record { each = λ q. has_more (bytes_eq name q) (has q) names name q (bytes_eq-Decides name q) (h.each q) }

pub has_all : (has : Names) (names more : List Name) → HasNames has names → HasNames (with_names more has) (names ++ more)
has_all has names [] h = subst (HasNames has) (sym (append_nil names)) h
  where
    append_nil : (xs : List Name) → xs ++ [] ≡ xs
    append_nil [] = refl
    append_nil (x ∷ xs) = ap (λ (l : List Name). x ∷ l) (append_nil xs)
has_all has names (name ∷ more) h =
    subst (HasNames (with_names more (with_name name has))) (append_assoc names (name ∷ []) more)
    (has_all (with_name name has) (names ++ name ∷ []) more (one_more has names name h))

-- ---- protocols of one name

again_or : (b : Bool) (seen : List WrittenPart) (p : Part) (has : Names) (r : Option Culprit) (rest : _) → has p.name ≡ b →
    HasNames has (map name_in seen) → Judged DuplicateProtocol rest r →
    Judged DuplicateProtocol ((seen, part_written p) ∷ rest) (if b then Some (culprit p.place p.name) else r)
again_or true seen p has r rest e h j = here (refl, (h.each p.name).0 e)
again_or false seen p has r rest e h j = later (λ c x. true≢false (sym ((h.each p.name).1 x.1) ∙ e)) j

pub again_exact : (seen : List WrittenPart) (has : Names) (ps : List Part) → HasNames has (map name_in seen) →
    Judged DuplicateProtocol (behind seen (map part_written ps)) (named_again has ps)
again_exact seen has [] h = clean
again_exact seen has (p ∷ ps) h =
    again_or (has p.name) seen p has (named_again (with_name p.name has) ps) (behind (seen ++ part_written p ∷ []) (map part_written ps))
    refl h
    (again_exact (seen ++ part_written p ∷ []) (with_name p.name has) ps
    (subst (HasNames (with_name p.name has)) (sym (map-append name_in seen (part_written p ∷ [])))
    (one_more has (map name_in seen) p.name h)))
