-- The cases of a switch, by a table of those that were met.
use Rattle.std.proofs.Common.{◌≡◌, ℕ, ◌+◌, ◌<◌, List, [], ◌∷◌, ◌++◌, map, length, drop, get_or, append_assoc, Option, Some, None, Bool}
use Rattle.std.proofs.Common.{true, false, not, ◌||◌, if◌then◌else◌, refl, sym, ap, ◌∙◌}
use Rattle.std.specs.List.{list_any}
use Rattle.std.specs.Option.{option_or, option_map}
use Rattle.std.specs.Str.{bytes_eq}
use Rattle.std.proofs.lemmas.List.Folds.{list_any-append}
use Rattle.std.proofs.Math.Bool.{or-false}
use Rattle.mg_text.specs.Call.{Name}
use Rattle.mg_text.specs.declared.place.Place.{Place}
use Rattle.mg_read.specs.Culprit.{Culprit, culprit}
use Rattle.mg_read.specs.First.{behind, with_earlier}
use Rattle.jv_tree.specs.declared.tree.Group.{Group as KeptGroup, out-Group, fold_out-Group}
use Rattle.jv_tree.specs.Source.{Expr, Stmt, Groups}
use Rattle.jv_tree.specs.View.{stmts_of, stmt_of, OneGroup, group_of, groups_of, stmt_layer, group_layer, placed_stmt_layer}
use Rattle.jv_rules.specs.declared.condition.Condition.{Condition}
use Rattle.jv_rules.specs.declared.condition.Condition.TheVariants as conditions
use Rattle.jv_rules.specs.Types.{ValueType}
use Rattle.jv_rules.specs.Scope.{Scope}
use Rattle.jv_rules.specs.Typing.{type_of}
use Rattle.jv_rules.specs.Conditions.{CaseAt, cases}
use Rattle.jv_rules.specs.inner.Deciding.{when, told, first_by, bad_label, is_case_of}
use Rattle.jv_rules.specs.inner.Leaving.{same_label}
use Rattle.jv_types.specs.inner.Blaming.{is_in}
use Rattle.jv_types.specs.inner.Stating.{bad_case, cases_told}
use Rattle.jv_types.proofs.AtIndex.{drop_at}
use Rattle.jv_types.proofs.Finding.{any_at}

abbrev pub one_group : List (Option Name) → List Stmt → Place → OneGroup
one_group labels body end = record { labels = labels; body = stmts_of body; end = end }

pub group_of-is : (g : KeptGroup) → group_of g ≡ one_group (out-Group g).labels.items (map stmt_of (out-Group g).body.items)
    (out-Group g).end
unfolding stmt_of group_of
group_of-is g = fold_out-Group (Place → Stmt) OneGroup Stmt stmt_layer group_layer placed_stmt_layer g

-- the labels of one more group
module _ (gs : List KeptGroup) (i : ℕ) (g : KeptGroup) (within : i < length gs) (is : g ≡ get_or gs i g) where
  abbrev others : List (Option Name)
  others = cases (groups_of (map group_of (drop (i + 1) gs)))

  pub labels_more : (old new labels whole : List (Option Name)) → old ++ cases (groups_of (map group_of (drop i gs))) ≡ whole →
      new ≡ old ++ labels → labels ≡ (out-Group g).labels.items → new ++ others ≡ whole
  labels_more old new labels whole h e k =
      ap (λ z. z ++ others) (e ∙ ap (λ z. old ++ z) k) ∙ append_assoc old (out-Group g).labels.items others
      ∙ ap (λ z. old ++ z) (sym (ap (λ (ys : List KeptGroup). cases (groups_of (map group_of ys))) (drop_at gs i g within is) ∙
      ap (λ o. cases (groups_of (o ∷ map group_of (drop (i + 1) gs)))) (group_of-is g))) ∙ h

abbrev case_told : Place → Option Name → Option (Condition × Culprit)
case_told p None = None
case_told p (Some n) = Some (conditions.BadLabel, culprit p n)

-- whether a label was met, by the names and the default that were met
abbrev met_by : List Name → Bool → Option Name → Bool
met_by met default None = default
met_by met default (Some name) = is_in met name

-- the names and the default are those of the labels
abbrev AreMet : List (Option Name) → List Name → Bool → Type 0
AreMet seen met default = (l : Option Name) → list_any (same_label l) seen ≡ met_by met default l

any_one_more : (l x : Option Name) (seen : List (Option Name)) → list_any (same_label l) (seen ++ x ∷ []) ≡
    (list_any (same_label l) seen || same_label l x)
any_one_more l x seen = list_any-append (same_label l) seen (x ∷ []) ∙ ap (λ b. list_any (same_label l) seen || b)
    (or-false (same_label l x))

or-true : (b : Bool) → (b || true) ≡ true
or-true true = refl
or-true false = refl

default_met : (seen : List (Option Name)) (met : List Name) (default : Bool) → AreMet seen met default → AreMet (seen ++ None ∷ []) met true
default_met seen met default h None = any_one_more None None seen ∙ or-true (list_any (same_label None) seen)
default_met seen met default h (Some n) = any_one_more (Some n) None seen ∙ or-false (list_any (same_label (Some n)) seen) ∙ h (Some n)

name_met : (seen : List (Option Name)) (met : List Name) (default : Bool) (name : Name) → AreMet seen met default →
    AreMet (seen ++ Some name ∷ []) (met ++ name ∷ []) default
name_met seen met default name h None = any_one_more None (Some name) seen ∙ or-false (list_any (same_label None) seen) ∙ h None
name_met seen met default name h (Some n) =
    any_one_more (Some n) (Some name) seen ∙ ap (λ b. b || bytes_eq n name) (h (Some n) ∙ any_at n met)
    ∙ ap (λ b. list_any (bytes_eq n) met || b) (sym (or-false (bytes_eq n name))) ∙ sym (list_any-append (bytes_eq n) met (name ∷ [])) ∙
    sym (any_at n (met ++ name ∷ []))

module _ (s : Scope) (p : Place) (e : Expr) (type : ValueType) (typed : type_of s e ≡ Some type) where
  abbrev is_case : Name → Bool
  is_case name = is_case_of s.program (Some type) name

  abbrev culprit_of : Option Name → Option Culprit
  culprit_of o = option_map (λ n. culprit p n) o

  abbrev told_of : List (List (Option Name) × Option Name) → Option Culprit
  told_of cs = first_by bad_label (map (CaseAt s p e) cs)

  default_step : (b : Bool) (r : Option Name) (q : Option Culprit) → q ≡ culprit_of r → option_or (when b (culprit p [])) q ≡ culprit_of
      (if b then Some [] else r)
  default_step true r q h = refl
  default_step false r q h = h

  name_step : (b k : Bool) (name : Name) (r : Option Name) (q : Option Culprit) → q ≡ culprit_of r →
      option_or (when (b || not k) (culprit p name)) q ≡ culprit_of (if b then Some name else if k then r else Some name)
  name_step true k name r q h = refl
  name_step false true name r q h = h
  name_step false false name r q h = refl

  bad_behind : (seen : List (Option Name)) (met : List Name) (default : Bool) (labels : List (Option Name)) → AreMet seen met default →
      told_of (behind seen labels) ≡ culprit_of (bad_case is_case met default labels)
  bad_behind seen met default [] h = refl
  bad_behind seen met default (None ∷ labels) h =
      ap (λ b. option_or (when b (culprit p [])) (told_of (behind (seen ++ None ∷ []) labels))) (h None)
      ∙ default_step default (bad_case is_case met true labels) (told_of (behind (seen ++ None ∷ []) labels))
      (bad_behind (seen ++ None ∷ []) met true labels (default_met seen met default h))
  bad_behind seen met default (Some name ∷ labels) h =
      ap (λ b. option_or (when (b || not (is_case_of s.program (type_of s e) name)) (culprit p name))
      (told_of (behind (seen ++ Some name ∷ []) labels))) (h (Some name))
      ∙ ap (λ o. option_or (when (is_in met name || not (is_case_of s.program o name)) (culprit p name))
      (told_of (behind (seen ++ Some name ∷ []) labels))) typed
      ∙ name_step (is_in met name) (is_case name) name (bad_case is_case (met ++ name ∷ []) default labels)
      (told_of (behind (seen ++ Some name ∷ []) labels))
      (bad_behind (seen ++ Some name ∷ []) (met ++ name ∷ []) default labels (name_met seen met default name h))

  none_met : AreMet [] [] false
  none_met None = refl
  none_met (Some n) = refl

  pub bad_cases : (groups : Groups) → told_of (with_earlier (cases groups)) ≡ culprit_of (bad_case is_case [] false (cases groups))
  bad_cases groups = bad_behind [] [] false (cases groups) none_met

  told_as : (o : Option Name) → told conditions.BadLabel (culprit_of o) None ≡ case_told p o
  told_as None = refl
  told_as (Some n) = refl

  pub cases_decided : (groups : Groups) (labels : List (Option Name)) (o : Option Name) → labels ≡ cases groups →
      o ≡ bad_case is_case [] false labels → cases_told s p e groups ≡ case_told p o
  cases_decided groups labels o all is =
      ap (λ z. told conditions.BadLabel z None) (bad_cases groups ∙ ap (λ ls. culprit_of (bad_case is_case [] false ls)) (sym all) ∙
      ap culprit_of (sym is)) ∙ told_as o
