-- Exits of the core lead where those of the source lead.
use Rattle.std.proofs.Common.{◌≡◌, ◌≢◌, ℕ, Bool, true, false, List, ◌∷◌, Option, Some, None, refl, sym, ap, ◌∙◌, subst}
use Rattle.std.specs.Prelude.{nat_eq, ◌||◌}
use Rattle.mg_text.specs.Call.{Name}
use Rattle.jv_tree.specs.Source
use Rattle.jv_values.specs.Statements.{is_default, case_at, any_label}
use Rattle.jv_values.specs.Alike.{Meet}
use Rattle.jv_meaning.specs.Meaning.{mine, case_label}
use Rattle.jv_rules.specs.Program.{Program}
use Rattle.jv_rules.specs.Scope.{Target, Loop, Switch}
use Rattle.jv_core.specs.Tree as Core
use Rattle.jv_core.specs.Meaning as core_meaning
use Rattle.jv_names.specs.Resolves.{BreakLeads, breaks_loop, breaks_switch, breaks_named, breaks_other, breaks_out, ContinueLeads, goes_on}
use Rattle.jv_names.specs.Resolves.{goes_on_named, goes_on_other, goes_on_out, Aligned, none, more, IsLabel, default_label}
use Rattle.jv_names.specs.Resolves.{case_label as is_case}
use Rattle.jv_names.proofs.Rows.{bytes_same, bytes_differ, number_same, number_differs}

meet_yes : (rest : Type 0) (t u : Bool) → t ≡ true → u ≡ true → Meet t u rest
meet_yes rest t u e f = subst (λ t. Meet t u rest) (sym e) (subst (λ u. Meet true u rest) (sym f) tt)

meet_no : {rest : Type 0} (t u : Bool) → t ≡ false → u ≡ false → rest → Meet t u rest
meet_no {rest} t u e f w = subst (λ t. Meet t u rest) (sym e) (subst (λ u. Meet false u rest) (sym f) w)

number_differs_flip : (j k : ℕ) → j ≢ k → nat_eq k j ≡ false
number_differs_flip j k h = number_differs k j h

-- a loop with another label isn't meant
not_mine : (m : Option Name) (l : Name) → m ≢ Some l → mine m (Some l) ≡ false
not_mine None l h = refl
not_mine (Some k) l h = bytes_differ l k (λ e. h (ap Some e))

abbrev pub Breaks : List Target → List (Option ℕ) → Option ℕ → Option Name → Type 0
Breaks ts ks k l = BreakLeads ts ks l k

-- a core's `continue` has a number
abbrev pub GoesOn : List Target → List (Option ℕ) → Option ℕ → Option Name → Type 0
GoesOn ts ks k l = (n : ℕ) × (k ≡ Some n) × ContinueLeads ts ks l n

pub loop_breaks : (m : Option Name) (j : ℕ) (ts : List Target) (ks : List (Option ℕ)) (k : Option ℕ) (l : Option Name) → Breaks
    (Loop m ∷ ts) (Some j ∷ ks) k l →
    Meet (core_meaning.mine j k) (mine m l) (Breaks ts ks k l)
loop_breaks m j ts ks k l breaks_loop = meet_yes _ _ true (number_same j) refl
loop_breaks m j ts ks k l (breaks_named {l = x}) = meet_yes _ _ _ (number_same j) (bytes_same x)
loop_breaks m j ts ks k l (breaks_other {l = x} {m = o} {j = i} {k = n} h d w) = meet_no _ _ (number_differs_flip i n d)
    (not_mine o x h) w

pub switch_breaks : (ts : List Target) (ks : List (Option ℕ)) (k : Option ℕ) (l : Option Name) → Breaks (Switch ∷ ts) (None ∷ ks) k l →
    Meet (is_default k) (is_default l) (Breaks ts ks k l)
switch_breaks ts ks k l breaks_switch = tt
switch_breaks ts ks k l (breaks_out w) = w

loop_continue : (m : Option Name) (j : ℕ) (ts : List Target) (ks : List (Option ℕ)) (n : ℕ) (l : Option Name) → ContinueLeads
    (Loop m ∷ ts) (Some j ∷ ks) l n →
    Meet (core_meaning.mine j (Some n)) (mine m l) (GoesOn ts ks (Some n) l)
loop_continue m j ts ks n l goes_on = meet_yes _ _ true (number_same j) refl
loop_continue m j ts ks n l (goes_on_named {l = x}) = meet_yes _ _ _ (number_same j) (bytes_same x)
loop_continue m j ts ks n l (goes_on_other {l = x} {m = o} {j = i} {k = i'} h d w) = meet_no _ _ (number_differs_flip i i' d)
    (not_mine o x h) (i', refl, w)

pub loop_continues : (m : Option Name) (j : ℕ) (ts : List Target) (ks : List (Option ℕ)) (k : Option ℕ) (l : Option Name) → GoesOn
    (Loop m ∷ ts) (Some j ∷ ks) k l →
    Meet (core_meaning.mine j k) (mine m l) (GoesOn ts ks k l)
loop_continues m j ts ks k l w = subst (λ k. Meet (core_meaning.mine j k) (mine m l) (GoesOn ts ks k l)) (sym w.1)
    (loop_continue m j ts ks w.0 l w.2)

switch_continue : (ts : List Target) (ks : List (Option ℕ)) (n : ℕ) (l : Option Name) → ContinueLeads (Switch ∷ ts) (None ∷ ks) l n →
    ContinueLeads ts ks l n
switch_continue ts ks n l (goes_on_out w) = w

pub switch_continues : (ts : List Target) (ks : List (Option ℕ)) (k : Option ℕ) (l : Option Name) → GoesOn (Switch ∷ ts) (None ∷ ks) k l →
    GoesOn ts ks k l
switch_continues ts ks k l w = (w.0, w.1, switch_continue ts ks w.0 l w.2)

-- Tests that agree on the labels of a switch.

module _ (program : Program) (core : Core.Program) where
  abbrev pub Tests : Source.Enum → (Option ℕ → Bool) → (Option Name → Bool) → Type 0
  Tests enum t' t = (l : Option Name) (k : Option ℕ) → IsLabel program core enum l k → t' k ≡ t l

  pub tests_case : (enum : Source.Enum) (n : ℕ) → Tests enum (case_at n) (case_label enum n)
  tests_case enum n l k default_label = refl
  tests_case enum n l k (is_case e) = ap (case_at n) (sym e)

  pub tests_default : (enum : Source.Enum) → Tests enum is_default is_default
  tests_default enum l k default_label = refl
  tests_default enum l k (is_case e) = refl

  pub any_same : {enum : Source.Enum} {t' : Option ℕ → Bool} {t : Option Name → Bool} {ls : List (Option Name)} {ks : List (Option ℕ)} →
      Tests enum t' t → Aligned (IsLabel program core enum) ls ks → any_label t' ks ≡ any_label t ls
  any_same h none = refl
  any_same {t' = t'} {t = t} h (more {a = l} {b = k} {bs = ks} x xs) = ap (λ z. z || any_label t' ks) (h l k x) ∙ ap (λ z. t l || z)
      (any_same h xs)
