-- Locals by name, and their types.
use Rattle.std.proofs.Common.{◌≡◌, List, [], ◌∷◌, Option, Some, None, Bool, true, false, cond, refl, sym, ap, ◌∙◌, true≢false}
use Rattle.std.specs.Option.{option_map, is_some}
use Rattle.std.specs.Str.{bytes_eq}
use Rattle.mg_text.specs.Call.{Name}
use Rattle.jv_scope.specs.Named.{Named, named}
use Rattle.jv_rules.specs.Types.{ValueType}
use Rattle.jv_rules.specs.Scope.{Declared, declared_named}
use Rattle.jv_types.specs.declared.value_type.ValueType.{ValueType as KeptType}
use Rattle.jv_types.specs.inner.View.{type_seen}
use Rattle.jv_types.specs.inner.Locals.{declared_seen, locals_seen}

-- the one of a name is declared as it is kept
pub named_seen : (ns : List (Named KeptType)) (name : Name) → declared_named (locals_seen ns) name ≡ option_map declared_seen (named ns name)
named_seen [] name = refl
named_seen (n ∷ ns) name = go (bytes_eq n.name name) (named_seen ns name)
  where
    go : (b : Bool) → declared_named (locals_seen ns) name ≡ option_map declared_seen (named ns name) →
        cond b (Some (declared_seen n)) (declared_named (locals_seen ns) name) ≡ option_map declared_seen (cond b (Some n) (named ns name))
    go true h = refl
    go false h = h

-- what is made of the local of a name, where there is one
module _ {A : Type 0} (ns : List (Named KeptType)) (name : Name) (rest : A) (f : ValueType → A) where
  abbrev made : Option Declared → A
  made o = elim o [ None ↦ rest | Some d ↦ f d.type ]

  pub local_there : (ty : KeptType) → Some ty ≡ option_map (λ n. n.it) (named ns name) →
      f (type_seen ty) ≡ made (declared_named (locals_seen ns) name)
  local_there ty e = go (named ns name) e ∙ ap made (sym (named_seen ns name))
    where
      go : (p : Option (Named KeptType)) → Some ty ≡ option_map (λ n. n.it) p → f (type_seen ty) ≡ made (option_map declared_seen p)
      go None e = absurd (true≢false (ap is_some e))
      go (Some n) e = ap (λ (o : Option KeptType). elim o [ None ↦ rest | Some t ↦ f (type_seen t) ]) e

  pub local_missing : None ≡ option_map (λ (n : Named KeptType). n.it) (named ns name) → rest ≡ made (declared_named (locals_seen ns) name)
  local_missing e = go (named ns name) e ∙ ap made (sym (named_seen ns name))
    where
      go : (p : Option (Named KeptType)) → None ≡ option_map (λ (n : Named KeptType). n.it) p → rest ≡ made (option_map declared_seen p)
      go None e = refl
      go (Some n) e = absurd (true≢false (sym (ap is_some e)))

-- a local of a name is kept where one is declared
pub is_kept : (ns : List (Named KeptType)) (name : Name) → is_some (option_map (λ (n : Named KeptType). n.it) (named ns name)) ≡ is_some
    (declared_named (locals_seen ns) name)
is_kept ns name = go (named ns name) ∙ ap is_some (sym (named_seen ns name))
  where
    go : (p : Option (Named KeptType)) → is_some (option_map (λ (n : Named KeptType). n.it) p) ≡ is_some (option_map declared_seen p)
    go None = refl
    go (Some n) = refl

-- no local of a name is declared, and none is kept
pub not_named : (ns : List (Named KeptType)) (name : Name) → declared_named (locals_seen ns) name ≡ None → named ns name ≡ None
not_named ns name e = go (named ns name) (sym (named_seen ns name) ∙ e)
  where
    go : (p : Option (Named KeptType)) → option_map declared_seen p ≡ None → p ≡ None
    go None e = refl
    go (Some n) e = absurd (true≢false (ap is_some e))
