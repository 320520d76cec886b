-- What a class declares, by what its parts were found to be.
use Rattle.std.proofs.Common.{◌≡◌, List, map, ap, ◌∙◌}
use Rattle.std.specs.List.{filter}
use Rattle.mg_text.specs.Call.{Name}
use Rattle.cls_tree.specs.declared.class.Const.{Const}
use Rattle.cls_tree.specs.Tree.{Class as File, Member}
use Rattle.cls_tree.specs.Pool.{class_at}
use Rattle.vm_model.specs.Links.{Declared, Outline, declared, is_dynamic, or_empty, outline}

abbrev pub parts : Name → List Declared → List Declared → List Declared → Outline
parts name fields own methods = record { name = name; fields = fields; own = own; methods = methods }

module _ (c : File) (pool : List Const) (is_pool : pool ≡ c.pool) where
  declared_is : (ms ns : List Member) → ms ≡ ns → map (declared pool) ms ≡ map (declared c.pool) ns
  declared_is ms ns e = ap (λ p. map (declared p) ms) is_pool ∙ ap (map (declared c.pool)) e

  pub outline_is : (name : Name) (fields methods : List Member) (fs os ms : List Declared) → fields ≡ c.fields → methods ≡ c.methods →
      name ≡ or_empty (class_at pool c.this_class) → fs ≡ map (declared pool) fields → os ≡ filter is_dynamic fs →
      ms ≡ map (declared pool) methods →
      parts name fs os ms ≡ outline c
  outline_is name fields methods fs os ms e1 e2 e3 e4 e5 e6 =
      let f = e4 ∙ declared_is fields c.fields e1 in
      ap (λ n. parts n fs os ms) (e3 ∙ ap (λ p. or_empty (class_at p c.this_class)) is_pool)
      ∙ ap (λ o. parts (outline c).name fs o ms) (e5 ∙ ap (filter is_dynamic) f)
      ∙ ap (λ x. parts (outline c).name x (outline c).own ms) f
      ∙ ap (λ x. parts (outline c).name (outline c).fields (outline c).own x) (e6 ∙ declared_is methods c.methods e2)
