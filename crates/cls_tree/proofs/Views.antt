-- What the view makes of each kind of attribute.
use Rattle.std.proofs.Common.{◌≡◌, ℕ, List, map, sym, ap, ◌∙◌}
use Rattle.std.proofs.lemmas.Simd.{map-map}
use Rattle.cls_tree.specs.declared.class.Code.{Code as KeptCode, fold-roll-Code, fold-Code}
use Rattle.cls_tree.specs.declared.class.Attr.{fold-roll-Attr}
use Rattle.cls_tree.specs.declared.class.Attr.TheOpen.Attr-F.{Code as F-Code, Other as F-Other}
use Rattle.cls_tree.specs.declared.class.Attr.TheVariants.{Code as KeptCoded, Other as KeptOther, rolls-Code, rolls-Other}
use Rattle.cls_tree.specs.Tree.{Code, Coded, Other, Misplaced, Unread}
use Rattle.cls_tree.specs.View.{Said, layer, code_layer, said_by, instrs_of, code_of, inner_of, attr_of}

code_folds : (c : KeptCode) → fold-Code Said Code layer code_layer c ≡ code_of c
unfolding said_by
code_folds c =
    fold-roll-Code Said Code layer code_layer (record {
      name = c.name;
      max_stack = c.max_stack;
      max_locals = c.max_locals;
      instrs =
          c.instrs;
      attributes = c.attributes;
    })
    ∙ ap (λ inner. record {
      name = c.name;
      max_stack = c.max_stack;
      max_locals = c.max_locals;
      instrs = instrs_of c.instrs.items;
      attributes = inner;
    })
    (map-map (λ (s : Said). s.inside) said_by c.attributes.items)

pub said-Code : (c : KeptCode) → said_by (KeptCoded c) ≡ record { outside = Coded (code_of c); inside = Misplaced }
unfolding said_by
said-Code c =
    ap said_by (sym (rolls-Code c)) ∙ fold-roll-Attr Said Code layer code_layer (F-Code c)
    ∙ ap (λ k. record { outside = Coded k; inside = Misplaced }) (code_folds c)

pub said-Other : (name : ℕ) (bytes : List ℕ) → said_by (KeptOther name bytes) ≡ record {
  outside = Other name bytes;
  inside =
      Unread name bytes;
}
unfolding said_by
said-Other name bytes = ap said_by (sym (rolls-Other name bytes)) ∙ fold-roll-Attr Said Code layer code_layer (F-Other name bytes)

pub attr-Code : (c : KeptCode) → attr_of (KeptCoded c) ≡ Coded (code_of c)
attr-Code c = ap (λ (s : Said). s.outside) (said-Code c)

pub attr-Other : (name : ℕ) (bytes : List ℕ) → attr_of (KeptOther name bytes) ≡ Other name bytes
attr-Other name bytes = ap (λ (s : Said). s.outside) (said-Other name bytes)

pub inner-Code : (c : KeptCode) → inner_of (KeptCoded c) ≡ Misplaced
inner-Code c = ap (λ (s : Said). s.inside) (said-Code c)

pub inner-Other : (name : ℕ) (bytes : List ℕ) → inner_of (KeptOther name bytes) ≡ Unread name bytes
inner-Other name bytes = ap (λ (s : Said). s.inside) (said-Other name bytes)

pub ruleset views = (attr-Code, attr-Other, inner-Code, inner-Other)
