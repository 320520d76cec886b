use Rattle.std.proofs.Common.{List, ℕ, [], ◌∷◌, length, arith, ap, length-append, sym, subst}
use Rattle.std.proofs.lemmas.List.Elements.{All-push}
use Rattle.mg_sources.specs.Files.{Kind, EndsWith, suffix_of, HaveKinds}
use Rattle.lsp_tests.proofs.defining.adder.Goals as goal

abbrev HasKind : List ℕ → Type 0
HasKind name = (kind : Kind) × EndsWith (suffix_of kind) name

pub loop-name-preserved : goal.loop-name-preserved
loop-name-preserved c = (
  omega (
    arith,
    ap length c.in_ok-push.ensures.ok,
    ap length c.in_ok-push-2.ensures.ok,
    c.loop-name.invariant.0,
    length-append c.loop-name.names.items (c.in_ok-of.field-0 ∷ []),
    length-append c.loop-name.contents.items
        (c.in_ok-of-2.field-0 ∷ []),
  ),
  subst HaveKinds (sym c.in_ok-push.ensures.ok) (All-push HasKind c.loop-name.names.items c.in_ok-of.field-0 c.loop-name.invariant.1
      (subst HasKind (sym c.in_ok-of.ensures) (c.has_kind.ensures c.if-not-has_kind.false))),
)
