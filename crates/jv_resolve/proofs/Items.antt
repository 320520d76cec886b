-- Statements of blocks: declarations, and others.
use Rattle.std.proofs.Common.{◌≡◌, List, Option, Some, None, refl, sym, ap, ◌∙◌}
use Rattle.std.specs.Prelude.{Result, Ok, Err, OnOk}
use Rattle.std.specs.Option.{option_map}
use Rattle.jv_tree.specs.Source
use Rattle.jv_core.specs.Tree as Core
use Rattle.jv_resolve_law.specs.Tables.{◌>>=◌, Tables}
use Rattle.jv_resolve_law.specs.Expressions.{Known, Standing}
use Rattle.jv_resolve_law.specs.Statements.{Counted, Counting, Around, Item, stmt, local, declared}
use Rattle.jv_resolve.specs.declared.given.Unresolved.{Unresolved}
use Rattle.jv_resolve.specs.inner.Counted.{counting, itemed, item_at}
use Rattle.jv_resolve.specs.inner.Gives.{Gives}
use Rattle.jv_resolve.specs.inner.WrittenLocal.{WrittenLocal, written_in, local_item}
use Rattle.jv_resolve.proofs.Chains.{fails_map}

abbrev same_scope : List Known → Option (Counting Core.Stmt) → Option Item
same_scope locals r = option_map (λ a. itemed a.it locals a.so_far) r

same_written : (v w : WrittenLocal) → Some v ≡ Some w → v ≡ w
same_written v w e = cc

module _ (tables : Tables) (at : Standing) (around : List Around) (locals : List Known) (s : Counted) where
  pub item_local : (t : Source.Stmt) (w : WrittenLocal) → written_in t ≡ Some w → item_at tables at t around locals s ≡ local_item tables at
      w locals s
  item_local (Source.Local p ty name e) w h = ap (λ v. local_item tables at v locals s) (same_written _ w h)
  item_local (Source.Block p b end) w h = let no : ⊥ = cc in absurd no
  item_local (Source.Empty p) w h = let no : ⊥ = cc in absurd no
  item_local (Source.Assign p a b) w h = let no : ⊥ = cc in absurd no
  item_local (Source.If p c a) w h = let no : ⊥ = cc in absurd no
  item_local (Source.IfElse p c a b) w h = let no : ⊥ = cc in absurd no
  item_local (Source.While p l c a) w h = let no : ⊥ = cc in absurd no
  item_local (Source.Do p l a c) w h = let no : ⊥ = cc in absurd no
  item_local (Source.Switch p e gs end) w h = let no : ⊥ = cc in absurd no
  item_local (Source.Break p l) w h = let no : ⊥ = cc in absurd no
  item_local (Source.Continue p l) w h = let no : ⊥ = cc in absurd no
  item_local (Source.Return p v) w h = let no : ⊥ = cc in absurd no
  item_local (Source.Print p e) w h = let no : ⊥ = cc in absurd no
  item_local (Source.Eval p e) w h = let no : ⊥ = cc in absurd no

  pub item_other : (t : Source.Stmt) → written_in t ≡ None → item_at tables at t around locals s ≡ same_scope locals
      (stmt tables at t around locals s)
  item_other (Source.Local p ty name e) h = let no : ⊥ = cc in absurd no
  item_other (Source.Block p b end) h = refl
  item_other (Source.Empty p) h = refl
  item_other (Source.Assign p a b) h = refl
  item_other (Source.If p c a) h = refl
  item_other (Source.IfElse p c a b) h = refl
  item_other (Source.While p l c a) h = refl
  item_other (Source.Do p l a c) h = refl
  item_other (Source.Switch p e gs end) h = refl
  item_other (Source.Break p l) h = refl
  item_other (Source.Continue p l) h = refl
  item_other (Source.Return p v) h = refl
  item_other (Source.Print p e) h = refl
  item_other (Source.Eval p e) h = refl

-- a statement that leaves the scope as it was
pub in_same_scope : {X : Type 0} (see : X → Core.Stmt) (r : Result X Unresolved) (old new : List Known) (s : Counted)
    (o : Option (Counting Core.Stmt)) → Gives (λ x. counting (see x) s) r o → OnOk r (new ≡ old) →
    Gives (λ x. itemed (see x) new s) r (same_scope old o)
in_same_scope see (Ok x) old new s o h same = ap (same_scope old) h ∙ ap (λ ls. Some (itemed (see x) ls s)) (sym same)
in_same_scope see (Err e) old new s o h same = fails_map e o (λ a. itemed a.it old a.so_far) h

-- a declaration of a block
module _ (tables : Tables) (at : Standing) (w : WrittenLocal) (locals : List Known) (s : Counted) where
  abbrev kept : Option (Counting Known × Core.Stmt)
  kept = local tables at w.place w.ty w.name w.value locals s

  abbrev in_scope : Counting Known × Core.Stmt → Option Item
  in_scope k = declared k.0.it locals >>= λ more. Some (itemed k.1 more k.0.so_far)
