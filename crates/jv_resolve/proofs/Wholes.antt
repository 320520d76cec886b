-- The core of a program, from its tables and its parts.
use Rattle.std.proofs.Common.{◌≡◌, List, [], Option, Some, None, refl, sym, ap, ◌∙◌}
use Rattle.std.specs.Prelude.{◌≢◌}
use Rattle.mg_text.specs.Call.{Name}
use Rattle.ts_tree.specs.Typestate.{Typestate}
use Rattle.jv_rules.specs.Program.{Program}
use Rattle.jv_core.specs.Tree as Core
use Rattle.jv_resolve_law.specs.Tables.{◌>>=◌, Tables, tables_of}
use Rattle.jv_resolve_law.specs.Members.{Naming, enums, classes, methods, resolving}
use Rattle.jv_resolve.specs.declared.given.Unresolved.{Unresolved}
use Rattle.jv_resolve.specs.inner.Gives.{Fails}
use Rattle.jv_resolve.specs.inner.Naming.{naming}
use Rattle.jv_resolve.specs.inner.Wholes.{Headed, heads, headed, core_in}
use Rattle.jv_resolve.proofs.Chains.{fails_then, fails_as}

abbrev core_program : List Core.Class → List Core.Enum → List Core.Method → List Typestate → List Name → Core.Program
core_program cs es ms ts names = record { classes = cs; enums = es; methods = ms; typestates = ts; names = names }

-- ---- enums and classes

module _ (t : Tables) (none_yet : List Name) (is_none : none_yet ≡ []) (es : List Core.Enum) (ns : List Name)
    (made : enums none_yet t.enums ≡ Some (naming es ns)) where
  abbrev then_heads : List Core.Enum → Naming (List Core.Class) → Option Headed
  then_heads xs cs = Some (heads xs cs.it cs.names)

  abbrev then_classes : Naming (List Core.Enum) → Option Headed
  then_classes k = classes t k.names t.classes >>= then_heads k.it

  heads_opened : headed t ≡ (classes t ns t.classes >>= then_heads es)
  heads_opened = ap (λ xs. enums xs t.enums >>= then_classes) (sym is_none) ∙ ap (λ o. o >>= then_classes) made

  pub heads_fail : (err : Unresolved) → Fails err (classes t ns t.classes) → Fails err (headed t)
  heads_fail err h = fails_as err _ _ heads_opened (fails_then err (classes t ns t.classes) (then_heads es) h)

  pub heads_made : (cs : List Core.Class) (more : List Name) → classes t ns t.classes ≡ Some (naming cs more) →
      headed t ≡ Some (heads es cs more)
  heads_made cs more h = heads_opened ∙ ap (λ o. o >>= then_heads es) h

-- ---- methods

module _ (t : Tables) (ts : List Typestate) where
  abbrev then_core : Headed → Naming (List Core.Method) → Option Core.Program
  then_core h ms = Some (core_program h.classes h.enums ms.it ts ms.names)

  abbrev then_methods : Headed → Option Core.Program
  then_methods h = methods t h.names t.classes >>= then_core h

  pub core_heads_fail : (err : Unresolved) → Fails err (headed t) → Fails err (core_in t ts)
  core_heads_fail err h = fails_then err (headed t) then_methods h

  module _ (k : Headed) (known : headed t ≡ Some k) where
    core_opened : core_in t ts ≡ then_methods k
    core_opened = ap (λ o. o >>= then_methods) known

    pub core_methods_fail : (err : Unresolved) → Fails err (methods t k.names t.classes) → Fails err (core_in t ts)
    core_methods_fail err h = fails_as err _ _ core_opened (fails_then err (methods t k.names t.classes) (then_core k) h)

    pub core_made : (ms : List Core.Method) (later : List Name) (same : List Typestate) →
        methods t k.names t.classes ≡ Some (naming ms later) → same ≡ ts →
        core_in t ts ≡ Some (core_program k.classes k.enums ms same later)
    core_made ms later same h is = core_opened ∙ ap (λ o. o >>= then_core k) h ∙
        ap (λ xs. Some (core_program k.classes k.enums ms xs later)) (sym is)

-- ---- the program

then_grouped : {B C D : Type 0} (o : Option B) (g : B → C) (k : C → Option D) → (o >>= λ b. k (g b)) ≡ ((o >>= λ b. Some (g b)) >>= k)
then_grouped None g k = refl
then_grouped (Some b) g k = refl

grouped : {A B C D : Type 0} (o : Option A) (f : A → Option B) (g : A → B → C) (k : C → Option D) → (o >>= λ a. f a >>= λ b. k (g a b)) ≡
    ((o >>= λ a. f a >>= λ b. Some (g a b)) >>= k)
grouped None f g k = refl
grouped (Some a) f g k = then_grouped (f a) (g a) k

module _ (program : Program) where
  abbrev then_parts : Tables → Option Core.Program
  then_parts t =
      enums [] t.enums >>= λ es. classes t es.names t.classes >>= λ cs. methods t cs.names t.classes
      >>= λ ms. Some (core_program cs.it es.it ms.it program.typestates ms.names)

  pub tables_there : resolving program ≢ None → tables_of program ≢ None
  tables_there there none = there (ap (λ o. o >>= then_parts) none)

  pub whole_tabled : (t : Tables) → tables_of program ≡ Some t → resolving program ≡ core_in t program.typestates
  whole_tabled t tabled =
      ap (λ o. o >>= then_parts) tabled
      ∙ grouped (enums [] t.enums) (λ (es : Naming (List Core.Enum)). classes t es.names t.classes)
      (λ (es : Naming (List Core.Enum)) (cs : Naming (List Core.Class)). heads es.it cs.it cs.names) (then_methods t program.typestates)
