-- Statements that use the value of an expression, or its test, and those that print or drop one.
use Rattle.std.proofs.Common.{◌≡◌, ℕ, suc, ◌+◌, ◌≤◌, ◌<◌, Bool, true, false, List, [], ◌∷◌, ◌++◌, length, Option, Some, refl, sym, ap, ◌∙◌}
use Rattle.std.proofs.Common.{subst, arith}
use Rattle.std.specs.Prelude.{slice_get, slice_set, nat_eq, if◌then◌else◌, unwrap_or}
use Rattle.std.proofs.lemmas.Option.{slice_get_within}
use Rattle.jv_values.specs.Values.{Value, Row, Shared, Inputs, Here, Lives, find, put, Wrong}
use Rattle.jv_values.specs.Doing.{Run, Outcome, Gives, Ends, and_then, ◌>>=◌, give, stop, within, declared, found, valued, kept, note}
use Rattle.jv_values.specs.Statements.{Completion, Returns, Does, assigned, Normal}
use Rattle.jv_core.specs.declared.tree.Var.TheVariants as vars
use Rattle.jv_core.specs.declared.program.CoreType.{CoreType}
use Rattle.jv_core.specs.declared.program.CoreType.TheVariants as types
use Rattle.jv_core.specs.declared.program.MethodKind.{MethodKind}
use Rattle.jv_core.specs.Tree.{Expr, Method, Program}
use Rattle.jv_core.specs.Lookup.{slot_type}
use Rattle.jv_core.specs.Types.{IsVariable, Has, IsShown}
use Rattle.jv_core.specs.Conditions.{IsCore}
use Rattle.jv_core.specs.Meaning.{Lower, eval, value, test, write}
use Rattle.vm_model.specs.declared.value.Value.{Value as Held}
use Rattle.vm_model.specs.Program as linked
use Rattle.vm_model.specs.Links.{Outline}
use Rattle.vm_model.specs.Messages.{Messages}
use Rattle.vm_model.specs.Step.{step}
use Rattle.gen_rules.specs.Symbolic.{Instr, store, return_value, getstatic, invokevirtual}
use Rattle.gen_rules.specs.Locals.{first_local, next_local, local_of}
use Rattle.gen_rules.specs.Templates.{type_or_int, store_in}
use Rattle.gen_rules.specs.Templates as templates
use Rattle.gen_rules.specs.Around.{Around}
use Rattle.gen_rules.specs.Frames.{max_stack, max_locals, depths}
use Rattle.jv_sound.proofs.Worlds.{World, same_world, Fits, row_more, Finds, finds, Puts, puts, GivesA}
use Rattle.jv_sound.proofs.Worlds as worlds
use Rattle.jv_sound.proofs.Expressions.{CallsWell, eval_good}
use Rattle.jv_sound.proofs.Completions.{Living}
use Rattle.jv_sound.proofs.Executions.{On, on_more}
use Rattle.gen_sound.specs.Following.{Moment, Follows, Comes}
use Rattle.gen_sound.specs.Related.{Running, moment, flat, Laid, RunsCode, flat_given}
use Rattle.gen_sound.specs.Arriving.{Arrives}
use Rattle.gen_sound.specs.Standing.{HoldsRow}
use Rattle.gen_sound.proofs.Plain.{IsPlain}
use Rattle.gen_sound.proofs.Calling.{CallsDo}
use Rattle.gen_sound.proofs.Forms.{Does as DoesForms, Unless_at, When_at, next_place}
use Rattle.gen_sound.proofs.Slots.{as_long, laid_at}
use Rattle.gen_sound.proofs.Rows.{fits_sort, laid_more, laid_put, PutAt}
use Rattle.gen_sound.proofs.Expressions.{expression_does, takes_room, shown_room}
use Rattle.gen_sound.proofs.Completing.{Stand, Complete, Placed, DoesHere, goes_on, value_then, test_then, uncovers, stored, row_set}
use Rattle.gen_sound.proofs.Completing.{completes_closed}
use Rattle.gen_sound.proofs.Control.{UnlessStand, WhenStand}
use Rattle.mg_text.specs.declared.event.Event.TheVariants as seen
use Rattle.jv_values.specs.Operators.{shown, print}
use Rattle.vm_model.specs.declared.value.Value.TheVariants as held
use Rattle.gen_rules.specs.Members.{out_reference, println_reference}
use Rattle.gen_rules.specs.Typed.{type_of}
use Rattle.jv_sound.proofs.Operators.{shows, Shows}
use Rattle.jv_sound.proofs.Objects.{Heap}
use Rattle.gen_sound.proofs.Steps.{comes_on, ClosedBefore, follows_later}
use Rattle.gen_sound.proofs.Peers.{seen_holds}
use Rattle.gen_sound.proofs.Printing.{shown_type, void_type, pops, text_comes, out_goes, println_goes, pop_goes, work_then, given_then}

then_give : {A : Type 0} (o : Outcome (Lives ℕ) A) → and_then o give ≡ o
then_give (Gives a s) = refl
then_give (Ends f es) = refl

pub over_none : (k room : ℕ) → k ≤ room → length {A = Held} [] + k ≤ room
over_none k room h = omega (arith, h)

itself : (k : ℕ) → nat_eq k k ≡ true
itself k = grind arith

-- the local of a slot that was just declared
declared_local : (kind : MethodKind) (sc : List ℕ) (k : ℕ) → local_of kind (k ∷ sc) k ≡ next_local kind sc
declared_local kind sc k = ap (λ b. if b then next_local kind sc else local_of kind sc k) (itself k)

over_one : (k room : ℕ) → suc k ≤ room → length {A = Held} (held.Out ∷ []) + k ≤ room
over_one k room h = omega (arith, h)

two_fit : (k room : ℕ) → suc k ≤ room → 1 ≤ k → length {A = Held} (held.Out ∷ []) + 1 ≤ room
two_fit k room h g = omega (arith, h, g)

module _ (p : Program) (ok : IsCore p) (os : List Outline) (program : linked.Program) (inputs : Inputs) (me : ℕ) (r : Running) (m : Method)
    (code : List Instr) (runs : RunsCode p os program me r m code) (this : Option ℕ) (n : ℕ) (sc : List ℕ) (low : Lower)
    (well : CallsWell p ok low) (may : List ℕ)
    (calls : CallsDo p ok os program inputs me may (suc n) low) (number : ℕ) (at : slice_get p.methods number ≡ Some m) where
  abbrev here : Here ℕ
  here = record { class = m.class; object = this }

  abbrev S : (place : ℕ) → Moment → Lives ℕ → Type 0
  S = Stand p ok os program inputs me r m code runs this

  abbrev C : List Around → (to : ℕ) → Moment → Completion ℕ → Lives ℕ → Type 0
  C = Complete p ok os program inputs me r m code runs this

  abbrev F : {A : Type 0} → (Moment → A → Lives ℕ → Type 0) → Moment → Outcome (Lives ℕ) A → Type 0
  F R c o = Follows (step program me) (suc n) R c o

  abbrev Does_here : {A : Type 0} → (List ℕ) → (Moment → A → Lives ℕ → Type 0) → (from : ℕ) → Run (Lives ℕ) A → Type 0
  Does_here scope R from run = DoesHere p ok os program inputs me r m code runs this (suc n) scope R from run

  abbrev Place : (w : World) → Lives ℕ → List (Option Held) → Messages → Type 0
  Place = Placed p ok os program inputs me r m code runs this sc

  -- the code of an expression, over these locals
  pub forms_do : (e : Expr) (t : CoreType) → Has p m sc e t → IsPlain may e → (w : World) (s : Lives ℕ) (ls : List (Option Held))
      (q : Messages) →
      Place w s ls q →
      DoesForms p ok os program inputs me r m code runs (suc n) w ls (templates.forms p m code sc e)
      (eval p inputs low number here s.locals e) (depths p m e)
  forms_do e t h plain w s ls q a =
      expression_does p ok os program inputs me r m code runs (suc n) low well may calls number at this ls a.row.object h plain w a.mine
      a.living.locals a.row.laid

  -- a value over these operands, and what uses it
  pub used : {A : Type 0} (R : Moment → A → Lives ℕ → Type 0) (e : Expr) (t : CoreType) → Has p m sc e t → IsPlain may e → (from to : ℕ)
      (st : List Held) → templates.value p m code sc e from to → length st + (depths p m e).value ≤ max_stack p m →
      (f : Value → Run (Lives ℕ) A) → (w : World) (s : Lives ℕ) (ls : List (Option Held)) (q : Messages) → Place w s ls q →
      ((x : World) (v : Value) (u : Shared) → On p ok m this x → Living p ok m sc x (record { locals = s.locals; shared = u }) →
      Fits p x v t → Arrives p program inputs me r to (st ++ flat v ∷ []) ls (moment p r from st ls s.shared q) u →
      F R (moment p r from st ls s.shared q) (f v (record { locals = s.locals; shared = u }))) →
      F R (moment p r from st ls s.shared q) ((value p inputs low number here e >>= f) s)
  used R e t h plain from to st stands room f w s ls q a k =
      value_then p ok os program inputs me r m code runs this (suc n) R ls to st (moment p r from st ls s.shared q) w t s.locals
      (eval p inputs low number here s.locals e s.shared) f
      ((eval_good p ok inputs low well number m at this h w a.mine a.living.locals).run w (same_world w) s.shared a.living.shared)
      ((forms_do e t h plain w s ls q a).value from to st w s.shared q stands room (same_world w) a.living.shared a.holds)
      (λ x v u g fits heap arrives. k x v u (on_more p ok m this g a.mine)
      (record { locals = row_more p m g a.living.locals; shared = heap }) fits arrives)

  unless_stand : (target to : ℕ) (ls : List (Option Held)) (c : Moment) (row : Row ℕ) (b : Bool) (u : Shared) → HoldsRow m this row ls →
      Unless_at p ok os program inputs me r m code runs (suc n) ls target to [] c b u →
      UnlessStand p ok os program inputs me r m code runs this n sc target to c b (record { locals = row; shared = u })
  unless_stand target to ls c row true u h a = record { locals = ls; row = h; arrives = a }
  unless_stand target to ls c row false u h a = record { locals = ls; row = h; jumps = a }

  when_stand : (target to : ℕ) (ls : List (Option Held)) (c : Moment) (row : Row ℕ) (b : Bool) (u : Shared) → HoldsRow m this row ls →
      When_at p ok os program inputs me r m code runs (suc n) ls target to [] c b u →
      WhenStand p ok os program inputs me r m code runs this n sc target to c b (record { locals = row; shared = u })
  when_stand target to ls c row true u h a = record { locals = ls; row = h; jumps = a }
  when_stand target to ls c row false u h a = record { locals = ls; row = h; arrives = a }

  -- the test of a branch or a loop
  pub test_unless : (e : Expr) → Has p m sc e types.Boolean → IsPlain may e → (target from to : ℕ) →
      templates.unless p m code sc e target from to → (depths p m e).jump ≤ max_stack p m →
      Does_here sc (UnlessStand p ok os program inputs me r m code runs this n sc target to) from (test p inputs low number here e)
  test_unless e h plain target from to stands room = record {
    does = λ w s ls q a. subst (F (UnlessStand p ok os program inputs me r m code runs this n sc target to)
        (moment p r from [] ls s.shared q))
        (then_give (test p inputs low number here e s))
        (test_then p ok os program inputs me r m code runs this (suc n)
        (UnlessStand p ok os program inputs me r m code runs this n sc target to)
        (Unless_at p ok os program inputs me r m code runs (suc n) ls target to []) (moment p r from [] ls s.shared q) w types.Boolean
        s.locals (eval p inputs low number here s.locals e s.shared) give
        ((eval_good p ok inputs low well number m at this h w a.mine a.living.locals).run w (same_world w) s.shared a.living.shared)
        ((forms_do e types.Boolean h plain w s ls q a).unless target from to [] w s.shared q stands (over_none _ _ room) (same_world w)
        a.living.shared a.holds)
        (λ x b u g heap at. unless_stand target to ls (moment p r from [] ls s.shared q) s.locals b u a.row at));
  }

  pub test_when : (e : Expr) → Has p m sc e types.Boolean → IsPlain may e → (target from to : ℕ) →
      templates.when p m code sc e target from to → (depths p m e).jump ≤ max_stack p m →
      Does_here sc (WhenStand p ok os program inputs me r m code runs this n sc target to) from (test p inputs low number here e)
  test_when e h plain target from to stands room = record {
    does = λ w s ls q a. subst (F (WhenStand p ok os program inputs me r m code runs this n sc target to)
        (moment p r from [] ls s.shared q))
        (then_give (test p inputs low number here e s))
        (test_then p ok os program inputs me r m code runs this (suc n)
        (WhenStand p ok os program inputs me r m code runs this n sc target to)
        (When_at p ok os program inputs me r m code runs (suc n) ls target to []) (moment p r from [] ls s.shared q) w types.Boolean
        s.locals (eval p inputs low number here s.locals e s.shared) give
        ((eval_good p ok inputs low well number m at this h w a.mine a.living.locals).run w (same_world w) s.shared a.living.shared)
        ((forms_do e types.Boolean h plain w s ls q a).when target from to [] w s.shared q stands (over_none _ _ room) (same_world w)
        a.living.shared a.holds)
        (λ x b u g heap at. when_stand target to ls (moment p r from [] ls s.shared q) s.locals b u a.row at));
  }

  store_at : (place k i : ℕ) (t : CoreType) → slice_get code place ≡ Some (store (type_or_int (slot_type m k)) i) →
      slot_type m k ≡ Some t → slice_get code place ≡ Some (store t i)
  store_at place k i t e is = e ∙ ap (λ x. Some (store (type_or_int x) i)) is

  -- a declaration, and the code in its scope
  pub declares : (k : ℕ) (e : Expr) (t : CoreType) → slot_type m k ≡ Some t → Has p m sc e t → IsPlain may e → (ts : List Around)
      (from mid in_scope to : ℕ) → templates.value p m code sc e from mid → store_in p m code (k ∷ sc) k mid in_scope →
      (depths p m e).value ≤ max_stack p m → next_local m.kind sc < max_locals m → (rest : Does ℕ) →
      Does_here (k ∷ sc) (C ts to) in_scope rest →
      Does_here sc (C ts to) from (value p inputs low number here e >>= λ v. declared k v rest)
  declares k e t is h plain ts from mid in_scope to stands_value stands_store room free rest d = record {
    does = λ w s ls q a. used (C ts to) e t h plain from mid [] stands_value (over_none _ _ room) (λ v. declared k v rest) w s ls q a
        (λ x v u mine living fits arrives.
        let place : ℕ = next_local m.kind sc in
        let inside : place < length ls = subst (λ j. place < j) (sym a.row.many) free in
        let long : length s.locals ≡ length sc = as_long p m living.locals in
        let set : List (Option Held) = slice_set ls place (Some (flat v)) in
        let laid : Laid (first_local m.kind) ((k, v) ∷ s.locals) set =
        subst (λ j. Laid (first_local m.kind) ((k, v) ∷ s.locals) (slice_set ls (first_local m.kind + j) (Some (flat v)))) long
        (laid_more (first_local m.kind) s.locals ls k v (subst (λ j. first_local m.kind + j < length ls) (sym long) inside) a.row.laid) in
        let code_at : slice_get code mid ≡ Some (store t place) =
        store_at mid k place t (subst (λ j. slice_get code mid ≡ Some (store (type_or_int (slot_type m k)) j)) (declared_local m.kind sc k)
        stands_store.0) is in
        uncovers p ok os program inputs me r m code runs this (suc n) ts to (moment p r from [] ls s.shared q)
        (rest (record { locals = (k, v) ∷ s.locals; shared = u }))
        (goes_on p ok os program inputs me r m code runs this (suc n) (k ∷ sc) (C ts to)
        (completes_closed p ok os program inputs me r m code runs this ts to) in_scope rest d (moment p r from [] ls s.shared q) x
        (record { locals = (k, v) ∷ s.locals; shared = u }) mine
        (record { locals = worlds.more is fits living.locals; shared = living.shared })
        (stored p ok os program inputs me r m code runs this mid in_scope place t ls v (moment p r from [] ls s.shared q)
        ((k, v) ∷ s.locals) u
        code_at stands_store.1 inside (fits_sort p x v t fits)
        (row_set m this s.locals ((k, v) ∷ s.locals) ls place (Some (flat v)) a.row (omega arith) laid) arrives)));
  }

  -- an assignment of a local
  pub assigns : (k : ℕ) (e : Expr) (t : CoreType) → IsVariable p m sc (vars.Slot k) t → Has p m sc e t → IsPlain may e → (ts : List Around)
      (from mid to : ℕ) → templates.value p m code sc e from mid → store_in p m code sc k mid to → (depths p m e).value ≤ max_stack p m →
      Does_here sc (C ts to) from (value p inputs low number here e >>= write p inputs low number here (vars.Slot k))
  assigns k e t is h plain ts from mid to stands_value stands_store room = record {
    does = λ w s ls q a. used (C ts to) e t h plain from mid [] stands_value (over_none _ _ room)
        (write p inputs low number here (vars.Slot k)) w s ls q a
        (λ x v u mine living fits arrives.
        let place : ℕ = local_of m.kind sc k in
        let had : Finds p x t (find nat_eq k s.locals) = finds p m k living.locals is.visible is.type in
        let new : Puts p m x sc (put nat_eq k v s.locals) = puts p m k v living.locals is.visible is.type fits in
        let inside : place < length ls =
        slice_get_within ls place _ (laid_at p m m.kind k had.value ls living.locals a.row.laid had.is) in
        let at : PutAt (first_local m.kind) ls place v s.locals new.row =
        laid_put p m m.kind k v ls new.row living.locals a.row.laid new.is inside in
        subst (λ o. F (C ts to) (moment p r from [] ls s.shared q)
        (assigned o (within (λ locals. stop Wrong)) (record { locals = s.locals; shared = u }))) (sym new.is)
        (stored p ok os program inputs me r m code runs this mid to place t ls v (moment p r from [] ls s.shared q) new.row u
        (store_at mid k place t stands_store.0 is.type) stands_store.1 inside (fits_sort p x v t fits)
        (row_set m this s.locals new.row ls place (Some (flat v)) a.row at.above at.laid) arrives));
  }

  -- a return of a value
  pub returns : (e : Expr) → Has p m sc e m.result → IsPlain may e → (ts : List Around) (from mid to : ℕ) →
      templates.value p m code sc e from mid → slice_get code mid ≡ Some (return_value m.result) → (depths p m e).value ≤ max_stack p m →
      Does_here sc (C ts to) from (value p inputs low number here e >>= λ v. give (Returns (Some v)))
  returns e h plain ts from mid to stands_value at_return room = record {
    does = λ w s ls q a. used (C ts to) e m.result h plain from mid [] stands_value (over_none _ _ room) (λ v. give (Returns (Some v))) w s
        ls q a
        (λ x v u mine living fits arrives. record { place = mid; locals = ls; at = at_return; arrives = arrives });
  }

  closed : (ts : List Around) (to : ℕ) → ClosedBefore (step program me) (C ts to)
  closed ts to = completes_closed p ok os program inputs me r m code runs this ts to

  -- a text is printed, and the machine stands behind it
  printed : (place to : ℕ) (ts : List Around) (row : Row ℕ) (ls : List (Option Held)) (c : Moment) (t : List ℕ) (u : Shared) →
      slice_get code place ≡ Some (invokevirtual println_reference) → to ≡ suc place → HoldsRow m this row ls →
      Arrives p program inputs me r place (held.Out ∷ held.Text t ∷ []) ls c u →
      S to c (record { locals = row; shared = record u { events = u.events ++ seen.Print t ∷ [] } })
  printed place to ts row ls c t u code_at e h a =
      next_place p ok os program inputs me r m code runs 0
      (λ k. S k c (record { locals = row; shared = record u { events = u.events ++ seen.Print t ∷ [] } })) place to e
      (record {
        locals = ls;
        row = h;
        arrives = record {
          messages = a.messages;
          comes = comes_on (step program me) c (moment p r place (held.Out ∷ held.Text t ∷ []) ls u a.messages)
              (moment p r (place + 1) [] ls (record u { events = u.events ++ seen.Print t ∷ [] }) a.messages) a.comes
              (println_goes p ok os program inputs me r m code runs place t ls u a.messages code_at).comes;
          holds = seen_holds inputs a.messages me u.events (seen.Print t) (λ peer. refl) a.holds;
        };
      })

  pub prints : (e : Expr) (t : CoreType) → Has p m sc e t → IsShown t → IsPlain may e → (ts : List Around) (from first mid last to : ℕ) →
      slice_get code from ≡ Some (getstatic out_reference) → first ≡ suc from → templates.value p m code sc e first mid →
      templates.text p m code (type_of p m e) mid last → slice_get code last ≡ Some (invokevirtual println_reference) → to ≡ suc last →
      suc (depths p m e).value ≤ max_stack p m →
      Does_here sc (C ts to) from (within (λ locals. valued (eval p inputs low number here locals e) >>= print) >>= λ done. give Normal)
  prints e t h shown_too plain ts from first mid last to at_out next stands_value stands_text at_print behind room = record {
    does = λ w s ls q a.
        let start : Moment = moment p r from [] ls s.shared q in
        let c : Moment = moment p r first (held.Out ∷ []) ls s.shared q in
        let some : 1 ≤ (depths p m e).value = takes_room p m h (shown_room t shown_too) in
        follows_later (step program me) (suc n) (C ts to) (closed ts to) start c
        ((within (λ locals. valued (eval p inputs low number here locals e) >>= print) >>= λ done. give Normal) s)
        (next_place p ok os program inputs me r m code runs 0
        (λ k. Comes (step program me) start (moment p r k (held.Out ∷ []) ls s.shared q))
        from first next (out_goes p ok os program inputs me r m code runs from ls s.shared q at_out (omega (arith, room))).comes)
        (work_then p ok os program inputs me r m code runs (suc n) (C ts to) ls mid (held.Out ∷ []) c w t s.locals
        (eval p inputs low number here s.locals e s.shared) print (λ done. give Normal)
        ((eval_good p ok inputs low well number m at this h w a.mine a.living.locals).run w (same_world w) s.shared a.living.shared)
        ((forms_do e t h plain w s ls q a).value first mid
        (held.Out ∷ []) w s.shared q stands_value (over_one _ _ room) (same_world w) a.living.shared a.holds)
        (λ x v u g fits heap arrives.
        let told : Shows p (Heap p ok) v = shows p (Heap p ok) x v t shown_too fits in
        let came : Comes (step program me) (moment p r mid (held.Out ∷ flat v ∷ []) ls u arrives.messages)
        (moment p r last (held.Out ∷ held.Text (unwrap_or (shown v) []) ∷ []) ls u arrives.messages) =
        text_comes p ok os program inputs me r m code runs t shown_too x v fits mid last
        (subst (λ o. templates.text p m code o mid last) (shown_type p m sc e t shown_too h) stands_text) (held.Out ∷ []) ls u
        arrives.messages (two_fit _ _ room some) in
        subst (λ o. F (C ts to) c (and_then (kept s.locals ((found o >>= λ t. note (seen.Print t)) u)) (λ done. give Normal))) (sym told.is)
        (printed last to ts s.locals ls c told.text u at_print behind a.row
        (subst (λ o. Arrives p program inputs me r last (held.Out ∷ held.Text (unwrap_or o []) ∷ []) ls c u) told.is (record {
          messages = arrives.messages;
          comes = comes_on (step program me) c (moment p r mid (held.Out ∷ flat v ∷ []) ls u arrives.messages)
              (moment p r last (held.Out ∷ held.Text (unwrap_or (shown v) []) ∷ []) ls u arrives.messages) arrives.comes came;
          holds = arrives.holds;
        })))));
  }

  -- a call without a result leaves nothing
  nothing_dropped : (e : Expr) → Has p m sc e types.Void → {place to : ℕ} → templates.discard p m code (type_of p m e) place to → to ≡ place
  nothing_dropped e h {place} {to} d =
      subst (λ o. templates.discard p m code o place to) (void_type p m sc e h) d

  -- what is given is dropped, where there is something
  dropped : (e : Expr) (t : CoreType) → Has p m sc e t → IsPlain may e → (ts : List Around) (place to : ℕ) →
      templates.discard p m code (type_of p m e) place to → (row : Row ℕ) (ls : List (Option Held)) (c : Moment) → HoldsRow m this row ls →
      (x : World) (v : Option Value) (u : Shared) → GivesA p x v t → Arrives p program inputs me r place (flat_given v) ls c u →
      S to c (record { locals = row; shared = u })
  dropped e t h plain ts place to stands row ls c holds x v u (worlds.value {v = v'} f) a =
      let code_at = pops p m code sc e x v' t h f place to stands in
      next_place p ok os program inputs me r m code runs 0 (λ k. S k c (record { locals = row; shared = u })) place to code_at.1
      (record {
        locals = ls;
        row = holds;
        arrives = record {
          messages = a.messages;
          comes = comes_on (step program me) c (moment p r place (flat v' ∷ []) ls u a.messages)
              (moment p r (place + 1) [] ls u a.messages) a.comes
              (pop_goes p ok os program inputs me r m code runs place (flat v') ls u a.messages code_at.0).comes;
          holds = a.holds;
        };
      })
  dropped e t h plain ts place to stands row ls c holds x v u worlds.nothing a =
      subst (λ k. S k c (record { locals = row; shared = u })) (sym (nothing_dropped e h stands))
      (record { locals = ls; row = holds; arrives = a })

  pub drops : (e : Expr) (t : CoreType) → Has p m sc e t → IsPlain may e → (ts : List Around) (from mid to : ℕ) →
      templates.value p m code sc e from mid → templates.discard p m code (type_of p m e) mid to → (depths p m e).value ≤ max_stack p m →
      Does_here sc (C ts to) from (within (λ locals. eval p inputs low number here locals e) >>= λ v. give Normal)
  drops e t h plain ts from mid to stands_value stands_drop room = record {
    does = λ w s ls q a. given_then p ok os program inputs me r m code runs (suc n) (C ts to) ls mid [] (moment p r from [] ls s.shared q) w
        t
        s.locals (eval p inputs low number here s.locals e s.shared) (λ v. give Normal)
        ((eval_good p ok inputs low well number m at this h w a.mine a.living.locals).run w (same_world w) s.shared a.living.shared)
        ((forms_do e t h plain w s ls q a).value from mid []
        w s.shared q
        stands_value (over_none _ _ room) (same_world w) a.living.shared a.holds)
        (λ x v u g given heap arrives. dropped e t h plain ts mid to stands_drop s.locals ls (moment p r from [] ls s.shared q) a.row x v u
        given
        arrives);
  }
