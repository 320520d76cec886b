-- The code of plain statements does what they mean.
use Rattle.std.proofs.Common.{◌≡◌, ℕ, suc, ◌≤◌, max, Bool, true, false, List, [], ◌∷◌, Option, Some, None, refl, sym, subst, arith, ◌∙◌}
use Rattle.std.specs.Prelude.{slice_get, if◌then◌else◌, length, ◌+◌}
use Rattle.jv_values.specs.Values.{Value, Row, Shared, Inputs, Here, Lives}
use Rattle.jv_values.specs.Values as values
use Rattle.jv_values.specs.Doing.{◌>>=◌, and_then, give, kept, valued, truth}
use Rattle.jv_values.specs.Statements.{Completion, Normal, Breaks, Continues, Returns, Does, any_label, next_do}
use Rattle.jv_core.specs.declared.tree.Var.{Var}
use Rattle.jv_core.specs.declared.tree.Var.TheVariants as vars
use Rattle.jv_core.specs.declared.program.CoreType.{CoreType}
use Rattle.jv_core.specs.declared.program.CoreType.TheVariants as types
use Rattle.jv_core.specs.Tree.{Expr, Stmt, While, Do}
use Rattle.jv_core.specs.Tree.{Stmts, Groups, Method, Program}
use Rattle.jv_core.specs.Lookup.{field_type}
use Rattle.jv_core.specs.Types.{IsVariable, Has}
use Rattle.jv_core.specs.Statements.{Target, LoopOf, ASwitch, Fine, FineAll, FineGroups}
use Rattle.jv_core.specs.Statements
use Rattle.jv_core.specs.Conditions.{IsMethod, IsCore}
use Rattle.jv_core.specs.Meaning.{Lower, eval, test, value, write, exec, exec_all, exec_groups, exec_from}
use Rattle.vm_model.specs.declared.value.Value.{Value as Held}
use Rattle.vm_model.specs.declared.value.Value.TheVariants as held
use Rattle.vm_model.specs.Program as linked
use Rattle.vm_model.specs.Links.{Outline}
use Rattle.vm_model.specs.Step.{step}
use Rattle.gen_rules.specs.Symbolic.{Instr, goto, putfield, return}
use Rattle.gen_rules.specs.Members.{field_reference}
use Rattle.gen_rules.specs.Locals.{next_local}
use Rattle.gen_rules.specs.Around.{Around}
use Rattle.gen_rules.specs.Around as around
use Rattle.gen_rules.specs.Templates.{statement, statements, groups, assign}
use Rattle.gen_rules.specs.Templates as templates
use Rattle.gen_rules.specs.Cases.{group_at}
use Rattle.gen_rules.specs.Typed.{type_of}
use Rattle.gen_rules.proofs.Types.{types_agree}
use Rattle.gen_rules.specs.Frames.{max_stack, max_locals, depths, depth_of_assignment, depth_of, depth_of_all, depth_of_groups}
use Rattle.gen_rules.specs.Frames.{locals_of, locals_of_all, locals_of_groups}
use Rattle.jv_sound.proofs.Worlds.{World, Runs, runs_then, Fits}
use Rattle.jv_sound.proofs.Completions.{Living, within_runs}
use Rattle.jv_sound.proofs.Objects.{Heap, Owned}
use Rattle.jv_sound.proofs.Operators.{truth_runs}
use Rattle.jv_sound.proofs.Expressions.{value_good}
use Rattle.jv_sound.proofs.Executions.{On, on_more, Lowers, exec_good, all_good}
use Rattle.jv_sound.proofs.Lists.{some_is}
use Rattle.gen_sound.specs.Following.{Moment, Comes, Follows}
use Rattle.gen_sound.specs.Related.{Running, moment, flat, LaidObject, RunsCode}
use Rattle.gen_sound.proofs.Plain.{IsPlain, IsPlainStmt, ArePlain, ArePlainGroups}
use Rattle.gen_sound.specs.Arriving.{Arrives}
use Rattle.gen_sound.specs.Standing.{HoldsRow}
use Rattle.gen_sound.proofs.Steps.{stays, comes_on, follows_later}
use Rattle.gen_sound.proofs.Forms.{next_place}
use Rattle.gen_sound.proofs.LocalSteps.{load_goes}
use Rattle.gen_sound.proofs.Fields.{set_to, write_is, put_goes}
use Rattle.gen_sound.proofs.Entering.{at_least_all}
use Rattle.gen_sound.proofs.Calling.{CallsDo}
use Rattle.gen_sound.proofs.Completing.{Stand, Complete, DoesHere, goto_leaps, completes_closed}
use Rattle.gen_sound.proofs.Control.{if_does, if_else_does, while_does, do_does, next_does}
use Rattle.gen_sound.proofs.Switches.{switch_does, chosen_does, groups_match}
use Rattle.gen_sound.proofs.Comparing.{written}
use Rattle.gen_sound.proofs.Uses.{used, test_unless, test_when, declares, assigns, returns, prints, drops}

left_fits : (a b c : ℕ) → max a b ≤ c → a ≤ c
left_fits a b c h = omega (arith, h)

right_fits : (a b c : ℕ) → max a b ≤ c → b ≤ c
right_fits a b c h = omega (arith, h)

module _ (p : Program) (ok : IsCore p) (os : List Outline) (program : linked.Program) (inputs : Inputs) (me : ℕ) (r : Running) (m : Method)
    (code : List Instr) (runs : RunsCode p os program me r m code) (this : Option ℕ) (n : ℕ) (low : Lower) (lows : Lowers p ok low)
    (may : List ℕ) (calls : CallsDo p ok os program inputs me may (suc n) low) (number : ℕ) (at : slice_get p.methods number ≡ Some m)
    (is : IsMethod p m) where
  abbrev here : Here ℕ
  here = record { class = m.class; object = this }

  abbrev C : List Around → (to : ℕ) → Moment → Completion ℕ → Lives ℕ → Type 0
  C = Complete p ok os program inputs me r m code runs this

  -- from a place on, with these slots in scope, the code does this, and the machine stands behind it, or where an exit leads
  abbrev pub Code_does : (level : ℕ) → (sc : List ℕ) → List Around → (from to : ℕ) → Does ℕ → Type 0
  Code_does level sc ts from to run = DoesHere p ok os program inputs me r m code runs this level sc (C ts to) from run

  -- what is known of a statement in the code
  pub record Stands_there (sc : List ℕ) (ts : List Around) (z : Stmt) (from to : ℕ) : Type 0 where
    pub stands : statement p m code sc ts z from to
    pub depth : depth_of p m z ≤ max_stack p m
    pub locals : locals_of (next_local m.kind sc) z ≤ max_locals m

  pub record Stand_there (sc : List ℕ) (ts : List Around) (z : Stmts) (from to : ℕ) : Type 0 where
    pub stands : statements p m code sc ts z from to
    pub depth : depth_of_all p m z ≤ max_stack p m
    pub locals : locals_of_all (next_local m.kind sc) z ≤ max_locals m

  pub record Groups_there (sc : List ℕ) (ts : List Around) (gs : Groups) (starts : List ℕ) (from to : ℕ) : Type 0 where
    pub stands : groups p m code sc ts gs starts from to
    pub depth : depth_of_groups p m gs ≤ max_stack p m
    pub locals : locals_of_groups (next_local m.kind sc) gs ≤ max_locals m

  groups_there : (sc : List ℕ) (ts : List Around) (gs : Groups) (starts : List ℕ) (from to : ℕ) →
      groups p m code sc ts gs starts from to → depth_of_groups p m gs ≤ max_stack p m →
      locals_of_groups (next_local m.kind sc) gs ≤ max_locals m → Groups_there sc ts gs starts from to
  groups_there sc ts gs starts from to stands depth locals = record { stands = stands; depth = depth; locals = locals }

  -- a later turn of a loop has one less
  pub record Turns : Type 0 where
    pub turn : (sc : List ℕ) (around : List Target) (ts : List Around) (z : Stmt) (from to : ℕ) → Fine p m sc around z → IsPlainStmt may z →
        Stands_there sc ts z from to → Code_does n sc ts from to (low.turn here (record { method = number; stmt = z }))

  abbrev Any : World → Bool → Type 0
  Any w b = Unit {0}

  test_well : (sc : List ℕ) (e : Expr) → Has p m sc e types.Boolean → (w : World) → On p ok m this w →
      Runs (Living p ok m sc) Any w (test p inputs low number here e)
  test_well sc e h w o = within_runs p ok m Any sc w (λ locals. valued (eval p inputs low number here locals e) >>= truth)
      (λ x row q g. runs_then (Heap p ok) (λ w v. Fits p w v types.Boolean) Any x (valued (eval p inputs low number here row e)) truth
      (value_good p ok inputs low lows.calls number m at this (λ e. cc) h x (on_more p ok m this q o) g)
      (λ y v z f. truth_runs p (Heap p ok) y v f))

  -- nothing is done
  stays_here : (sc : List ℕ) (ts : List Around) (from to : ℕ) → to ≡ from → Code_does (suc n) sc ts from to (give Normal)
  stays_here sc ts from to e = subst (λ k. Code_does (suc n) sc ts from k (give Normal)) (sym e) (record {
    does = λ w s ls q a. record {
      locals = ls;
      row = a.row;
      arrives = record { messages = q; comes = stays (step program me) (moment p r from [] ls s.shared q); holds = a.holds };
    };
  })

  -- a jump out
  breaks : (sc : List ℕ) (ts : List Around) (from to : ℕ) (l : Option ℕ) → slice_get code from ≡ Some (goto (around.break_to ts l)) →
      Code_does (suc n) sc ts from to (give (Breaks l))
  breaks sc ts from to l h = record {
    does = λ w s ls q a. goto_leaps p ok os program inputs me r m code runs this from (around.break_to ts l)
        (moment p r from [] ls s.shared q) s h
        (record {
          locals = ls;
          row = a.row;
          arrives = record { messages = q; comes = stays (step program me) (moment p r from [] ls s.shared q); holds = a.holds };
        });
  }

  continues : (sc : List ℕ) (ts : List Around) (from to : ℕ) (l : ℕ) → slice_get code from ≡ Some (goto (around.continue_to ts l)) →
      Code_does (suc n) sc ts from to (give (Continues (Some l)))
  continues sc ts from to l h = record {
    does = λ w s ls q a. goto_leaps p ok os program inputs me r m code runs this from (around.continue_to ts l)
        (moment p r from [] ls s.shared q)
        s h
        (record {
          locals = ls;
          row = a.row;
          arrives = record { messages = q; comes = stays (step program me) (moment p r from [] ls s.shared q); holds = a.holds };
        });
  }

  returns_none : (sc : List ℕ) (ts : List Around) (from to : ℕ) → slice_get code from ≡ Some return →
      Code_does (suc n) sc ts from to (give (Returns None))
  returns_none sc ts from to h = record {
    does = λ w s ls q a. record {
      place = from;
      locals = ls;
      at = h;
      arrives = record { messages = q; comes = stays (step program me) (moment p r from [] ls s.shared q); holds = a.holds };
    };
  }

  over_object : (v : Held) (k room : ℕ) → suc k ≤ room → length (v ∷ []) + k ≤ room
  over_object v k room h = omega (arith, h)

  -- the value on top goes into an own field
  field_put : (sc : List ℕ) (ts : List Around) (f : ℕ) (t : CoreType) (typed : field_type p m.class f ≡ Some t) (place to : ℕ) →
      slice_get code place ≡ Some (putfield (field_reference p m.class f)) → to ≡ suc place → (row : Row ℕ) (ls : List (Option Held))
      (c : Moment) (x : World) (u : Value) (y : Shared) (mine : Owned p ok x m.class this) → Heap p ok x y → Fits p x u t →
      HoldsRow m this row ls → Arrives p program inputs me r place (held.Object mine.object ∷ flat u ∷ []) ls c y →
      Follows (step program me) (suc n) (C ts to) c
      (write p inputs low number here (vars.Field f) u (record { locals = row; shared = y }))
  field_put sc ts f t typed place to at_put next row ls c x u y mine heap fits holds arrives =
      let set : Shared = set_to p ok os program inputs me calls.known r m code runs n low number this f t typed x y heap mine u fits in
      subst (λ o. Follows (step program me) (suc n) (C ts to) c (and_then (kept row o) (λ done. give Normal)))
      (sym (write_is p ok os program inputs me calls.known r m code runs n low number this f t typed x y heap mine u fits))
      (next_place p ok os program inputs me r m code runs 0
      (λ j. Stand p ok os program inputs me r m code runs this j c (record { locals = row; shared = set })) place to next
      (record {
        locals = ls;
        row = holds;
        arrives = record {
          messages = arrives.messages;
          comes = comes_on (step program me) c (moment p r place (held.Object mine.object ∷ flat u ∷ []) ls y arrives.messages)
              (moment p r (place + 1) [] ls set arrives.messages) arrives.comes
              (put_goes p ok os program inputs me calls.known r m code runs n low number this f t typed x y heap mine u fits place ls
              arrives.messages at_put).comes;
          holds = arrives.holds;
        };
      }))

  -- a local or an own field is set
  assigned_does : (sc : List ℕ) (ts : List Around) (x : Var) (e : Expr) (t : CoreType) → IsVariable p m sc x t → Has p m sc e t →
      IsPlain may e → (from to : ℕ) → assign p m code sc x (templates.value p m code sc e) from to →
      depth_of_assignment p m x (depths p m e).value ≤ max_stack p m →
      Code_does (suc n) sc ts from to (value p inputs low number here e >>= write p inputs low number here x)
  assigned_does sc ts (vars.Slot k) e t v h plain from to stands room =
      assigns p ok os program inputs me r m code runs this n sc low lows.calls may calls number at k e t v h plain ts from stands.0 to
      stands.1 stands.2 room
  assigned_does sc ts (vars.Field f) e t v h plain from to stands room = record {
    does = λ w s ls q a.
        let mine : Owned p ok w m.class this = a.mine v.visible in
        let object : Held = held.Object mine.object in
        let start : Moment = moment p r from [] ls s.shared q in
        let middle : Moment = moment p r stands.1.0 (object ∷ []) ls s.shared q in
        follows_later (step program me) (suc n) (C ts to) (completes_closed p ok os program inputs me r m code runs this ts to) start middle
        ((value p inputs low number here e >>= write p inputs low number here (vars.Field f)) s)
        (next_place p ok os program inputs me r m code runs 0
        (λ j. Comes (step program me) start (moment p r j (object ∷ []) ls s.shared q))
        from stands.1.0 stands.1.1.1
        (load_goes p ok os program inputs me r m code runs 0 from [] ls s.shared q (types.Object 0) 0 (values.Object mine.object)
        stands.1.1.0
        (subst (λ y. LaidObject y ls) mine.is (a.row.object v.visible)) refl (omega (arith, room))).comes)
        (used p ok os program inputs me r m code runs this n sc low lows.calls may calls number at (C ts to) e t h plain stands.1.0 stands.0
        (object ∷ []) stands.1.2 (over_object object (depths p m e).value (max_stack p m) room)
        (write p inputs low number here (vars.Field f)) w s ls q a
        (λ x u y mine_there living fits arrives.
        field_put sc ts f t v.type stands.0 to stands.2.0 stands.2.1 s.locals ls middle x u y (mine_there v.visible) living.shared fits
        a.row
        (subst (λ o. Arrives p program inputs me r stands.0 (held.Object o ∷ flat u ∷ []) ls middle y)
        (some_is (sym mine.is ∙ (mine_there v.visible).is)) arrives)));
  }

  -- the locals that are taken once one more is in scope
  one_more : (sc : List ℕ) (k : ℕ) (more : Stmts) → locals_of_all (suc (next_local m.kind sc)) more ≤ max_locals m →
      locals_of_all (next_local m.kind (k ∷ sc)) more ≤ max_locals m
  one_more sc k more h =
      let same : suc (next_local m.kind sc) ≡ next_local m.kind (k ∷ sc) = omega arith in
      subst (λ j. locals_of_all j more ≤ max_locals m) same h

  -- the group that begins here, or a later one
  one_of_two : (sc : List ℕ) (ts : List Around) (to first start : ℕ) (b : Bool) (o : Option ℕ) (x y : Does ℕ) →
      (if b then Some first else o) ≡ Some start → Code_does (suc n) sc ts first to x →
      (o ≡ Some start → Code_does (suc n) sc ts start to y) → Code_does (suc n) sc ts start to (if b then x else y)
  one_of_two sc ts to first start true o x y e here_does later =
      subst (λ k. Code_does (suc n) sc ts k to x) (some_is e) here_does
  one_of_two sc ts to first start false o x y e here_does later = later e

  -- an expression of an enum has the type that its form tells
  enum_typed : (sc : List ℕ) (e : Expr) (of : ℕ) → Has p m sc e (types.Enum of) → type_of p m e ≡ Some (types.Enum of)
  enum_typed sc e of h = types_agree.agree p m sc e (types.Enum of) (written p m sc e (types.Enum of) tt h) h

  module _ (turns : Turns) where
    mutual
      pub stmt_does : {sc : List ℕ} {around : List Target} {z : Stmt} (ts : List Around) → Fine p m sc around z → IsPlainStmt may z →
          (from to : ℕ) → Stands_there sc ts z from to → Code_does (suc n) sc ts from to (exec p inputs low number here z)
      stmt_does ts (Statements.block x) plain from to h =
          all_do ts x plain from to (record { stands = h.stands; depth = h.depth; locals = h.locals })
      stmt_does {sc} ts Statements.empty plain from to h = stays_here sc ts from to h.stands
      stmt_does {sc} ts (Statements.local {k = k} {e = e} d) plain from to h =
          declares p ok os program inputs me r m code runs this n sc low lows.calls may calls number at k e d.type d.is d.value plain ts
          from h.stands.0 to to
          h.stands.1 h.stands.2 h.depth h.locals (give Normal) (stays_here (k ∷ sc) ts to to refl)
      stmt_does {sc} ts (Statements.assign {x = x} {e = e} {t = t} v f) plain from to h =
          assigned_does sc ts x.var e t v f plain from to h.stands h.depth
      stmt_does {sc} ts (Statements.if_true {c = c} {s = s} f x) plain from to h =
          if_does p ok os program inputs me r m code runs this n sc ts from h.stands.0 to (test p inputs low number here c)
          (exec p inputs low number here s) (λ w o. test_well sc c f w o)
          (test_unless p ok os program inputs me r m code runs this n sc low lows.calls may calls number at c f plain.0 to from h.stands.0
          h.stands.1
          (left_fits _ _ _ h.depth))
          (stmt_does ts x plain.1 h.stands.0 to (record { stands = h.stands.2; depth = right_fits _ _ _ h.depth; locals = h.locals }))
      stmt_does {sc} ts (Statements.if_else {c = c} {s = s} {r = z} f x y) plain from to h =
          if_else_does p ok os program inputs me r m code runs this n sc ts from h.stands.1.1.0 h.stands.1.0 h.stands.0 to
          (test p inputs low number here c) (exec p inputs low number here s) (exec p inputs low number here z)
          (λ w o. test_well sc c f w o)
          (test_unless p ok os program inputs me r m code runs this n sc low lows.calls may calls number at c f plain.0 h.stands.0 from
          h.stands.1.1.0
          h.stands.1.1.1 (left_fits _ _ _ h.depth))
          (stmt_does ts x plain.1 h.stands.1.1.0 h.stands.1.0 (record {
            stands = h.stands.1.1.2;
            depth = left_fits _ _ _ (right_fits _ _ _ h.depth);
            locals = left_fits _ _ _ h.locals;
          }))
          h.stands.1.2.0
          (stmt_does ts y plain.2 h.stands.0 to (record {
            stands = h.stands.2;
            depth = right_fits _ _ _ (right_fits _ _ _ h.depth);
            locals = right_fits _ _ _ h.locals;
          }))
      stmt_does {sc} ts (Statements.while_true {q = q} {l = l} {c = c} {s = s} d f x) plain from to h =
          while_does p ok os program inputs me r m code runs this n sc l ts from h.stands.1.0 h.stands.0 to
          (test p inputs low number here c)
          (exec p inputs low number here s) (low.turn here (record { method = number; stmt = While q l c s }))
          (λ w o. test_well sc c f w o)
          (λ w o. exec_good p ok inputs low lows number m at is this x w o)
          (test_unless p ok os program inputs me r m code runs this n sc low lows.calls may calls number at c f plain.0 to from h.stands.1.0
          h.stands.1.1
          (left_fits _ _ _ h.depth))
          (stmt_does (around.Loop l to from ∷ ts) x plain.1 h.stands.1.0 h.stands.0
          (record { stands = h.stands.1.2; depth = right_fits _ _ _ h.depth; locals = h.locals }))
          h.stands.2.0
          (turns.turn sc _ ts (While q l c s) from to (Statements.while_true d f x) plain h)
      stmt_does {sc} ts (Statements.do_while {q = q} {l = l} {c = c} {s = s} d x f) plain from to h =
          do_does p ok os program inputs me r m code runs this n sc l ts from h.stands.0 to (test p inputs low number here c)
          (exec p inputs low number here s) (low.turn here (record { method = number; stmt = Do q l s c }))
          (λ w o. test_well sc c f w o)
          (λ w o. exec_good p ok inputs low lows number m at is this x w o)
          (test_when p ok os program inputs me r m code runs this n sc low lows.calls may calls number at c f plain.0 from h.stands.0 to
          h.stands.2
          (right_fits _ _ _ h.depth))
          (stmt_does (around.Loop l to h.stands.0 ∷ ts) x plain.1 from h.stands.0
          (record { stands = h.stands.1; depth = left_fits _ _ _ h.depth; locals = h.locals }))
          (turns.turn sc _ ts (Do q l s c) from to (Statements.do_while d x f) plain h)
      stmt_does {sc} ts (Statements.switch {e = e} {gs = gs} {of = of} f cases g) plain from to h =
          let known = groups_there sc (around.Switch to ∷ ts) gs h.stands.0 h.stands.1.0 to h.stands.1.2 (right_fits _ _ _ h.depth) h.locals
          in
          switch_does p ok os program inputs me r m code runs this n sc low lows.calls may calls number at ts of e gs f plain.0
          (enum_typed sc e of f) cases h.stands.0 from h.stands.1.1.0 to h.stands.1.1.1 h.stands.1.1.2.0 (left_fits _ _ _ h.depth)
          (chosen_does p ok os program inputs me r m code runs this n sc low lows.calls may calls number at ts gs h.stands.0 to
          (groups_match p m code sc (around.Switch to ∷ ts) gs h.stands.0 h.stands.1.0 to h.stands.1.2)
          (λ wanted start e. from_do (around.Switch to ∷ ts) wanted g plain.1 h.stands.0 h.stands.1.0 to known start e)
          (stays_here sc (around.Switch to ∷ ts) to to refl))
      stmt_does {sc} ts (Statements.break {l = l} b) plain from to h = breaks sc ts from to l h.stands.0
      stmt_does {sc} ts (Statements.continue {l = l} b) plain from to h = continues sc ts from to l h.stands.0
      stmt_does {sc} ts (Statements.return {value = None} b) plain from to h = returns_none sc ts from to h.stands.0
      stmt_does {sc} ts (Statements.return {value = Some e} b) plain from to h =
          returns p ok os program inputs me r m code runs this n sc low lows.calls may calls number at e b.1 plain ts from h.stands.0 to
          h.stands.1 h.stands.2.0
          h.depth
      stmt_does {sc} ts (Statements.print {e = e} {t = t} f i) plain from to h =
          prints p ok os program inputs me r m code runs this n sc low lows.calls may calls number at e t f i plain ts from h.stands.1.1.0
          h.stands.1.0
          h.stands.0 to h.stands.1.1.1.0 h.stands.1.1.1.1 h.stands.1.1.2 h.stands.1.2 h.stands.2.0 h.stands.2.1 h.depth
      stmt_does {sc} ts (Statements.eval {e = e} {t = t} f) plain from to h =
          drops p ok os program inputs me r m code runs this n sc low lows.calls may calls number at e t f plain ts from h.stands.0 to
          h.stands.1 h.stands.2 h.depth

      pub all_do : {sc : List ℕ} {around : List Target} {z : Stmts} (ts : List Around) → FineAll p m sc around z → ArePlain may z →
          (from to : ℕ) → Stand_there sc ts z from to → Code_does (suc n) sc ts from to (exec_all p inputs low number here z)
      all_do {sc} ts Statements.no_stmt plain from to h = stays_here sc ts from to h.stands
      all_do {sc} ts (Statements.then {s = s} {more = more} x g) plain from to h =
          next_does p ok os program inputs me r m code runs this n sc ts from h.stands.0 to (exec p inputs low number here s)
          (exec_all p inputs low number here more) (λ w o. exec_good p ok inputs low lows number m at is this x w o)
          (stmt_does ts x plain.0 from h.stands.0
          (record { stands = h.stands.1; depth = left_fits _ _ _ h.depth; locals = left_fits _ _ _ h.locals }))
          (all_do ts g plain.1 h.stands.0 to
          (record { stands = h.stands.2; depth = right_fits _ _ _ h.depth; locals = right_fits _ _ _ h.locals }))
      all_do {sc} ts (Statements.declare {k = k} {e = e} {more = more} d g) plain from to h =
          declares p ok os program inputs me r m code runs this n sc low lows.calls may calls number at k e d.type d.is d.value plain.0 ts
          from
          h.stands.1.0 h.stands.0 to h.stands.1.1 h.stands.1.2 (left_fits _ _ _ h.depth)
          (let j = at_least_all (suc (next_local m.kind sc)) more in let i = h.locals in omega (arith, i, j))
          (exec_all p inputs low number here more)
          (all_do ts g plain.1 h.stands.0 to
          (record { stands = h.stands.2; depth = right_fits _ _ _ h.depth; locals = one_more sc k more h.locals }))

      groups_do : {sc : List ℕ} {around : List Target} {gs : Groups} (ts : List Around) → FineGroups p m sc around gs →
          ArePlainGroups may gs →
          (starts : List ℕ) (from to : ℕ) → Groups_there sc ts gs starts from to →
          Code_does (suc n) sc ts from to (exec_groups p inputs low number here gs)
      groups_do {sc} ts Statements.no_group plain [] from to h = stays_here sc ts from to h.stands
      groups_do ts Statements.no_group plain (start ∷ starts) from to h = absurd h.stands
      groups_do ts (Statements.group x g) plain [] from to h = absurd h.stands
      groups_do {sc} ts (Statements.group {body = body} {more = more} x g) plain (start ∷ starts) from to h =
          next_does p ok os program inputs me r m code runs this n sc ts from h.stands.1.0 to (exec_all p inputs low number here body)
          (exec_groups p inputs low number here more) (λ w o. all_good p ok inputs low lows number m at is this x w o)
          (all_do ts x plain.0 from h.stands.1.0
          (record { stands = h.stands.1.1; depth = left_fits _ _ _ h.depth; locals = left_fits _ _ _ h.locals }))
          (groups_do ts g plain.1 starts h.stands.1.0 to
          (groups_there sc ts more starts h.stands.1.0 to h.stands.1.2 (right_fits _ _ _ h.depth) (right_fits _ _ _ h.locals)))

      -- from the first group with such a label on
      from_do : {sc : List ℕ} {around : List Target} {gs : Groups} (ts : List Around) (wanted : Option ℕ → Bool) →
          FineGroups p m sc around gs → ArePlainGroups may gs → (starts : List ℕ) (from to : ℕ) → Groups_there sc ts gs starts from to →
          (start : ℕ) → group_at wanted gs starts ≡ Some start →
          Code_does (suc n) sc ts start to (exec_from p inputs low number here wanted gs)
      from_do ts wanted Statements.no_group plain starts from to h start e = absurd (cc)
      from_do ts wanted (Statements.group x g) plain [] from to h start e = absurd (cc)
      from_do {sc} ts wanted (Statements.group {labels = labels} {body = body} {more = more} x g) plain (first ∷ starts) from to h start e =
          one_of_two sc ts to first start (any_label wanted labels) (group_at wanted more starts)
          (exec_all p inputs low number here body >>= next_do (exec_groups p inputs low number here more))
          (exec_from p inputs low number here wanted more) e
          (subst (λ k. Code_does (suc n) sc ts k to
          (exec_all p inputs low number here body >>= next_do (exec_groups p inputs low number here more))) (sym h.stands.0)
          (next_does p ok os program inputs me r m code runs this n sc ts from h.stands.1.0 to (exec_all p inputs low number here body)
          (exec_groups p inputs low number here more) (λ w o. all_good p ok inputs low lows number m at is this x w o)
          (all_do ts x plain.0 from h.stands.1.0
          (record { stands = h.stands.1.1; depth = left_fits _ _ _ h.depth; locals = left_fits _ _ _ h.locals }))
          (groups_do ts g plain.1 starts h.stands.1.0 to
          (groups_there sc ts more starts h.stands.1.0 to h.stands.1.2 (right_fits _ _ _ h.depth) (right_fits _ _ _ h.locals)))))
          (λ i. from_do ts wanted g plain.1 starts h.stands.1.0 to
          (groups_there sc ts more starts h.stands.1.0 to h.stands.1.2 (right_fits _ _ _ h.depth) (right_fits _ _ _ h.locals)) start i)
