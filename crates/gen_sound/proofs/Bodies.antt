-- Whole bodies: with each budget their code comes to the instruction that returns, and the return of `main` ends the run.
use Rattle.std.proofs.Common.{◌≡◌, ◌≢◌, ℕ, zero, suc, ◌≤◌, max, true, List, [], length, replicate, reverse, Option, Some, None, refl, sym}
use Rattle.std.proofs.Common.{ap, ◌∙◌, subst, append-nil, arith}
use Rattle.std.specs.Prelude.{slice_get, if◌then◌else◌, map, option_map, Contains, ◌++◌}
use Rattle.std.proofs.lemmas.List.{length-replicate}
use Rattle.jv_values.specs.Values.{Value, Row, Shared, Inputs, Here, Lives, bound, Wrong}
use Rattle.jv_values.specs.Doing.{Outcome, Gives, Ends, and_then, found, stop}
use Rattle.jv_values.specs.Statements.{Completion, Normal, Breaks, Continues, Returns}
use Rattle.jv_values.specs.Calls.{returned, result, body_from, suits, called}
use Rattle.jv_values.specs.Budget.{below, ended}
use Rattle.jv_core.specs.declared.program.CoreType.{CoreType}
use Rattle.jv_core.specs.declared.program.CoreType.TheVariants as types
use Rattle.jv_core.specs.declared.program.MethodKind.TheVariants as kinds
use Rattle.jv_core.specs.Tree.{Method, Program, Block}
use Rattle.jv_core.specs.Lookup.{IsInstance, is_main}
use Rattle.jv_core.specs.Statements.{LoopOf}
use Rattle.jv_core.specs.Completes.{LeavesAll}
use Rattle.jv_core.specs.Numbering.{numbers_from}
use Rattle.jv_core.specs.Conditions.{IsMethod, IsMain, IsCore}
use Rattle.jv_core.specs.Meaning.{Lower, runs_on_object, is_result, as_run, exec, exec_all, language}
use Rattle.vm_model.specs.declared.value.Value.{Value as Held}
use Rattle.vm_model.specs.Program as linked
use Rattle.vm_model.specs.Types.{signature_of, signature_text, main_signature, result_in}
use Rattle.vm_model.specs.Links.{Outline}
use Rattle.vm_model.specs.Messages.{Messages}
use Rattle.vm_model.specs.Machine.{Stops}
use Rattle.vm_model.specs.Actions.{Return}
use Rattle.vm_model.specs.Tests.{descriptor_in, is_sort}
use Rattle.vm_model.specs.Step.{step}
use Rattle.mg_text.specs.declared.event.Ending.TheVariants as endings
use Rattle.gen_rules.specs.Symbolic.{Instr, return}
use Rattle.gen_rules.specs.Members.{descriptor_of}
use Rattle.jv_core.specs.Lookup.{param_types}
use Rattle.gen_rules.specs.Locals.{params_in_scope}
use Rattle.gen_rules.specs.Templates.{end_of_method, IsCode}
use Rattle.gen_rules.specs.Frames.{max_locals}
use Rattle.jv_sound.proofs.Lists.{none_in}
use Rattle.jv_sound.proofs.Worlds.{World, same_world, Good, Fits, GivesA, RowFits, Puts}
use Rattle.jv_sound.proofs.Worlds as worlds
use Rattle.jv_sound.proofs.Objects as objects
use Rattle.jv_sound.proofs.Objects.{Heap}
use Rattle.jv_sound.proofs.Expressions.{method_ok}
use Rattle.jv_sound.proofs.Completions.{Living, Comes as MayCome}
use Rattle.jv_sound.proofs.Executions.{all_good}
use Rattle.jv_sound.proofs.Sound.{lowers, is_main_method, have_types, bounds}
use Rattle.gen_sound.specs.Following.{Moment, Comes, EndsAlike, Follows}
use Rattle.gen_sound.specs.Related.{Running, moment, flat, flat_given, RunsCode}
use Rattle.vm_world_law.specs.Meant.{Holds}
use Rattle.gen_sound.specs.Standing.{return_of}
use Rattle.gen_sound.proofs.Plain.{ArePlain}
use Rattle.gen_sound.specs.Begun.{outermost}
use Rattle.gen_sound.proofs.Steps.{stays, follows_paid}
use Rattle.cls_verify.proofs.Acts.{acts_well}
use Rattle.gen_sound.proofs.Taking.{step_is}
use Rattle.gen_sound.proofs.Linkage.{Linkage}
use Rattle.gen_sound.proofs.Entering.{with_object, first_locals, row_first}
use Rattle.gen_sound.proofs.Calling.{ReturnsWell, returns_closed, CallsDo}
use Rattle.gen_sound.proofs.Completing.{Stand, Complete, Placed}
use Rattle.gen_sound.proofs.Execution.{Turns, stmt_does, all_do}

-- a method without a result gives no value
none_given : (p : Program) (w : World) (v : Option Value) (t : CoreType) → GivesA p w v t → t ≡ types.Void → v ≡ None
none_given p w v t worlds.nothing e = refl
none_given p w v t (worlds.value worlds.int) e = absurd (cc)
none_given p w v t (worlds.value worlds.truth) e = absurd (cc)
none_given p w v t (worlds.value worlds.text) e = absurd (cc)
none_given p w v t (worlds.value worlds.null) e = absurd (cc)
none_given p w v t (worlds.value (worlds.object o)) e = absurd (cc)
none_given p w v t (worlds.value (worlds.constant c)) e = absurd (cc)

has_one : (t : CoreType) → t ≢ types.Void → is_result t ≡ true
has_one types.Void n = absurd (n refl)
has_one types.Int n = refl
has_one types.Boolean n = refl
has_one types.Text n = refl
has_one (types.Object c) n = refl
has_one (types.Enum e) n = refl

left_fits : (a b : ℕ) → a ≤ max a b
left_fits a b = omega arith

module _ (p : Program) (ok : IsCore p) (os : List Outline) (program : linked.Program) (inputs : Inputs) (me : ℕ)
    (known : Linkage p os program me) (may : List ℕ)
    (plain : (n : ℕ) (m : Method) → Contains may n → slice_get p.methods n ≡ Some m → ArePlain may m.body) where
  abbrev lower : ℕ → Lower
  lower n = below (language p inputs) n

  -- what is known below a budget: calls, and later turns of loops
  record Level (n : ℕ) : Type 0 where
    calls : CallsDo p ok os program inputs me may (suc n) (lower n)
    turns : (r : Running) (m : Method) (code : List Instr) (runs : RunsCode p os program me r m code) (this : Option ℕ) (number : ℕ)
        (at : slice_get p.methods number ≡ Some m) →
        Turns p ok os program inputs me r m code runs this n (lower n) (lowers p ok inputs n) may calls number at
        (method_ok p ok number m at)

  module _ (r : Running) (m : Method) (code : List Instr) (runs : RunsCode p os program me r m code) (this : Option ℕ) (number : ℕ)
      (at : slice_get p.methods number ≡ Some m) where
    abbrev here : Here ℕ
    here = record { class = m.class; object = this }

    abbrev is : IsMethod p m
    is = method_ok p ok number m at

    abbrev F : (n : ℕ) → Moment → Outcome Shared (Option Value) → Type 0
    F n c o = Follows (step program me) (suc n) (ReturnsWell p ok os program inputs me r m code this) c o

    -- a body that comes to its end has no result
    at_end : (n : ℕ) (t : CoreType) → m.result ≡ t → (t ≢ types.Void → ⊥) → (place : ℕ) → end_of_method p m code t place (length code) →
        (w : World) (c : Moment) (u : Lives ℕ) → Heap p ok w u.shared → Stand p ok os program inputs me r m code runs this place c u →
        F n c (found (returned {K = ℕ} (is_result t) Normal) u.shared)
    at_end n types.Void e never place h w c u heap b = record {
      world = w;
      gives = subst (GivesA p w None) (sym e) worlds.nothing;
      heap = heap;
      returning = record { place = place; locals = b.locals; at = h.0; arrives = b.arrives };
    }
    at_end n types.Int e never place h w c u heap b = absurd (never (λ q. cc))
    at_end n types.Boolean e never place h w c u heap b = absurd (never (λ q. cc))
    at_end n types.Text e never place h w c u heap b = absurd (never (λ q. cc))
    at_end n (types.Object k) e never place h w c u heap b = absurd (never (λ q. cc))
    at_end n (types.Enum k) e never place h w c u heap b = absurd (never (λ q. cc))

    leaves : (n : ℕ) (place : ℕ) → end_of_method p m code m.result place (length code) → (w : World) (c : Moment) (d : Completion ℕ)
        (u : Lives ℕ) → Heap p ok w u.shared → MayCome p ok m [] (LeavesAll m.body) w d → Complete p ok os program inputs me r m code runs
        this [] place c d u →
        F n c (found (returned (is_result m.result) d) u.shared)
    leaves n place h w c Normal u heap g b = at_end n m.result refl (λ k. is.returns k g) place h w c u heap b
    leaves n place h w c (Breaks None) u heap g b = absurd g.1
    leaves n place h w c (Breaks (Some l)) u heap g b = absurd (none_in (LoopOf l) g.1)
    leaves n place h w c (Continues None) u heap g b = absurd g
    leaves n place h w c (Continues (Some l)) u heap g b = absurd (none_in (LoopOf l) g.1)
    leaves n place h w c (Returns None) u heap g b =
        subst (λ t. F n c (found (returned {K = ℕ} (is_result t) (Returns None)) u.shared)) (sym g)
        (record {
          world = w;
          gives = subst (GivesA p w None) (sym g) worlds.nothing;
          heap = heap;
          returning = record {
            place = b.place;
            locals = b.locals;
            at = b.at;
            arrives = b.arrives;
          };
        })
    leaves n place h w c (Returns (Some v)) u heap g b =
        subst (λ x. F n c (found (returned {K = ℕ} x (Returns (Some v))) u.shared)) (sym (has_one m.result g.1))
        (record {
          world = w;
          gives = worlds.value g.0;
          heap = heap;
          returning = record {
            place = b.place;
            locals = b.locals;
            at = b.at;
            arrives = b.arrives;
          };
        })

    left : (n : ℕ) (place : ℕ) → end_of_method p m code m.result place (length code) → (sc : List ℕ) (w : World) (c : Moment)
        (o : Outcome (Lives ℕ) (Completion ℕ)) → Good (Living p ok m sc) (MayCome p ok m [] (LeavesAll m.body)) w o →
        Follows (step program me) (suc n) (Complete p ok os program inputs me r m code runs this [] place) c o →
        F n c (result (is_result m.result) o)
    left n place h sc w c (Gives d u) g b = leaves n place h g.world c d u g.state.shared g.is b
    left n place h sc w c (Ends f es) g b = b

    -- with each budget the code of a plain body comes to its return
    body_does : (n : ℕ) → Level n → IsCode p m code → ArePlain may m.body → (w : World) (s : Lives ℕ) (ls : List (Option Held))
        (q : Messages) →
        Placed p ok os program inputs me r m code runs this (params_in_scope m) w s ls q →
        F n (moment p r 0 [] ls s.shared q)
        (result (is_result m.result) (exec p inputs (lower n) number here (Block m.place m.body m.end) s))
    body_does n level compiled plain_body w s ls q a =
        let h = compiled.stands in
        left n h.0 h.2 (params_in_scope m) w (moment p r 0 [] ls s.shared q) (exec_all p inputs (lower n) number here m.body s)
        ((all_good p ok inputs (lower n) (lowers p ok inputs n) number m at is this is.body w a.mine).run w (same_world w) s a.living)
        ((all_do p ok os program inputs me r m code runs this n (lower n) (lowers p ok inputs n) may level.calls number at is
        (level.turns r m code runs this number at) [] is.body plain_body 0 h.0
        (record { stands = h.1; depth = left_fits _ _; locals = omega arith })).does w s ls q a)

  -- a call whose body has no budget, and one with a budget
  no_calls : CallsDo p ok os program inputs me may 1 (lower 0)
  no_calls = record {
    known = known;
    call = λ i k allowed at n stands r e f x this vs callable fits s heap q holds c lead. record {
      moment = moment p r 0 [] (first_locals k (with_object this (map flat vs))) s q;
      comes = lead.comes;
      events_are = refl;
      enough = let h = lead.moves in omega (arith, h);
    };
  }

  -- the body of a method from its arguments
  called_is : (n i : ℕ) (k : Method) → slice_get p.methods i ≡ Some k → (this : Option ℕ) (vs : List Value) (row : Row ℕ) (s : Shared) →
      bound (numbers_from 0 k.params) vs [] ≡ Some row → suits (runs_on_object k.kind) this ≡ true →
      (lower (suc n)).call i this vs s
      ≡ result (is_result k.result) (exec p inputs (lower n) i (record { class = k.class; object = this }) (Block k.place k.body k.end)
      (record { locals = row; shared = s }))
  called_is n i k at this vs row s e on =
      let run = λ (row : Row ℕ). body_from (is_result k.result) row
      (exec p inputs (lower n) i (record { class = k.class; object = this }) (Block k.place k.body k.end)) in
      ap (λ o. called ((language p inputs).exec (lower n)) (option_map (as_run p i) o) this vs s) at
      ∙ ap (λ o. and_then (found o s) (λ row. if suits (runs_on_object k.kind) this then run row else stop Wrong)) e
      ∙ ap (λ z. (if z then run row else stop Wrong) s) on

  calls_above : (n : ℕ) → Level n → CallsDo p ok os program inputs me may (suc (suc n)) (lower (suc n))
  calls_above n level = record {
    known = known;
    call = λ i k allowed at main stands r e f x this vs callable fits s heap q holds c lead.
        let is : IsMethod p k = method_ok p ok i k at in
        let b : Puts p k x (reverse (numbers_from 0 k.params) ++ []) (bound (numbers_from 0 k.params) vs []) =
        bounds p k x (numbers_from 0 k.params) vs (param_types k) [] []
        (have_types k [] k.slots k.params refl is.numbered.params) fits worlds.none in
        let start : Moment = moment p r 0 [] (first_locals k (with_object this (map flat vs))) s q in
        follows_paid (step program me) (suc n) (ReturnsWell p ok os program inputs me r k stands.code this)
        (returns_closed p ok os program inputs me r k stands.code this) c start ((lower (suc n)).call i this vs s) lead
        (subst (Follows (step program me) (suc n) (ReturnsWell p ok os program inputs me r k stands.code this) start)
        (sym (called_is n i k at this vs b.row s b.is callable.suits))
        (body_does r k stands.code (stands.runs r e f) this i at n level stands.is_code (plain i k allowed at) x
        (record { locals = b.row; shared = s }) (first_locals k (with_object this (map flat vs))) q (record {
          mine = callable.owned;
          living = record {
            locals = subst (λ sc. RowFits p k x sc b.row) (append-nil (reverse (numbers_from 0 k.params))) b.fits;
            shared = heap;
          };
          row = row_first p ok k is main x this vs callable.suits fits b.row b.is;
          holds = holds;
        })));
  }

  -- each budget
  levels : (n : ℕ) → Level n
  levels zero = record {
    calls = no_calls;
    turns = λ r m code runs this number at. record {
      turn = λ sc around ts z from to fine plain h. record {
        does = λ w s ls q a. record {
          moment = moment p r from [] ls s.shared q;
          comes = stays (step program me) (moment p r from [] ls s.shared q);
          events_are = refl;
          enough = omega arith;
        };
      };
    };
  }
  levels (suc n) = record {
    calls = calls_above n (levels n);
    turns = λ r m code runs this number at. record {
      turn = λ sc around ts z from to fine plain_stmt h.
          stmt_does p ok os program inputs me r m code runs this n (lower n) (lowers p ok inputs n) may (levels n).calls number at
          (method_ok p ok number m at) ((levels n).turns r m code runs this number at) ts fine plain_stmt from to
          (record { stands = h.stands; depth = h.depth; locals = h.locals });
    };
  }

  -- with each budget the code of a plain body comes to its return
  pub whole_body_does : (r : Running) (m : Method) (code : List Instr) (runs : RunsCode p os program me r m code) (this : Option ℕ)
      (number : ℕ) (at : slice_get p.methods number ≡ Some m) → Contains may number → (n : ℕ) → IsCode p m code → (w : World)
      (s : Lives ℕ) (ls : List (Option Held)) (q : Messages) →
      Placed p ok os program inputs me r m code runs this (params_in_scope m) w s ls q →
      Follows (step program me) (suc n) (ReturnsWell p ok os program inputs me r m code this) (moment p r 0 [] ls s.shared q)
      (result (is_result m.result) (exec p inputs (lower n) number (record { class = m.class; object = this })
      (Block m.place m.body m.end) s))
  whole_body_does r m code runs this number at among n compiled w s ls q a =
      body_does r m code runs this number at n (levels n) compiled (plain number m among at) w s ls q a

main_read : signature_of (signature_text main_signature) ≡ Some main_signature
unfolding signature_of
main_read = refl

module _ (p : Program) (ok : IsCore p) (os : List Outline) (program : linked.Program) (inputs : Inputs) (me : ℕ)
    (known : Linkage p os program me) (may : List ℕ)
    (plain : (n : ℕ) (m : Method) → Contains may n → slice_get p.methods n ≡ Some m → ArePlain may m.body) (class method : ℕ) (m : Method)
    (code : List Instr) (runs : RunsCode p os program me (outermost class method) m code) (number : ℕ)
    (at : slice_get p.methods number ≡ Some m) (main : m.kind ≡ kinds.Main) where
  abbrev frame : Running
  frame = outermost class method

  main_is : IsMain p m
  main_is = is_main_method p ok m m.kind (method_ok p ok number m at).kind main

  -- the descriptor of `main` has no result
  no_result : (o : Option linked.MethodOf) → o ≡ Some runs.method → is_sort None (result_in (signature_of (descriptor_in o))) ≡ true
  no_result o e = ap (λ x. is_sort None (result_in (signature_of (descriptor_in x)))) e
      ∙ ap (λ d. is_sort None (result_in (signature_of d))) (runs.descriptor
      ∙ ap (λ k. if is_main k then signature_text main_signature else descriptor_of p (param_types m) m.result) main)
      ∙ ap (λ x. is_sort None (result_in x)) main_read

  return_stops : (place : ℕ) (ls : List (Option Held)) (s : Shared) (q : Messages) → slice_get code place ≡ Some return →
      step program me (moment p frame place [] ls s q).machine q ≡ Stops endings.Done
  return_stops place ls s q h =
      step_is p os program me frame m code runs place [] ls s q return (Return None) h refl
      ∙ acts_well program q (moment p frame place [] ls s q).machine me (Return None) [] [] refl tt refl (omega arith)
      (no_result _ runs.at) (omega arith)

  stops : (n : ℕ) (c : Moment) (o : Outcome Shared (Option Value)) →
      Follows (step program me) (suc n) (ReturnsWell p ok os program inputs me frame m code None) c o →
      EndsAlike (step program me) (suc n) c (ended o).finish (ended o).events
  stops n c (Ends f es) h = h
  stops n c (Gives v u) h = record {
    moment = moment p frame h.returning.place [] h.returning.locals u h.returning.arrives.messages;
    comes = subst (λ x. Comes (step program me) c (moment p frame h.returning.place (flat_given x) h.returning.locals u
        h.returning.arrives.messages)) none h.returning.arrives.comes;
    events_are = refl;
    stops = return_stops h.returning.place h.returning.locals u h.returning.arrives.messages
        (subst (λ x. slice_get code h.returning.place ≡ Some (return_of m.result x)) none h.returning.at);
  }
    where
      none : v ≡ None
      none = none_given p h.world v m.result h.gives main_is.result

  -- before the first instruction the locals are unset, and there are no objects and no events
  abbrev pub beginning : Messages → Moment
  beginning q = moment p frame 0 [] (replicate (max_locals m) None) (record { heap = []; events = [] }) q

  abbrev nothing_yet : Shared
  nothing_yet = record { heap = []; events = [] }

  -- the call of `main`
  call_is : (n : ℕ) → called ((language p inputs).exec (below (language p inputs) n)) (Some (as_run p number m)) None [] nothing_yet
      ≡ body_from (is_result m.result) [] (exec p inputs (below (language p inputs) n) number (record { class = m.class; object = None })
      (Block m.place m.body m.end)) nothing_yet
  call_is n =
      ap (λ k. and_then (found (bound (numbers_from 0 k) [] []) nothing_yet) (λ row. if suits (runs_on_object m.kind) None then
      body_from (is_result m.result) row (exec p inputs (below (language p inputs) n) number (record { class = m.class; object = None })
      (Block m.place m.body m.end)) else stop Wrong)) main_is.params
      ∙ ap (λ k. (if suits (runs_on_object k) None then body_from (is_result m.result) []
      (exec p inputs (below (language p inputs) n) number
      (record { class = m.class; object = None }) (Block m.place m.body m.end)) else stop Wrong) nothing_yet) main

  -- with each budget the machine that begins at a plain `main` ends as it means, waits as it waits, or goes on for as many steps
  pub main_ends : (n : ℕ) → IsCode p m code → Contains may number → (q : Messages) → Holds inputs q me [] →
      EndsAlike (step program me) (suc n) (beginning q)
      (ended (called ((language p inputs).exec (below (language p inputs) n)) (Some (as_run p number m)) None [] nothing_yet)).finish
      (ended (called ((language p inputs).exec (below (language p inputs) n)) (Some (as_run p number m)) None [] nothing_yet)).events
  main_ends n compiled among q holds =
      subst (λ o. EndsAlike (step program me) (suc n) (beginning q) (ended o).finish (ended o).events) (sym (call_is n))
      (stops n (beginning q) _
      (whole_body_does p ok os program inputs me known may plain frame m code runs None number at among n compiled []
      (record { locals = []; shared = nothing_yet })
      (replicate (max_locals m) None) q (record {
        mine = λ i. absurd (subst IsInstance main i);
        living = record {
          locals = subst (λ k. RowFits p m [] (reverse (numbers_from 0 k)) []) (sym main_is.params) worlds.none;
          shared = record { objects = objects.none };
        };
        row = record {
          many = length-replicate (max_locals m) None;
          laid = tt;
          object = λ i. absurd (subst IsInstance main i);
        };
        holds = holds;
      })))
