-- Switches: the table leads to the group of a constant, to `default`, or behind the switch.
use Rattle.std.proofs.Common.{◌≡◌, ◌⊎◌, inl, inr, ℕ, zero, suc, ◌+◌, ◌≤◌, ◌<◌, max, Bool, true, false, ◌||◌, List, [], ◌∷◌, ◌++◌, length}
use Rattle.std.proofs.Common.{map, Option, Some, None, refl, sym, ap, ◌∙◌, subst, append-nil, arith, pos, ◌-ℤ◌}
use Rattle.std.specs.Prelude.{slice_get, nat_eq, if◌then◌else◌, Contains, unwrap_or, option_and_then}
use Rattle.std.specs.Str.{bytes_eq}
use Rattle.std.proofs.lemmas.Bool.{eqb-true}
use Rattle.std.proofs.lemmas.List.Elements.{Contains-append_left, Contains-append_right}
use Rattle.mg_text.specs.Call.{Name}
use Rattle.jv_values.specs.Values.{Value, Row, Shared, Inputs, Here, Lives, Wrong}
use Rattle.jv_values.specs.Values as values
use Rattle.jv_values.specs.Doing.{Run, Outcome, Gives, Ends, and_then, ◌>>=◌, give, stop, found, kept, constant}
use Rattle.jv_values.specs.Statements.{Completion, Normal, Breaks, Continues, Returns, Does, is_default, case_at, any_label, next_do}
use Rattle.jv_values.specs.Statements.{after_switch}
use Rattle.jv_core.specs.declared.program.CoreType.{CoreType}
use Rattle.jv_core.specs.declared.program.CoreType.TheVariants as types
use Rattle.jv_core.specs.Tree.{Expr, Groups, NoGroup, Group, Method, Program}
use Rattle.jv_core.specs.Types.{Has}
use Rattle.jv_core.specs.Statements.{labels_in, AreCases}
use Rattle.jv_core.specs.Numbering.{numbers_from}
use Rattle.jv_core.specs.Conditions.{IsCore}
use Rattle.jv_core.specs.Meaning.{Lower, eval, position, enum_in, enum_given, has_group, exec_all, exec_groups, exec_from}
use Rattle.vm_model.specs.declared.value.Value.{Value as Held}
use Rattle.vm_model.specs.declared.value.Value.TheVariants as held
use Rattle.vm_model.specs.Program as linked
use Rattle.vm_model.specs.Links.{Outline}
use Rattle.vm_model.specs.Messages.{Messages}
use Rattle.vm_model.specs.Arithmetic.{target_at, switched}
use Rattle.vm_model.specs.Actions.{Switch}
use Rattle.vm_model.specs.Tests.{number}
use Rattle.vm_model.specs.Step.{step, goes, at_place}
use Rattle.gen_rules.specs.Symbolic.{Instr, tableswitch}
use Rattle.gen_rules.specs.Around.{Around}
use Rattle.gen_rules.specs.Around as around
use Rattle.gen_rules.specs.Cases.{group_at, default_at, constant_at, constants_in, constants_of, positions, targets}
use Rattle.gen_rules.specs.Typed.{type_of}
use Rattle.gen_rules.specs.Templates as templates
use Rattle.gen_rules.specs.Frames.{max_stack, depths}
use Rattle.jv_sound.proofs.Lists.{in_more, is_first}
use Rattle.jv_sound.proofs.Worlds.{World, Extends, same_world, Good, GivesA, row_more}
use Rattle.jv_sound.proofs.Objects.{Heap}
use Rattle.jv_sound.proofs.Expressions.{CallsWell, eval_good}
use Rattle.jv_sound.proofs.Executions.{on_more}
use Rattle.gen_sound.specs.Following.{Moment, Leads, Follows}
use Rattle.gen_sound.specs.Related.{Running, moment, RunsCode}
use Rattle.gen_sound.specs.Arriving.{Arrives}
use Rattle.gen_sound.proofs.Plain.{IsPlain}
use Rattle.gen_sound.proofs.Calling.{CallsDo}
use Rattle.gen_sound.proofs.Steps.{comes_on, lead_of, follows_then}
use Rattle.gen_sound.proofs.Taking.{step_takes}
use Rattle.gen_sound.proofs.Forms.{Value_at}
use Rattle.gen_sound.proofs.Completing.{Complete, DoesHere, goes_on, leap_stands, completes_closed}
use Rattle.gen_sound.proofs.Uses.{forms_do, over_none}

-- Tables.

look : (f : ℕ → ℕ) (d a c k : ℕ) → (c ≤ k → f (a + k) ≡ d) → target_at d (map f (numbers_from a c)) (pos k) ≡ f (a + k)
look f d a zero k h = sym (h (omega arith))
look f d a (suc c) zero h = let same : a ≡ a + 0 = omega arith in ap f same
look f d a (suc c) (suc k) h =
    let same : suc a + k ≡ a + suc k = omega arith in
    look f d (suc a) c k (λ le. ap f same ∙ h (omega (arith, le))) ∙ ap f same

look_up : (f : ℕ → ℕ) (d c k : ℕ) → (c ≤ k → f k ≡ d) → target_at d (map f (numbers_from 0 c)) (pos k) ≡ f k
look_up f d c k h =
    let same : 0 + k ≡ k = omega arith in
    look f d 0 c k (λ le. ap f same ∙ h le) ∙ ap f same

from_none : (k : ℕ) → pos k -ℤ pos 0 ≡ pos k
from_none k = grind arith

-- a label that is met stands there
label_in : (k : ℕ) (labels : List (Option ℕ)) → any_label (case_at k) labels ≡ true → Contains labels (Some k)
label_in k [] e = absurd (cc)
label_in k (None ∷ ls) e = in_more None (Some k) ls (label_in k ls e)
label_in k (Some j ∷ ls) e = go (λ h. label_in k ls h) (nat_eq j k) refl e
  where
    go : (any_label (case_at k) ls ≡ true → Contains ls (Some k)) → (b : Bool) → nat_eq j k ≡ b → (b || any_label (case_at k) ls) ≡ true →
        Contains (Some j ∷ ls) (Some k)
    go ih true is h = subst (λ i. Contains (Some i ∷ ls) (Some k)) (sym (eqb-true j k is)) (is_first (Some k) ls)
    go ih false is h = in_more (Some j) (Some k) ls (ih h)

some_label : (k : ℕ) (gs : Groups) (starts : List ℕ) (start : ℕ) → group_at (case_at k) gs starts ≡ Some start →
    Contains (labels_in gs) (Some k)
some_label k NoGroup starts start e = absurd (cc)
some_label k (Group labels body end more) [] start e = absurd (cc)
some_label k (Group labels body end more) (first ∷ starts) start e = go (λ h. some_label k more starts start h)
    (any_label (case_at k) labels) refl e
  where
    go : (group_at (case_at k) more starts ≡ Some start → Contains (labels_in more) (Some k)) → (b : Bool) →
        any_label (case_at k) labels ≡ b → (if b then Some first else group_at (case_at k) more starts) ≡ Some start →
        Contains (labels ++ labels_in more) (Some k)
    go ih true is h = Contains-append_left labels (labels_in more) (Some k) (label_in k labels is)
    go ih false is h = Contains-append_right labels (labels_in more) (Some k) (ih h)

-- as many places as groups
abbrev pub Matches : Groups → List ℕ → Type 0
Matches NoGroup [] = Unit {0}
Matches (Group labels body end more) (start ∷ starts) = Matches more starts
Matches gs starts = ⊥

pub groups_match : (p : Program) (m : Method) (code : List Instr) (sc : List ℕ) (ts : List Around) (gs : Groups) (starts : List ℕ)
    (from to : ℕ) → templates.groups p m code sc ts gs starts from to → Matches gs starts
groups_match p m code sc ts NoGroup [] from to h = tt
groups_match p m code sc ts NoGroup (start ∷ starts) from to h = h
groups_match p m code sc ts (Group labels body end more) [] from to h = h
groups_match p m code sc ts (Group labels body end more) (start ∷ starts) from to h =
    groups_match p m code sc ts more starts h.1.0 to h.1.2

some_has : (wanted : Option ℕ → Bool) (gs : Groups) (starts : List ℕ) (start : ℕ) → group_at wanted gs starts ≡ Some start →
    has_group wanted gs ≡ true
some_has wanted NoGroup starts start e = absurd (cc)
some_has wanted (Group labels body end more) [] start e = absurd (cc)
some_has wanted (Group labels body end more) (first ∷ starts) start e = go (λ h. some_has wanted more starts start h)
    (any_label wanted labels) e
  where
    go : (group_at wanted more starts ≡ Some start → has_group wanted more ≡ true) → (b : Bool) →
        (if b then Some first else group_at wanted more starts) ≡ Some start → (b || has_group wanted more) ≡ true
    go ih true h = refl
    go ih false h = ih h

none_has : (wanted : Option ℕ → Bool) (gs : Groups) (starts : List ℕ) → Matches gs starts → group_at wanted gs starts ≡ None →
    has_group wanted gs ≡ false
none_has wanted NoGroup starts h e = refl
none_has wanted (Group labels body end more) [] h e = absurd h
none_has wanted (Group labels body end more) (first ∷ starts) h e = go (λ g. none_has wanted more starts h g) (any_label wanted labels) e
  where
    go : (group_at wanted more starts ≡ None → has_group wanted more ≡ false) → (b : Bool) →
        (if b then Some first else group_at wanted more starts) ≡ None → (b || has_group wanted more) ≡ false
    go ih true g = absurd (cc)
    go ih false g = ih g

-- what is known of a constant whose enum is asked for
known : (o : Option Name) (name : Name) (k : ℕ) (s : Shared) →
    ((found o >>= λ n. if bytes_eq name n then give k else stop Wrong) s ≡ Gives k s)
    ⊎ ((found o >>= λ n. if bytes_eq name n then give k else stop Wrong) s ≡ Ends Wrong s.events)
known None name k s = inr refl
known (Some n) name k s = go (bytes_eq name n)
  where
    go : (b : Bool) → ((if b then give k else stop Wrong) s ≡ Gives k s) ⊎ ((if b then give k else stop Wrong) s ≡ Ends Wrong s.events)
    go true = inl refl
    go false = inr refl

module _ (p : Program) (ok : IsCore p) (os : List Outline) (program : linked.Program) (inputs : Inputs) (me : ℕ) (r : Running) (m : Method)
    (code : List Instr) (runs : RunsCode p os program me r m code) (this : Option ℕ) (n : ℕ) (sc : List ℕ) (low : Lower)
    (well : CallsWell p ok low) (may : List ℕ)
    (calls : CallsDo p ok os program inputs me may (suc n) low) (number_of : ℕ) (at : slice_get p.methods number_of ≡ Some m) where
  abbrev here : Here ℕ
  here = record { class = m.class; object = this }

  abbrev C : List Around → (to : ℕ) → Moment → Completion ℕ → Lives ℕ → Type 0
  C = Complete p ok os program inputs me r m code runs this

  abbrev F : {A : Type 0} → (Moment → A → Lives ℕ → Type 0) → Moment → Outcome (Lives ℕ) A → Type 0
  F R c o = Follows (step program me) (suc n) R c o

  abbrev Does_here : List Around → (to from : ℕ) → Does ℕ → Type 0
  Does_here ts to from run = DoesHere p ok os program inputs me r m code runs this (suc n) sc (C ts to) from run

  -- the table leads from the number of a constant to a place
  table_goes : (place d k to : ℕ) (ts : List ℕ) (ls : List (Option Held)) (s : Shared) (q : Messages) →
      slice_get code place ≡ Some (tableswitch d ts) → switched d (pos 0) ts (pos k) ≡ to →
      Leads (step program me) (moment p r place (held.Int (pos k) ∷ []) ls s q) (moment p r to [] ls s q)
  table_goes place d k to ts ls s q h is =
      lead_of (step program me) (moment p r place (held.Int (pos k) ∷ []) ls s q) (moment p r to [] ls s q) None
      (step_takes p os program me r m code runs place (held.Int (pos k) ∷ []) ls s q (tableswitch d ts) (Switch d (pos 0) ts) h refl []
      (held.Int (pos k) ∷ []) (number ∷ []) 0 refl refl (refl, tt) (omega arith)
      ∙ ap (λ j. goes q (at_place (moment p r place (held.Int (pos k) ∷ []) ls s q).machine j [])) is) (sym (append-nil s.events))

  -- the position of the constant that an expression gives
  position_then : {A : Type 0} (R : Moment → A → Lives ℕ → Type 0) (ls : List (Option Held)) (to : ℕ) (c : Moment) (w : World)
      (t : CoreType) (row : Row ℕ) (name : Option Name) (o : Outcome Shared (Option Value)) (f : ℕ → Run (Lives ℕ) A) →
      Good (Heap p ok) (λ w v. GivesA p w v t) w o →
      Follows (step program me) (suc n) (Value_at p ok os program inputs me r m code runs (suc n) ls to []) c o →
      ((x : World) (k : ℕ) (s : Shared) → Extends w x → Heap p ok x s → Arrives p program inputs me r to (held.Int (pos k) ∷ []) ls c s →
      F R c (f k (record { locals = row; shared = s }))) →
      F R c (and_then (kept row (and_then (and_then (and_then o found) constant)
      (λ v. found name >>= λ y. if bytes_eq v.0 y then give v.1 else stop Wrong))) f)
  position_then R ls to c w t row name (Ends e es) f g h k = h
  position_then R ls to c w t row name (Gives None s) f g h k = tt
  position_then R ls to c w t row name (Gives (Some (values.Int z)) s) f g h k = tt
  position_then R ls to c w t row name (Gives (Some (values.Truth z)) s) f g h k = tt
  position_then R ls to c w t row name (Gives (Some (values.Text z)) s) f g h k = tt
  position_then R ls to c w t row name (Gives (Some values.Null) s) f g h k = tt
  position_then R ls to c w t row name (Gives (Some (values.Object z)) s) f g h k = tt
  position_then R ls to c w t row name (Gives (Some (values.Constant e i)) s) f g h k = go (known name e i s)
    where
      go : ((found name >>= λ y. if bytes_eq e y then give i else stop Wrong) s ≡ Gives i s)
          ⊎ ((found name >>= λ y. if bytes_eq e y then give i else stop Wrong) s ≡ Ends Wrong s.events) →
          F R c (and_then (kept row ((found name >>= λ y. if bytes_eq e y then give i else stop Wrong) s)) f)
      go (inl is) = subst (λ o. F R c (and_then (kept row o) f)) (sym is) (k g.world i s g.grown g.state h)
      go (inr is) = subst (λ o. F R c (and_then (kept row o) f)) (sym is) tt

  -- a `break` without a label leaves the switch
  after : (ts : List Around) (to : ℕ) (c : Moment) (d : Completion ℕ) (u : Lives ℕ) → C (around.Switch to ∷ ts) to c d u →
      F (C ts to) c (after_switch d u)
  after ts to c Normal u h = h
  after ts to c (Breaks None) u h = leap_stands p ok os program inputs me r m code runs this to c u h
  after ts to c (Breaks (Some l)) u h = h
  after ts to c (Continues None) u h = h
  after ts to c (Continues (Some l)) u h = h
  after ts to c (Returns v) u h = h

  abbrev chosen : Groups → ℕ → Does ℕ
  chosen gs k = if has_group (case_at k) gs then exec_from p inputs low number_of here (case_at k) gs
      else exec_from p inputs low number_of here is_default gs

  none_runs : (wanted : Option ℕ → Bool) (gs : Groups) (starts : List ℕ) → Matches gs starts → group_at wanted gs starts ≡ None →
      exec_from p inputs low number_of here wanted gs ≡ give Normal
  none_runs wanted NoGroup starts h e = refl
  none_runs wanted (Group labels body end more) [] h e = absurd h
  none_runs wanted (Group labels body end more) (first ∷ starts) h e =
      go (λ g. none_runs wanted more starts h g) (exec_all p inputs low number_of here body
      >>= next_do (exec_groups p inputs low number_of here more))
      (any_label wanted labels) e
    where
      go : (group_at wanted more starts ≡ None → exec_from p inputs low number_of here wanted more ≡ give Normal) → (x : Does ℕ) →
          (b : Bool) → (if b then Some first else group_at wanted more starts) ≡ None →
          (if b then x else exec_from p inputs low number_of here wanted more) ≡ give Normal
      go ih x true g = absurd (cc)
      go ih x false g = ih g

  -- from the place of each position the code does what is chosen
  module _ (ts : List Around) (gs : Groups) (starts : List ℕ) (to : ℕ) (matches : Matches gs starts)
      (from_does : (wanted : Option ℕ → Bool) (start : ℕ) → group_at wanted gs starts ≡ Some start →
      Does_here (around.Switch to ∷ ts) to start (exec_from p inputs low number_of here wanted gs))
      (stays_behind : Does_here (around.Switch to ∷ ts) to to (give Normal)) where
    default_does : (o : Option ℕ) → group_at is_default gs starts ≡ o →
        Does_here (around.Switch to ∷ ts) to (unwrap_or o to) (exec_from p inputs low number_of here is_default gs)
    default_does None e =
        subst (Does_here (around.Switch to ∷ ts) to to) (sym (none_runs is_default gs starts matches e)) stays_behind
    default_does (Some start) e = from_does is_default start e

    pub chosen_does : (k : ℕ) → Does_here (around.Switch to ∷ ts) to (constant_at gs starts to k) (chosen gs k)
    chosen_does k = go (group_at (case_at k) gs starts) refl
      where
        go : (o : Option ℕ) → group_at (case_at k) gs starts ≡ o →
            Does_here (around.Switch to ∷ ts) to (unwrap_or o (default_at gs starts to)) (chosen gs k)
        go (Some start) e = subst (λ b. Does_here (around.Switch to ∷ ts) to start (if b then
            exec_from p inputs low number_of here (case_at k) gs else exec_from p inputs low number_of here is_default gs))
            (sym (some_has (case_at k) gs starts start e)) (from_does (case_at k) start e)
        go None e = subst (λ b. Does_here (around.Switch to ∷ ts) to (default_at gs starts to) (if b then
            exec_from p inputs low number_of here (case_at k) gs else exec_from p inputs low number_of here is_default gs))
            (sym (none_has (case_at k) gs starts matches e)) (default_does (group_at is_default gs starts) refl)

  -- a constant beyond those of its enum has no case
  beyond : (of : ℕ) (gs : Groups) (starts : List ℕ) (to k : ℕ) (t : Option CoreType) → t ≡ Some (types.Enum of) →
      AreCases p m of (labels_in gs) → max 1 (constants_of p t) ≤ k → constant_at gs starts to k ≡ default_at gs starts to
  beyond of gs starts to k t is cases le = go (group_at (case_at k) gs starts) refl
    where
      go : (o : Option ℕ) → group_at (case_at k) gs starts ≡ o → unwrap_or o (default_at gs starts to) ≡ default_at gs starts to
      go None e = refl
      go (Some start) e =
          let few : k < length cases.enum.constants = cases.constants k (some_label k gs starts start e) in
          let many : constants_of p t ≡ length cases.enum.constants =
          ap (λ t. constants_in (option_and_then (slice_get p.enums) (option_and_then enum_in t))) is ∙ ap constants_in cases.at in
          absurd (omega (arith, few, many, le))

  pub switch_does : (ts : List Around) (of : ℕ) (e : Expr) (gs : Groups) → Has p m sc e (types.Enum of) → IsPlain may e →
      type_of p m e ≡ Some (types.Enum of) → AreCases p m of (labels_in gs) → (starts : List ℕ) (from mid to : ℕ) →
      templates.value p m code sc e from mid →
      slice_get code mid ≡ Some (tableswitch (default_at gs starts to) (targets gs starts to (positions p (type_of p m e)))) →
      (depths p m e).value ≤ max_stack p m →
      ((k : ℕ) → Does_here (around.Switch to ∷ ts) to (constant_at gs starts to k) (chosen gs k)) →
      Does_here ts to from (position p inputs low number_of here e >>= λ k. chosen gs k >>= after_switch)
  switch_does ts of e gs h plain type cases starts from mid to stands_value stands_table room dispatch = record {
    does = λ w s ls q a.
        let c : Moment = moment p r from [] ls s.shared q in
        position_then (C ts to) ls mid c w (types.Enum of) s.locals (enum_given p number_of e)
        (eval p inputs low number_of here s.locals e s.shared) (λ k. chosen gs k >>= after_switch)
        ((eval_good p ok inputs low well number_of m at this h w a.mine a.living.locals).run w (same_world w) s.shared a.living.shared)
        ((forms_do p ok os program inputs me r m code runs this n sc low well may calls number_of at e (types.Enum of) h plain w s ls q
        a).value from mid []
        w s.shared q stands_value (over_none _ _ room) (same_world w) a.living.shared a.holds)
        (λ x k u g heap arrives.
        let place : ℕ = constant_at gs starts to k in
        let leads : Leads (step program me) (moment p r mid (held.Int (pos k) ∷ []) ls u arrives.messages)
        (moment p r place [] ls u arrives.messages) =
        table_goes mid (default_at gs starts to) k place (targets gs starts to (positions p (type_of p m e))) ls u arrives.messages
        stands_table
        (ap (target_at (default_at gs starts to) (targets gs starts to (positions p (type_of p m e)))) (from_none k)
        ∙ look_up (constant_at gs starts to) (default_at gs starts to) (max 1 (constants_of p (type_of p m e))) k
        (λ le. beyond of gs starts to k (type_of p m e) type cases le)) in
        follows_then (step program me) (suc n) (C (around.Switch to ∷ ts) to) (C ts to) c
        (chosen gs k (record { locals = s.locals; shared = u })) after_switch
        (goes_on p ok os program inputs me r m code runs this (suc n) sc (C (around.Switch to ∷ ts) to)
        (completes_closed p ok os program inputs me r m code runs this (around.Switch to ∷ ts) to) place (chosen gs k) (dispatch k) c x
        (record { locals = s.locals; shared = u }) (on_more p ok m this g a.mine)
        (record { locals = row_more p m g a.living.locals; shared = heap })
        (record {
          locals = ls;
          row = a.row;
          arrives = record {
            messages = arrives.messages;
            comes = comes_on (step program me) c (moment p r mid (held.Int (pos k) ∷ []) ls u arrives.messages)
                (moment p r place [] ls u arrives.messages) arrives.comes leads.comes;
            holds = arrives.holds;
          };
        }))
        (λ d v got. after ts to c d v got));
  }
