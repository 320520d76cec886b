-- No meaning of a core ends with Wrong.
use Rattle.std.proofs.Common.{◌≡◌, ◌≢◌, ℕ, zero, suc, ◌≤◌, Bool, true, false, ◌&&◌, List, [], ◌∷◌, ◌++◌, length, map, take, reverse, Option}
use Rattle.std.proofs.Common.{Some, None, refl, sym, ap, ◌∙◌, subst, append_assoc, append-nil, arith}
use Rattle.std.specs.Prelude.{if◌then◌else◌, slice_get, option_map, option_and_then, nat_eq}
use Rattle.std.proofs.lemmas.List.{reverse-append}
use Rattle.jv_values.specs.Values.{Value, Row, Shared, Wrong, More, Done, Inputs, Here, Lives, bound}
use Rattle.jv_values.specs.Values as values
use Rattle.jv_values.specs.Doing.{Outcome, Gives, Ends, and_then, stop, found}
use Rattle.jv_values.specs.Statements.{Completion, Normal, Breaks, Continues, Returns}
use Rattle.jv_values.specs.Calls.{returned, result, body_from, suits, called}
use Rattle.jv_values.specs.Budget.{below, ended, ran}
use Rattle.jv_core.specs.declared.program.CoreType.{CoreType}
use Rattle.jv_core.specs.declared.program.CoreType.TheVariants as types
use Rattle.jv_core.specs.declared.program.MethodKind.{MethodKind}
use Rattle.jv_core.specs.declared.program.MethodKind.TheVariants as kinds
use Rattle.jv_core.specs.Tree.{Slot, Method, Program, Block}
use Rattle.jv_core.specs.Lookup.{slot_type, param_types, IsInstance, class_numbered, is_main}
use Rattle.jv_core.specs.Statements.{Target, LoopOf, Fine}
use Rattle.jv_core.specs.Statements
use Rattle.jv_core.specs.Completes.{LeavesAll, Leaves}
use Rattle.jv_core.specs.Numbering.{numbers_from}
use Rattle.jv_core.specs.Conditions.{IsMethod, IsMain, IsOfKind, IsCore}
use Rattle.jv_core.specs.Meaning.{Lower, Code, runs_on_object, is_result, as_run, exec, language, main_in}
use Rattle.jv_sound.specs.Laws.{NeverWrong}
use Rattle.jv_sound.proofs.Lists.{some_is, none_in}
use Rattle.jv_sound.proofs.Worlds.{World, Extends, same_world, further, Got, Good, Runs, runs_stop, runs_at, Fits, fits_more, GivesA}
use Rattle.jv_sound.proofs.Worlds.{AllFit, RowFits, Puts}
use Rattle.jv_sound.proofs.Worlds as worlds
use Rattle.jv_sound.proofs.Objects.{Heap, Owned}
use Rattle.jv_sound.proofs.Objects as objects
use Rattle.jv_sound.proofs.Expressions.{Callable, method_ok}
use Rattle.jv_sound.proofs.Completions.{Living, Comes, within_runs}
use Rattle.jv_sound.proofs.Executions.{Lowers, exec_good}

-- Parameters.

-- slots have these types
pub data HaveTypes (m : Method) : List ℕ → List CoreType → Type 0 where
  none : HaveTypes m [] []
  more : {k : ℕ} {t : CoreType} {ks : List ℕ} {ts : List CoreType} → slot_type m k ≡ Some t → HaveTypes m ks ts →
      HaveTypes m (k ∷ ks) (t ∷ ts)

at_front : (front : List Slot) (s : Slot) (rest : List Slot) → slice_get (front ++ s ∷ rest) (length front) ≡ Some s
at_front [] s rest = refl
at_front (f ∷ front) s rest = at_front front s rest

longer : (front : List Slot) (s : Slot) → length (front ++ s ∷ []) ≡ suc (length front)
longer [] s = refl
longer (f ∷ front) s = ap suc (longer front s)

-- the slots behind some of a method, from the number of those on
pub have_types : (m : Method) (front rest : List Slot) (count : ℕ) → m.slots ≡ front ++ rest → count ≤ length rest →
    HaveTypes m (numbers_from (length front) count) (map (λ s. s.ty) (take count rest))
have_types m front rest zero e le = none
have_types m front [] (suc count) e le = absurd (omega arith)
have_types m front (s ∷ rest) (suc count) e le =
    more (ap (λ slots. option_map (λ (s : Slot). s.ty) (slice_get slots (length front))) e
    ∙ ap (option_map (λ (s : Slot). s.ty)) (at_front front s rest))
    (subst (λ n. HaveTypes m (numbers_from n count) (map (λ s. s.ty) (take count rest))) (longer front s)
    (have_types m (front ++ s ∷ []) rest count (e ∙ sym (append_assoc front (s ∷ []) rest)) (shorter le)))
  where
    shorter : suc count ≤ length (s ∷ rest) → count ≤ length rest
    shorter le = omega arith

-- arguments become the parameters, the last innermost
pub bounds : (p : Program) (m : Method) (w : World) (ks : List ℕ) (vs : List Value) (ts : List CoreType) (sc : List ℕ) (row : Row ℕ) →
    HaveTypes m ks ts → AllFit p w vs ts → RowFits p m w sc row →
    Puts p m w (reverse ks ++ sc) (bound ks vs row)
bounds p m w ks vs ts sc row none worlds.no_values r = record { row = row; is = refl; fits = r }
bounds p m w ks vs ts sc row (more {k = k} {ks = rest} e h) (worlds.value {v = v} f fs) r =
    let q = bounds p m w _ _ _ (k ∷ sc) ((k, v) ∷ row) h fs (worlds.more e f r) in
    record { row = q.row; is = q.is; fits = subst (λ sc. RowFits p m w sc q.row) (turned k rest sc) q.fits }
  where
    turned : (k : ℕ) (ks sc : List ℕ) → reverse ks ++ (k ∷ sc) ≡ reverse (k ∷ ks) ++ sc
    turned k ks sc = sym (append_assoc (reverse ks) (k ∷ []) sc) ∙ ap (λ front. front ++ sc) (sym (reverse-append (k ∷ []) ks))

module _ (p : Program) (ok : IsCore p) where
  -- What a body returns.

  void_gives : (w : World) (t : CoreType) → t ≡ types.Void → GivesA p w None t
  void_gives w t e = subst (GivesA p w None) (sym e) worlds.nothing

  has_none : (t : CoreType) → t ≡ types.Void → is_result t ≡ false
  has_none t e = ap is_result e

  has_one : (t : CoreType) → t ≢ types.Void → is_result t ≡ true
  has_one types.Void n = absurd (n refl)
  has_one types.Int n = refl
  has_one types.Boolean n = refl
  has_one types.Text n = refl
  has_one (types.Object c) n = refl
  has_one (types.Enum e) n = refl

  data Void? (t : CoreType) : Type 0 where
    is_void : t ≡ types.Void → Void? t
    is_value : t ≢ types.Void → Void? t

  void? : (t : CoreType) → Void? t
  void? types.Void = is_void refl
  void? types.Int = is_value (λ e. cc)
  void? types.Boolean = is_value (λ e. cc)
  void? types.Text = is_value (λ e. cc)
  void? (types.Object c) = is_value (λ e. cc)
  void? (types.Enum e) = is_value (λ e. cc)

  record Back (w : World) (t : CoreType) (o : Option (Option Value)) : Type 0 where
    value : Option Value
    is : o ≡ Some value
    fits : GivesA p w value t

  returns_well : (m : Method) → IsMethod p m → (w : World) (c : Completion ℕ) → Comes p ok m [] (LeavesAll m.body) w c →
      Back w m.result (returned (is_result m.result) c)
  returns_well m is w Normal h = go (void? m.result)
    where
      go : Void? m.result → Back w m.result (returned {K = ℕ} (is_result m.result) Normal)
      go (is_void e) = record {
        value = None;
        is = ap (λ has. returned {K = ℕ} has Normal) (has_none m.result e);
        fits =
            void_gives w m.result e;
      }
      go (is_value n) = absurd (is.returns n h)
  returns_well m is w (Breaks None) h = absurd h.1
  returns_well m is w (Breaks (Some l)) h = absurd (none_in (LoopOf l) h.1)
  returns_well m is w (Continues None) h = absurd h
  returns_well m is w (Continues (Some l)) h = absurd (none_in (LoopOf l) h.1)
  returns_well m is w (Returns None) h = record {
    value = None;
    is =
        ap (λ has. returned {K = ℕ} has (Returns None)) (has_none m.result h);
    fits = void_gives w m.result h;
  }
  returns_well m is w (Returns (Some v)) h = record {
    value = Some v;
    is =
        ap (λ has. returned {K = ℕ} has (Returns (Some v))) (has_one m.result h.1);
    fits = worlds.value h.0;
  }

  result_well : (m : Method) → IsMethod p m → (sc : List ℕ) (w : World) (o : Outcome (Lives ℕ) (Completion ℕ)) →
      Good (Living p ok m sc) (Comes p ok m [] (LeavesAll m.body)) w o →
      Good (Heap p ok) (λ w r. GivesA p w r m.result) w (result (is_result m.result) o)
  result_well m is sc w (Gives c s) g =
      let b = returns_well m is g.world c g.is in
      subst (λ o. Good (Heap p ok) (λ w r. GivesA p w r m.result) w (found o s.shared)) (sym b.is)
      (record { world = g.world; grown = g.grown; state = g.state.shared; is = b.fits })
  result_well m is sc w (Ends f es) g = g

  called_well : (inputs : Inputs) (low : Lower) → Lowers p ok low → (n : ℕ) (m : Method) → slice_get p.methods n ≡ Some m →
      (w : World) (this : Option ℕ) (vs : List Value) → Callable p ok w m this → AllFit p w vs (param_types m) →
      Runs (Heap p ok) (λ w r. GivesA p w r m.result) w (called ((language p inputs).exec low) (Some (as_run p n m)) this vs)
  called_well inputs low lows n m at w this vs c fs = record {
    run = λ x q s h.
        let is = method_ok p ok n m at in
        let ks = numbers_from 0 m.params in
        let sc = reverse ks in
        let b = bounds p m x ks vs (param_types m) [] [] (have_types m [] m.slots m.params refl is.numbered.params)
        (worlds.all_more p q fs) worlds.none in
        let run = λ (row : Row ℕ). body_from (is_result m.result) row
        (exec p inputs low n (record { class = m.class; object = this }) (Block m.place m.body m.end)) in
        let equal : called ((language p inputs).exec low) (Some (as_run p n m)) this vs s ≡ body_from (is_result m.result) b.row
        (exec p inputs low n (record { class = m.class; object = this }) (Block m.place m.body m.end)) s =
        ap (λ o. and_then (found o s) (λ row. if suits (runs_on_object m.kind) this then body_from (is_result m.result) row
        (exec p inputs low n (record { class = m.class; object = this }) (Block m.place m.body m.end)) else stop Wrong)) b.is
        ∙ ap (λ z. (if z then body_from (is_result m.result) b.row
        (exec p inputs low n (record { class = m.class; object = this }) (Block m.place m.body m.end)) else stop Wrong) s) c.suits in
        subst (Good (Heap p ok) (λ w r. GivesA p w r m.result) x) (sym equal)
        (result_well m is sc x (exec p inputs low n (record { class = m.class; object = this }) (Block m.place m.body m.end)
        (record { locals = b.row; shared = s }))
        ((exec_good p ok inputs low lows n m at is this (Statements.block {q = m.place} {end = m.end} is.body) x
        (λ i. objects.owned_more p ok q (c.owned i))).run x (same_world x) (record { locals = b.row; shared = s })
        (record { locals = subst (λ sc. RowFits p m x sc b.row) (append-nil sc) b.fits; shared = h })));
  }

  -- every budget
  pub lowers : (inputs : Inputs) (budget : ℕ) → Lowers p ok (below (language p inputs) budget)
  lowers inputs zero = record {
    calls = λ n m at w this vs c fs. runs_stop (Heap p ok) (λ w r. GivesA p w r m.result) w More (λ e. cc);
    turn = λ n m at this sc ts z x w o. within_runs p ok m (Comes p ok m ts (Leaves z)) sc w (λ locals. stop More)
        (λ y row q r. runs_stop (Heap p ok) (Comes p ok m ts (Leaves z)) y More (λ e. cc));
  }
  lowers inputs (suc budget) =
      let low = below (language p inputs) budget in
      record {
        calls = λ n m at w this vs c fs. subst (λ o. Runs (Heap p ok) (λ w r. GivesA p w r m.result) w
            (called ((language p inputs).exec low) (option_map (as_run p n) o) this vs)) (sym at)
            (called_well inputs low (lowers inputs budget) n m at w this vs c fs);
        turn = λ n m at this sc ts z x w o. exec_good p ok inputs low (lowers inputs budget) n m at (method_ok p ok n m at) this x w o;
      }

  -- Where a run begins.

  ends_well : (t : CoreType) (o : Outcome Shared (Option Value)) → Good (Heap p ok) (λ w r. GivesA p w r t) [] o →
      (ended o).finish ≢ Wrong
  ends_well t (Gives v s) g = λ e. cc
  ends_well t (Ends f es) g = g

  pub record IsMainAt (c : ℕ) (r : values.Method ℕ Code) : Type 0 where
    pub number : ℕ
    pub method : Method
    pub at : slice_get p.methods number ≡ Some method
    pub main : method.kind ≡ kinds.Main
    pub mine : nat_eq method.class c ≡ true
    pub is : r ≡ as_run p number method

  method_front : (front : List Method) (m : Method) (rest : List Method) → slice_get (front ++ m ∷ rest) (length front) ≡ Some m
  method_front [] m rest = refl
  method_front (f ∷ front) m rest = method_front front m rest

  more_methods : (front : List Method) (m : Method) → length (front ++ m ∷ []) ≡ suc (length front)
  more_methods [] m = refl
  more_methods (f ∷ front) m = ap suc (more_methods front m)

  both_true : (a b : Bool) → (a && b) ≡ true → b ≡ true
  both_true true b e = e
  both_true false b e = absurd (cc)

  first_true : (a b : Bool) → (a && b) ≡ true → a ≡ true
  first_true true b e = refl
  first_true false b e = absurd (cc)

  main_kind : (k : MethodKind) → is_main k ≡ true → k ≡ kinds.Main
  main_kind kinds.Main e = refl
  main_kind kinds.Static e = absurd (cc)
  main_kind kinds.Helper e = absurd (cc)
  main_kind kinds.Protocol e = absurd (cc)

  pub main_at : (c : ℕ) (front ms : List Method) (r : values.Method ℕ Code) → p.methods ≡ front ++ ms →
      main_in p c (length front) ms ≡ Some r → IsMainAt c r
  main_at c front [] r e f = absurd (cc)
  main_at c front (m ∷ ms) r e f =
      go (λ g. main_at c (front ++ m ∷ []) ms r (e ∙ sym (append_assoc front (m ∷ []) ms))
      (ap (λ n. main_in p c n ms) (more_methods front m) ∙ g)) (nat_eq m.class c && is_main m.kind) refl f
    where
      go : (main_in p c (suc (length front)) ms ≡ Some r → IsMainAt c r) → (b : Bool) → (nat_eq m.class c && is_main m.kind) ≡ b →
          (if b then Some (as_run p (length front) m) else main_in p c (suc (length front)) ms) ≡ Some r → IsMainAt c r
      go ih true is f = record {
        number = length front;
        method = m;
        at = ap (λ ms. slice_get ms (length front)) e ∙ method_front front m ms;
        main = main_kind m.kind (both_true (nat_eq m.class c) (is_main m.kind) is);
        mine = first_true (nat_eq m.class c) (is_main m.kind) is;
        is = sym (some_is f);
      }
      go ih false is f = ih f

  no_params : (m : Method) → m.params ≡ 0 → param_types m ≡ []
  no_params m e = ap (λ n. map (λ (s : Slot). s.ty) (take n m.slots)) e

  pub is_main_method : (m : Method) (k : MethodKind) → IsOfKind p m k → k ≡ kinds.Main → IsMain p m
  is_main_method m kinds.Main h e = h
  is_main_method m kinds.Static h e = absurd (cc)
  is_main_method m kinds.Helper h e = absurd (cc)
  is_main_method m kinds.Protocol h e = absurd (cc)

  ran_well : (inputs : Inputs) (budget : ℕ) (c : ℕ) (r : values.Method ℕ Code) → main_in p c 0 p.methods ≡ Some r →
      (ran (language p inputs) (Some r) budget).finish ≢ Wrong
  ran_well inputs budget c r e =
      let i = main_at c [] p.methods r refl e in
      let low = below (language p inputs) budget in
      let is = method_ok p ok i.number i.method i.at in
      let start : Shared = record { heap = []; events = [] } in
      let main = is_main_method i.method i.method.kind is.kind i.main in
      subst (λ r. (ran (language p inputs) (Some r) budget).finish ≢ Wrong) (sym i.is)
      (ends_well i.method.result (called ((language p inputs).exec low) (Some (as_run p i.number i.method)) None [] start)
      ((called_well inputs low (lowers inputs budget) i.number i.method i.at [] None []
      (record { suits = ap (λ k. suits (runs_on_object k) None) i.main; owned = λ u. absurd (subst IsInstance i.main u) })
      (subst (AllFit p [] []) (sym (no_params i.method main.params)) worlds.no_values)).run [] (same_world []) start
      (record { objects = objects.none })))

  begun : (inputs : Inputs) (budget : ℕ) (c : Option ℕ) → option_and_then (λ c. main_in p c 0 p.methods) c ≢ None →
      (ran (language p inputs) (option_and_then (λ c. main_in p c 0 p.methods) c) budget).finish ≢ Wrong
  begun inputs budget None has = absurd (has refl)
  begun inputs budget (Some c) has = go (main_in p c 0 p.methods) refl has
    where
      go : (o : Option (values.Method ℕ Code)) → main_in p c 0 p.methods ≡ o → o ≢ None →
          (ran (language p inputs) o budget).finish ≢ Wrong
      go None e has = absurd (has refl)
      go (Some r) e has = ran_well inputs budget c r e

pub never_wrong : NeverWrong
never_wrong p ok class has inputs budget = begun p ok inputs budget (class_numbered p class) has
