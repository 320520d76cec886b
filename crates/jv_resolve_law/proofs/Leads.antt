-- Where `break` and `continue` lead.
use Rattle.std.proofs.Common.{◌≡◌, ◌≢◌, ℕ, ◌<◌, Bool, true, false, true≢false, List, [], ◌∷◌, map, Option, Some, None, refl, sym, ap, ◌∙◌}
use Rattle.std.proofs.Common.{subst, arith}
use Rattle.std.specs.Prelude.{if◌then◌else◌}
use Rattle.std.proofs.lemmas.Slice.Eq.{bytes_eq-Decides}
use Rattle.mg_text.specs.Call.{Name}
use Rattle.jv_rules.specs.Scope.{Target, Loop, Switch}
use Rattle.jv_names.specs.Resolves.{BreakLeads, ContinueLeads}
use Rattle.jv_names.specs.Resolves as is
use Rattle.jv_names.proofs.Tables.{some_is, none_some}
use Rattle.jv_resolve_law.specs.Statements.{Around, InLoop, InSwitch, is_label, labelled, innermost, left_by, gone_on_by}
use Rattle.jv_resolve_law.proofs.Steps.{mapped}

abbrev pub target : Around → Target
target (InLoop label n) = Loop label
target InSwitch = Switch

abbrev pub loop_number : Around → Option ℕ
loop_number (InLoop label n) = Some n
loop_number InSwitch = None

abbrev pub targets : List Around → List Target
targets around = map target around

abbrev pub loop_numbers : List Around → List (Option ℕ)
loop_numbers around = map loop_number around

-- each loop around is below this number and those of the loops nearer by
abbrev pub LoopsFall : ℕ → List Around → Type 0
LoopsFall n [] = Unit {0}
LoopsFall n (InLoop label k ∷ around) = (k < n) × LoopsFall k around
LoopsFall n (InSwitch ∷ around) = LoopsFall n around

own_label : (own : Option Name) (label : Name) → is_label own label ≡ true → own ≡ Some label
own_label None label e = absurd (true≢false (sym e))
own_label (Some own) label e = ap Some ((bytes_eq-Decides own label).0 e)

other_label : (own : Option Name) (label : Name) → is_label own label ≡ false → own ≢ Some label
other_label None label e h = none_some h
other_label (Some own) label e h = true≢false (sym ((bytes_eq-Decides own label).1 (some_is h)) ∙ e)

-- a loop that was found by its label is below the number
pub record Led (Leads : ℕ → Type 0) (n k : ℕ) : Type 0 where
  pub low : k < n
  pub leads : Leads k

pub break_named : (label : Name) (around : List Around) (n k : ℕ) → LoopsFall n around → labelled around label ≡ Some k →
    Led (λ k. BreakLeads (targets around) (loop_numbers around) (Some label) (Some k)) n k
break_named label [] n k f e = absurd (none_some e)
break_named label (InSwitch ∷ around) n k f e =
    let w = break_named label around n k f e in
    record { low = w.low; leads = is.breaks_out w.leads }
break_named label (InLoop own j ∷ around) n k f e = go (is_label own label) refl e (λ e. break_named label around j k f.1 e)
  where
    go : (b : Bool) → is_label own label ≡ b → (if b then Some j else labelled around label) ≡ Some k →
        (labelled around label ≡ Some k → Led (λ k. BreakLeads (targets around) (loop_numbers around) (Some label) (Some k)) j k) →
        Led (λ k. BreakLeads (Loop own ∷ targets around) (Some j ∷ loop_numbers around) (Some label) (Some k)) n k
    go true t e later =
        subst (Led (λ k. BreakLeads (Loop own ∷ targets around) (Some j ∷ loop_numbers around) (Some label) (Some k)) n) (some_is e)
        (record {
          low = f.0;
          leads = subst (λ own. BreakLeads (Loop own ∷ targets around) (Some j ∷ loop_numbers around) (Some label) (Some j))
              (sym (own_label own label t)) is.breaks_named;
        })
    go false t e later =
        let w = later e in
        record {
          low = let a = w.low in let b = f.0 in omega (arith, a, b);
          leads = is.breaks_other (other_label own label t) (λ same. let a = w.low in omega (arith, a, same)) w.leads;
        }

pub continue_named : (label : Name) (around : List Around) (n k : ℕ) → LoopsFall n around → labelled around label ≡ Some k →
    Led (λ k. ContinueLeads (targets around) (loop_numbers around) (Some label) k) n k
continue_named label [] n k f e = absurd (none_some e)
continue_named label (InSwitch ∷ around) n k f e =
    let w = continue_named label around n k f e in
    record { low = w.low; leads = is.goes_on_out w.leads }
continue_named label (InLoop own j ∷ around) n k f e = go (is_label own label) refl e (λ e. continue_named label around j k f.1 e)
  where
    go : (b : Bool) → is_label own label ≡ b → (if b then Some j else labelled around label) ≡ Some k →
        (labelled around label ≡ Some k → Led (λ k. ContinueLeads (targets around) (loop_numbers around) (Some label) k) j k) →
        Led (λ k. ContinueLeads (Loop own ∷ targets around) (Some j ∷ loop_numbers around) (Some label) k) n k
    go true t e later =
        subst (Led (λ k. ContinueLeads (Loop own ∷ targets around) (Some j ∷ loop_numbers around) (Some label) k) n) (some_is e) (record {
          low = f.0;
          leads = subst (λ own. ContinueLeads (Loop own ∷ targets around) (Some j ∷ loop_numbers around) (Some label) j)
              (sym (own_label own label t)) is.goes_on_named;
        })
    go false t e later =
        let w = later e in
        record {
          low = let a = w.low in let b = f.0 in omega (arith, a, b);
          leads = is.goes_on_other (other_label own label t) (λ same. let a = w.low in omega (arith, a, same)) w.leads;
        }

pub break_leads : (label : Option Name) (around : List Around) (n : ℕ) (k : Option ℕ) → LoopsFall n around →
    left_by around label ≡ Some k →
    BreakLeads (targets around) (loop_numbers around) label k
break_leads None [] n k f e = absurd (none_some e)
break_leads None (InLoop own j ∷ around) n k f e =
    subst (BreakLeads (Loop own ∷ targets around) (Some j ∷ loop_numbers around) None) (some_is e) is.breaks_loop
break_leads None (InSwitch ∷ around) n k f e = subst (BreakLeads (Switch ∷ targets around) (None ∷ loop_numbers around) None)
    (some_is e) is.breaks_switch
break_leads (Some label) around n k f e =
    let m = mapped Some (labelled around label) k e in
    subst (BreakLeads (targets around) (loop_numbers around) (Some label)) m.gives (break_named label around n m.item f m.is).leads

continue_first : (around : List Around) (k : ℕ) → innermost around ≡ Some k → ContinueLeads (targets around) (loop_numbers around) None k
continue_first [] k e = absurd (none_some e)
continue_first (InLoop own j ∷ around) k e = subst (ContinueLeads (Loop own ∷ targets around) (Some j ∷ loop_numbers around) None)
    (some_is e) is.goes_on
continue_first (InSwitch ∷ around) k e = is.goes_on_out (continue_first around k e)

pub continue_leads : (label : Option Name) (around : List Around) (n k : ℕ) → LoopsFall n around → gone_on_by around label ≡ Some k →
    ContinueLeads (targets around) (loop_numbers around) label k
continue_leads None around n k f e = continue_first around k e
continue_leads (Some label) around n k f e = (continue_named label around n k f e).leads
