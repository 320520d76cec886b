-- The least tables have the same members, so there is one report.
use Rattle.std.proofs.Common.{◌≡◌, ℕ, suc, Bool, true, false, List, [], ◌∷◌, refl, sym, ap, subst, ◌∙◌}
use Rattle.std.proofs.lemmas.Bool.{false≢true}
use Rattle.mg_text.specs.Call.{Name}
use Rattle.mg_sets.specs.Sets.{has, members, members_from}
use Rattle.jv_core.specs.Tree.{Program}
use Rattle.use_rules.specs.declared.key.TableKey.{TableKey}
use Rattle.use_flow.specs.declared.held.Tables as held
use Rattle.use_rules.specs.Tables.{Least}
use Rattle.use_flow.specs.View.{tables_of, reached_of}
use Rattle.use_flow.proofs.Reached.{reached_same}
use Rattle.use_check.specs.Report.{lines, report_text, IsReport, OneReport}
use Rattle.use_verdict.specs.Verdict.{AreAnswer}

members_same : (k : ℕ) (s t : List Bool) → ((i : ℕ) → has s i ≡ true → has t i ≡ true) → ((i : ℕ) → has t i ≡ true → has s i ≡ true) →
    members_from k s ≡ members_from k t
members_same k [] [] f g = refl
members_same k [] (true ∷ t) f g = absurd (false≢true (g 0 refl))
members_same k [] (false ∷ t) f g = members_same (suc k) [] t (λ i. f (suc i)) (λ i. g (suc i))
members_same k (true ∷ s) [] f g = absurd (false≢true (f 0 refl))
members_same k (false ∷ s) [] f g = members_same (suc k) s [] (λ i. f (suc i)) (λ i. g (suc i))
members_same k (true ∷ s) (true ∷ t) f g = ap (λ r. k ∷ r) (members_same (suc k) s t (λ i. f (suc i)) (λ i. g (suc i)))
members_same k (true ∷ s) (false ∷ t) f g = absurd (false≢true (f 0 refl))
members_same k (false ∷ s) (true ∷ t) f g = absurd (false≢true (g 0 refl))
members_same k (false ∷ s) (false ∷ t) f g = members_same (suc k) s t (λ i. f (suc i)) (λ i. g (suc i))

each_key : (f g : TableKey → List ℕ) → ((key : TableKey) → f key ≡ g key) → f ≡ g
each_key f g h = λ i key. h key i

pub one_report : OneReport
one_report p a b x y =
    let r : y.reached ≡ x.reached = reached_same p y.reached x.reached y.are x.are in
    let least : Least p x.reached y.tables = subst (λ r. Least p r y.tables) r y.least in
    let same : (λ key. members (x.tables key)) ≡ (λ key. members (y.tables key)) = each_key (λ key. members (x.tables key))
    (λ key. members (y.tables key))
    (λ key. members_same 0 (x.tables key) (y.tables key) (x.least.within y.tables least.closed key).within
    (least.within x.tables x.least.closed key).within) in
    x.is ∙ ap (λ e. lines (record { program = p; reached = x.reached; elements = e })) same ∙ ap (λ r. report_text p r y.tables) (sym r) ∙
    sym y.is

pub is_report : (p : Program) (t : held.Tables) (text : Name) → AreAnswer p t → text ≡ report_text p (reached_of t) (tables_of t) →
    IsReport p text
is_report p t text a e = record { reached = reached_of t; are = a.made.reached; tables = tables_of t; least = a.least; is = e }
