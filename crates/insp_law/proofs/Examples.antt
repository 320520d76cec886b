-- All that is reached in that program, and that no demand fails in it.
use Rattle.std.proofs.Common.{◌≡◌, ◌≢◌, ◌⊎◌, inl, inr, ℕ, zero, suc, Bool, true, false, true≢false, List, [], ◌∷◌, Contains, Option, Some}
use Rattle.std.proofs.Common.{None}
use Rattle.std.proofs.Common.{refl, sym, ap, ◌∙◌, subst, arith}
use Rattle.std.specs.Prelude.{◌==◌, if◌then◌else◌}
use Rattle.std.proofs.lemmas.Bool.Decides.{eqb_tells}
use Rattle.mg_text.specs.Call.{Name}
use Rattle.ts_tree.specs.declared.parts.To.TheVariants as tos
use Rattle.insp_rules.specs.Program.{Truth, Itself, Other, Null, Result, Void, Boolean, Equal, Invocation, Instruction, Move, Load, Store}
use Rattle.insp_rules.specs.Program.{Just, IfNull, IfSign, Make, Call, CallIn, CallOut, Return}
use Rattle.insp_rules.specs.Program.{handlers_at, result_of, is_called_otherwise, is_of_followed, taken, first, shape, nth}
use Rattle.insp_rules.specs.Frames.{Known, Bare, Object, Answer, Element, At, Pending, Group, Sight, unknown, group, new_group, sight}
use Rattle.insp_rules.specs.Frames.{has_group}
use Rattle.insp_rules.specs.Frames.{known_among, finished, Way, Holds, CallHolds, MayBe, NoneOpen, class_known, seen_at, Receives}
use Rattle.insp_rules.specs.Frames.{IsHandedBack}
use Rattle.insp_rules.specs.Frames.{given_back, is_followed, is_below, upset_group, added}
use Rattle.insp_rules.specs.Frames as frames
use Rattle.insp_rules.specs.Reached.{Context, IsRoot, Fact, Entered, Outside, Reached, Left, Found, Inspected, outside_context, Outcome}
use Rattle.insp_rules.specs.Reached.{Plainly}
use Rattle.insp_rules.specs.Reached.{Exit, Takes, Stands, Both, resumed, caught_upon, entry}
use Rattle.insp_rules.specs.Reached as reached
use Rattle.insp_rules.specs.Numbers.{canonical, numbered_groups}
use Rattle.insp_law.specs.Laws.{Example}
use Rattle.insp_rules.proofs.Lists.{some_is}
use Rattle.insp_rules.proofs.Numbers.{numbering}
use Rattle.insp_law.proofs.Sample.{asks, ends, branches, asking, c, getting, p, begins_at, roots, there, perhaps, asked, ended}
use Rattle.insp_law.proofs.Sample.{Only, only_numbered, done_open, object, Main, m0, m1, m2, m2', h0, h1, h2, h3, h4, h5, t0, t1, t2, t3}
use Rattle.insp_law.proofs.Sample.{t4, t5, t6, t6', g0, g1, Ctx, in_main, in_taker, in_getter, in_helper, Stage, Next, next}
use Rattle.insp_law.proofs.SampleDemands.{on_there, calls_getter, Gives, of_main, of_taker, of_getter, of_helper, gives, holds, receives}

-- ---- all that is reached

abbrev Good : Fact → Type 0
Good (Entered d) = Ctx d
Good (Outside d) = Ctx d
Good (Reached d at f) = (k : Ctx d) × Stage k at f
Good (Left d e) = d.method ≡ 1 → (e.groups 0 ≡ Some ended) × (e.outcome ≡ Plainly Other)

first_roots : (d : Context) → Contains roots d → Ctx d
first_roots d (zero, less, e) = subst Ctx e in_main
first_roots d (suc zero, less, e) = subst Ctx e in_taker
first_roots d (suc (suc k), less, e) = absurd (omega (arith, less))

outcome_is : (held : ℕ) (gs : ℕ → Option Group) (a : Known) (o : Outcome) → reached.Outcomes held gs a o → a ≡ Bare Other →
    o ≡ Plainly Other
outcome_is held gs a o (reached.bare {b = b}) q = let w : b ≡ Other = cc in ap (λ b. Plainly (reached.kept_plain b)) w
outcome_is held gs a o (reached.answer_held less) q = absurd (cc)
outcome_is held gs a o (reached.answer_own over) q = absurd (cc)
outcome_is held gs a o (reached.answer_form not_itself) q = absurd (cc)
outcome_is held gs a o (reached.held_one less) q = absurd (cc)
outcome_is held gs a o (reached.new x over e) q = absurd (cc)

-- where a throw is caught
only_two : (to : ℕ) → Contains (2 ∷ []) to → 2 ≡ to
only_two to (zero, less, e) = e
only_two to (suc k, less, e) = absurd (omega (arith, less))

only_three : (to : ℕ) → Contains (3 ∷ []) to → 3 ≡ to
only_three to (zero, less, e) = e
only_three to (suc k, less, e) = absurd (omega (arith, less))

never : {to : ℕ} → Contains {X = ℕ} [] to → ⊥
never (k, less, e) = omega (arith, less)

begins_so : (d : Context) → Ctx d → (k : Ctx d) × Stage k 0 (canonical d.held (entry p d))
begins_so d in_main = (in_main, m0 (numbered_groups [] (λ g. None)) (λ g. refl))
begins_so d in_taker = (in_taker, t0 (numbered_groups [] (λ g. None)) (λ g. refl))
begins_so d in_getter = (in_getter, g0 (numbered_groups [] (λ g. None)) (λ g. refl))
begins_so d (in_helper gs o) = (in_helper gs o, h0 (numbered_groups (0 ∷ []) gs) (only_numbered gs there o))

-- behind the followed call
old_zero : (old : ℕ → ℕ) (groups : ℕ → Option Group) (a b : Known) → Stands old groups a b → a ≡ object → b ≡ object → old 0 ≡ 0
old_zero old groups a b reached.bare q r = absurd (cc)
old_zero old groups a b (reached.coarser x) q r = absurd (cc)
old_zero old groups a b (reached.answer x l) q r = absurd (cc)
old_zero old groups a b reached.forgotten q r = absurd (cc)
old_zero old groups a b (reached.object {g = g} x l) q r =
    let g_is : g ≡ 0 = cc in
    let o : old g ≡ 0 = cc in
    ap old (sym g_is) ∙ o

head_stands : (old : ℕ → ℕ) (groups : ℕ → Option Group) {xs ys : List Known} → Both (Stands old groups) xs ys → xs ≡ object ∷ [] →
    ys ≡ object ∷ [] →
    old 0 ≡ 0
head_stands old groups reached.none q r = absurd (cc)
head_stands old groups (reached.more {a = a} {b = b} {xs = xs} {ys = ys} s ss) q r =
    let a_is : a ≡ object = cc in
    let b_is : b ≡ object = cc in
    old_zero old groups a b s a_is b_is

behind_call : (gs : ℕ → Option Group) (o : Only gs there) (e : Exit) (old : ℕ → ℕ) → old 0 ≡ 0 → e.groups 0 ≡ Some ended →
    Only (reached.groups_behind old 1 e (sight (shape [] (object ∷ [])) gs 1)) ended
behind_call gs o e old zero_is left = record {
  at = ap (λ a. reached.by_exit e.groups (gs 0) (if a == 0 then Some 0 else None)) zero_is ∙ left;
  others = λ g ne. ap (λ a. reached.by_exit e.groups (gs g) (if a == g then Some 0 else None)) zero_is ∙ go g ne (eqb_tells 0 g);
}
  where
    go : (g : ℕ) → g ≢ 0 → ((0 == g) ≡ true) × (0 ≡ g) ⊎ ((0 == g) ≡ false) × (0 ≢ g) →
        reached.by_exit e.groups (gs g) (if 0 == g then Some 0 else None) ≡ None
    go g ne (inl w) = absurd (ne (sym w.1))
    go g ne (inr w) = ap (λ (b : Bool). reached.by_exit e.groups (gs g) (if b then Some 0 else None)) w.0 ∙ o.others g ne

-- what is behind it
abbrev Back : (ℕ → Option Group) → Exit → (callee n words : ℕ) → Type 0
Back gs e callee n words = (callee ≡ 1 → (e.groups 0 ≡ Some ended) × (e.outcome ≡ Plainly Other)) →
    (takes : Takes callee (first n (object ∷ [])) (sight (shape [] (object ∷ [])) gs 1)
    (numbering.context callee (first n (object ∷ [])) (sight (shape [] (object ∷ [])) gs 1))) →
    Next Main 0 2 (resumed takes.old
    (numbering.context callee (first n (object ∷ [])) (sight (shape [] (object ∷ [])) gs 1)).held n words e
    (sight (shape [] (object ∷ [])) gs 1))

came_back : (gs : ℕ → Option Group) (o : Only gs there) (e : Exit) (takes : Takes 1 (object ∷ []) (sight (shape [] (object ∷ [])) gs 1)
    (numbering.context 1 (object ∷ []) (sight (shape [] (object ∷ [])) gs 1))) → (e.groups 0 ≡ Some ended) × (e.outcome ≡ Plainly Other) →
    Next Main 0 2 (resumed takes.old 1 1 0 e (sight (shape [] (object ∷ [])) gs 1))
came_back gs o e takes left =
    subst (λ out. Next Main 0 2 (reached.resumed_by 0 out takes.old (shape [] [])
    (sight (shape [] (object ∷ [])) (reached.groups_behind takes.old 1 e (sight (shape [] (object ∷ [])) gs 1)) 1))) (sym left.1) (record {
      stage = m2 (numbered_groups [] (reached.groups_behind takes.old 1 e (sight (shape [] (object ∷ [])) gs 1))) (λ g. refl);
      kept = done_open 0 (shape [] []) (reached.groups_behind takes.old 1 e (sight (shape [] (object ∷ [])) gs 1)) 1 ended
          (behind_call gs o e takes.old
          (head_stands takes.old (numbering.context 1 (object ∷ []) (sight
          (shape [] (object ∷ [])) gs 1)).groups takes.arguments refl refl) left.0)
          refl;
    })

-- the only followed call enters the helper
entered : (d : Context) (k : Ctx d) (at : ℕ) (f : Sight) (callee n words : ℕ) → Stage k at f →
    seen_at p d.method at f ≡ Some (CallIn callee n words) → Ctx (numbering.context callee (first n f.shape.operands) f)
entered d in_main at f callee n words (m0 gs none) e =
    let q : Make c ≡ CallIn callee n words = some_is e in absurd (cc)
entered d in_main at f callee n words (m1 gs o) e =
    let q : CallIn 1 1 0 ≡ CallIn callee n words = some_is e in
    let callee_is : 1 ≡ callee = cc in
    let n_is : 1 ≡ n = cc in
    subst (λ b. Ctx (numbering.context b (first n (object ∷ [])) (sight (shape [] (object ∷ [])) gs 1))) callee_is
    (subst (λ b. Ctx (numbering.context 1 (first b (object ∷ [])) (sight (shape [] (object ∷ [])) gs 1))) n_is
    (in_helper (numbered_groups (0 ∷ []) gs) (only_numbered gs there o)))
entered d in_main at f callee n words (m2 gs none) e =
    let q : Return 0 ≡ CallIn callee n words = some_is e in absurd (cc)
entered d in_main at f callee n words (m2' gs none) e =
    let q : Return 0 ≡ CallIn callee n words = some_is e in absurd (cc)
entered d in_taker at f callee n words (t0 gs none) e =
    let q : CallOut getting ≡ CallIn callee n words = some_is e in absurd (cc)
entered d in_taker at f callee n words (t1 gs o) e =
    let q : Store 0 ≡ CallIn callee n words = some_is e in absurd (cc)
entered d in_taker at f callee n words (t2 gs o) e =
    let q : Load 0 ≡ CallIn callee n words = some_is e in absurd (cc)
entered d in_taker at f callee n words (t3 gs o) e =
    let q : IfNull true 6 ≡ CallIn callee n words = some_is e in absurd (cc)
entered d in_taker at f callee n words (t4 gs o) e =
    let q : Load 0 ≡ CallIn callee n words = some_is e in absurd (cc)
entered d in_taker at f callee n words (t5 gs o) e =
    let q : Call ends 0 Void ≡ CallIn callee n words = on_there ends Void gs there (CallIn callee n words) o e in absurd (cc)
entered d in_taker at f callee n words (t6 gs o) e =
    let q : Return 0 ≡ CallIn callee n words = some_is e in absurd (cc)
entered d in_taker at f callee n words (t6' gs none) e =
    let q : Return 0 ≡ CallIn callee n words = some_is e in absurd (cc)
entered d in_getter at f callee n words (g0 gs none) e =
    let q : Move 0 (Just Null ∷ []) ≡ CallIn callee n words = some_is e in absurd (cc)
entered d in_getter at f callee n words (g1 gs none) e =
    let q : Return 1 ≡ CallIn callee n words = some_is e in absurd (cc)
entered d (in_helper hs u) at f callee n words (h0 gs o) e =
    let q : Load 0 ≡ CallIn callee n words = some_is e in absurd (cc)
entered d (in_helper hs u) at f callee n words (h1 gs o) e =
    let q : Call asks 0 Boolean ≡ CallIn callee n words = on_there asks Boolean gs there (CallIn callee n words) o e in absurd (cc)
entered d (in_helper hs u) at f callee n words (h2 gs o) e =
    let q : IfSign Equal 5 ≡ CallIn callee n words = some_is e in absurd (cc)
entered d (in_helper hs u) at f callee n words (h3 gs o) e =
    let q : Load 0 ≡ CallIn callee n words = some_is e in absurd (cc)
entered d (in_helper hs u) at f callee n words (h4 gs o) e =
    let q : Call ends 0 Void ≡ CallIn callee n words = on_there ends Void gs there (CallIn callee n words) o e in absurd (cc)
entered d (in_helper hs u) at f callee n words (h5 gs o) e =
    let q : Return 0 ≡ CallIn callee n words = some_is e in absurd (cc)

comes_back : (d : Context) (k : Ctx d) (at : ℕ) (f : Sight) (e : Exit) (callee n words : ℕ) → Stage k at f →
    seen_at p d.method at f ≡ Some (CallIn callee n words) →
    (callee ≡ 1 → (e.groups 0 ≡ Some ended) × (e.outcome ≡ Plainly Other)) →
    (takes : Takes callee (first n f.shape.operands) f (numbering.context callee (first n f.shape.operands) f)) →
    Next (Stage k) d.held (suc at) (resumed takes.old (numbering.context callee (first n f.shape.operands) f).held n words e f)
comes_back d in_main at f x callee n words (m0 gs none) e left takes =
    let q : Make c ≡ CallIn callee n words = some_is e in absurd (cc)
comes_back d in_main at f x callee n words (m1 gs o) e left takes =
    let q : CallIn 1 1 0 ≡ CallIn callee n words = some_is e in
    let callee_is : 1 ≡ callee = cc in
    let n_is : 1 ≡ n = cc in
    let words_is : 0 ≡ words = cc in
    subst (λ b. Back gs x b n words) callee_is (subst (λ b. Back gs x 1 b words) n_is (subst (λ b. Back gs x 1 1 b) words_is
    (λ left takes. came_back gs o x takes (left refl)))) left takes
comes_back d in_main at f x callee n words (m2 gs none) e left takes =
    let q : Return 0 ≡ CallIn callee n words = some_is e in absurd (cc)
comes_back d in_main at f x callee n words (m2' gs none) e left takes =
    let q : Return 0 ≡ CallIn callee n words = some_is e in absurd (cc)
comes_back d in_taker at f x callee n words (t0 gs none) e left takes =
    let q : CallOut getting ≡ CallIn callee n words = some_is e in absurd (cc)
comes_back d in_taker at f x callee n words (t1 gs o) e left takes =
    let q : Store 0 ≡ CallIn callee n words = some_is e in absurd (cc)
comes_back d in_taker at f x callee n words (t2 gs o) e left takes =
    let q : Load 0 ≡ CallIn callee n words = some_is e in absurd (cc)
comes_back d in_taker at f x callee n words (t3 gs o) e left takes =
    let q : IfNull true 6 ≡ CallIn callee n words = some_is e in absurd (cc)
comes_back d in_taker at f x callee n words (t4 gs o) e left takes =
    let q : Load 0 ≡ CallIn callee n words = some_is e in absurd (cc)
comes_back d in_taker at f x callee n words (t5 gs o) e left takes =
    let q : Call ends 0 Void ≡ CallIn callee n words = on_there ends Void gs there (CallIn callee n words) o e in absurd (cc)
comes_back d in_taker at f x callee n words (t6 gs o) e left takes =
    let q : Return 0 ≡ CallIn callee n words = some_is e in absurd (cc)
comes_back d in_taker at f x callee n words (t6' gs none) e left takes =
    let q : Return 0 ≡ CallIn callee n words = some_is e in absurd (cc)
comes_back d in_getter at f x callee n words (g0 gs none) e left takes =
    let q : Move 0 (Just Null ∷ []) ≡ CallIn callee n words = some_is e in absurd (cc)
comes_back d in_getter at f x callee n words (g1 gs none) e left takes =
    let q : Return 1 ≡ CallIn callee n words = some_is e in absurd (cc)
comes_back d (in_helper hs u) at f x callee n words (h0 gs o) e left takes =
    let q : Load 0 ≡ CallIn callee n words = some_is e in absurd (cc)
comes_back d (in_helper hs u) at f x callee n words (h1 gs o) e left takes =
    let q : Call asks 0 Boolean ≡ CallIn callee n words = on_there asks Boolean gs there (CallIn callee n words) o e in absurd (cc)
comes_back d (in_helper hs u) at f x callee n words (h2 gs o) e left takes =
    let q : IfSign Equal 5 ≡ CallIn callee n words = some_is e in absurd (cc)
comes_back d (in_helper hs u) at f x callee n words (h3 gs o) e left takes =
    let q : Load 0 ≡ CallIn callee n words = some_is e in absurd (cc)
comes_back d (in_helper hs u) at f x callee n words (h4 gs o) e left takes =
    let q : Call ends 0 Void ≡ CallIn callee n words = on_there ends Void gs there (CallIn callee n words) o e in absurd (cc)
comes_back d (in_helper hs u) at f x callee n words (h5 gs o) e left takes =
    let q : Return 0 ≡ CallIn callee n words = some_is e in absurd (cc)

-- behind a throw that is caught
no_throw : (d : Context) (k : Ctx d) (at to : ℕ) (f : Sight) (i : Instruction) {P : Type 0} → Stage k at f →
    Contains (handlers_at p d.method at) to → seen_at p d.method at f ≡ Some i → reached.MayLeaveAll i f → P
no_throw d in_main at to f i (m0 gs none) h e l = absurd (never h)
no_throw d in_main at to f i (m1 gs o) h e l = absurd (l.no_call 1 1 0 (sym (some_is e)))
no_throw d in_main at to f i (m2 gs none) h e l = absurd (never h)
no_throw d in_main at to f i (m2' gs none) h e l = absurd (never h)
no_throw d in_taker at to f i s h e l = absurd (never h)
no_throw d in_getter at to f i s h e l = absurd (never h)
no_throw d (in_helper hs u) at to f i s h e l = absurd (never h)

no_amid : (d : Context) (k : Ctx d) (at to : ℕ) (f : Sight) (name : Name) (n : ℕ) (has : Result) {P : Type 0} → Stage k at f →
    Contains (handlers_at p d.method at) to → seen_at p d.method at f ≡ Some (Call name n has) → P
no_amid d in_main at to f name n has (m0 gs none) h e = absurd (never h)
no_amid d in_main at to f name n has (m1 gs o) h e = let q : CallIn 1 1 0 ≡ Call name n has = some_is e in absurd (cc)
no_amid d in_main at to f name n has (m2 gs none) h e = absurd (never h)
no_amid d in_main at to f name n has (m2' gs none) h e = absurd (never h)
no_amid d in_taker at to f name n has s h e = absurd (never h)
no_amid d in_getter at to f name n has s h e = absurd (never h)
no_amid d (in_helper hs u) at to f name n has s h e = absurd (never h)

caught_here : (d : Context) (k : Ctx d) (at to : ℕ) (f : Sight) (callee n words : ℕ) → Stage k at f →
    Contains (handlers_at p d.method at) to → seen_at p d.method at f ≡ Some (CallIn callee n words) →
    Stage k to (canonical d.held (caught_upon (first n f.shape.operands) f))
caught_here d in_main at to f callee n words (m0 gs none) h e = absurd (never h)
caught_here d in_main at to f callee n words (m1 gs o) h e =
    let q : CallIn 1 1 0 ≡ CallIn callee n words = some_is e in
    let n_is : 1 ≡ n = cc in
    subst (λ b. Main to (canonical 0 (caught_upon (first b (object ∷ [])) (sight (shape [] (object ∷ [])) gs 1)))) n_is
    (subst (λ b. Main b (canonical 0 (caught_upon (object ∷ []) (sight (shape [] (object ∷ [])) gs 1)))) (only_two to h)
    (m2' (numbered_groups [] (λ g. reached.upset_if (known_among g (object ∷ [])) (gs g))) (λ g. refl)))
caught_here d in_main at to f callee n words (m2 gs none) h e = absurd (never h)
caught_here d in_main at to f callee n words (m2' gs none) h e = absurd (never h)
caught_here d in_taker at to f callee n words s h e = absurd (never h)
caught_here d in_getter at to f callee n words s h e = absurd (never h)
caught_here d (in_helper hs u) at to f callee n words s h e = absurd (never h)

-- a method outside calls back
called_back : (f : Sight) (v : Invocation) (method : ℕ) → getting ≡ v → Contains v.meant method →
    Ctx (outside_context method (first (taken v) f.shape.operands))
called_back f v method v_is m =
    subst (λ (w : Invocation). Contains w.meant method → Ctx (outside_context method (first (taken w) f.shape.operands))) v_is
    (λ m. subst (λ b. Ctx (outside_context b [])) (only_three method m) in_getter) m

-- how the methods are left
left_so : (d : Context) (k : Ctx d) (f : Sight) (words : ℕ) (o : Outcome) → Gives d k f words →
    reached.Outcomes d.held f.groups (given_back words f.shape) o → d.method ≡ 1 → (f.groups 0 ≡ Some ended) × (o ≡ Plainly Other)
left_so d k f words o of_main out q = absurd (cc)
left_so d k f words o of_taker out q = absurd (cc)
left_so d k f words o (of_getter gs) out q = absurd (cc)
left_so d k f words o (of_helper gs u) out q = (u.at, outcome_is 1 gs (Bare Other) o out refl)

good : {x : Fact} → Found p numbering roots x → Good x
good (reached.root {c = d} h r) = first_roots d h
good (reached.meant {c = d} {at = at} {f = f} v method r e m) =
    let z = good r in called_back f v method (calls_getter d z.0 at f v z.1 e) m
good (reached.called r) = good r
good (reached.begins {c = d} r) = begins_so d (good r)
good (reached.steps {c = d} {at = at} {to = to} {f = f} {g = g} i r e w) =
    let z = good r in (z.0, (next d at to f g i z.0 z.1 e w).stage)
good (reached.enters {c = d} {at = at} {f = f} callee n words r e) = let z = good r in entered d z.0 at f callee n words z.1 e
good (reached.leaves {c = d} {at = at} {f = f} {o = o} words r e out) =
    let z = good r in left_so d z.0 f words o (gives d z.0 at f words z.1 e) out
good (reached.returns {c = d} {at = at} {f = f} {e = x} callee n words r e l takes) =
    let z = good r in (z.0, (comes_back d z.0 at f x callee n words z.1 e (good l) takes).stage)
good (reached.throws {c = d} {at = at} {f = f} to i r h e leaves) = let z = good r in no_throw d z.0 at to f i z.1 h e leaves
good (reached.throws_amid {c = d} {at = at} {f = f} to name n has g r h e q) = let z = good r in no_amid d z.0 at to f name n has z.1 h e
good (reached.throws_through {c = d} {at = at} {f = f} to callee n words r h e) =
    let z = good r in (z.0, caught_here d z.0 at to f callee n words z.1 h e)

-- ---- what is given back

gives_new : (d : Context) (k : Ctx d) (f : Sight) (words : ℕ) → Gives d k f words → is_called_otherwise p d.method ≡ true →
    IsHandedBack (result_of p d.method) d.held f.groups (given_back words f.shape)
gives_new d k f words of_main q = absurd (true≢false (sym q))
gives_new d k f words of_taker q = absurd (true≢false (sym q))
gives_new d k f words (of_getter gs) q = record { new = λ class r. frames.null; plain = λ r. absurd (cc) }
gives_new d k f words (of_helper gs u) q = absurd (true≢false (sym q))

gives_plain : (d : Context) (k : Ctx d) (f : Sight) (words : ℕ) → Gives d k f words → is_followed (given_back words f.shape) ≡ false
gives_plain d k f words of_main = refl
gives_plain d k f words of_taker = refl
gives_plain d k f words (of_getter gs) = refl
gives_plain d k f words (of_helper gs u) = refl

not_of_followed : (d : Context) → Ctx d → is_of_followed p d.method ≡ false
not_of_followed d in_main = refl
not_of_followed d in_taker = refl
not_of_followed d in_getter = refl
not_of_followed d (in_helper gs o) = refl

inspected : Inspected p numbering roots
inspected = record {
  holds = λ d at f i r e. let z = good r in holds d z.0 at f i z.1 e;
  returned = λ d at f x callee n words r e l takes.
      let z = good r in (comes_back d z.0 at f x callee n words z.1 e (good l) takes).kept;
  receives = λ d at f v r e has.
      let z = good r in
      subst (λ b. Receives b v (nth unknown f.shape.operands v.words)) (sym (not_of_followed d z.0)) (receives d z.0 at f v z.1 e has);
  gives = λ d at f words r e otherwise. let z = good r in gives_new d z.0 f words (gives d z.0 at f words z.1 e) otherwise;
  gives_outside = λ d at f words r out e none. let z = good r in gives_plain d z.0 f words (gives d z.0 at f words z.1 e);
}

-- ---- the features are there

abbrev root_at : (method : ℕ) → Contains roots (begins_at method) → Found p numbering roots
    (Reached (begins_at method) 0 (canonical 0 (entry p (begins_at method))))
root_at method h = reached.begins (reached.called (reached.root h (record { held = refl; groups = λ g. refl })))

in_roots : Contains roots (begins_at 0)
in_roots = (0, omega arith, refl)

taker_in : Contains roots (begins_at 2)
taker_in = (1, omega arith, refl)

abbrev main_1 : Sight
main_1 = canonical 0 (added (new_group false c) (shape [] []) (canonical 0 (entry p (begins_at 0))))

made : Found p numbering roots (Reached (begins_at 0) 1 main_1)
made = reached.steps (Make c) (root_at 0 in_roots) refl (frames.makes c refl)

abbrev inner : Context
inner = numbering.context 1 (object ∷ []) main_1

abbrev helper_0 : Sight
helper_0 = canonical 1 (entry p inner)

abbrev helper_1 : Sight
helper_1 = canonical 1 (frames.with_shape helper_0 (shape (object ∷ []) (object ∷ [])))

abbrev helper_2 : Sight
helper_2 = canonical 1 (frames.behind 0 asked (Answer 0 (Itself Truth) ∷ []) (shape (object ∷ []) (object ∷ [])) helper_1)

abbrev helper_5 : Sight
helper_5 = canonical 1 (frames.asked 0 asked (At tos.End) (shape (object ∷ []) []) helper_2)

answered : Found p numbering roots (Reached inner 2 helper_2)
answered =
    reached.steps (Call asks 0 Boolean)
    (reached.steps (Load 0) (reached.begins (reached.enters 1 1 0 made refl)) refl
    (frames.moves (shape (object ∷ []) (object ∷ [])) refl)) refl
    (frames.answers asks 0 Boolean 0 there (tos.State 0) branches asking refl refl refl frames.at refl refl)

ends_so : Found p numbering roots (Reached inner 5 helper_5)
ends_so = reached.steps (IfSign Equal 5) answered refl (frames.truth Equal 5 true true 0 asked (At tos.End) refl refl refl refl refl)

abbrev taker_1 : Sight
taker_1 = canonical 0 (added (new_group true c) (shape (Bare Other ∷ []) []) (canonical 0 (entry p (begins_at 2))))

taken_in : Found p numbering roots (Reached (begins_at 2) 1 taker_1)
taken_in = reached.steps (CallOut getting) (root_at 2 taker_in) refl (frames.outside_made getting c refl refl)

pub example : Example
example = record {
  program = p;
  numbering = numbering;
  roots = roots;
  are_roots = (record { held = refl; groups = λ g. refl }, (record { held = refl; groups = λ g. refl }, tt));
  inspected = inspected;
  followed = (begins_at 0, 1, main_1, made, (1, 1, 0, 2, refl, (0, omega arith, refl)));
  left = (
    inner,
    record { groups = helper_5.groups; outcome = Plainly Other },
    reached.leaves 0 ends_so refl
        (reached.bare {b = Other}),
    omega arith,
  );
  asked = (inner, 2, helper_2, answered, (Equal, 5, 0, refl, refl));
  perhaps_null = (begins_at 2, 1, taker_1, taken_in, (0, perhaps, refl, refl));
  called_back = (begins_at 2, 0, canonical 0 (entry p (begins_at 2)), root_at 2 taker_in, (getting, 3, refl, (0, omega arith, refl)));
}
