-- What a call does to an object, and what an answer tells of it.
use Rattle.std.proofs.Common.{◌≡◌, ℕ, zero, suc, Bool, true, false, true≢false, List, [], ◌∷◌, ◌++◌, Option, Some, None}
use Rattle.std.proofs.Common.{refl, sym, ap, ◌∙◌, subst, option_and_then}
use Rattle.std.specs.Prelude.{if◌then◌else◌}
use Rattle.std.specs.Prelude.{Contains, slice_get}
use Rattle.std.specs.List.{AllByRecursion}
use Rattle.std.specs.Str.{bytes_eq}
use Rattle.ts_tree.specs.Proper.{IsOffered}
use Rattle.ts_tree.proofs.Leading.{here as first_there, behind as later_there}
use Rattle.std.proofs.lemmas.Slice.Eq.{bytes_eq-Decides}
use Rattle.mg_text.specs.Call.{Name, Call as CallOf}
use Rattle.ts_tree.specs.declared.parts.To.{To}
use Rattle.ts_tree.specs.declared.parts.To.TheVariants as tos
use Rattle.ts_tree.specs.declared.parts.Branch.{Branch}
use Rattle.ts_tree.specs.Typestate.{Method as Offer, State as StateOf, Typestate}
use Rattle.ts_tree.specs.Calls.{initial, by_label, led_by, offered_in, offered, next_from, led, may_end}
use Rattle.insp_rules.specs.Program.{Class}
use Rattle.insp_rules.specs.Skeleton.{Thing, place, begins, called, offered_at, upset, handed, thrown_at}
use Rattle.insp_rules.specs.Frames.{Element, At, Pending, Broken, Group, group, new_group, kept, narrowed, refined, finished, all_end}
use Rattle.insp_rules.specs.Frames.{thrown_by, upset_group}
use Rattle.insp_rules.specs.Frames.{MayBe, at as may_at, by as may_by}
use Rattle.insp_law.specs.Laws.{Answered, RightIsPath, IsRight, leads, broken as right_broken, MayBeLeft, ends, broken as left_broken}
use Rattle.insp_rules.proofs.Lists.{some_is, none_some}
use Rattle.insp_law.proofs.Fitting.{Is, at, pending, broken, Accords, KindOf}

-- ---- one call more

led_more : (t : Typestate) (mid to : To) (c : CallOf) → next_from t mid c ≡ Some to → (calls : List CallOf) (from : To) →
    led t from calls ≡ Some mid → led t from (calls ++ c ∷ []) ≡ Some to
led_more t mid to c e [] from l =
    ap (λ (x : To). option_and_then (λ y. led t y []) (next_from t x c)) (some_is l) ∙ ap (option_and_then (λ y. led t y [])) e
led_more t mid to c e (d ∷ calls) from l = go (next_from t from d) (led_more t mid to c e calls) l
  where
    go : (o : Option To) → ((x : To) → led t x calls ≡ Some mid → led t x (calls ++ c ∷ []) ≡ Some to) →
        option_and_then (λ x. led t x calls) o ≡ Some mid → option_and_then (λ x. led t x (calls ++ c ∷ [])) o ≡ Some to
    go None f l = none_some l
    go (Some x) f l = f x l

next_is : (t : Class) (from to : To) (name : Name) (answer : Option Name) (m : Offer) → offered_at t from name ≡ Some m →
    led_by m.target answer ≡ Some to → next_from t.typestate from (record { method = name; answer = answer }) ≡ Some to
next_is t (tos.State q) to name answer m e l = ap (option_and_then (λ (x : Offer). led_by x.target answer)) e ∙ l
next_is t tos.End to name answer m e l = none_some e

pub place_called : (x : Thing) (name : Name) (answer : Option Name) (from to : To) (m : Offer) → place x ≡ Some from →
    offered_at x.of from name ≡ Some m → led_by m.target answer ≡ Some to → place (called x name answer) ≡ Some to
place_called x name answer from to m p e l = go (begins x.of x.came) p
  where
    go : (o : Option To) → option_and_then (λ b. led x.of.typestate b x.calls) o ≡ Some from →
        option_and_then (λ b. led x.of.typestate b (x.calls ++ record { method = name; answer = answer } ∷ [])) o ≡ Some to
    go None p = none_some p
    go (Some b) p = led_more x.of.typestate from to (record { method = name; answer = answer })
        (next_is x.of from to name answer m e l) x.calls b p

-- ---- what may be

-- an object that isn't broken is at a place that may be
pub stands_at : (x : Thing) (e : Element) → Is x e → (e ≡ Broken → ⊥) → (to : To) × (place x ≡ Some to) × MayBe e to
stands_at x e (at {to = to} p) n = (to, p, may_at)
stands_at x e (pending label to a l p) n = (to, p, may_by label l)
stands_at x e (broken b c) n = absurd (n refl)

-- ---- what an answer tells

kept_label : (fits : Name → Bool) (label : Name) → fits label ≡ true → (bs : List Branch) →
    by_label (kept fits bs) label ≡ by_label bs label
kept_label fits label a [] = refl
kept_label fits label a (b ∷ bs) = go (bytes_eq b.label label) refl (fits b.label) refl (kept_label fits label a bs)
  where
    go : (s : Bool) → bytes_eq b.label label ≡ s → (t : Bool) → fits b.label ≡ t → by_label (kept fits bs) label ≡ by_label bs label →
        by_label (if t then b ∷ kept fits bs else kept fits bs) label ≡ (if s then Some b.to else by_label bs label)
    go s e true d ih =
        ap (λ (u : Bool). if u then Some b.to else by_label (kept fits bs) label) e
        ∙ ap (λ (o : Option To). if s then Some b.to else o) ih
    go true e false d ih = absurd (true≢false (sym a ∙ ap fits (sym ((bytes_eq-Decides b.label label).0 e)) ∙ d))
    go false e false d ih = ih

narrowed_is : (x : Thing) (label : Name) (to : To) → x.answer ≡ Some label → place x ≡ Some to → (bs : List Branch) →
    by_label bs label ≡ Some to → (e : Element) × (narrowed bs ≡ Some e) × Is x e
narrowed_is x label to a p [] l = none_some l
narrowed_is x label to a p (b ∷ []) l = (At b.to, refl, at (go (bytes_eq b.label label) l))
  where
    go : (s : Bool) → (if s then Some b.to else None) ≡ Some to → place x ≡ Some b.to
    go true l = p ∙ sym l
    go false l = none_some l
narrowed_is x label to a p (b ∷ c ∷ bs) l = (Pending (b ∷ c ∷ bs), refl, pending label to a l p)

pub told : (x : Thing) (fits : Name → Bool) (label : Name) (e : Element) → x.answer ≡ Some label → fits label ≡ true → Is x e →
    (d : Element) × (refined fits e ≡ Some d) × Is x d
told x fits label e a g (at {to = to} p) = (At to, refl, at p)
told x fits label e a g (broken b c) = (Broken, refl, broken b c)
told x fits label e a g (pending {branches = bs} other to b l p) =
    let i : other ≡ label = some_is (sym b ∙ a) in
    narrowed_is x label to a p (kept fits bs) (kept_label fits label g bs ∙ ap (by_label bs) (sym i) ∙ l)

-- ---- what may be left

ends_all : (t : Typestate) (label : Name) (to : To) (bs : List Branch) → by_label bs label ≡ Some to → all_end t bs ≡ true →
    may_end t to ≡ true
ends_all t label to [] l a = none_some l
ends_all t label to (b ∷ bs) l a = go (bytes_eq b.label label) l (may_end t b.to) refl a (ends_all t label to bs)
  where
    go : (s : Bool) → (if s then Some b.to else by_label bs label) ≡ Some to → (m : Bool) → may_end t b.to ≡ m →
        (if m then all_end t bs else false) ≡ true → (by_label bs label ≡ Some to → all_end t bs ≡ true → may_end t to ≡ true) →
        may_end t to ≡ true
    go s l false e a f = absurd (true≢false (sym a))
    go true l true e a f = ap (may_end t) (sym (some_is l)) ∙ e
    go false l true e a f = f l a

pub may_be_left : (x : Group) (thing : Thing) → Accords x thing → thing.null ≡ false → finished x ≡ true → MayBeLeft thing
may_be_left x thing a there f = go x.element (a.is there) f
  where
    go : (e : Element) → Is thing e → finished (group x.of e x.null) ≡ true → MayBeLeft thing
    go e (at {to = to} p) f = ends to p (ap (λ (t : Class). may_end t.typestate to) (sym a.kind.of) ∙ f)
    go e (pending {branches = bs} label to b l p) f =
        ends to p (ap (λ (t : Class). may_end t.typestate to) (sym a.kind.of) ∙ ends_all x.of.typestate label to bs l f)
    go e (broken b c) f = left_broken b c

-- ---- throws and beginnings

pub upset_is : (x : Group) (thing : Thing) → KindOf x thing → Accords (upset_group x) (upset thing)
upset_is x thing k = record {
  kind = record { of = k.of; null = k.null };
  is = λ there. subst (λ t. Is (upset thing) (thrown_by (thrown_at t))) (sym k.of) (go (thrown_at thing.of) refl);
}
  where
    go : (o : Option To) → thrown_at thing.of ≡ o → Is (upset thing) (thrown_by o)
    go None e = broken e refl
    go (Some to) e = at (ap (option_and_then (λ b. led thing.of.typestate b [])) e)

-- its calls are right, and one that answered isn't null
pub record IsGood (x : Thing) : Type 0 where
  pub right : IsRight x
  pub heard : (label : Name) → x.answer ≡ Some label → x.null ≡ false

pub upset_right : (thing : Thing) → IsRight (upset thing)
upset_right thing = go (thrown_at thing.of) refl
  where
    go : (o : Option To) → thrown_at thing.of ≡ o → IsRight (upset thing)
    go None e = right_broken e refl
    go (Some to) e = leads to (ap (option_and_then (λ b. led thing.of.typestate b [])) e) tt

pub upset_good : (thing : Thing) → IsGood (upset thing)
upset_good thing = record { right = upset_right thing; heard = λ label e. none_some e }

pub handed_is : (maybe null : Bool) (c : Class) → (null ≡ true → maybe ≡ true) → Accords (new_group maybe c) (handed null c)
handed_is maybe null c may = record { kind = record { of = refl; null = may }; is = λ there. at refl }

pub handed_right : (null : Bool) (c : Class) → IsRight (handed null c)
handed_right null c = leads (initial c.typestate) refl tt

pub handed_good : (null : Bool) (c : Class) → IsGood (handed null c)
handed_good null c = record { right = handed_right null c; heard = λ label e. none_some e }

-- ---- calls that answer

offered_in_is : (ms : List Offer) (name : Name) (m : Offer) → offered_in ms name ≡ Some m → Contains ms m × (m.name ≡ name)
offered_in_is [] name m e = none_some e
offered_in_is (x ∷ ms) name m e = go (bytes_eq x.name name) refl e (offered_in_is ms name m)
  where
    go : (b : Bool) → bytes_eq x.name name ≡ b → (if b then Some x else offered_in ms name) ≡ Some m →
        (offered_in ms name ≡ Some m → Contains ms m × (m.name ≡ name)) → Contains (x ∷ ms) m × (m.name ≡ name)
    go true q e f =
        let i : x ≡ m = some_is e in
        (subst (Contains (x ∷ ms)) i (first_there x ms), ap (λ (y : Offer). y.name) (sym i) ∙ (bytes_eq-Decides x.name name).0 q)
    go false q e f = let z = f e in (later_there x ms m z.0, z.1)

state_is : (ss : List StateOf) (q : ℕ) (s : StateOf) → slice_get ss q ≡ Some s → Contains ss s
state_is [] q s e = none_some e
state_is (x ∷ ss) zero s e = subst (Contains (x ∷ ss)) (some_is e) (first_there x ss)
state_is (x ∷ ss) (suc q) s e = later_there x ss s (state_is ss q s e)

pub is_offered : (t : Class) (from : To) (name : Name) (m : Offer) → offered_at t from name ≡ Some m →
    IsOffered t.typestate.states m × (m.name ≡ name)
is_offered t tos.End name m e = none_some e
is_offered t (tos.State q) name m e = go (slice_get t.typestate.states q) refl e
  where
    go : (o : Option StateOf) → slice_get t.typestate.states q ≡ o →
        option_and_then (λ (s : StateOf). offered_in s.methods name) o ≡ Some m →
        IsOffered t.typestate.states m × (m.name ≡ name)
    go None d e = none_some e
    go (Some s) d e = let z = offered_in_is s.methods name m e in ((s, state_is t.typestate.states q s d, z.0), z.1)

all_more : {A : Type 0} (P : A → Type 0) (xs : List A) (x : A) → AllByRecursion P xs → P x → AllByRecursion P (xs ++ x ∷ [])
all_more P [] x a p = (p, tt)
all_more P (y ∷ xs) x a p = (a.0, all_more P xs x a.1 p)

answered_before : (x : Thing) → IsRight x → AllByRecursion (Answered x.of) x.calls
answered_before x (leads to p a) = a
answered_before x (right_broken b c) = subst (AllByRecursion (Answered x.of)) (sym c) tt

-- one call more is right
pub called_right : (x : Thing) (name : Name) (answer : Option Name) (to : To) → IsRight x → place (called x name answer) ≡ Some to →
    Answered x.of (record { method = name; answer = answer }) → IsRight (called x name answer)
called_right x name answer to r p a =
    leads to p (all_more (Answered x.of) x.calls (record { method = name; answer = answer }) (answered_before x r) a)

pub right_is_path : RightIsPath
right_is_path x (right_broken b c) came named = none_some (sym b ∙ ap (begins x.of) came)
right_is_path x (leads to p a) came named = record {
  fit = fits x.calls a;
  to = to;
  leads = ap (λ (c : Bool). option_and_then (λ from. led x.of.typestate from x.calls) (begins x.of c)) (sym came) ∙ p;
  offers = tt;
}
  where
    fit : (c : CallOf) → Answered x.of c → Rattle.ts_tree.specs.Calls.Fits x.of.typestate c
    fit c a some =
        let z = a some in
        let n = named z.0 z.2 z.1 z.4 in
        (z.0, n.0, z.2, z.3, n.1)

    fits : (cs : List CallOf) → AllByRecursion (Answered x.of) cs → AllByRecursion (Rattle.ts_tree.specs.Calls.Fits x.of.typestate) cs
    fits [] a = tt
    fits (c ∷ cs) a = (fit c a.0, fits cs a.1)
