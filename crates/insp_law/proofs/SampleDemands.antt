-- What is done in each frame of that program, and that no demand fails there.
use Rattle.std.proofs.Common.{◌≡◌, ◌≢◌, ◌⊎◌, inl, inr, ℕ, ◌≤◌, true, false, true≢false, [], ◌∷◌, Option, Some}
use Rattle.std.proofs.Common.{refl, sym, ap, ◌∙◌, subst}
use Rattle.mg_text.specs.Call.{Name}
use Rattle.ts_tree.specs.declared.parts.To.{To}
use Rattle.ts_tree.specs.declared.parts.To.TheVariants as tos
use Rattle.ts_tree.specs.Typestate.{Method as Offer}
use Rattle.insp_rules.specs.Program.{Null, Result, Void, Boolean, Equal, Invocation, Instruction, Move, Load, Store}
use Rattle.insp_rules.specs.Program.{Just, IfNull, IfSign, Make, Call, CallIn, CallOut, Keep, Return, Throw, Does, Invoke, does}
use Rattle.insp_rules.specs.Program.{code_at, first, Shape, shape, nth}
use Rattle.insp_rules.specs.Skeleton.{offered_at}
use Rattle.insp_rules.specs.Frames.{Known, Bare, Object, Answer, Element, At, Pending, Group, Sight, unknown, group, new_group, sight}
use Rattle.insp_rules.specs.Frames.{has_group}
use Rattle.insp_rules.specs.Frames.{known_among, finished, Way, Holds, CallHolds, MayBe, NoneOpen, class_known, seen_at, Receives}
use Rattle.insp_rules.specs.Frames.{IsHandedBack}
use Rattle.insp_rules.specs.Frames.{given_back, is_followed, is_below, upset_group, added}
use Rattle.insp_rules.specs.Frames as frames
use Rattle.insp_rules.specs.Reached.{Context}
use Rattle.insp_rules.proofs.Lists.{some_is, none_some}
use Rattle.insp_law.proofs.Ways.{no_way_back}
use Rattle.insp_law.proofs.Sample.{asks, ends, asking, ending, c, helping, on_object, getting, p, begins_at, there, ended, Only}
use Rattle.insp_law.proofs.Sample.{zero_or_not, object, m0, m1, m2, m2', h0, h1, h2, h3, h4, h5, t0, t1, t2, t3, t4, t5, t6, t6', g0, g1}
use Rattle.insp_law.proofs.Sample.{Ctx, in_main, in_taker, in_getter, in_helper, Stage, on_known, main_next, getter_next, helper_next}
use Rattle.insp_law.proofs.Sample.{taker_next}

-- ---- what is done at each

pub on_there : (name : Name) (has : Result) (gs : ℕ → Option Group) (x : Group) (j : Instruction) → Only gs x →
    Some (does (Invoke (on_object name has)) (class_known (gs 0))) ≡ Some j → does (Invoke (on_object name has)) (class_known (Some x)) ≡ j
on_there name has gs x j o e = some_is (sym (on_known (on_object name has) gs x o) ∙ e)

-- the only call that isn't followed
pub calls_getter : (d : Context) (k : Ctx d) (at : ℕ) (f : Sight) (v : Invocation) → Stage k at f →
    seen_at p d.method at f ≡ Some (CallOut v) →
    getting ≡ v
calls_getter d in_main at f v (m0 gs none) e = let q : Make c ≡ CallOut v = some_is e in absurd (cc)
calls_getter d in_main at f v (m1 gs o) e = let q : CallIn 1 1 0 ≡ CallOut v = some_is e in absurd (cc)
calls_getter d in_main at f v (m2 gs none) e = let q : Return 0 ≡ CallOut v = some_is e in absurd (cc)
calls_getter d in_main at f v (m2' gs none) e = let q : Return 0 ≡ CallOut v = some_is e in absurd (cc)
calls_getter d in_taker at f v (t0 gs none) e = let q : CallOut getting ≡ CallOut v = some_is e in cc
calls_getter d in_taker at f v (t1 gs o) e = let q : Store 0 ≡ CallOut v = some_is e in absurd (cc)
calls_getter d in_taker at f v (t2 gs o) e = let q : Load 0 ≡ CallOut v = some_is e in absurd (cc)
calls_getter d in_taker at f v (t3 gs o) e = let q : IfNull true 6 ≡ CallOut v = some_is e in absurd (cc)
calls_getter d in_taker at f v (t4 gs o) e = let q : Load 0 ≡ CallOut v = some_is e in absurd (cc)
calls_getter d in_taker at f v (t5 gs o) e = let q : Call ends 0 Void ≡ CallOut v =
    on_there ends Void gs there (CallOut v) o e in absurd (cc)
calls_getter d in_taker at f v (t6 gs o) e = let q : Return 0 ≡ CallOut v = some_is e in absurd (cc)
calls_getter d in_taker at f v (t6' gs none) e = let q : Return 0 ≡ CallOut v = some_is e in absurd (cc)
calls_getter d in_getter at f v (g0 gs none) e = let q : Move 0 (Just Null ∷ []) ≡ CallOut v = some_is e in absurd (cc)
calls_getter d in_getter at f v (g1 gs none) e = let q : Return 1 ≡ CallOut v = some_is e in absurd (cc)
calls_getter d (in_helper hs u) at f v (h0 gs o) e = let q : Load 0 ≡ CallOut v = some_is e in absurd (cc)
calls_getter d (in_helper hs u) at f v (h1 gs o) e = let q : Call asks 0 Boolean ≡ CallOut v =
    on_there asks Boolean gs there (CallOut v) o e in absurd (cc)
calls_getter d (in_helper hs u) at f v (h2 gs o) e = let q : IfSign Equal 5 ≡ CallOut v = some_is e in absurd (cc)
calls_getter d (in_helper hs u) at f v (h3 gs o) e = let q : Load 0 ≡ CallOut v = some_is e in absurd (cc)
calls_getter d (in_helper hs u) at f v (h4 gs o) e = let q : Call ends 0 Void ≡ CallOut v =
    on_there ends Void gs there (CallOut v) o e in absurd (cc)
calls_getter d (in_helper hs u) at f v (h5 gs o) e = let q : Return 0 ≡ CallOut v = some_is e in absurd (cc)

-- what is given back
pub data Gives : (d : Context) → Ctx d → Sight → ℕ → Type 0 where
  of_main : {f : Sight} → Gives (begins_at 0) in_main f 0
  of_taker : {f : Sight} → Gives (begins_at 2) in_taker f 0
  of_getter : (gs : ℕ → Option Group) → Gives (begins_at 3) in_getter (sight (shape [] (Bare Null ∷ [])) gs 0) 1
  of_helper : {hs : ℕ → Option Group} {u : Only hs there} (gs : ℕ → Option Group) → Only gs ended →
      Gives (record { method = 1; args = object ∷ []; held = 1; groups = hs }) (in_helper hs u) (sight (shape (object ∷ []) []) gs 1) 0

pub gives : (d : Context) (k : Ctx d) (at : ℕ) (f : Sight) (words : ℕ) → Stage k at f → seen_at p d.method at f ≡ Some (Return words) →
    Gives d k f words
gives d in_main at f words (m0 gs none) e = let q : Make c ≡ Return words = some_is e in absurd (cc)
gives d in_main at f words (m1 gs o) e = let q : CallIn 1 1 0 ≡ Return words = some_is e in absurd (cc)
gives d in_main at f words (m2 gs none) e =
    let q : Return 0 ≡ Return words = some_is e in
    let w : 0 ≡ words = cc in
    subst (λ n. Gives d in_main f n) w (of_main)
gives d in_main at f words (m2' gs none) e =
    let q : Return 0 ≡ Return words = some_is e in
    let w : 0 ≡ words = cc in
    subst (λ n. Gives d in_main f n) w (of_main)
gives d in_taker at f words (t0 gs none) e = let q : CallOut getting ≡ Return words = some_is e in absurd (cc)
gives d in_taker at f words (t1 gs o) e = let q : Store 0 ≡ Return words = some_is e in absurd (cc)
gives d in_taker at f words (t2 gs o) e = let q : Load 0 ≡ Return words = some_is e in absurd (cc)
gives d in_taker at f words (t3 gs o) e = let q : IfNull true 6 ≡ Return words = some_is e in absurd (cc)
gives d in_taker at f words (t4 gs o) e = let q : Load 0 ≡ Return words = some_is e in absurd (cc)
gives d in_taker at f words (t5 gs o) e = let q : Call ends 0 Void ≡ Return words =
    on_there ends Void gs there (Return words) o e in absurd (cc)
gives d in_taker at f words (t6 gs o) e =
    let q : Return 0 ≡ Return words = some_is e in
    let w : 0 ≡ words = cc in
    subst (λ n. Gives d in_taker f n) w (of_taker)
gives d in_taker at f words (t6' gs none) e =
    let q : Return 0 ≡ Return words = some_is e in
    let w : 0 ≡ words = cc in
    subst (λ n. Gives d in_taker f n) w (of_taker)
gives d in_getter at f words (g0 gs none) e = let q : Move 0 (Just Null ∷ []) ≡ Return words = some_is e in absurd (cc)
gives d in_getter at f words (g1 gs none) e =
    let q : Return 1 ≡ Return words = some_is e in
    let w : 1 ≡ words = cc in
    subst (λ n. Gives d in_getter f n) w (of_getter gs)
gives d (in_helper hs u) at f words (h0 gs o) e = let q : Load 0 ≡ Return words = some_is e in absurd (cc)
gives d (in_helper hs u) at f words (h1 gs o) e = let q : Call asks 0 Boolean ≡ Return words =
    on_there asks Boolean gs there (Return words) o e in absurd (cc)
gives d (in_helper hs u) at f words (h2 gs o) e = let q : IfSign Equal 5 ≡ Return words = some_is e in absurd (cc)
gives d (in_helper hs u) at f words (h3 gs o) e = let q : Load 0 ≡ Return words = some_is e in absurd (cc)
gives d (in_helper hs u) at f words (h4 gs o) e = let q : Call ends 0 Void ≡ Return words =
    on_there ends Void gs there (Return words) o e in absurd (cc)
gives d (in_helper hs u) at f words (h5 gs o) e =
    let q : Return 0 ≡ Return words = some_is e in
    let w : 0 ≡ words = cc in
    subst (λ n. Gives d (in_helper hs u) f n) w (of_helper gs o)

-- ---- demands

pub record NoCall (i : Instruction) : Type 0 where
  pub calls : (name : Name) (k : ℕ) (has : Result) → i ≡ Call name k has → ⊥
  pub outs : (v : Invocation) → i ≡ CallOut v → ⊥
  pub keeps : (k : ℕ) → i ≡ Keep k → ⊥
  pub throws : i ≡ Throw → ⊥
  pub backs : (words : ℕ) → i ≡ Return words → ⊥

pub quiet : (held at : ℕ) (f : Sight) (i : Instruction) → NoCall i →
    ((to : ℕ) (after : Sight) → Way p held i at f to after → NoneOpen held after) → Holds p held at i f
quiet held at f i n open_behind = record {
  calls = λ name k has q. absurd (n.calls name k has q);
  hands = λ v q. absurd (n.outs v q);
  receives = λ v q. absurd (n.outs v q);
  keeps = λ k q. absurd (n.keeps k q);
  throws = λ q. absurd (n.throws q);
  open_behind = open_behind;
  returns = λ words q. absurd (n.backs words q);
}

pub makes : NoCall (Make c)
makes = record {
  calls = λ name k has q. cc;
  outs = λ v q. cc;
  keeps = λ k q. cc;
  throws = λ q. cc;
  backs = λ words q. cc;
}

pub goes_in : NoCall (CallIn 1 1 0)
goes_in = record {
  calls = λ name k has q. cc;
  outs = λ v q. cc;
  keeps = λ k q. cc;
  throws = λ q. cc;
  backs = λ words q. cc;
}

pub loads : NoCall (Load 0)
loads = record {
  calls = λ name k has q. cc;
  outs = λ v q. cc;
  keeps = λ k q. cc;
  throws = λ q. cc;
  backs = λ words q. cc;
}

pub stores : NoCall (Store 0)
stores = record {
  calls = λ name k has q. cc;
  outs = λ v q. cc;
  keeps = λ k q. cc;
  throws = λ q. cc;
  backs = λ words q. cc;
}

pub gives_null : NoCall (Move 0 (Just Null ∷ []))
gives_null = record {
  calls = λ name k has q. cc;
  outs = λ v q. cc;
  keeps = λ k q. cc;
  throws = λ q. cc;
  backs = λ words q. cc;
}

pub tests_null : NoCall (IfNull true 6)
tests_null = record {
  calls = λ name k has q. cc;
  outs = λ v q. cc;
  keeps = λ k q. cc;
  throws = λ q. cc;
  backs = λ words q. cc;
}

pub tests_sign : NoCall (IfSign Equal 5)
tests_sign = record {
  calls = λ name k has q. cc;
  outs = λ v q. cc;
  keeps = λ k q. cc;
  throws = λ q. cc;
  backs = λ words q. cc;
}

pub calling : (held at : ℕ) (s : Shape Known) (gs : ℕ → Option Group) (name : Name) (has : Result) (m : Offer) →
    nth unknown s.operands 0 ≡ object →
    Only gs there → offered_at c (tos.State 0) name ≡ Some m →
    ((to : ℕ) (after : Sight) → Way p held (Call name 0 has) at (sight s gs 1) to after → NoneOpen held after) →
    Holds p held at (Call name 0 has) (sight s gs 1)
calling held at s gs name has m top o offers open_behind = record {
  calls = λ name' k' has' q.
      subst (λ b. CallHolds b k' (sight s gs 1)) (let n : name ≡ name' = cc in n)
      (subst (λ b. CallHolds name b (sight s gs 1)) (let n : 0 ≡ k' = cc in n) call);
  hands = λ v q. absurd (cc);
  receives = λ v q. absurd (cc);
  keeps = λ k q. absurd (cc);
  throws = λ q. absurd (cc);
  open_behind = open_behind;
  returns = λ words q. absurd (cc);
}
  where
    offered : (to : To) → MayBe (At (tos.State 0)) to → (m : Offer) × (offered_at c to name ≡ Some m)
    offered to frames.at = (m, offers)

    call : CallHolds name 0 (sight s gs 1)
    call = record { g = 0; x = there; receiver = top; is = o.at; unbroken = λ q. absurd (cc); offers = offered; plain = tt }

pub going_back : (held at : ℕ) (f : Sight) (words : ℕ) → ((g : ℕ) (x : Group) → f.groups g ≡ Some x → held ≤ g → finished x ≡ true) →
    Holds p held at (Return words) f
going_back held at f words left = record {
  calls = λ name k has q. absurd (cc);
  hands = λ v q. absurd (cc);
  receives = λ v q. absurd (cc);
  keeps = λ k q. absurd (cc);
  throws = λ q. absurd (cc);
  open_behind = λ to after w. no_way_back p held at f words w;
  returns = λ words q g x l over gone. left g x l over;
}

pub going_out : (at : ℕ) (f : Sight) → ((to : ℕ) (after : Sight) → Way p 0 (CallOut getting) at f to after → NoneOpen 0 after) →
    Holds p 0 at (CallOut getting) f
going_out at f open_behind = record {
  calls = λ name k has q. absurd (cc);
  hands = λ v q. subst (λ (w : Invocation). frames.NoneFollowed (first w.words f.shape.operands)) (is v q) tt;
  receives = λ v q has. absurd (true≢false (sym has ∙ ap (λ (w : Invocation). w.has_receiver) (sym (is v q))));
  keeps = λ k q. absurd (cc);
  throws = λ q. absurd (cc);
  open_behind = open_behind;
  returns = λ words q. absurd (cc);
}
  where
    is : (v : Invocation) → CallOut getting ≡ CallOut v → getting ≡ v
    is v q = cc

pub all_done : (gs : ℕ → Option Group) (x : Group) → Only gs x → finished x ≡ true → (g : ℕ) (y : Group) → gs g ≡ Some y → finished y ≡ true
all_done gs x o fin g y e = go (zero_or_not g)
  where
    go : (g ≡ 0) ⊎ (g ≢ 0) → finished y ≡ true
    go (inl z) = ap finished (some_is (sym e ∙ ap gs z ∙ o.at)) ∙ fin
    go (inr ne) = none_some (sym (o.others g ne) ∙ e)

pub holds : (d : Context) (k : Ctx d) (at : ℕ) (f : Sight) (i : Instruction) → Stage k at f → seen_at p d.method at f ≡ Some i →
    Holds p d.held at i f
holds d in_main at f i (m0 gs none) e =
    subst (λ j. Holds p 0 0 j f) (some_is e)
    (quiet 0 0 f (Make c) makes (λ to after w. (main_next 0 to f after (Make c) (m0 gs none) refl w).kept))
holds d in_main at f i (m1 gs o) e =
    subst (λ j. Holds p 0 1 j f) (some_is e)
    (quiet 0 1 f (CallIn 1 1 0) goes_in (λ to after w. (main_next 1 to f after (CallIn 1 1 0) (m1 gs o) refl w).kept))
holds d in_main at f i (m2 gs none) e =
    subst (λ j. Holds p 0 2 j f) (some_is e) (going_back 0 2 f 0 (λ g x l over. none_some (sym (none g) ∙ l)))
holds d in_main at f i (m2' gs none) e =
    subst (λ j. Holds p 0 2 j f) (some_is e) (going_back 0 2 f 0 (λ g x l over. none_some (sym (none g) ∙ l)))
holds d in_taker at f i (t0 gs none) e =
    subst (λ j. Holds p 0 0 j f) (some_is e)
    (going_out 0 f (λ to after w. (taker_next 0 to f after (CallOut getting) (t0 gs none) refl w).kept))
holds d in_taker at f i (t1 gs o) e =
    subst (λ j. Holds p 0 1 j f) (some_is e)
    (quiet 0 1 f (Store 0) stores (λ to after w. (taker_next 1 to f after (Store 0) (t1 gs o) refl w).kept))
holds d in_taker at f i (t2 gs o) e =
    subst (λ j. Holds p 0 2 j f) (some_is e)
    (quiet 0 2 f (Load 0) loads (λ to after w. (taker_next 2 to f after (Load 0) (t2 gs o) refl w).kept))
holds d in_taker at f i (t3 gs o) e =
    subst (λ j. Holds p 0 3 j f) (some_is e)
    (quiet 0 3 f (IfNull true 6) tests_null (λ to after w. (taker_next 3 to f after (IfNull true 6) (t3 gs o) refl w).kept))
holds d in_taker at f i (t4 gs o) e =
    subst (λ j. Holds p 0 4 j f) (some_is e)
    (quiet 0 4 f (Load 0) loads (λ to after w. (taker_next 4 to f after (Load 0) (t4 gs o) refl w).kept))
holds d in_taker at f i (t5 gs o) e =
    subst (λ j. Holds p 0 5 j f) (on_there ends Void gs there (i) o e)
    (calling 0 5 (shape (object ∷ []) (object ∷ [])) gs ends Void ending refl o refl
    (λ to after w. (taker_next 5 to f after (Call ends 0 Void) (t5 gs o) (on_known (on_object ends Void) gs there o) w).kept))
holds d in_taker at f i (t6 gs o) e =
    subst (λ j. Holds p 0 6 j f) (some_is e) (going_back 0 6 f 0 (λ g x l over. all_done gs ended o refl g x l))
holds d in_taker at f i (t6' gs none) e =
    subst (λ j. Holds p 0 6 j f) (some_is e) (going_back 0 6 f 0 (λ g x l over. none_some (sym (none g) ∙ l)))
holds d in_getter at f i (g0 gs none) e =
    subst (λ j. Holds p 0 0 j f) (some_is e)
    (quiet 0 0 f (Move 0 (Just Null ∷ [])) gives_null (λ to after w. (getter_next 0 to f after (Move 0 (Just Null ∷ []))
    (g0 gs none) refl w).kept))
holds d in_getter at f i (g1 gs none) e =
    subst (λ j. Holds p 0 1 j f) (some_is e) (going_back 0 1 f 1 (λ g x l over. none_some (sym (none g) ∙ l)))
holds d (in_helper hs u) at f i (h0 gs o) e =
    subst (λ j. Holds p 1 0 j f) (some_is e)
    (quiet 1 0 f (Load 0) loads (λ to after w. (helper_next 0 to f after (Load 0) (h0 gs o) refl w).kept))
holds d (in_helper hs u) at f i (h1 gs o) e =
    subst (λ j. Holds p 1 1 j f) (on_there asks Boolean gs there (i) o e)
    (calling 1 1 (shape (object ∷ []) (object ∷ [])) gs asks Boolean asking refl o refl
    (λ to after w. (helper_next 1 to f after (Call asks 0 Boolean) (h1 gs o) (on_known (on_object asks Boolean) gs there o) w).kept))
holds d (in_helper hs u) at f i (h2 gs o) e =
    subst (λ j. Holds p 1 2 j f) (some_is e)
    (quiet 1 2 f (IfSign Equal 5) tests_sign (λ to after w. (helper_next 2 to f after (IfSign Equal 5) (h2 gs o) refl w).kept))
holds d (in_helper hs u) at f i (h3 gs o) e =
    subst (λ j. Holds p 1 3 j f) (some_is e)
    (quiet 1 3 f (Load 0) loads (λ to after w. (helper_next 3 to f after (Load 0) (h3 gs o) refl w).kept))
holds d (in_helper hs u) at f i (h4 gs o) e =
    subst (λ j. Holds p 1 4 j f) (on_there ends Void gs there (i) o e)
    (calling 1 4 (shape (object ∷ []) (object ∷ [])) gs ends Void ending refl o refl
    (λ to after w. (helper_next 4 to f after (Call ends 0 Void) (h4 gs o) (on_known (on_object ends Void) gs there o) w).kept))
holds d (in_helper hs u) at f i (h5 gs o) e =
    subst (λ j. Holds p 1 5 j f) (some_is e) (going_back 1 5 f 0 (λ g x l over. all_done gs ended o refl g x l))

-- receivers of calls are objects
pub on_it : (v w : Invocation) (s : Shape Known) → v ≡ w → nth unknown s.operands v.words ≡ object →
    Receives false w (nth unknown s.operands w.words)
on_it v w s e top =
    subst (λ (z : Invocation). Receives false z (nth unknown s.operands z.words)) e
    (subst (Receives false v) (sym top) (record { not_null = λ q. absurd (cc); known = refl }))

pub no_receiver : (v w : Invocation) {P : Type 0} → v ≡ w → v.has_receiver ≡ false → w.has_receiver ≡ true → P
no_receiver v w e none has = absurd (true≢false (sym has ∙ ap (λ (z : Invocation). z.has_receiver) (sym e) ∙ none))

pub receives : (d : Context) (k : Ctx d) (at : ℕ) (f : Sight) (v : Invocation) → Stage k at f → code_at p d.method at ≡ Some (Invoke v) →
    v.has_receiver ≡ true → Receives false v (nth unknown f.shape.operands v.words)
receives d in_main at f v (m0 gs none) e has = let q : Does (Make c) ≡ Invoke v = some_is e in absurd (cc)
receives d in_main at f v (m1 gs o) e has =
    let q : Invoke helping ≡ Invoke v = some_is e in
    let w : helping ≡ v = cc in
    no_receiver (helping) v w refl has
receives d in_main at f v (m2 gs none) e has = let q : Does (Return 0) ≡ Invoke v = some_is e in absurd (cc)
receives d in_main at f v (m2' gs none) e has = let q : Does (Return 0) ≡ Invoke v = some_is e in absurd (cc)
receives d in_taker at f v (t0 gs none) e has =
    let q : Invoke getting ≡ Invoke v = some_is e in
    let w : getting ≡ v = cc in
    no_receiver (getting) v w refl has
receives d in_taker at f v (t1 gs o) e has = let q : Does (Store 0) ≡ Invoke v = some_is e in absurd (cc)
receives d in_taker at f v (t2 gs o) e has = let q : Does (Load 0) ≡ Invoke v = some_is e in absurd (cc)
receives d in_taker at f v (t3 gs o) e has = let q : Does (IfNull true 6) ≡ Invoke v = some_is e in absurd (cc)
receives d in_taker at f v (t4 gs o) e has = let q : Does (Load 0) ≡ Invoke v = some_is e in absurd (cc)
receives d in_taker at f v (t5 gs o) e has =
    let q : Invoke (on_object ends Void) ≡ Invoke v = some_is e in
    let w : (on_object ends Void) ≡ v = cc in
    on_it (on_object ends Void) v f.shape w refl
receives d in_taker at f v (t6 gs o) e has = let q : Does (Return 0) ≡ Invoke v = some_is e in absurd (cc)
receives d in_taker at f v (t6' gs none) e has = let q : Does (Return 0) ≡ Invoke v = some_is e in absurd (cc)
receives d in_getter at f v (g0 gs none) e has = let q : Does (Move 0 (Just Null ∷ [])) ≡ Invoke v = some_is e in absurd (cc)
receives d in_getter at f v (g1 gs none) e has = let q : Does (Return 1) ≡ Invoke v = some_is e in absurd (cc)
receives d (in_helper hs u) at f v (h0 gs o) e has = let q : Does (Load 0) ≡ Invoke v = some_is e in absurd (cc)
receives d (in_helper hs u) at f v (h1 gs o) e has =
    let q : Invoke (on_object asks Boolean) ≡ Invoke v = some_is e in
    let w : (on_object asks Boolean) ≡ v = cc in
    on_it (on_object asks Boolean) v f.shape w refl
receives d (in_helper hs u) at f v (h2 gs o) e has = let q : Does (IfSign Equal 5) ≡ Invoke v = some_is e in absurd (cc)
receives d (in_helper hs u) at f v (h3 gs o) e has = let q : Does (Load 0) ≡ Invoke v = some_is e in absurd (cc)
receives d (in_helper hs u) at f v (h4 gs o) e has =
    let q : Invoke (on_object ends Void) ≡ Invoke v = some_is e in
    let w : (on_object ends Void) ≡ v = cc in
    on_it (on_object ends Void) v f.shape w refl
receives d (in_helper hs u) at f v (h5 gs o) e has = let q : Does (Return 0) ≡ Invoke v = some_is e in absurd (cc)
