-- A program in which an object is made, handed to a method that asks it and goes by the answer, and caught behind a throw; in which
-- another comes from outside and may be null; and in which a method outside calls back. The frames that are reached, and that each way
-- leads to one.
use Rattle.std.proofs.Common.{◌≡◌, ◌≢◌, ◌⊎◌, inl, inr, ℕ, zero, suc, Bool, true, false, true≢false, List, [], ◌∷◌, Option, Some, None}
use Rattle.std.proofs.Common.{refl, sym, ap, ◌∙◌, subst, arith}
use Rattle.std.specs.Prelude.{◌==◌, if◌then◌else◌, codes}
use Rattle.std.proofs.lemmas.Bool.Decides.{eqb_tells}
use Rattle.mg_text.specs.Call.{Name}
use Rattle.ts_tree.specs.declared.parts.To.TheVariants as tos
use Rattle.ts_tree.specs.declared.parts.Branch.{Branch}
use Rattle.ts_tree.specs.declared.parts.TypeName.TheVariants as types
use Rattle.ts_tree.specs.Typestate.{One, ByAnswer, Method as Offer, Typestate}
use Rattle.insp_rules.specs.Program.{Class, Truth, Itself, Other, Null, Result, Void, Boolean, Of, Equal, Invocation, Instruction, Move}
use Rattle.insp_rules.specs.Program.{Load, Store}
use Rattle.insp_rules.specs.Program.{Just, IfNull, IfSign, Make, Call, CallIn, CallOut, Keep, Return, Throw, Operation, Does, Invoke}
use Rattle.insp_rules.specs.Program.{does, Method}
use Rattle.insp_rules.specs.Program.{Program, code_at, handlers_at, result_of, class_of, is_called_otherwise, is_of_followed, taken}
use Rattle.insp_rules.specs.Program.{first, Shape, shape, nth, way}
use Rattle.insp_rules.specs.Skeleton.{put}
use Rattle.insp_rules.specs.Frames.{Known, Bare, Object, Answer, Element, At, Pending, Group, Sight, unknown, group, new_group, sight}
use Rattle.insp_rules.specs.Frames.{has_group}
use Rattle.insp_rules.specs.Frames.{known_among, finished, Way, Holds, CallHolds, MayBe, NoneOpen, class_known, seen_at, Receives}
use Rattle.insp_rules.specs.Frames.{IsHandedBack}
use Rattle.insp_rules.specs.Frames.{given_back, is_followed, is_below, upset_group, added}
use Rattle.insp_rules.specs.Frames as frames
use Rattle.insp_rules.specs.Reached.{Context}
use Rattle.insp_rules.specs.Numbers.{canonical, only_if, numbered_groups}
use Rattle.insp_rules.proofs.Lists.{some_is, none_some, put_other}
use Rattle.insp_law.proofs.Ways.{moves_way, makes_way, out_way, no_way_back, no_way_in, null_way, truth_way, leads_way, answers_way}

-- ---- the program

abbrev pub asks : Name
asks = 97 ∷ []

abbrev pub ends : Name
ends = 100 ∷ []

abbrev pub branches : List Branch
branches = record { label = codes "true"; to = tos.State 0 } ∷ record { label = codes "false"; to = tos.End } ∷ []

abbrev pub asking : Offer
asking = record { result = types.Boolean; name = asks; params = []; target = ByAnswer branches }

abbrev pub ending : Offer
ending = record { result = types.Void; name = ends; params = []; target = One tos.End }

abbrev pub t : Typestate
t = record { name = []; states = record { name = 73 ∷ []; methods = asking ∷ ending ∷ []; drops = false } ∷ [] }

abbrev pub c : Class
c = record { name = 67 ∷ []; typestate = t; above = []; is_interface = false }

abbrev pub helping : Invocation
helping = record {
  name = 104 ∷ [];
  words = 1;
  has_receiver = false;
  named = None;
  result = Void;
  sure = Some 1;
  typed = true;
  meant = 1 ∷ [];
  harmless = false;
}

abbrev pub on_object : Name → Result → Invocation
on_object name has = record {
  name = name;
  words = 0;
  has_receiver = true;
  named = Some c;
  result = has;
  sure = None;
  typed = false;
  meant = [];
  harmless = false;
}

abbrev pub getting : Invocation
getting = record {
  name = 103 ∷ [];
  words = 0;
  has_receiver = false;
  named = None;
  result = Of (67 ∷ []) (Some c);
  sure = None;
  typed = true;
  meant = 3 ∷ [];
  harmless = false;
}

abbrev pub at_call : ℕ → List ℕ
at_call zero = []
at_call (suc zero) = 2 ∷ []
at_call (suc (suc at)) = []

abbrev pub main : Method
main = record {
  code = Does (Make c) ∷ Invoke helping ∷ Does (Return 0) ∷ [];
  handlers = at_call;
  locals = 0;
  is_of_followed = false;
  otherwise = false;
  gives = Void;
}

abbrev pub helper : Method
helper = record {
  code = Does (Load 0) ∷ Invoke (on_object asks Boolean) ∷ Does (IfSign Equal 5) ∷ Does (Load 0) ∷ Invoke (on_object ends Void) ∷ Does
      (Return 0)
      ∷ [];
  handlers = λ at. [];
  locals = 0;
  is_of_followed = false;
  otherwise = false;
  gives = Void;
}

abbrev pub taker : Method
taker = record {
  code = Invoke getting ∷ Does (Store 0) ∷ Does (Load 0) ∷ Does (IfNull true 6) ∷ Does (Load 0) ∷ Invoke (on_object ends Void) ∷ Does
      (Return 0)
      ∷ [];
  handlers = λ at. [];
  locals = 1;
  is_of_followed = false;
  otherwise = false;
  gives = Void;
}

abbrev pub getter : Method
getter = record {
  code = Does (Move 0 (Just Null ∷ [])) ∷ Does (Return 1) ∷ [];
  handlers = λ at. [];
  locals = 0;
  is_of_followed = false;
  otherwise = true;
  gives = Of (67 ∷ []) (Some c);
}

abbrev pub p : Program
p = record { methods = main ∷ helper ∷ taker ∷ getter ∷ []; maps = [] }

abbrev pub begins_at : ℕ → Context
begins_at method = record { method = method; args = []; held = 0; groups = λ g. None }

abbrev pub roots : List Context
roots = begins_at 0 ∷ begins_at 2 ∷ []

-- ---- one group, or none

abbrev pub there : Group
there = group c (At (tos.State 0)) false

abbrev pub perhaps : Group
perhaps = group c (At (tos.State 0)) true

abbrev pub asked : Group
asked = group c (Pending branches) false

abbrev pub ended : Group
ended = group c (At tos.End) false

abbrev pub Empty : (ℕ → Option Group) → Type 0
Empty gs = (g : ℕ) → gs g ≡ None

pub record Only (gs : ℕ → Option Group) (x : Group) : Type 0 where
  pub at : gs 0 ≡ Some x
  pub others : (g : ℕ) → g ≢ 0 → gs g ≡ None

pub not_below : (g : ℕ) → g ≢ 0 → is_below 1 g ≡ false
not_below g ne = go (eqb_tells 0 g)
  where
    go : ((0 == g) ≡ true) × (0 ≡ g) ⊎ ((0 == g) ≡ false) × (0 ≢ g) → is_below 1 g ≡ false
    go (inl w) = absurd (ne (sym w.1))
    go (inr w) = ap (λ (b : Bool). if b then true else false) w.0

pub only_numbered : (gs : ℕ → Option Group) (x : Group) → Only gs x → Only (numbered_groups (0 ∷ []) gs) x
only_numbered gs x o = record { at = o.at; others = λ g ne. ap (λ (b : Bool). only_if b (gs (nth 0 (0 ∷ []) g))) (not_below g ne) }

pub only_put : (gs : ℕ → Option Group) (x : Group) → ((g : ℕ) → g ≢ 0 → gs g ≡ None) → Only (put 0 (Some x) gs) x
only_put gs x none = record { at = refl; others = λ g ne. put_other 0 (Some x) gs g ne ∙ none g ne }

-- both: it is changed, and numbered anew
pub only_now : (gs : ℕ → Option Group) (x : Group) → ((g : ℕ) → g ≢ 0 → gs g ≡ None) → Only (numbered_groups (0 ∷ []) (put 0 (Some x) gs)) x
only_now gs x none = only_numbered (put 0 (Some x) gs) x (only_put gs x none)

pub zero_or_not : (g : ℕ) → (g ≡ 0) ⊎ (g ≢ 0)
zero_or_not g = go (eqb_tells g 0)
  where
    go : ((g == 0) ≡ true) × (g ≡ 0) ⊎ ((g == 0) ≡ false) × (g ≢ 0) → (g ≡ 0) ⊎ (g ≢ 0)
    go (inl w) = inl w.1
    go (inr w) = inr w.1

-- ---- objects that no place has

pub none_open : (held : ℕ) (s : Shape Known) (gs : ℕ → Option Group) (n : ℕ) → Empty gs → NoneOpen held (sight s gs n)
none_open held s gs n none g x e over gone = none_some (sym (none g) ∙ e)

pub had_open : (held : ℕ) (s : Shape Known) (gs : ℕ → Option Group) (n : ℕ) (x : Group) → Only gs x → has_group 0 s ≡ true →
    NoneOpen held (sight s gs n)
had_open held s gs n x o has g y e over gone = go (zero_or_not g)
  where
    go : (g ≡ 0) ⊎ (g ≢ 0) → finished y ≡ true
    go (inl z) = absurd (true≢false (sym has ∙ ap (λ a. has_group a s) (sym z) ∙ gone))
    go (inr ne) = none_some (sym (o.others g ne) ∙ e)

pub done_open : (held : ℕ) (s : Shape Known) (gs : ℕ → Option Group) (n : ℕ) (x : Group) → Only gs x → finished x ≡ true →
    NoneOpen held (sight s gs n)
done_open held s gs n x o fin g y e over gone = go (zero_or_not g)
  where
    go : (g ≡ 0) ⊎ (g ≢ 0) → finished y ≡ true
    go (inl z) = ap finished (some_is (sym e ∙ ap gs z ∙ o.at)) ∙ fin
    go (inr ne) = none_some (sym (o.others g ne) ∙ e)

pub held_open : (s : Shape Known) (gs : ℕ → Option Group) (n : ℕ) (x : Group) → Only gs x → NoneOpen 1 (sight s gs n)
held_open s gs n x o g y e over gone = none_some (sym (o.others g (λ z. omega (arith, z, over))) ∙ e)

-- ---- what is reached

abbrev pub object : Known
object = Object 0

pub data Main : ℕ → Sight → Type 0 where
  m0 : (gs : ℕ → Option Group) → Empty gs → Main 0 (sight (shape [] []) gs 0)
  m1 : (gs : ℕ → Option Group) → Only gs there → Main 1 (sight (shape [] (object ∷ [])) gs 1)
  m2 : (gs : ℕ → Option Group) → Empty gs → Main 2 (sight (shape [] []) gs 0)
  -- behind a throw
  m2' : (gs : ℕ → Option Group) → Empty gs → Main 2 (sight (shape [] (Bare Other ∷ [])) gs 0)

pub data Helper : ℕ → Sight → Type 0 where
  h0 : (gs : ℕ → Option Group) → Only gs there → Helper 0 (sight (shape (object ∷ []) []) gs 1)
  h1 : (gs : ℕ → Option Group) → Only gs there → Helper 1 (sight (shape (object ∷ []) (object ∷ [])) gs 1)
  h2 : (gs : ℕ → Option Group) → Only gs asked → Helper 2 (sight (shape (object ∷ []) (Answer 0 (Itself Truth) ∷ [])) gs 1)
  h3 : (gs : ℕ → Option Group) → Only gs there → Helper 3 (sight (shape (object ∷ []) []) gs 1)
  h4 : (gs : ℕ → Option Group) → Only gs there → Helper 4 (sight (shape (object ∷ []) (object ∷ [])) gs 1)
  h5 : (gs : ℕ → Option Group) → Only gs ended → Helper 5 (sight (shape (object ∷ []) []) gs 1)

pub data Taker : ℕ → Sight → Type 0 where
  t0 : (gs : ℕ → Option Group) → Empty gs → Taker 0 (sight (shape (Bare Other ∷ []) []) gs 0)
  t1 : (gs : ℕ → Option Group) → Only gs perhaps → Taker 1 (sight (shape (Bare Other ∷ []) (object ∷ [])) gs 1)
  t2 : (gs : ℕ → Option Group) → Only gs perhaps → Taker 2 (sight (shape (object ∷ []) []) gs 1)
  t3 : (gs : ℕ → Option Group) → Only gs perhaps → Taker 3 (sight (shape (object ∷ []) (object ∷ [])) gs 1)
  t4 : (gs : ℕ → Option Group) → Only gs there → Taker 4 (sight (shape (object ∷ []) []) gs 1)
  t5 : (gs : ℕ → Option Group) → Only gs there → Taker 5 (sight (shape (object ∷ []) (object ∷ [])) gs 1)
  t6 : (gs : ℕ → Option Group) → Only gs ended → Taker 6 (sight (shape (object ∷ []) []) gs 1)
  -- it was null
  t6' : (gs : ℕ → Option Group) → Empty gs → Taker 6 (sight (shape (Bare Null ∷ []) []) gs 0)

pub data Getter : ℕ → Sight → Type 0 where
  g0 : (gs : ℕ → Option Group) → Empty gs → Getter 0 (sight (shape [] []) gs 0)
  g1 : (gs : ℕ → Option Group) → Empty gs → Getter 1 (sight (shape [] (Bare Null ∷ [])) gs 0)

pub data Ctx : Context → Type 0 where
  in_main : Ctx (begins_at 0)
  in_taker : Ctx (begins_at 2)
  in_getter : Ctx (begins_at 3)
  in_helper : (gs : ℕ → Option Group) → Only gs there → Ctx (record { method = 1; args = object ∷ []; held = 1; groups = gs })

abbrev pub Stage : {d : Context} → Ctx d → ℕ → Sight → Type 0
Stage in_main = Main
Stage in_taker = Taker
Stage in_getter = Getter
Stage (in_helper gs o) = Helper

-- what a method comes to
pub record Next (S : ℕ → Sight → Type 0) (held to : ℕ) (g : Sight) : Type 0 where
  pub stage : S to (canonical held g)
  pub kept : NoneOpen held g

pub carry : {S : ℕ → Sight → Type 0} {held to to' : ℕ} {g g' : Sight} → (to ≡ to') × (g ≡ g') → Next S held to' g' → Next S held to g
carry {S} {held} {to} {to'} {g} {g'} e n =
    subst (λ a. Next S held a g) (sym e.0) (subst (λ x. Next S held to' x) (sym e.1) n)

-- ---- what is done there

-- a call on an object that is known
pub on_known : (v : Invocation) (gs : ℕ → Option Group) (x : Group) → Only gs x →
    Some (does (Invoke v) (class_known (gs 0))) ≡ Some (does (Invoke v) (class_known (Some x)))
on_known v gs x o = ap (λ y. Some (does (Invoke v) (class_known y))) o.at

pub main_next : (at to : ℕ) (f g : Sight) (i : Instruction) → Main at f → seen_at p 0 at f ≡ Some i → Way p 0 i at f to g → Next Main 0 to g
main_next at to f g i (m0 gs none) e w =
    carry (makes_way p 0 0 f c (subst (λ j. Way p 0 j 0 f to g) (sym (some_is e)) w)) (record {
      stage = m1 (numbered_groups (0 ∷ []) (put 0 (Some there) gs)) (only_now gs there (λ g ne. none g));
      kept = had_open 0 (shape [] (object ∷ [])) (put 0 (Some there) gs) 1 there (only_put gs there (λ g ne. none g)) refl;
    })
main_next at to f g i (m1 gs o) e w = no_way_in p 0 1 f 1 1 0 (subst (λ j. Way p 0 j 1 f to g) (sym (some_is e)) w)
main_next at to f g i (m2 gs none) e w = no_way_back p 0 2 f 0 (subst (λ j. Way p 0 j 2 f to g) (sym (some_is e)) w)
main_next at to f g i (m2' gs none) e w = no_way_back p 0 2 f 0 (subst (λ j. Way p 0 j 2 f to g) (sym (some_is e)) w)

pub getter_next : (at to : ℕ) (f g : Sight) (i : Instruction) → Getter at f → seen_at p 3 at f ≡ Some i → Way p 0 i at f to g →
    Next Getter 0 to g
getter_next at to f g i (g0 gs none) e w =
    carry (moves_way p 0 0 f (Move 0 (Just Null ∷ [])) (shape [] (Bare Null ∷ [])) refl
    (subst (λ j. Way p 0 j 0 f to g) (sym (some_is e)) w))
    (record {
      stage = g1 (numbered_groups [] gs) (λ g. refl);
      kept = none_open 0 (shape [] (Bare Null ∷ [])) gs 0 none;
    })
getter_next at to f g i (g1 gs none) e w = no_way_back p 0 1 f 1 (subst (λ j. Way p 0 j 1 f to g) (sym (some_is e)) w)

pub helper_next : (at to : ℕ) (f g : Sight) (i : Instruction) → Helper at f → seen_at p 1 at f ≡ Some i → Way p 1 i at f to g →
    Next Helper 1 to g
helper_next at to f g i (h0 gs o) e w =
    carry (moves_way p 1 0 f (Load 0) (shape (object ∷ []) (object ∷ [])) refl (subst (λ j. Way p 1 j 0 f to g) (sym (some_is e)) w))
    (record {
      stage = h1 (numbered_groups (0 ∷ []) gs) (only_numbered gs there o);
      kept = held_open (shape (object ∷ []) (object ∷ [])) gs 1 there o;
    })
helper_next at to f g i (h1 gs o) e w =
    carry (answers_way p 1 1 f asks 0 Boolean 0 there (tos.State 0) asking refl o.at refl refl branches refl
    (subst (λ j. Way p 1 j 1 f to g) (sym (some_is (sym (on_known (on_object asks Boolean) gs there o) ∙ e))) w))
    (record {
      stage = h2 (numbered_groups (0 ∷ []) (put 0 (Some asked) gs)) (only_now gs asked o.others);
      kept = held_open (shape (object ∷ []) (Answer 0 (Itself Truth) ∷ [])) (put 0 (Some asked) gs) 1 asked (only_put gs asked o.others);
    })
helper_next at to f g i (h2 gs o) e w = go y.b y.z y.e y.zero_is y.refines y.goes y.comes
  where
    y : Rattle.insp_law.proofs.Ways.TruthWay p 1 2 f Equal 5 0 asked to g
    y = truth_way p 1 2 f Equal 5 0 asked refl o.at (subst (λ j. Way p 1 j 2 f to g) (sym (some_is e)) w)

    after : Element → Sight
    after d = sight (shape (object ∷ []) []) (put 0 (Some (group c d false)) gs) 1

    go : (b z : Bool) (d : Element) → Rattle.insp_rules.specs.Program.is_zero_by Equal b ≡ Some z →
        frames.refined (λ l. Rattle.std.specs.Str.bytes_eq l (Rattle.insp_rules.specs.Program.truth z)) (Pending branches) ≡ Some d →
        to ≡ way b 5 2 →
        g ≡ sight (shape (object ∷ []) []) (put 0 (Some (group c d false)) gs) 1 → Next Helper 1 to g
    go true z d zero_is refines goes comes =
        let z_is : true ≡ z = some_is zero_is in
        let d_is : At tos.End ≡ d =
        some_is (ap (λ z. frames.refined (λ l. Rattle.std.specs.Str.bytes_eq l (Rattle.insp_rules.specs.Program.truth z))
        (Pending branches)) z_is
        ∙ refines) in
        carry (goes, comes ∙ ap after (sym d_is)) (record {
          stage = h5 (numbered_groups (0 ∷ []) (put 0 (Some ended) gs)) (only_now gs ended o.others);
          kept = held_open (shape (object ∷ []) []) (put 0 (Some ended) gs) 1 ended (only_put gs ended o.others);
        })
    go false z d zero_is refines goes comes =
        let z_is : false ≡ z = some_is zero_is in
        let d_is : At (tos.State 0) ≡ d =
        some_is (ap (λ z. frames.refined (λ l. Rattle.std.specs.Str.bytes_eq l (Rattle.insp_rules.specs.Program.truth z))
        (Pending branches)) z_is
        ∙ refines) in
        carry (goes, comes ∙ ap after (sym d_is)) (record {
          stage = h3 (numbered_groups (0 ∷ []) (put 0 (Some there) gs)) (only_now gs there o.others);
          kept = held_open (shape (object ∷ []) []) (put 0 (Some there) gs) 1 there (only_put gs there o.others);
        })
helper_next at to f g i (h3 gs o) e w =
    carry (moves_way p 1 3 f (Load 0) (shape (object ∷ []) (object ∷ [])) refl (subst (λ j. Way p 1 j 3 f to g) (sym (some_is e)) w))
    (record {
      stage = h4 (numbered_groups (0 ∷ []) gs) (only_numbered gs there o);
      kept = held_open (shape (object ∷ []) (object ∷ [])) gs 1 there o;
    })
helper_next at to f g i (h4 gs o) e w =
    carry (leads_way p 1 4 f ends 0 Void 0 there (tos.State 0) ending refl o.at refl refl tos.End refl refl
    (subst (λ j. Way p 1 j 4 f to g) (sym (some_is (sym (on_known (on_object ends Void) gs there o) ∙ e))) w))
    (record {
      stage = h5 (numbered_groups (0 ∷ []) (put 0 (Some ended) gs)) (only_now gs ended o.others);
      kept = held_open (shape (object ∷ []) []) (put 0 (Some ended) gs) 1 ended (only_put gs ended o.others);
    })
helper_next at to f g i (h5 gs o) e w = no_way_back p 1 5 f 0 (subst (λ j. Way p 1 j 5 f to g) (sym (some_is e)) w)

-- behind a test for null
pub nothing_left : (gs : ℕ → Option Group) (x : Group) → Only gs x → Empty (frames.without 0 (0 ∷ []) gs)
nothing_left gs x o g = go (eqb_tells 0 g)
  where
    go : ((0 == g) ≡ true) × (0 ≡ g) ⊎ ((0 == g) ≡ false) × (0 ≢ g) → frames.without 0 (0 ∷ []) gs g ≡ None
    go (inl w) = ap (λ (b : Bool). if (if b then true else false) then None else gs g) w.0
    go (inr w) = ap (λ (b : Bool). if (if b then true else false) then None else gs g) w.0 ∙ o.others g (λ z. w.1 (sym z))

pub surely_there : (gs : ℕ → Option Group) → Only gs perhaps → Only (frames.surely (0 ∷ []) gs) there
surely_there gs o = record {
  at = ap (Rattle.std.specs.Prelude.option_and_then (λ (x : Group). Some (group x.of x.element false))) o.at;
  others = λ g ne. go g ne (eqb_tells g 0);
}
  where
    go : (g : ℕ) → g ≢ 0 → ((g == 0) ≡ true) × (g ≡ 0) ⊎ ((g == 0) ≡ false) × (g ≢ 0) → frames.surely (0 ∷ []) gs g ≡ None
    go g ne (inl w) = absurd (ne w.1)
    go g ne (inr w) =
        ap (λ (b : Bool). if b then Rattle.std.specs.Prelude.option_and_then (λ (x : Group). Some (group x.of x.element false))
        (gs g) else gs g) w.0
        ∙ o.others g ne

pub taker_next : (at to : ℕ) (f g : Sight) (i : Instruction) → Taker at f → seen_at p 2 at f ≡ Some i → Way p 0 i at f to g →
    Next Taker 0 to g
taker_next at to f g i (t0 gs none) e w =
    carry (out_way p 0 0 f getting c refl (subst (λ j. Way p 0 j 0 f to g) (sym (some_is e)) w)) (record {
      stage = t1 (numbered_groups (0 ∷ []) (put 0 (Some perhaps) gs)) (only_now gs perhaps (λ g ne. none g));
      kept = had_open 0 (shape (Bare Other ∷ []) (object ∷ [])) (put 0 (Some perhaps) gs) 1 perhaps
          (only_put gs perhaps (λ g ne. none g)) refl;
    })
taker_next at to f g i (t1 gs o) e w =
    carry (moves_way p 0 1 f (Store 0) (shape (object ∷ []) []) refl (subst (λ j. Way p 0 j 1 f to g) (sym (some_is e)) w))
    (record {
      stage = t2 (numbered_groups (0 ∷ []) gs) (only_numbered gs perhaps o);
      kept = had_open 0 (shape (object ∷ []) []) gs 1 perhaps o refl;
    })
taker_next at to f g i (t2 gs o) e w =
    carry (moves_way p 0 2 f (Load 0) (shape (object ∷ []) (object ∷ [])) refl (subst (λ j. Way p 0 j 2 f to g) (sym (some_is e)) w))
    (record {
      stage = t3 (numbered_groups (0 ∷ []) gs) (only_numbered gs perhaps o);
      kept = had_open 0 (shape (object ∷ []) (object ∷ [])) gs 1 perhaps o refl;
    })
taker_next at to f g i (t3 gs o) e w = go y.b y.goes y.comes
  where
    y : Rattle.insp_law.proofs.Ways.NullWay p 0 3 f true 6 to g
    y = null_way p 0 3 f true 6 (subst (λ j. Way p 0 j 3 f to g) (sym (some_is e)) w)

    go : (b : Bool) → to ≡ way (Rattle.insp_rules.specs.Program.agree true b) 6 3 →
        g ≡ frames.shown 0 b (0 ∷ []) (shape (object ∷ []) []) (sight (shape (object ∷ []) (object ∷ [])) gs 1) → Next Taker 0 to g
    go true goes comes = carry (goes, comes) (record {
      stage = t6' (numbered_groups [] (frames.without 0 (0 ∷ []) gs)) (λ g. refl);
      kept = none_open 0 (shape (Bare Null ∷ []) []) (frames.without 0 (0 ∷ []) gs) 1 (nothing_left gs perhaps o);
    })
    go false goes comes = carry (goes, comes) (record {
      stage = t4 (numbered_groups (0 ∷ []) (frames.surely (0 ∷ []) gs))
          (only_numbered (frames.surely (0 ∷ []) gs) there (surely_there gs o));
      kept = had_open 0 (shape (object ∷ []) []) (frames.surely (0 ∷ []) gs) 1 there (surely_there gs o) refl;
    })
taker_next at to f g i (t4 gs o) e w =
    carry (moves_way p 0 4 f (Load 0) (shape (object ∷ []) (object ∷ [])) refl (subst (λ j. Way p 0 j 4 f to g) (sym (some_is e)) w))
    (record {
      stage = t5 (numbered_groups (0 ∷ []) gs) (only_numbered gs there o);
      kept = had_open 0 (shape (object ∷ []) (object ∷ [])) gs 1 there o refl;
    })
taker_next at to f g i (t5 gs o) e w =
    carry (leads_way p 0 5 f ends 0 Void 0 there (tos.State 0) ending refl o.at refl refl tos.End refl refl
    (subst (λ j. Way p 0 j 5 f to g) (sym (some_is (sym (on_known (on_object ends Void) gs there o) ∙ e))) w))
    (record {
      stage = t6 (numbered_groups (0 ∷ []) (put 0 (Some ended) gs)) (only_now gs ended o.others);
      kept = had_open 0 (shape (object ∷ []) []) (put 0 (Some ended) gs) 1 ended (only_put gs ended o.others) refl;
    })
taker_next at to f g i (t6 gs o) e w = no_way_back p 0 6 f 0 (subst (λ j. Way p 0 j 6 f to g) (sym (some_is e)) w)
taker_next at to f g i (t6' gs none) e w = no_way_back p 0 6 f 0 (subst (λ j. Way p 0 j 6 f to g) (sym (some_is e)) w)

pub next : (d : Context) (at to : ℕ) (f g : Sight) (i : Instruction) → (k : Ctx d) → Stage k at f → seen_at p d.method at f ≡ Some i →
    Way p d.held i at f to g → Next (Stage k) d.held to g
next d at to f g i in_main s e w = main_next at to f g i s e w
next d at to f g i in_taker s e w = taker_next at to f g i s e w
next d at to f g i in_getter s e w = getter_next at to f g i s e w
next d at to f g i (in_helper gs o) s e w = helper_next at to f g i s e w
