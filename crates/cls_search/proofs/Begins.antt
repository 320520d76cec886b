-- A search begins well: its setting, what is kept at the first place, and that nothing else is kept.
use Rattle.std.proofs.Common.{◌≡◌, ℕ, zero, suc, ◌-◌, ◌<◌, ◌≤◌, ◌⊎◌, inl, inr, Bool, true, false, List, [], ◌∷◌, ◌++◌, length, map, take}
use Rattle.std.proofs.Common.{drop, get_or, Option, Some, None, option_map, refl, sym, ap, ap₂, subst, ◌∙◌, arith, length-append}
use Rattle.std.specs.Prelude.{slice_get, replicate, if◌then◌else◌}
use Rattle.std.proofs.lemmas.List.{length-map, map-append, length-replicate, length-take-le, drop_all}
use Rattle.std.proofs.lemmas.Bool.{cases_lt, cases_eq, true≢false}
use Rattle.mg_text.specs.Call.{Name}
use Rattle.vm_model.specs.Program.{Program, Instr, MethodOf, class_name, method_at}
use Rattle.vm_model.specs.Start.{is_main}
use Rattle.vm_model.specs.View.{instr_of}
use Rattle.cls_verify.specs.Kinds as model
use Rattle.cls_verify.specs.Typing.{Kinds, LeadsTo, Typing, arguments, first_locals}
use Rattle.cls_verify.specs.Blocks.{Runs}
use Rattle.cls_kinds.specs.declared.kind.Kind.{Kind}
use Rattle.cls_kinds.specs.Named.{AreNames, kind_of, kinds_of}
use Rattle.cls_kinds.specs.Stacks.{stack_at}
use Rattle.cls_table.specs.declared.classes.MethodKinds.{MethodKinds}
use Rattle.cls_table.specs.Tables.{IsMethod, AreKinds}
use Rattle.cls_rows.proofs.Alike.{kinds_with}
use Rattle.cls_rows.specs.declared.frame.Frame.{Frame}
use Rattle.cls_rows.specs.Frames.{kinds_at}
use Rattle.cls_search.specs.declared.leading.Found.{Found}
use Rattle.cls_search.specs.Setting.{Setting}
use Rattle.cls_search.specs.Kept.{IsRight, FrameFits, Settled, or_none, frame_at, table, waits}
use Rattle.cls_search.specs.declared.walk.Body.{Body}
use Rattle.cls_search.specs.Walking.{IsBody}
use Rattle.cls_search.specs.Marked.{AreJoins}
use Rattle.cls_search.specs.Beginning.{any_number, first_kinds, IsBegun}
use Rattle.cls_search.proofs.Changing.{get_set_same, get_set_other, many_set, or_set_same}
use Rattle.cls_search.proofs.Rises.{all_fit_self}

abbrev no_frame : Option Frame
no_frame = None

map_take : (names : List Name) (n : ℕ) (ks : List Kind) → kinds_of names (take n ks) ≡ take n (kinds_of names ks)
map_take names zero ks = refl
map_take names (suc n) [] = refl
map_take names (suc n) (k ∷ ks) = ap (λ l. kind_of names k ∷ l) (map_take names n ks)

map_same : (names : List Name) (n : ℕ) → kinds_of names (replicate n any_number) ≡ replicate n model.Any
map_same names zero = refl
map_same names (suc n) = ap (λ l. model.Any ∷ l) (map_same names n)

pub take_and_drop : {A : Type 0} (n : ℕ) (xs : List A) → take n xs ++ drop n xs ≡ xs
take_and_drop zero xs = refl
take_and_drop (suc n) [] = refl
take_and_drop (suc n) (x ∷ xs) = ap (λ l. x ∷ l) (take_and_drop n xs)

-- the locals at the first place stand for those that a typing begins with
first_is : (p : Program) (class : ℕ) (names : List Name) (m : MethodOf) (ks : List Kind) → kinds_of names ks ≡ arguments p class m →
    kinds_of names (first_kinds m ks) ≡ first_locals p class m
first_is p class names m ks e = go (is_main m) refl
  where
    go : (b : Bool) → is_main m ≡ b →
        kinds_of names (if b then replicate m.max_locals any_number else ks ++ replicate (m.max_locals - length ks) any_number)
        ≡ (if b then replicate m.max_locals model.Any else arguments p class m ++ replicate (m.max_locals - length (arguments p class m))
        model.Any)
    go true f = map_same names m.max_locals
    go false f =
        let many : length ks ≡ length (arguments p class m) = sym (length-map ks (kind_of names)) ∙ ap length e in
        map-append (kind_of names) ks (replicate (m.max_locals - length ks) any_number)
        ∙ ap₂ (λ x y. x ++ y) e (map_same names (m.max_locals - length ks) ∙ ap (λ n. replicate (m.max_locals - n) model.Any) many)

pub first_many : (p : Program) (class : ℕ) (m : MethodOf) → length (arguments p class m) ≤ m.max_locals → length (first_locals p class m)
    ≡ m.max_locals
first_many p class m h = go (is_main m)
  where
    go : (b : Bool) → length (if b then replicate m.max_locals model.Any else arguments p class m
        ++ replicate (m.max_locals - length (arguments p class m)) model.Any)
        ≡ m.max_locals
    go true = length-replicate m.max_locals model.Any
    go false =
        let a = length-append (arguments p class m) (replicate (m.max_locals - length (arguments p class m)) model.Any) in
        let r = length-replicate (m.max_locals - length (arguments p class m)) model.Any in omega (arith, a, r, h)

module _ (p : Program) (class number : ℕ) (m : MethodOf) (there : method_at p class number ≡ Some m) (names : List Name)
    (n : AreNames names) (x : MethodKinds)
    (is : IsMethod names (class_name p class) m x) (fits : length x.takes.items ≤ m.max_locals) (marks : List Bool)
    (joins : AreJoins m.code marks) where
  pub arguments_fit : length (arguments p class m) ≤ m.max_locals
  arguments_fit = let a = ap length is.takes in let b = length-map x.takes.items (kind_of names) in omega (arith, a, b, fits)

  abbrev pub setting : Setting
  setting = record {
    p = p;
    class = class;
    method = number;
    m = m;
    there = there;
    names = names;
    are_names = n;
    rest = drop 256 (first_locals p class m);
    width = length (take 256 (first_locals p class m));
    whole = (let a = length-append (take 256 (first_locals p class m)) (drop 256 (first_locals p class m)) in
        let b = ap length (take_and_drop 256 (first_locals p class m)) in
        let c = first_many p class m arguments_fit in omega (arith, a, b, c));
    kept = kept (cases_lt (length (first_locals p class m)) 257);
    fits = arguments_fit;
    joins = λ place. get_or marks place true;
    first_joined = joins.first;
    joined = λ place i a e f next c. joins.joined place i a e f next c;
  }
    where
      kept : (length (first_locals p class m) < 257) ⊎ (257 ≤ length (first_locals p class m)) →
          (drop 256 (first_locals p class m) ≡ []) ⊎ (256 ≤ length (take 256 (first_locals p class m)))
      kept (inl h) = inl (drop_all 256 (first_locals p class m) (omega (arith, h)))
      kept (inr h) = inr (let t = length-take-le 256 (first_locals p class m) (omega (arith, h)) in omega (arith, t))

  -- the body of a search over this setting
  pub body_is : (b : Body) → AreKinds p b.scene.program.now → b.scene.program.now.names ≡ names → map instr_of b.code.now ≡ m.code →
      b.joins.now ≡ marks →
      b.scene.result ≡ x.result → b.scene.max_stack ≡ m.max_stack → IsBody setting b
  body_is b kinds named code marked result most = record {
    scene = record {
      kinds = kinds;
      there = there;
      result = ap (option_map (kind_of b.scene.program.now.names)) result ∙ ap (λ (ns : List Name). option_map (kind_of ns) x.result) named
          ∙ is.result;
      max_stack = most;
    };
    names = named;
    code = code;
    joins = λ place. ap (λ (bs : List Bool). get_or bs place true) (sym marked);
    many = ap length marked ∙ joins.many;
  }

  module _ (f : Found) (begun : IsBegun m x.takes.items f) (some : 0 < length m.code) where
    locals_are : kinds_of names begun.frame.locals.value.items ≡ take 256 (first_locals p class m)
    locals_are = ap (kinds_of names) begun.locals ∙ map_take names 256 (first_kinds m x.takes.items) ∙
        ap (take 256) (first_is p class names m x.takes.items is.takes)

    first_frame : frame_at f 0 ≡ Some begun.frame
    first_frame = ap (λ fs. or_none (slice_get fs 0)) begun.frames
        ∙ ap or_none (get_set_same (replicate (length m.code) no_frame) 0 (Some begun.frame)
        (let r = length-replicate (length m.code) no_frame in omega (arith, r, some)))

    empty_list : stack_at f.stacks begun.frame.operands ≡ []
    empty_list = ap₂ (λ st i. stack_at st i) begun.stacks begun.operands

    other_frames : (place : ℕ) → (place ≡ 0 → ⊥) → frame_at f place ≡ None
    other_frames place h = ap (λ fs. or_none (slice_get fs place)) begun.frames
        ∙ ap or_none (get_set_other (replicate (length m.code) no_frame) 0 place (Some begun.frame) h) ∙ no_frames (length m.code) place
      where
        no_frames : (k i : ℕ) → or_none (slice_get (replicate k no_frame) i) ≡ None
        no_frames zero i = refl
        no_frames (suc k) zero = refl
        no_frames (suc k) (suc i) = no_frames k i

    first_kinds_are : table setting f 0 ≡ Some (kinds_with (first_locals p class m) [])
    first_kinds_are = ap (option_map (kinds_at names setting.rest f.stacks)) first_frame
        ∙ ap₂ (λ ls os. Some (kinds_with ls os))
        (ap (λ l. l ++ drop 256 (first_locals p class m)) locals_are ∙ take_and_drop 256 (first_locals p class m))
        (ap (kinds_of names) empty_list)

    pub begins_right : IsRight setting f
    begins_right = record {
      frames = ap length begun.frames ∙ many_set (replicate (length m.code) no_frame) 0 (Some begun.frame) ∙ length-replicate
          (length m.code) no_frame;
      waiting = ap length begun.waiting ∙ many_set (replicate (length m.code) false) 0 true ∙ length-replicate (length m.code) false;
      fit = λ place g e. fit place g e (cases_eq place 0);
      first = first_kinds_are;
      below = λ t place k e. below t place k e (cases_eq place 0);
    }
      where
        fit : (place : ℕ) (g : Frame) → frame_at f place ≡ Some g → (place ≡ 0) ⊎ (place ≡ 0 → ⊥) → FrameFits setting f.stacks g
        fit place g e (inr h) = absurd (let q : None ≡ Some g = sym (other_frames place h) ∙ e in cc q)
        fit place g e (inl h) =
            let same : begun.frame ≡ g = let q : Some begun.frame ≡ Some g = sym first_frame ∙ ap (frame_at f) (sym h) ∙ e in cc q in
            subst (FrameFits setting f.stacks) same (record {
              there = (let a = ap length begun.stacks in let b = begun.operands in omega (arith, a, b));
              width = sym (length-map begun.frame.locals.value.items (kind_of names)) ∙ ap length locals_are;
              room = (let a = ap length empty_list in omega (arith, a));
            })

        below : (t : Typing p class number m) (place : ℕ) (k : Kinds) → table setting f place ≡ Some k → (place ≡ 0) ⊎ (place ≡ 0 → ⊥) →
            LeadsTo t.at k place
        below t place k e (inr h) = absurd
            (let q : None ≡ Some k = sym (ap (option_map (kinds_at names setting.rest f.stacks)) (other_frames place h)) ∙ e in cc q)
        below t place k e (inl h) =
            let same : kinds_with (first_locals p class m) [] ≡ k =
            let q : Some (kinds_with (first_locals p class m) []) ≡ Some k = sym first_kinds_are ∙ ap (table setting f) (sym h) ∙
            e in cc q in
            record {
              kinds = k;
              typed = ap t.at h ∙ t.first ∙ ap (λ (y : Kinds). Some y) same;
              locals = all_fit_self k.locals;
              operands = all_fit_self k.operands;
            }

    pub begins_settled : Settled setting f (λ q. ⊥)
    begins_settled place k joined e still never = go (cases_eq place 0)
      where
        go : (place ≡ 0) ⊎ (place ≡ 0 → ⊥) → Runs p class number m setting.joins (table setting f) place k
        go (inr h) = absurd (let q : None ≡ Some k = sym (ap (option_map (kinds_at names setting.rest f.stacks)) (other_frames place h)) ∙
            e in cc q)
        go (inl h) = absurd (true≢false (sym (ap (λ ws. get_or ws 0 false) begun.waiting
            ∙ or_set_same (replicate (length m.code) false) 0 true false (let r = length-replicate (length m.code) false in omega
            (arith, r, some)))
            ∙ ap (waits f) (sym h) ∙ still))

-- a code without instructions has no typing
pub no_code : (p : Program) (class number : ℕ) (m : MethodOf) → length m.code ≡ 0 → Typing p class number m → ⊥
no_code p class number m e t =
    let k = t.typed 0 (kinds_with (first_locals p class m) []) t.first in
    none m.code e k.instr k.there
  where
    none : (is : List Instr) → length is ≡ 0 → (i : Instr) → slice_get is 0 ≡ Some i → ⊥
    none [] h i f = cc f
    none (x ∷ is) h i f = omega (arith, h)
