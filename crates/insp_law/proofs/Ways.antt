-- What may be behind an instruction: each way of it, by the instruction.
use Rattle.std.proofs.Common.{◌≡◌, ℕ, suc, Bool, true, false, List, Some, None}
use Rattle.std.proofs.Common.{refl, sym, ap, ◌∙◌}
use Rattle.std.specs.Str.{bytes_eq}
use Rattle.mg_text.specs.Call.{Name}
use Rattle.ts_tree.specs.declared.parts.To.{To}
use Rattle.ts_tree.specs.declared.parts.Branch.{Branch}
use Rattle.ts_tree.specs.Typestate.{One, ByAnswer, Method as Offer}
use Rattle.insp_rules.specs.Program.{Class, Comparison, Result, Invocation, Instruction, IfNull, IfSign, Make, Call, CallIn, CallOut}
use Rattle.insp_rules.specs.Program.{Return, Program}
use Rattle.insp_rules.specs.Program.{taken, class_of, agree, is_zero_by, truth, Shape, nth, rest, popped, straight, way}
use Rattle.insp_rules.specs.Skeleton.{Tells, fresh_of, offered_at}
use Rattle.insp_rules.specs.Frames.{Known, unknown, Object, Element, At, Pending, Group, Sight, group, knowns, refined, forget_all, is_it}
use Rattle.insp_rules.specs.Frames.{with_shape}
use Rattle.insp_rules.specs.Frames.{added, behind, asked, leaves, told, Way, MayBe, new_group, is_null, null_shows, shown, sign_asks}
use Rattle.insp_rules.specs.Frames as frames
use Rattle.insp_rules.proofs.Lists.{some_is, none_some}

module _ (p : Program) (held at : ℕ) (f : Sight) where
  -- instructions that only move values
  pub moves_way : (i : Instruction) (s : Shape Known) → straight knowns i f.shape ≡ Some s → {to : ℕ} {g : Sight} → Way p held i at f to g →
      (to ≡ suc at) × (g ≡ with_shape f s)
  moves_way i s e (frames.moves u q) = (refl, ap (with_shape f) (some_is (sym q ∙ e)))
  moves_way i s e (frames.go a0 q) = none_some (sym (ap (λ j. straight knowns j f.shape) q) ∙ e)
  moves_way i s e (frames.either a0 a1 q) = none_some (sym (ap (λ j. straight knowns j f.shape) q) ∙ e)
  moves_way i s e (frames.null a0 a1 a2 q a4) = none_some (sym (ap (λ j. straight knowns j f.shape) q) ∙ e)
  moves_way i s e (frames.same a0 a1 a2 q a4 a5) = none_some (sym (ap (λ j. straight knowns j f.shape) q) ∙ e)
  moves_way i s e (frames.constant a0 a1 a2 a3 a4 a5 a6 q a8 a9 a10) = none_some (sym (ap (λ j. straight knowns j f.shape) q) ∙ e)
  moves_way i s e (frames.sign a0 a1 a2 q a4 a5) = none_some (sym (ap (λ j. straight knowns j f.shape) q) ∙ e)
  moves_way i s e (frames.truth a0 a1 a2 a3 a4 a5 a6 q a8 a9 a10 a11) = none_some (sym (ap (λ j. straight knowns j f.shape) q) ∙ e)
  moves_way i s e (frames.numbers a0 a1 a2 q a4) = none_some (sym (ap (λ j. straight knowns j f.shape) q) ∙ e)
  moves_way i s e (frames.switch a0 a1 a2 q a4) = none_some (sym (ap (λ j. straight knowns j f.shape) q) ∙ e)
  moves_way i s e (frames.mapped a0 a1 a2 a3 a4 a5 a6 q a8 a9 a10) = none_some (sym (ap (λ j. straight knowns j f.shape) q) ∙ e)
  moves_way i s e (frames.makes a0 q) = none_some (sym (ap (λ j. straight knowns j f.shape) q) ∙ e)
  moves_way i s e (frames.leads a0 a1 a2 a3 a4 a5 a6 a7 q a9 a10 a11 a12 a13 a14) =
      none_some (sym (ap (λ j. straight knowns j f.shape) q) ∙ e)
  moves_way i s e (frames.leads_made a0 a1 a2 a3 a4 a5 a6 a7 a8 q a10 a11 a12 a13 a14 a15) =
      none_some (sym (ap (λ j. straight knowns j f.shape) q) ∙ e)
  moves_way i s e (frames.answers a0 a1 a2 a3 a4 a5 a6 a7 q a9 a10 a11 a12 a13) =
      none_some (sym (ap (λ j. straight knowns j f.shape) q) ∙ e)
  moves_way i s e (frames.outside a0 q a2) = none_some (sym (ap (λ j. straight knowns j f.shape) q) ∙ e)
  moves_way i s e (frames.outside_made a0 a1 q a3) = none_some (sym (ap (λ j. straight knowns j f.shape) q) ∙ e)
  moves_way i s e (frames.keeps a0 q) = none_some (sym (ap (λ j. straight knowns j f.shape) q) ∙ e)

  pub makes_way : (c : Class) {to : ℕ} {g : Sight} → Way p held (Make c) at f to g →
      (to ≡ suc at) × (g ≡ added (new_group false c) f.shape f)
  makes_way c (frames.makes d q) =
      let i : d ≡ c = cc in
      (refl, ap (λ d. added (new_group false d) f.shape f) i)
  makes_way c (frames.moves s q) = none_some q
  makes_way c (frames.go a0 q) = absurd (cc)
  makes_way c (frames.either a0 a1 q) = absurd (cc)
  makes_way c (frames.null a0 a1 a2 q a4) = absurd (cc)
  makes_way c (frames.same a0 a1 a2 q a4 a5) = absurd (cc)
  makes_way c (frames.constant a0 a1 a2 a3 a4 a5 a6 q a8 a9 a10) = absurd (cc)
  makes_way c (frames.sign a0 a1 a2 q a4 a5) = absurd (cc)
  makes_way c (frames.truth a0 a1 a2 a3 a4 a5 a6 q a8 a9 a10 a11) = absurd (cc)
  makes_way c (frames.numbers a0 a1 a2 q a4) = absurd (cc)
  makes_way c (frames.switch a0 a1 a2 q a4) = absurd (cc)
  makes_way c (frames.mapped a0 a1 a2 a3 a4 a5 a6 q a8 a9 a10) = absurd (cc)
  makes_way c (frames.leads a0 a1 a2 a3 a4 a5 a6 a7 q a9 a10 a11 a12 a13 a14) = absurd (cc)
  makes_way c (frames.leads_made a0 a1 a2 a3 a4 a5 a6 a7 a8 q a10 a11 a12 a13 a14 a15) = absurd (cc)
  makes_way c (frames.answers a0 a1 a2 a3 a4 a5 a6 a7 q a9 a10 a11 a12 a13) = absurd (cc)
  makes_way c (frames.outside a0 q a2) = absurd (cc)
  makes_way c (frames.outside_made a0 a1 q a3) = absurd (cc)
  makes_way c (frames.keeps a0 q) = absurd (cc)

  pub out_way : (v : Invocation) (c : Class) → class_of v.result ≡ Some c → {to : ℕ} {g : Sight} → Way p held (CallOut v) at f to g →
      (to ≡ suc at) × (g ≡ added (new_group true c) (popped (taken v) f.shape) f)
  out_way v c e (frames.outside w q d) =
      let i : w ≡ v = cc in
      none_some (sym d ∙ ap (λ (w : Invocation). class_of w.result) i ∙ e)
  out_way v c e (frames.outside_made w d q k) =
      let i : w ≡ v = cc in
      let j : d ≡ c = some_is (sym k ∙ ap (λ (w : Invocation). class_of w.result) i ∙ e) in (
        refl,
        ap (λ (w : Invocation). added (new_group true d) (popped (taken w) f.shape) f) i
            ∙ ap (λ d. added (new_group true d) (popped (taken v) f.shape) f) j,
      )
  out_way v c e (frames.moves s q) = none_some q
  out_way v c e (frames.go a0 q) = absurd (cc)
  out_way v c e (frames.either a0 a1 q) = absurd (cc)
  out_way v c e (frames.null a0 a1 a2 q a4) = absurd (cc)
  out_way v c e (frames.same a0 a1 a2 q a4 a5) = absurd (cc)
  out_way v c e (frames.constant a0 a1 a2 a3 a4 a5 a6 q a8 a9 a10) = absurd (cc)
  out_way v c e (frames.sign a0 a1 a2 q a4 a5) = absurd (cc)
  out_way v c e (frames.truth a0 a1 a2 a3 a4 a5 a6 q a8 a9 a10 a11) = absurd (cc)
  out_way v c e (frames.numbers a0 a1 a2 q a4) = absurd (cc)
  out_way v c e (frames.switch a0 a1 a2 q a4) = absurd (cc)
  out_way v c e (frames.mapped a0 a1 a2 a3 a4 a5 a6 q a8 a9 a10) = absurd (cc)
  out_way v c e (frames.makes a0 q) = absurd (cc)
  out_way v c e (frames.leads a0 a1 a2 a3 a4 a5 a6 a7 q a9 a10 a11 a12 a13 a14) = absurd (cc)
  out_way v c e (frames.leads_made a0 a1 a2 a3 a4 a5 a6 a7 a8 q a10 a11 a12 a13 a14 a15) = absurd (cc)
  out_way v c e (frames.answers a0 a1 a2 a3 a4 a5 a6 a7 q a9 a10 a11 a12 a13) = absurd (cc)
  out_way v c e (frames.keeps a0 q) = absurd (cc)

  pub no_way_back : (words : ℕ) {P : Type 0} {to : ℕ} {g : Sight} → Way p held (Return words) at f to g → P
  no_way_back words (frames.moves s q) = none_some q
  no_way_back words (frames.go a0 q) = absurd (cc)
  no_way_back words (frames.either a0 a1 q) = absurd (cc)
  no_way_back words (frames.null a0 a1 a2 q a4) = absurd (cc)
  no_way_back words (frames.same a0 a1 a2 q a4 a5) = absurd (cc)
  no_way_back words (frames.constant a0 a1 a2 a3 a4 a5 a6 q a8 a9 a10) = absurd (cc)
  no_way_back words (frames.sign a0 a1 a2 q a4 a5) = absurd (cc)
  no_way_back words (frames.truth a0 a1 a2 a3 a4 a5 a6 q a8 a9 a10 a11) = absurd (cc)
  no_way_back words (frames.numbers a0 a1 a2 q a4) = absurd (cc)
  no_way_back words (frames.switch a0 a1 a2 q a4) = absurd (cc)
  no_way_back words (frames.mapped a0 a1 a2 a3 a4 a5 a6 q a8 a9 a10) = absurd (cc)
  no_way_back words (frames.makes a0 q) = absurd (cc)
  no_way_back words (frames.leads a0 a1 a2 a3 a4 a5 a6 a7 q a9 a10 a11 a12 a13 a14) = absurd (cc)
  no_way_back words (frames.leads_made a0 a1 a2 a3 a4 a5 a6 a7 a8 q a10 a11 a12 a13 a14 a15) = absurd (cc)
  no_way_back words (frames.answers a0 a1 a2 a3 a4 a5 a6 a7 q a9 a10 a11 a12 a13) = absurd (cc)
  no_way_back words (frames.outside a0 q a2) = absurd (cc)
  no_way_back words (frames.outside_made a0 a1 q a3) = absurd (cc)
  no_way_back words (frames.keeps a0 q) = absurd (cc)

  pub no_way_in : (callee k words : ℕ) {P : Type 0} {to : ℕ} {g : Sight} → Way p held (CallIn callee k words) at f to g → P
  no_way_in callee k words (frames.moves s q) = none_some q
  no_way_in callee k words (frames.go a0 q) = absurd (cc)
  no_way_in callee k words (frames.either a0 a1 q) = absurd (cc)
  no_way_in callee k words (frames.null a0 a1 a2 q a4) = absurd (cc)
  no_way_in callee k words (frames.same a0 a1 a2 q a4 a5) = absurd (cc)
  no_way_in callee k words (frames.constant a0 a1 a2 a3 a4 a5 a6 q a8 a9 a10) = absurd (cc)
  no_way_in callee k words (frames.sign a0 a1 a2 q a4 a5) = absurd (cc)
  no_way_in callee k words (frames.truth a0 a1 a2 a3 a4 a5 a6 q a8 a9 a10 a11) = absurd (cc)
  no_way_in callee k words (frames.numbers a0 a1 a2 q a4) = absurd (cc)
  no_way_in callee k words (frames.switch a0 a1 a2 q a4) = absurd (cc)
  no_way_in callee k words (frames.mapped a0 a1 a2 a3 a4 a5 a6 q a8 a9 a10) = absurd (cc)
  no_way_in callee k words (frames.makes a0 q) = absurd (cc)
  no_way_in callee k words (frames.leads a0 a1 a2 a3 a4 a5 a6 a7 q a9 a10 a11 a12 a13 a14) = absurd (cc)
  no_way_in callee k words (frames.leads_made a0 a1 a2 a3 a4 a5 a6 a7 a8 q a10 a11 a12 a13 a14 a15) = absurd (cc)
  no_way_in callee k words (frames.answers a0 a1 a2 a3 a4 a5 a6 a7 q a9 a10 a11 a12 a13) = absurd (cc)
  no_way_in callee k words (frames.outside a0 q a2) = absurd (cc)
  no_way_in callee k words (frames.outside_made a0 a1 q a3) = absurd (cc)
  no_way_in callee k words (frames.keeps a0 q) = absurd (cc)

  -- a test for null
  pub record NullWay (is : Bool) (there to : ℕ) (g : Sight) : Type 0 where
    pub b : Bool
    pub tells : Tells (is_null f.groups (nth unknown f.shape.operands 0)) b
    pub goes : to ≡ way (agree is b) there at
    pub comes : g ≡ shown held b (null_shows (nth unknown f.shape.operands 0)) (popped 1 f.shape) f

  pub null_way : (is : Bool) (there : ℕ) {to : ℕ} {g : Sight} → Way p held (IfNull is there) at f to g → NullWay is there to g
  null_way is there (frames.null is' there' b q tells) =
      let i : is' ≡ is = cc in
      let j : there' ≡ there = cc in
      record { b = b; tells = tells; goes = ap (λ c. way (agree c b) there' at) i ∙ ap (λ c. way (agree is b) c at) j; comes = refl }
  null_way is there (frames.moves s q) = none_some q
  null_way is there (frames.go a0 q) = absurd (cc)
  null_way is there (frames.either a0 a1 q) = absurd (cc)
  null_way is there (frames.same a0 a1 a2 q a4 a5) = absurd (cc)
  null_way is there (frames.constant a0 a1 a2 a3 a4 a5 a6 q a8 a9 a10) = absurd (cc)
  null_way is there (frames.sign a0 a1 a2 q a4 a5) = absurd (cc)
  null_way is there (frames.truth a0 a1 a2 a3 a4 a5 a6 q a8 a9 a10 a11) = absurd (cc)
  null_way is there (frames.numbers a0 a1 a2 q a4) = absurd (cc)
  null_way is there (frames.switch a0 a1 a2 q a4) = absurd (cc)
  null_way is there (frames.mapped a0 a1 a2 a3 a4 a5 a6 q a8 a9 a10) = absurd (cc)
  null_way is there (frames.makes a0 q) = absurd (cc)
  null_way is there (frames.leads a0 a1 a2 a3 a4 a5 a6 a7 q a9 a10 a11 a12 a13 a14) = absurd (cc)
  null_way is there (frames.leads_made a0 a1 a2 a3 a4 a5 a6 a7 a8 q a10 a11 a12 a13 a14 a15) = absurd (cc)
  null_way is there (frames.answers a0 a1 a2 a3 a4 a5 a6 a7 q a9 a10 a11 a12 a13) = absurd (cc)
  null_way is there (frames.outside a0 q a2) = absurd (cc)
  null_way is there (frames.outside_made a0 a1 q a3) = absurd (cc)
  null_way is there (frames.keeps a0 q) = absurd (cc)

  -- a test of a truth that an object answered
  pub record TruthWay (c : Comparison) (there g : ℕ) (x : Group) (to : ℕ) (after : Sight) : Type 0 where
    pub b : Bool
    pub z : Bool
    pub e : Element
    pub zero_is : is_zero_by c b ≡ Some z
    pub refines : refined (λ l. bytes_eq l (truth z)) x.element ≡ Some e
    pub goes : to ≡ way b there at
    pub comes : after ≡ asked g x e (popped 1 f.shape) f

  pub truth_way : (c : Comparison) (there g : ℕ) (x : Group) → sign_asks c (nth unknown f.shape.operands 0) ≡ Some g → f.groups g ≡ Some x →
      {to : ℕ} {after : Sight} → Way p held (IfSign c there) at f to after → TruthWay c there g x to after
  truth_way c there g x e l (frames.sign c' there' b q asks tells) =
      let i : c' ≡ c = cc in
      none_some (sym asks ∙ ap (λ d. sign_asks d (nth unknown f.shape.operands 0)) i ∙ e)
  truth_way c there g x e l (frames.truth c' there' b z g' x' d q asks zero_is live refines) =
      let i : c' ≡ c = cc in
      let j : there' ≡ there = cc in
      let k : g' ≡ g = some_is (sym asks ∙ ap (λ d. sign_asks d (nth unknown f.shape.operands 0)) i ∙ e) in
      let y : x' ≡ x = some_is (sym live ∙ ap f.groups k ∙ l) in
      record {
        b = b;
        z = z;
        e = d;
        zero_is = ap (λ d. is_zero_by d b) (sym i) ∙ zero_is;
        refines = ap (λ (x : Group). refined (λ l. bytes_eq l (truth z)) x.element) (sym y) ∙ refines;
        goes = ap (λ c. way b c at) j;
        comes = ap (λ g. asked g x' d (popped 1 f.shape) f) k ∙ ap (λ x. asked g x d (popped 1 f.shape) f) y;
      }
  truth_way c there g x e l (frames.moves s q) = none_some q
  truth_way c there g x e l (frames.go a0 q) = absurd (cc)
  truth_way c there g x e l (frames.either a0 a1 q) = absurd (cc)
  truth_way c there g x e l (frames.null a0 a1 a2 q a4) = absurd (cc)
  truth_way c there g x e l (frames.same a0 a1 a2 q a4 a5) = absurd (cc)
  truth_way c there g x e l (frames.constant a0 a1 a2 a3 a4 a5 a6 q a8 a9 a10) = absurd (cc)
  truth_way c there g x e l (frames.numbers a0 a1 a2 q a4) = absurd (cc)
  truth_way c there g x e l (frames.switch a0 a1 a2 q a4) = absurd (cc)
  truth_way c there g x e l (frames.mapped a0 a1 a2 a3 a4 a5 a6 q a8 a9 a10) = absurd (cc)
  truth_way c there g x e l (frames.makes a0 q) = absurd (cc)
  truth_way c there g x e l (frames.leads a0 a1 a2 a3 a4 a5 a6 a7 q a9 a10 a11 a12 a13 a14) = absurd (cc)
  truth_way c there g x e l (frames.leads_made a0 a1 a2 a3 a4 a5 a6 a7 a8 q a10 a11 a12 a13 a14 a15) = absurd (cc)
  truth_way c there g x e l (frames.answers a0 a1 a2 a3 a4 a5 a6 a7 q a9 a10 a11 a12 a13) = absurd (cc)
  truth_way c there g x e l (frames.outside a0 q a2) = absurd (cc)
  truth_way c there g x e l (frames.outside_made a0 a1 q a3) = absurd (cc)
  truth_way c there g x e l (frames.keeps a0 q) = absurd (cc)

  -- a call of a protocol on an object that is at one place
  is_place : (e : Element) (from to : To) → MayBe e from → e ≡ At to → from ≡ to
  is_place e from to (frames.at {to = t}) q = cc
  is_place e from to (frames.by {branches = bs} label l) q = absurd (cc)

  module _ (name : Name) (k : ℕ) (has : Result) (g : ℕ) (x : Group) (from : To) (m : Offer)
      (receiver : nth unknown f.shape.operands k ≡ Object g)
      (live : f.groups g ≡ Some x) (stands : x.element ≡ At from) (offers : offered_at x.of from name ≡ Some m) where
    -- what the parts of a way are
    record Same (name' : Name) (k' : ℕ) (has' : Result) (g' : ℕ) (x' : Group) (m' : Offer) : Type 0 where
      k_is : k' ≡ k
      has_is : has' ≡ has
      g_is : g' ≡ g
      x_is : x' ≡ x
      m_is : m' ≡ m

    same : (name' : Name) (k' : ℕ) (has' : Result) (g' : ℕ) (x' : Group) (from' : To) (m' : Offer) → Call name k has ≡ Call name' k' has' →
        nth unknown f.shape.operands k' ≡ Object g' → f.groups g' ≡ Some x' → MayBe x'.element from' →
        offered_at x'.of from' name' ≡ Some m' →
        Same name' k' has' g' x' m'
    same name' k' has' g' x' from' m' q u v w y =
        let k_is : k' ≡ k = cc in
        let has_is : has' ≡ has = cc in
        let name_is : name' ≡ name = cc in
        let o : Object g' ≡ Object g = sym u ∙ ap (nth unknown f.shape.operands) k_is ∙ receiver in
        let g_is : g' ≡ g = cc in
        let x_is : x' ≡ x = some_is (sym v ∙ ap f.groups g_is ∙ live) in
        let f_is : from' ≡ from = is_place x'.element from' from w (ap (λ (b : Group). b.element) x_is ∙ stands) in
        let m_is : m' ≡ m =
        some_is (sym y ∙ ap (offered_at x'.of from') name_is ∙ ap (λ b. offered_at x'.of b name) f_is
        ∙ ap (λ (b : Group). offered_at b.of from name) x_is ∙ offers) in
        record { k_is = k_is; has_is = has_is; g_is = g_is; x_is = x_is; m_is = m_is }

    abbrev led : (k : ℕ) → Result → (g : ℕ) → Group → To → Sight
    led k has g x to =
        behind g (group x.of (At to) false) (leaves x.of has (forget_all (is_it g) (rest (suc k) f.shape.operands))) f.shape f

    pub leads_way : (there : To) → m.target ≡ One there → fresh_of x.of has ≡ None → {to : ℕ} {after : Sight} →
        Way p held (Call name k has) at f to after → (to ≡ suc at) × (after ≡ led k has g x there)
    leads_way there t no_new (frames.leads name' k' has' g' x' from' there' m' q u v w y z new) =
        let s = same name' k' has' g' x' from' m' q u v w y in
        let o : One there' ≡ One there = sym z ∙ ap (λ (b : Offer). b.target) s.m_is ∙ t in
        let there_is : there' ≡ there = cc in (
          refl,
          ap (λ k. led k has' g' x' there') s.k_is ∙ ap (λ h. led k h g' x' there') s.has_is ∙ ap (λ g. led k has g x' there') s.g_is
              ∙ ap (λ x. led k has g x there') s.x_is ∙ ap (led k has g x) there_is,
        )
    leads_way there t no_new (frames.leads_made name' k' has' d g' x' from' there' m' q u v w y z new) =
        let s = same name' k' has' g' x' from' m' q u v w y in
        none_some (sym no_new ∙ ap (λ (b : Group). fresh_of b.of has) (sym s.x_is) ∙ ap (fresh_of x'.of) (sym s.has_is) ∙ new)
    leads_way there t no_new (frames.answers name' k' has' g' x' from' bs m' q u v w y z) =
        let s = same name' k' has' g' x' from' m' q u v w y in
        let o : ByAnswer bs ≡ One there = sym z ∙ ap (λ (b : Offer). b.target) s.m_is ∙ t in
        absurd (cc)
    leads_way there t no_new (frames.moves s q) = none_some q
    leads_way there t no_new (frames.go a0 q) = absurd (cc)
    leads_way there t no_new (frames.either a0 a1 q) = absurd (cc)
    leads_way there t no_new (frames.null a0 a1 a2 q a4) = absurd (cc)
    leads_way there t no_new (frames.same a0 a1 a2 q a4 a5) = absurd (cc)
    leads_way there t no_new (frames.constant a0 a1 a2 a3 a4 a5 a6 q a8 a9 a10) = absurd (cc)
    leads_way there t no_new (frames.sign a0 a1 a2 q a4 a5) = absurd (cc)
    leads_way there t no_new (frames.truth a0 a1 a2 a3 a4 a5 a6 q a8 a9 a10 a11) = absurd (cc)
    leads_way there t no_new (frames.numbers a0 a1 a2 q a4) = absurd (cc)
    leads_way there t no_new (frames.switch a0 a1 a2 q a4) = absurd (cc)
    leads_way there t no_new (frames.mapped a0 a1 a2 a3 a4 a5 a6 q a8 a9 a10) = absurd (cc)
    leads_way there t no_new (frames.makes a0 q) = absurd (cc)
    leads_way there t no_new (frames.outside a0 q a2) = absurd (cc)
    leads_way there t no_new (frames.outside_made a0 a1 q a3) = absurd (cc)
    leads_way there t no_new (frames.keeps a0 q) = absurd (cc)

    abbrev asks : (k : ℕ) → Result → (g : ℕ) → Group → List Branch → Sight
    asks k has g x bs =
        behind g (group x.of (Pending bs) false) (told g has (forget_all (is_it g) (rest (suc k) f.shape.operands))) f.shape f

    pub answers_way : (branches : List Branch) → m.target ≡ ByAnswer branches → {to : ℕ} {after : Sight} →
        Way p held (Call name k has) at f to after → (to ≡ suc at) × (after ≡ asks k has g x branches)
    answers_way branches t (frames.leads name' k' has' g' x' from' there' m' q u v w y z new) =
        let s = same name' k' has' g' x' from' m' q u v w y in
        let o : One there' ≡ ByAnswer branches = sym z ∙ ap (λ (b : Offer). b.target) s.m_is ∙ t in
        absurd (cc)
    answers_way branches t (frames.leads_made name' k' has' d g' x' from' there' m' q u v w y z new) =
        let s = same name' k' has' g' x' from' m' q u v w y in
        let o : One there' ≡ ByAnswer branches = sym z ∙ ap (λ (b : Offer). b.target) s.m_is ∙ t in
        absurd (cc)
    answers_way branches t (frames.answers name' k' has' g' x' from' bs m' q u v w y z) =
        let s = same name' k' has' g' x' from' m' q u v w y in
        let o : ByAnswer bs ≡ ByAnswer branches = sym z ∙ ap (λ (b : Offer). b.target) s.m_is ∙ t in
        let bs_is : bs ≡ branches = cc in (
          refl,
          ap (λ k. asks k has' g' x' bs) s.k_is ∙ ap (λ h. asks k h g' x' bs) s.has_is ∙ ap (λ g. asks k has g x' bs) s.g_is
              ∙ ap (λ x. asks k has g x bs) s.x_is ∙ ap (asks k has g x) bs_is,
        )
    answers_way branches t (frames.moves s q) = none_some q
    answers_way branches t (frames.go a0 q) = absurd (cc)
    answers_way branches t (frames.either a0 a1 q) = absurd (cc)
    answers_way branches t (frames.null a0 a1 a2 q a4) = absurd (cc)
    answers_way branches t (frames.same a0 a1 a2 q a4 a5) = absurd (cc)
    answers_way branches t (frames.constant a0 a1 a2 a3 a4 a5 a6 q a8 a9 a10) = absurd (cc)
    answers_way branches t (frames.sign a0 a1 a2 q a4 a5) = absurd (cc)
    answers_way branches t (frames.truth a0 a1 a2 a3 a4 a5 a6 q a8 a9 a10 a11) = absurd (cc)
    answers_way branches t (frames.numbers a0 a1 a2 q a4) = absurd (cc)
    answers_way branches t (frames.switch a0 a1 a2 q a4) = absurd (cc)
    answers_way branches t (frames.mapped a0 a1 a2 a3 a4 a5 a6 q a8 a9 a10) = absurd (cc)
    answers_way branches t (frames.makes a0 q) = absurd (cc)
    answers_way branches t (frames.outside a0 q a2) = absurd (cc)
    answers_way branches t (frames.outside_made a0 a1 q a3) = absurd (cc)
    answers_way branches t (frames.keeps a0 q) = absurd (cc)
