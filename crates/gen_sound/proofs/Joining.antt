-- `+` that joins texts: each operand is made a text, and then they are joined.
use Rattle.std.proofs.Common.{◌≡◌, ℕ, suc, ◌+◌, ◌≤◌, true, List, [], ◌∷◌, ◌++◌, length, Option, Some, refl, sym, subst, arith}
use Rattle.std.specs.Prelude.{slice_get, unwrap_or}
use Rattle.std.proofs.lemmas.List.{length-append}
use Rattle.jv_values.specs.Values.{Value, Shared, Inputs}
use Rattle.jv_values.specs.Values as values
use Rattle.jv_values.specs.Doing.{Run, Outcome, Gives, and_then, give, found, valuing}
use Rattle.jv_values.specs.Operators.{shown, sum, applied, Plus}
use Rattle.jv_core.specs.declared.program.CoreType.{CoreType}
use Rattle.jv_core.specs.declared.program.CoreType.TheVariants as types
use Rattle.jv_core.specs.Tree.{Method, Program}
use Rattle.jv_core.specs.Types.{IsShown}
use Rattle.jv_core.specs.Conditions.{IsCore}
use Rattle.vm_model.specs.declared.value.Value.{Value as Held}
use Rattle.vm_model.specs.declared.value.Value.TheVariants as held
use Rattle.vm_model.specs.Program as linked
use Rattle.vm_model.specs.Links.{Outline}
use Rattle.vm_model.specs.Messages.{Messages}
use Rattle.vm_model.specs.Step.{step}
use Rattle.gen_rules.specs.Symbolic.{Instr, invokevirtual}
use Rattle.gen_rules.specs.Members.{concat_reference}
use Rattle.gen_rules.specs.Spans.{Forms, by_value}
use Rattle.gen_rules.specs.Templates.{plus}
use Rattle.gen_rules.specs.Templates as templates
use Rattle.gen_rules.specs.Frames.{max_stack, Depths, two_depths, depths_by_value}
use Rattle.jv_sound.proofs.Worlds.{World, Extends, further, Runs, Fits, fits_more, GivesA}
use Rattle.jv_sound.proofs.Worlds as worlds
use Rattle.jv_sound.proofs.Objects.{Heap}
use Rattle.gen_sound.specs.Following.{Moment, Follows}
use Rattle.gen_sound.specs.Related.{Running, moment, flat, RunsCode}
use Rattle.vm_world_law.specs.Meant.{Holds}
use Rattle.gen_sound.proofs.Steps.{follows_later}
use Rattle.gen_sound.proofs.Forms.{Does, does_value, Value_at, value_closed, next_place}
use Rattle.gen_sound.proofs.Pairs.{of_both, value_is, second}
use Rattle.gen_sound.proofs.Operations.{concat_last}
use Rattle.gen_sound.proofs.Printing.{text_comes}

abbrev text_of : Value → List ℕ
text_of v = unwrap_or (shown v) []

-- one of two types is that of texts
pub data OneText : CoreType → CoreType → Type 0 where
  left : {t : CoreType} → OneText types.Text t
  right : {t : CoreType} → OneText t types.Text

text_first : (p : Program) (w : World) (t : List ℕ) (u : Value) (b : CoreType) → IsShown b → Fits p w u b → (s : Shared) →
    sum (values.Text t) u s ≡ Gives (values.Text (t ++ text_of u)) s
text_first p w t u b i worlds.int s = refl
text_first p w t u b i worlds.truth s = refl
text_first p w t u b i worlds.text s = refl
text_first p w t u b i worlds.null s = absurd i
text_first p w t u b i (worlds.object e) s = absurd i
text_first p w t u b i (worlds.constant e) s = absurd i

text_last : (p : Program) (w : World) (v : Value) (a : CoreType) (t : List ℕ) → IsShown a → Fits p w v a → (s : Shared) →
    sum v (values.Text t) s ≡ Gives (values.Text (text_of v ++ t)) s
text_last p w v a t i worlds.int s = refl
text_last p w v a t i worlds.truth s = refl
text_last p w v a t i worlds.text s = refl
text_last p w v a t i worlds.null s = absurd i
text_last p w v a t i (worlds.object e) s = absurd i
text_last p w v a t i (worlds.constant e) s = absurd i

record IsText (v : Value) : Type 0 where
  text : List ℕ
  is : v ≡ values.Text text

text_value : (p : Program) (w : World) (v : Value) → Fits p w v types.Text → IsText v
text_value p w v (worlds.text {t = t}) = record { text = t; is = refl }

sum_is : (p : Program) (w : World) (v u : Value) (a b : CoreType) → OneText a b → IsShown a → IsShown b → Fits p w v a → Fits p w u b →
    (s : Shared) → sum v u s ≡ Gives (values.Text (text_of v ++ text_of u)) s
sum_is p w v u a b left i j f g s =
    let t = text_value p w v f in
    subst (λ x. sum x u s ≡ Gives (values.Text (text_of x ++ text_of u)) s) (sym t.is) (text_first p w t.text u b j g s)
sum_is p w v u a b right i j f g s =
    let t = text_value p w u g in
    subst (λ x. sum v x s ≡ Gives (values.Text (text_of v ++ text_of x)) s) (sym t.is) (text_last p w v a t.text i f s)

module _ (p : Program) (ok : IsCore p) (os : List Outline) (program : linked.Program) (inputs : Inputs) (me : ℕ) (r : Running) (m : Method)
    (code : List Instr) (runs : RunsCode p os program me r m code) (n : ℕ) (ls : List (Option Held)) where
  abbrev V : (to : ℕ) (st : List Held) → Moment → Option Value → Shared → Type 0
  V = Value_at p ok os program inputs me r m code runs n ls

  abbrev F : {B : Type 0} → (Moment → B → Shared → Type 0) → Moment → Outcome Shared B → Type 0
  F R c o = Follows (step program me) n R c o

  abbrev A : (place : ℕ) → List Held → Shared → Messages → Moment
  A place st s q = moment p r place st ls s q

  one_longer : (st : List Held) (v : Held) (k most : ℕ) → length st + suc k ≤ most → length (st ++ v ∷ []) + k ≤ most
  one_longer st v k most h = let l : length (st ++ v ∷ []) ≡ length st + 1 = length-append st (v ∷ []) in omega (arith, l, h)

  -- once both stand on the operands, the second as a value
  joins : (to mid last : ℕ) (tb : CoreType) → IsShown tb → templates.text p m code (Some tb) mid last →
      slice_get code last ≡ Some (invokevirtual concat_reference) → to ≡ suc last → (st : List Held) → length st + 2 ≤ max_stack p m →
      (x : World) (t : List ℕ) (u : Value) (s : Shared) (q : Messages) → Fits p x u tb → Holds inputs q me s.events →
      F (V to st) (A mid ((st ++ held.Text t ∷ []) ++ flat u ∷ []) s q) (give (Some (values.Text (t ++ text_of u))) s)
  joins to mid last tb i stands at e st room x t u s q fits holds =
      follows_later (step program me) n (V to st) (value_closed p ok os program inputs me r m code runs n ls to st)
      (A mid ((st ++ held.Text t ∷ []) ++ flat u ∷ []) s q) (A last ((st ++ held.Text t ∷ []) ++ held.Text (text_of u) ∷ []) s q)
      (give (Some (values.Text (t ++ text_of u))) s)
      (text_comes p ok os program inputs me r m code runs tb i x u fits mid last stands (st ++ held.Text t ∷ []) ls s q
      (one_longer st (held.Text t) 1 (max_stack p m) room))
      (next_place p ok os program inputs me r m code runs n
      (λ k. F (V k st) (A last ((st ++ held.Text t ∷ []) ++ held.Text (text_of u) ∷ []) s q) (give (Some (values.Text (t ++ text_of u))) s))
      last to e
      (concat_last p ok os program inputs me r m code runs n ls last st x (values.Text t) (values.Text (text_of u)) s q at worlds.text
      worlds.text (omega (arith, room)) holds))

  pub joins_does : (w : World) (G I : Forms) (a b : Run Shared (Option Value)) (d e : Depths) (ta tb : CoreType) → OneText ta tb →
      IsShown ta → IsShown tb → 1 ≤ d.value → 1 ≤ e.value → Runs (Heap p ok) (λ w v. GivesA p w v ta) w a →
      Runs (Heap p ok) (λ w v. GivesA p w v tb) w b → Does p ok os program inputs me r m code runs n w ls G a d →
      Does p ok os program inputs me r m code runs n w ls I b e →
      Does p ok os program inputs me r m code runs n w ls (by_value code (plus p m code true G I (Some ta) (Some tb)))
      (of_both (applied Plus) a b) (depths_by_value (two_depths d e))
  joins_does w G I a b d e ta tb one ia ib some_a some_b ra rb da db = does_value p ok os program inputs me r m code runs n w ls
      (plus p m code true G I (Some ta) (Some tb)) (of_both (applied Plus) a b) (two_depths d e)
      (λ from to st x s q h room grown heap holds.
      subst (F (V to st) (A from st s q)) (sym (value_is (applied Plus) a b s))
      (second p ok os program inputs me r m code runs n (V to st) (value_closed p ok os program inputs me r m code runs n ls to st)
      (A from st s q) x ta h.1.1.1.0 ls st (a s)
      (λ v t. and_then (and_then (b t) found) (λ z u. valuing (applied Plus v z) u)) (ra.run x grown s heap)
      (da.value from h.1.1.1.0 st x s q h.1.1.1.1 (omega (arith, room)) grown heap holds)
      (λ y v s1 q1 more fv heap1 holds1.
      follows_later (step program me) n (V to st) (value_closed p ok os program inputs me r m code runs n ls to st)
      (A h.1.1.1.0 (st ++ flat v ∷ []) s1 q1) (A h.1.1.0 (st ++ held.Text (text_of v) ∷ []) s1 q1)
      (and_then (and_then (b s1) found) (λ z u. valuing (applied Plus v z) u))
      (text_comes p ok os program inputs me r m code runs ta ia y v fv h.1.1.1.0 h.1.1.0 h.1.1.1.2 st ls s1 q1
      (omega (arith, room, some_a)))
      (second p ok os program inputs me r m code runs n (V to st) (value_closed p ok os program inputs me r m code runs n ls to st)
      (A h.1.1.0 (st ++ held.Text (text_of v) ∷ []) s1 q1) y tb h.1.0 ls (st ++ held.Text (text_of v) ∷ []) (b s1)
      (λ z u. valuing (applied Plus v z) u) (rb.run y (further grown more) s1 heap1)
      (db.value h.1.1.0 h.1.0 (st ++ held.Text (text_of v) ∷ []) y s1 q1 h.1.1.2
      (one_longer st (held.Text (text_of v)) e.value (max_stack p m) (omega (arith, room))) (further grown more) heap1 holds1)
      (λ z u s2 q2 more2 fu heap2 holds2.
      subst (λ o. F (V to st) (A h.1.0 ((st ++ held.Text (text_of v) ∷ []) ++ flat u ∷ []) s2 q2) (and_then o (λ v. give (Some v))))
      (sym (sum_is p z v u ta tb one ia ib (fits_more p more2 fv) fu s2))
      (joins to h.1.0 h.0 tb ib h.1.2 h.2.0 h.2.1 st (omega (arith, room, some_b)) z (text_of v) u s2 q2 fu holds2))))))
