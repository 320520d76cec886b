-- Operators on values that fit their types end well.
use Rattle.std.proofs.Common.{◌≡◌, ◌≢◌, ℕ, Bool, true, false, not, List, Option, Some, ℤ, pos, refl, sym, ◌∙◌, subst}
use Rattle.std.specs.Prelude.{if◌then◌else◌, nat_eq, ◌-ℤ◌, ◌*ℤ◌, int_div, int_rem}
use Rattle.std.specs.Str.{bytes_eq}
use Rattle.mg_text.specs.Call.{Name}
use Rattle.jv_tree.specs.declared.tree.Op.{Op}
use Rattle.jv_tree.specs.declared.tree.Op.TheVariants as ops
use Rattle.jv_values.specs.Values.{Value, Shared, Wrong, Zero}
use Rattle.jv_values.specs.Values as values
use Rattle.jv_values.specs.Doing.{Run, ◌>>=◌, give, stop, found, valued, valuing, number, truth, text, constant}
use Rattle.jv_values.specs.Operators.{int_same, nonzero, shown, joined, sum, computed, compared, same, unless_decided, both, applied}
use Rattle.jv_values.specs.Operators.{binary, negative, opposite, equal_texts, joined_texts, wrap}
use Rattle.jv_core.specs.declared.program.CoreType.{CoreType}
use Rattle.jv_core.specs.declared.program.CoreType.TheVariants as types
use Rattle.jv_core.specs.Tree.{Program}
use Rattle.jv_core.specs.Lookup.{enum_text}
use Rattle.jv_core.specs.Types.{IsArithmetic, IsOrder, IsEquality, IsLogic, IsShown, IsCompared}
use Rattle.jv_values.specs.Operators.{operator_of}
use Rattle.jv_sound.proofs.Lists.{some_is, same_name}
use Rattle.jv_sound.proofs.Worlds.{World, Extends, Runs, runs_later, runs_give, runs_then, runs_as, runs_stop, runs_found, Fits, fits_more}
use Rattle.jv_sound.proofs.Worlds.{GivesA}
use Rattle.jv_sound.proofs.Worlds as worlds

module _ (p : Program) (St : World → Shared → Type 0) where
  abbrev pub OfType : CoreType → World → Value → Type 0
  OfType t w v = Fits p w v t

  abbrev pub Anything : {A : Type 0} → World → A → Type 0
  Anything w a = Unit {0}

  pub number_runs : (w : World) (v : Value) → Fits p w v types.Int → Runs St Anything w (number v)
  number_runs w v worlds.int = runs_give St Anything w _ (λ x q. tt)

  pub truth_runs : (w : World) (v : Value) → Fits p w v types.Boolean → Runs St Anything w (truth v)
  truth_runs w v worlds.truth = runs_give St Anything w _ (λ x q. tt)

  pub text_runs : (w : World) (v : Value) → Fits p w v types.Text → Runs St Anything w (text v)
  text_runs w v worlds.text = runs_give St Anything w _ (λ x q. tt)

  -- a constant is one of its enum
  pub constant_runs : (w : World) (e : ℕ) (v : Value) → Fits p w v (types.Enum e) →
      Runs St (λ w c. enum_text p e ≡ Some c.0) w (constant v)
  constant_runs w e v (worlds.constant is) = runs_give St (λ w c. enum_text p e ≡ Some c.0) w _ (λ x q. is)

  given : (t : CoreType) (x : World) (a : Option Value) → t ≢ types.Void → GivesA p x a t → Runs St (OfType t) x (found a)
  given t x a n worlds.nothing = absurd (n refl)
  given t x a n (worlds.value f) = runs_give St (OfType t) x _ (λ y q. fits_more p q f)

  -- a value is given where the type is one of values
  pub valued_runs : (t : CoreType) (w : World) (m : Run Shared (Option Value)) → t ≢ types.Void → Runs St (λ w r. GivesA p w r t) w m →
      Runs St (OfType t) w (valued m)
  valued_runs t w m n r = runs_then St (λ w r. GivesA p w r t) (OfType t) w m found r (λ x a q g. given t x a n g)

  pub valuing_runs : (t : CoreType) (w : World) (m : Run Shared Value) → Runs St (OfType t) w m →
      Runs St (λ w r. GivesA p w r t) w (valuing m)
  valuing_runs t w m r = runs_then St (OfType t) (λ w r. GivesA p w r t) w m (λ v. give (Some v)) r
      (λ x v q f. runs_give St (λ w r. GivesA p w r t) x (Some v) (λ y z. worlds.value (fits_more p z f)))

  -- an operation on a number
  on_number : {B : Type 0} (P : World → B → Type 0) (w : World) (v : Value) (f : ℤ → Run Shared B) → Fits p w v types.Int →
      ((x : World) (z : ℤ) → Runs St P x (f z)) → Runs St P w (number v >>= f)
  on_number P w v f g k = runs_then St Anything P w (number v) f (number_runs w v g) (λ x z q u. k x z)

  on_text : {B : Type 0} (P : World → B → Type 0) (w : World) (v : Value) (f : List ℕ → Run Shared B) → Fits p w v types.Text →
      ((x : World) (t : List ℕ) → Runs St P x (f t)) → Runs St P w (text v >>= f)
  on_text P w v f g k = runs_then St Anything P w (text v) f (text_runs w v g) (λ x z q u. k x z)

  pub negative_runs : (w : World) (v : Value) → Fits p w v types.Int → Runs St (OfType types.Int) w (negative v)
  negative_runs w v f = on_number (OfType types.Int) w v _ f (λ x z. runs_give St (OfType types.Int) x _ (λ y q. worlds.int))

  pub opposite_runs : (w : World) (v : Value) → Fits p w v types.Boolean → Runs St (OfType types.Boolean) w (opposite v)
  opposite_runs w v f = runs_then St Anything (OfType types.Boolean) w (truth v) _ (truth_runs w v f)
      (λ x z q u. runs_give St (OfType types.Boolean) x _ (λ y q. worlds.truth))

  pub equal_texts_runs : (w : World) (v u : Value) → Fits p w v types.Text → Fits p w u types.Text →
      Runs St (OfType types.Boolean) w (equal_texts v u)
  equal_texts_runs w v u worlds.text worlds.text = runs_give St (OfType types.Boolean) w _ (λ y q. worlds.truth)

  pub joined_texts_runs : (w : World) (v u : Value) → Fits p w v types.Text → Fits p w u types.Text →
      Runs St (OfType types.Text) w (joined_texts v u)
  joined_texts_runs w v u worlds.text worlds.text = runs_give St (OfType types.Text) w _ (λ y q. worlds.text)

  -- what can be shown has a text
  pub record Shows (v : Value) : Type 0 where
    pub text : List ℕ
    pub is : shown v ≡ Some text

  pub shows : (w : World) (v : Value) (t : CoreType) → IsShown t → Fits p w v t → Shows v
  shows w v t i worlds.int = record { text = _; is = refl }
  shows w v t i worlds.truth = record { text = _; is = refl }
  shows w v t i worlds.text = record { text = _; is = refl }
  shows w v t i worlds.null = absurd i
  shows w v t i (worlds.object e) = absurd i
  shows w v t i (worlds.constant e) = absurd i

  joined_runs : (w : World) (a b : Option (List ℕ)) (s t : List ℕ) → a ≡ Some s → b ≡ Some t → Runs St (OfType types.Text) w (joined a b)
  joined_runs w a b s t e f = subst (λ a. Runs St (OfType types.Text) w (joined a b)) (sym e)
      (subst (λ b. Runs St (OfType types.Text) w (joined (Some s) b)) (sym f)
      (runs_give St (OfType types.Text) w _ (λ y q. worlds.text)))

  sum_runs : (w : World) (v u : Value) → Fits p w v types.Int → Fits p w u types.Int → Runs St (OfType types.Int) w (sum v u)
  sum_runs w v u worlds.int worlds.int = runs_give St (OfType types.Int) w _ (λ y q. worlds.int)

  text_and_runs : (t : CoreType) (w : World) (v u : Value) → IsShown t → Fits p w v types.Text → Fits p w u t →
      Runs St (OfType types.Text) w (sum v u)
  text_and_runs t w v u i (worlds.text {t = a}) f = let s = shows w u t i f in joined_runs w (Some a) (shown u) a s.text refl s.is

  and_text_runs : (t : CoreType) (w : World) (v u : Value) → IsShown t → Fits p w v t → Fits p w u types.Text →
      Runs St (OfType types.Text) w (sum v u)
  and_text_runs t w v u i (worlds.int {z = z}) (worlds.text {t = b}) = joined_runs w (shown (values.Int z)) (Some b) _ b refl refl
  and_text_runs t w v u i (worlds.truth {b = c}) (worlds.text {t = b}) = joined_runs w (shown (values.Truth c)) (Some b) _ b refl refl
  and_text_runs t w v u i (worlds.text {t = a}) (worlds.text {t = b}) = joined_runs w (Some a) (Some b) a b refl refl
  and_text_runs t w v u i worlds.null g = absurd i
  and_text_runs t w v u i (worlds.object e) g = absurd i
  and_text_runs t w v u i (worlds.constant e) g = absurd i

  nonzero_runs : (w : World) (y : ℤ) → Runs St Anything w (nonzero y)
  nonzero_runs w y = go (int_same y (pos 0))
    where
      go : (b : Bool) → Runs St Anything w (if b then stop Zero else give y)
      go true = runs_stop St Anything w Zero (λ e. cc)
      go false = runs_give St Anything w y (λ x q. tt)

  computed_runs : (f : ℤ → ℤ → Run Shared ℤ) (w : World) (v u : Value) → ((x : World) (a b : ℤ) → Runs St Anything x (f a b)) →
      Fits p w v types.Int → Fits p w u types.Int → Runs St (OfType types.Int) w (computed f v u)
  computed_runs f w v u k (worlds.int {z = a}) (worlds.int {z = b}) =
      runs_then St Anything (OfType types.Int) w (f a b) (λ z. give (values.Int z)) (k w a b)
      (λ x z q u. runs_give St (OfType types.Int) x _ (λ y q. worlds.int))

  compared_runs : (f : ℤ → ℤ → Bool) (w : World) (v u : Value) → Fits p w v types.Int → Fits p w u types.Int →
      Runs St (OfType types.Boolean) w (compared f v u)
  compared_runs f w v u worlds.int worlds.int = runs_give St (OfType types.Boolean) w _ (λ y q. worlds.truth)

  arithmetic_runs : (o : Op) (w : World) (v u : Value) → IsArithmetic o → Fits p w v types.Int → Fits p w u types.Int →
      Runs St (OfType types.Int) w (applied (operator_of o) v u)
  arithmetic_runs ops.Sub w v u i f g = computed_runs (λ x y. give (wrap (x -ℤ y))) w v u
      (λ x a b. runs_give St Anything x (wrap (a -ℤ b)) (λ y q. tt)) f g
  arithmetic_runs ops.Mul w v u i f g = computed_runs (λ x y. give (wrap (x *ℤ y))) w v u
      (λ x a b. runs_give St Anything x (wrap (a *ℤ b)) (λ y q. tt)) f g
  arithmetic_runs ops.Div w v u i f g = computed_runs (λ x y. nonzero y >>= λ d. give (wrap (int_div x d))) w v u
      (λ x a b. runs_then St Anything Anything x (nonzero b) (λ d. give (wrap (int_div a d))) (nonzero_runs x b)
      (λ y d q t. runs_give St Anything y (wrap (int_div a d)) (λ y q. tt))) f g
  arithmetic_runs ops.Rem w v u i f g = computed_runs (λ x y. nonzero y >>= λ d. give (int_rem x d)) w v u
      (λ x a b. runs_then St Anything Anything x (nonzero b) (λ d. give (int_rem a d)) (nonzero_runs x b)
      (λ y d q t. runs_give St Anything y (int_rem a d) (λ y q. tt))) f g
  arithmetic_runs _ w v u i f g = absurd i

  order_runs : (o : Op) (w : World) (v u : Value) → IsOrder o → Fits p w v types.Int → Fits p w u types.Int →
      Runs St (OfType types.Boolean) w (applied (operator_of o) v u)
  order_runs ops.Lt w v u i f g = compared_runs _ w v u f g
  order_runs ops.Le w v u i f g = compared_runs _ w v u f g
  order_runs ops.Gt w v u i f g = compared_runs _ w v u f g
  order_runs ops.Ge w v u i f g = compared_runs _ w v u f g
  order_runs _ w v u i f g = absurd i

  -- Comparisons for equality.

  constants_same : (w : World) (e f : Name) (n k : ℕ) → e ≡ f → Runs St Anything w (same (values.Constant e n) (values.Constant f k))
  constants_same w e f n k is = subst (λ b. Runs St Anything w (if b then give (nat_eq n k) else stop Wrong))
      (sym (subst (λ f. bytes_eq e f ≡ true) is (same_name e))) (runs_give St Anything w _ (λ x q. tt))

  same_runs : (t : CoreType) (w : World) (v u : Value) → IsCompared t → Fits p w v t → Fits p w u t → Runs St Anything w (same v u)
  same_runs t w v u i worlds.int worlds.int = runs_give St Anything w _ (λ x q. tt)
  same_runs t w v u i (worlds.truth {b = true}) worlds.truth = runs_give St Anything w _ (λ x q. tt)
  same_runs t w v u i (worlds.truth {b = false}) worlds.truth = runs_give St Anything w _ (λ x q. tt)
  same_runs t w v u i (worlds.constant {n = n} {name = a} e) (worlds.constant {n = k} {name = b} f) =
      constants_same w a b n k (some_is (sym e ∙ f))
  same_runs t w v u i worlds.text g = absurd i
  same_runs t w v u i worlds.null g = absurd i
  same_runs t w v u i (worlds.object e) g = absurd i

  null_runs : (c : ℕ) (w : World) (v : Value) → Fits p w v (types.Object c) → Runs St Anything w (same v values.Null)
  null_runs c w v worlds.null = runs_give St Anything w _ (λ x q. tt)
  null_runs c w v (worlds.object e) = runs_give St Anything w _ (λ x q. tt)

  runs_null : (c : ℕ) (w : World) (v : Value) → Fits p w v (types.Object c) → Runs St Anything w (same values.Null v)
  runs_null c w v worlds.null = runs_give St Anything w _ (λ x q. tt)
  runs_null c w v (worlds.object e) = runs_give St Anything w _ (λ x q. tt)

  equality_runs : (o : Op) (w : World) (v u : Value) → IsEquality o → Runs St Anything w (same v u) →
      Runs St (OfType types.Boolean) w (applied (operator_of o) v u)
  equality_runs ops.Eq w v u i r = runs_then St Anything (OfType types.Boolean) w (same v u) _ r
      (λ x b q t. runs_give St (OfType types.Boolean) x _ (λ y q. worlds.truth))
  equality_runs ops.Ne w v u i r = runs_then St Anything (OfType types.Boolean) w (same v u) _ r
      (λ x b q t. runs_give St (OfType types.Boolean) x _ (λ y q. worlds.truth))
  equality_runs _ w v u i r = absurd i

  -- Both operands, from left to right.

  pub both_runs : (t u : CoreType) (P : World → Value → Type 0) (w : World) (f : Value → Value → Run Shared Value)
      (a b : Run Shared Value) → Runs St (OfType t) w a → Runs St (OfType u) w b →
      ((x : World) (v y : Value) → Fits p x v t → Fits p x y u → Runs St P x (f v y)) → Runs St P w (both f a b)
  both_runs t u P w f a b ra rb k = runs_then St (OfType t) P w a _ ra
      (λ x v q fv. runs_then St (OfType u) P x b _ (runs_later St q rb) (λ y z r fz. k y v z (fits_more p r fv) fz))

  unless_runs : (go_on : Bool) (w : World) (a b : Run Shared Value) → Runs St (OfType types.Boolean) w a →
      Runs St (OfType types.Boolean) w b → Runs St (OfType types.Boolean) w (unless_decided go_on a b)
  unless_runs go_on w a b ra rb = runs_then St (OfType types.Boolean) (OfType types.Boolean) w a _ ra
      (λ x v q f. runs_then St Anything (OfType types.Boolean) x (truth v) _ (truth_runs x v f)
      (λ y t r u. pick y t (if go_on then t else not t) (runs_later St (worlds.further q r) rb)))
    where
      pick : (x : World) (t c : Bool) → Runs St (OfType types.Boolean) x b →
          Runs St (OfType types.Boolean) x (if c then b else give (values.Truth t))
      pick x t true r = r
      pick x t false r = runs_give St (OfType types.Boolean) x _ (λ y q. worlds.truth)

  pub sum_of : (w : World) (a b : Run Shared Value) → Runs St (OfType types.Int) w a → Runs St (OfType types.Int) w b →
      Runs St (OfType types.Int) w (binary (operator_of ops.Add) a b)
  sum_of w a b ra rb = both_runs types.Int types.Int (OfType types.Int) w sum a b ra rb (λ x v y f g. sum_runs x v y f g)

  pub text_and_of : (t : CoreType) (w : World) (a b : Run Shared Value) → IsShown t → Runs St (OfType types.Text) w a →
      Runs St (OfType t) w b → Runs St (OfType types.Text) w (binary (operator_of ops.Add) a b)
  text_and_of t w a b i ra rb = both_runs types.Text t (OfType types.Text) w sum a b ra rb (λ x v y f g. text_and_runs t x v y i f g)

  pub and_text_of : (t : CoreType) (w : World) (a b : Run Shared Value) → IsShown t → Runs St (OfType t) w a →
      Runs St (OfType types.Text) w b → Runs St (OfType types.Text) w (binary (operator_of ops.Add) a b)
  and_text_of t w a b i ra rb = both_runs t types.Text (OfType types.Text) w sum a b ra rb (λ x v y f g. and_text_runs t x v y i f g)

  -- operators but for `&&` and `||` always take both
  takes_both : (o : Op) (a b : Run Shared Value) → (IsLogic o → ⊥) → binary (operator_of o) a b ≡ both (applied (operator_of o)) a b
  takes_both ops.Or a b n = absurd (n tt)
  takes_both ops.And a b n = absurd (n tt)
  takes_both _ a b n = refl

  -- a kind of operators that has neither `&&` nor `||`
  no_logic : (Is : Op → Type 0) → (Is ops.And → ⊥) → (Is ops.Or → ⊥) → (o : Op) → Is o → IsLogic o → ⊥
  no_logic Is a r ops.And i l = a i
  no_logic Is a r ops.Or i l = r i
  no_logic Is a r _ i l = l

  arithmetic_is_no_logic : (o : Op) → IsArithmetic o → IsLogic o → ⊥
  arithmetic_is_no_logic = no_logic IsArithmetic (λ i. i) (λ i. i)

  order_is_no_logic : (o : Op) → IsOrder o → IsLogic o → ⊥
  order_is_no_logic = no_logic IsOrder (λ i. i) (λ i. i)

  equality_is_no_logic : (o : Op) → IsEquality o → IsLogic o → ⊥
  equality_is_no_logic = no_logic IsEquality (λ i. i) (λ i. i)

  pub arithmetic_of : (o : Op) (w : World) (a b : Run Shared Value) → IsArithmetic o → Runs St (OfType types.Int) w a →
      Runs St (OfType types.Int) w b → Runs St (OfType types.Int) w (binary (operator_of o) a b)
  arithmetic_of o w a b i ra rb = subst (Runs St (OfType types.Int) w) (sym (takes_both o a b (arithmetic_is_no_logic o i)))
      (both_runs types.Int types.Int (OfType types.Int) w _ a b ra rb (λ x v y f g. arithmetic_runs o x v y i f g))

  pub order_of : (o : Op) (w : World) (a b : Run Shared Value) → IsOrder o → Runs St (OfType types.Int) w a →
      Runs St (OfType types.Int) w b → Runs St (OfType types.Boolean) w (binary (operator_of o) a b)
  order_of o w a b i ra rb = subst (Runs St (OfType types.Boolean) w) (sym (takes_both o a b (order_is_no_logic o i)))
      (both_runs types.Int types.Int (OfType types.Boolean) w _ a b ra rb (λ x v y f g. order_runs o x v y i f g))

  pub same_of : (o : Op) (t : CoreType) (w : World) (a b : Run Shared Value) → IsEquality o → IsCompared t → Runs St (OfType t) w a →
      Runs St (OfType t) w b → Runs St (OfType types.Boolean) w (binary (operator_of o) a b)
  same_of o t w a b i c ra rb = subst (Runs St (OfType types.Boolean) w) (sym (takes_both o a b (equality_is_no_logic o i)))
      (both_runs t t (OfType types.Boolean) w _ a b ra rb (λ x v y f g. equality_runs o x v y i (same_runs t x v y c f g)))

  -- a variable and null
  pub is_null_of : (o : Op) (c : ℕ) (w : World) (a : Run Shared Value) → IsEquality o → Runs St (OfType (types.Object c)) w a →
      Runs St (OfType types.Boolean) w (binary (operator_of o) a (give values.Null))
  is_null_of o c w a i ra = subst (Runs St (OfType types.Boolean) w) (sym (takes_both o a (give values.Null) (equality_is_no_logic o i)))
      (runs_then St (OfType (types.Object c)) (OfType types.Boolean) w a _ ra
      (λ x v q f. equality_runs o x v values.Null i (null_runs c x v f)))

  pub null_is_of : (o : Op) (c : ℕ) (w : World) (a : Run Shared Value) → IsEquality o → Runs St (OfType (types.Object c)) w a →
      Runs St (OfType types.Boolean) w (binary (operator_of o) (give values.Null) a)
  null_is_of o c w a i ra = subst (Runs St (OfType types.Boolean) w) (sym (takes_both o (give values.Null) a (equality_is_no_logic o i)))
      (runs_then St (OfType (types.Object c)) (OfType types.Boolean) w a _ ra
      (λ x v q f. equality_runs o x values.Null v i (runs_null c x v f)))

  pub logic_of : (o : Op) (w : World) (a b : Run Shared Value) → IsLogic o → Runs St (OfType types.Boolean) w a →
      Runs St (OfType types.Boolean) w b → Runs St (OfType types.Boolean) w (binary (operator_of o) a b)
  logic_of ops.And w a b i ra rb = unless_runs true w a b ra rb
  logic_of ops.Or w a b i ra rb = unless_runs false w a b ra rb
  logic_of _ w a b i ra rb = absurd i
