-- The search for the arrow of a call.
use Rattle.std.specs.Prelude.{◌≡◌, ℕ, List, [], ◌∷◌, Bool, true, false, ◌&&◌, Option, Some, None, if◌then◌else◌, ◌-◌}
use Rattle.std.specs.Str.{bytes_eq}
use Rattle.mg_text.specs.Call.{Name, Call}
use Rattle.scr_tree.specs.CallNames.{message_call, label_call}
use Rattle.scr_tree.specs.Meaning.{message_of}
use Rattle.scr_trace.specs.declared.arrow.Arrow.{Arrow}
use Rattle.scr_trace.specs.declared.arrow.Hop.{Hop}
use Rattle.scr_trace.specs.inner.Goes.{Among}
use Rattle.scr_trace.specs.inner.Laying.{Work}

-- where the first arrow leads that passes a test
abbrev pub first_led : (Arrow → Bool) → List Arrow → Option Hop
first_led test [] = None
first_led test (a ∷ more) = if test a then Some a.to else first_led test more

-- whether an arrow is of the message of this method
abbrev pub is_said : Name → Arrow → Bool
is_said method a = bytes_eq method (message_call (message_of a.message.now))

-- whether it is of the look of this method that answers so
abbrev pub is_looked : Name → ℕ → Name → Name → Arrow → Bool
is_looked me number method label a = bytes_eq a.message.now.label label && bytes_eq method (label_call me number a.message.now.peer)

-- whether it is that of a call of this method that answers so, in a state with this number
abbrev pub is_called : Name → Work → Option ℕ → Name → Option Name → Arrow → Bool
is_called me w None method None a = is_said method a
is_called me w None method (Some label) a = false
is_called me w (Some c) method None a = false
is_called me w (Some c) method (Some label) a = is_looked me (w.choices - c) method label a

-- where a call of this method leads that answers so, from a state with this number
abbrev pub led_if : Name → Work → Option ℕ → List Arrow → Name → Option Name → Option Hop
led_if me w None arrows method None = first_led (is_said method) arrows
led_if me w None arrows method (Some label) = None
led_if me w (Some c) arrows method None = None
led_if me w (Some c) arrows method (Some label) = first_led (is_looked me (w.choices - c) method label) arrows

-- one of the arrows of a state with this number is that of a call, and leads there
pub record HasArrow (me : Name) (w : Work) (number : Option ℕ) (arrows : List Arrow) (call : Call) (hop : Hop) : Type 0 where
  pub arrow : Arrow
  pub among : Among arrows arrow
  pub called : is_called me w number call.method call.answer arrow ≡ true
  pub leads : arrow.to ≡ hop
