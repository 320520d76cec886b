-- Switches, as the code follows them.
use Rattle.std.specs.Prelude.{ℕ, suc, true, List, [], ◌∷◌, Option, Some, None, slice_get, slice_set, slice_index_or, length, option_map}
use Rattle.std.specs.Prelude.{if◌then◌else◌}
use Rattle.mg_text.specs.Call.{Name}
use Rattle.jv_core.specs.declared.tree.CoreVar.{CoreVar}
use Rattle.jv_core.specs.Tree.{Expr, Protocol, Exprs, Groups, Method}
use Rattle.jv_core.specs.View.{OneGroup}
use Rattle.mg_sets.specs.Sets.{has}
use Rattle.jv_core.specs.declared.tree.Var.{Var}
use Rattle.jv_core.specs.declared.program.CoreType.{CoreType}
use Rattle.jv_core.specs.Lookup.{text_at}
use Rattle.use_flow.specs.declared.switches.Branches.{Branches}
use Rattle.use_flow.specs.declared.switches.Labels.{Labels}
use Rattle.use_flow.specs.declared.switches.Sprouts.{Sprouts}
use Rattle.use_rules.specs.Elements.{Set, union, image, along, targets, targets_by}
use Rattle.use_rules.specs.State.{Now, Log, Flow, BehindSwitch, joined, caught, passing}
use Rattle.use_rules.specs.Flow as rules
use Rattle.use_rules.specs.Flow.{placed, declared_here}
use Rattle.use_rules.specs.Keys.{typestate_of}
use Rattle.use_flow.specs.View.{tables_of}
use Rattle.use_flow.specs.inner.Followed.{Followed, eval, eval_all, variable_width}
use Rattle.use_flow.specs.inner.Simple.{exit, constants_of, type_dropped}
use Rattle.use_flow.specs.inner.Stepping.{steps}
use Rattle.use_flow.specs.inner.Values.{protocol_call, called, widths_of}

-- a call of a protocol method
pub record Called : Type 0 where
  pub receiver : CoreVar
  pub method : ℕ
  pub args : Exprs

abbrev pub call_in : Expr → Option Called
call_in (Protocol q x n args) = Some (record { receiver = x; method = n; args = args })
call_in _ = None

-- What is known where one variable has one of several sets.

abbrev pub spread : (variable : ℕ) → Now → List Set → List Now
spread x now [] = []
spread x now (s ∷ sets) = placed x s now ∷ spread x now sets

-- with this set, if any
abbrev pub with_any : (variable : ℕ) → Now → Option Set → Now
with_any x now None = None
with_any x now (Some s) = placed x s now

abbrev pub gathered : Option Set → Set → Set
gathered None s = s
gathered (Some t) s = union t s

-- what flows on with each constant, in order
abbrev pub branched : Branches → List Now
branched b = spread b.variable b.known b.sets.items

abbrev pub nows_of : Sprouts → List Now
nows_of s = branched s.branches

-- what flows on with the constants that have no case
abbrev pub rest_of : Sprouts → Now
rest_of s = with_any s.branches.variable s.branches.known s.rest

abbrev pub past_of : Sprouts → Now
past_of s = if s.has_default then None else rest_of s

-- which constants have a case, and whether there is a default
abbrev pub note_one : Option ℕ → Labels → Labels
note_one None l = record { cased = l.cased; has_default = true }
note_one (Some n) l = record { cased = slice_set l.cased n true; has_default = l.has_default }

abbrev pub noted : List (Option ℕ) → Labels → Labels
noted [] l = l
noted (o ∷ os) l = noted os (note_one o l)

-- what flows on with those from the n-th on that have no case
abbrev pub uncased_by : (cased : Set) → (n : ℕ) → List Now → Now
uncased_by cased n [] = None
uncased_by cased n (now ∷ nows) = if has cased n then uncased_by cased (suc n) nows else joined now (uncased_by cased (suc n) nows)

abbrev pub label_now : (rest : Now) → List Now → Option ℕ → Now
label_now rest nows None = rest
label_now rest nows (Some n) = elim (slice_get nows n) [ None ↦ None | Some now ↦ now ]

-- how many variables are known
abbrev pub variables : Now → ℕ
variables None = 0
variables (Some sets) = length sets

abbrev pub known_set : Now → (variable : ℕ) → Set
known_set None x = []
known_set (Some sets) x = slice_index_or sets x []

abbrev pub uncased : Followed → List (Option ℕ) → (n : ℕ) → List Now → Now
uncased s = rules.uncased s.program s.contexts s.context s.method

abbrev pub entry_of : Followed → (rest : Now) → List Now → List (Option ℕ) → Now
entry_of s = rules.entry_of s.program s.contexts s.context s.method

abbrev pub by_constants : Followed → (Name → Now) → List ℕ → List Now
by_constants s = rules.by_constants s.program s.contexts s.context s.method

abbrev pub switched : Followed → Expr → Now → Log → rules.Evaluated × (List Now)
switched s = rules.switched s.program s.contexts s.context s.method (tables_of s.held)

abbrev pub follow : Followed → (scope : List ℕ) → (rest : Now) → List Now → Groups → (before : Now) → Log → Flow
follow s = rules.follow s.program s.contexts s.context s.method (tables_of s.held)

-- what flows on past a call with a label
abbrev pub led_by : Followed → CoreVar → (method : ℕ) → Method → List Set → Now → Log → Name → Now
led_by s x n k ss now log label = rules.after (protocol_call s (targets_by label) x n k ss now log)

abbrev pub type_called : Followed → (method : ℕ) → Option CoreType
type_called s n = option_map (λ (m : Method). m.result) (slice_get s.program.methods n)

-- where a call leads with a label, from what the variable has
abbrev pub led_set : Followed → Var → Method → Set → Name → Set
led_set s x k set label = image (variable_width s x) (along (targets_by label) (typestate_of s.program k.class) (text_at s.program k.name))
    set

abbrev pub called_switch : Followed → Called → List Set → Log → rules.Evaluated × (List Now)
called_switch s c sets log =
    let a = eval_all s (widths_of s c.method) c.args (Some sets) log in (
      called s c.method (protocol_call s targets c.receiver c.method) a,
      by_constants s (λ label. rules.after (called s c.method (protocol_call s (targets_by label) c.receiver c.method) a))
          (constants_of s (type_called s c.method)),
    )

abbrev pub plain_switch : Followed → Expr → List Set → Log → rules.Evaluated × (List Now)
plain_switch s e sets log = let v = eval s 0 e (Some sets) log in
    (v, by_constants s (λ label. rules.after v) (constants_of s (type_dropped s e)))

abbrev pub past : Followed → Groups → List Now → Now
past s = rules.past s.program s.contexts s.context s.method

-- the groups, with what flows past them and out of them
abbrev pub switch_flow : Followed → (scope : List ℕ) → (rest past : Now) → List Now → Groups → Log → Flow
switch_flow s sc rest past nows groups log =
    let f = follow s sc rest nows groups None log in
    rules.flow (joined (joined f.now past) (caught BehindSwitch f.jumps)) (passing BehindSwitch f.jumps) f.log

abbrev pub group_flow : Followed → (scope outer : List ℕ) → (rest : Now) → List Now → OneGroup → (before : Now) → Log → Flow
group_flow s sc out rest nows g before log =
    exit s g.end (declared_here g.body) (steps s sc out g.body (joined (entry_of s rest nows g.labels) before) log)
