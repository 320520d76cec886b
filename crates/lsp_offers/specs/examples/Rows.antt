-- Worked rows: where a method is being typed, the text with a call there, and what is offered.
use Rattle.std.specs.Prelude.{◌≡◌, true, false, List, [], ◌∷◌, Some, None, codes}
use Rattle.ts_tree.specs.declared.parts.To.TheVariants as tos
use Rattle.ts_tree.specs.declared.parts.TypeName.TheVariants as types
use Rattle.ts_tree.specs.Typestate.{One, Method, State}
use Rattle.lsp_offers.specs.declared.spots.Spot.{Spot}
use Rattle.lsp_offers.specs.declared.attempts.Attempt.{Attempt}
use Rattle.lsp_offers.specs.declared.attempts.Form.TheVariants as forms
use Rattle.lsp_offers.specs.Spots.{spot_at}
use Rattle.lsp_offers.specs.Repaired.{repaired}
use Rattle.lsp_offers.specs.Calls.{signature, plain_call}
use Rattle.lsp_offers.specs.Attempts.{standing, attempts}
use Rattle.lsp_offers.specs.Items.{item_of, items_of}

abbrev pub add : Method
add = record { result = types.Void; name = codes "add"; params = types.Int ∷ types.Text ∷ []; target = One (tos.State 1) }

abbrev pub total : Method
total = record { result = types.Int; name = codes "total"; params = []; target = One (tos.State 0) }

abbrev pub bye : Method
bye = record { result = types.Void; name = codes "bye"; params = []; target = One tos.End }

abbrev pub set : Method
set = record { result = types.Void; name = codes "set"; params = types.Named (codes "Level") ∷ []; target = One (tos.State 0) }

-- two states, of which both offer `bye`
abbrev pub states : List State
states =
    record { name = codes "A"; methods = add ∷ bye ∷ []; drops = false }
    ∷ record { name = codes "B"; methods = total ∷ bye ∷ []; drops = false } ∷ []

abbrev pub front : Spot
front = record { start = 0; dot = 1 }

abbrev pub statement : Attempt
statement = record { form = forms.Statement; call = codes "m()" }

abbrev pub value : Attempt
value = record { form = forms.Value; call = codes "m()" }

pub record Rows : Type 0 where
  pub dot : spot_at (codes "c.") 2 ≡ Some front
  pub word : spot_at (codes "{ c.se }") 6 ≡ Some (record { start = 2; dot = 3 })
  pub field : spot_at (codes "(this.c.") 8 ≡ Some (record { start = 1; dot = 7 })
  pub name : spot_at (codes "c") 1 ≡ None
  pub number : spot_at (codes "1.") 2 ≡ None
  pub bare : spot_at (codes ".se") 3 ≡ None
  pub behind : repaired (codes "c.se\n}") front 4 statement ≡ codes "c.m();\n}"
  pub whole : repaired (codes "c.se(f(1), 2); }") front 3 statement ≡ codes "c.m(); }"
  pub nested : repaired (codes "c.se() else") front 2 statement ≡ codes "c.m(); else"
  pub stands : repaired (codes "c.b(); }") front 3 standing ≡ codes "c.b(); }"
  pub condition : repaired (codes "c.se) {") front 4 value ≡ codes "c.m()) {"
  pub kept : repaired (codes "c.se(1); }") front 2 value ≡ codes "c.m(); }"
  pub signed : signature add ≡ codes "void add(int, String)"
  pub called : plain_call add ≡ codes "add(0, \"\")"
  pub plain : plain_call bye ≡ codes "bye()"
  -- `bye` answers as `add` does, which comes before it
  pub tried : attempts (record { name = codes "T"; states = states } ∷ [])
      ≡ standing
      ∷ record { form = forms.Statement; call = codes "add(0, \"\")" } ∷ record { form = forms.Value; call = codes "add(0, \"\")" }
      ∷ record { form = forms.Statement; call = codes "total()" } ∷ record { form = forms.Value; call = codes "total()" } ∷ []
  -- what takes an enum is tried where nothing else has its result
  pub named : attempts (record { name = codes "T"; states = record { name = codes "A"; methods = set ∷ bye ∷ []; drops = false } ∷ [] } ∷ [])
      ≡ standing
      ∷ record { form = forms.Statement; call = codes "bye()" } ∷ record { form = forms.Value; call = codes "bye()" } ∷ []
  pub one : items_of states (false ∷ false ∷ false ∷ true ∷ false ∷ []) ≡ item_of true add ∷ item_of true bye ∷ []
  pub both : items_of states (false ∷ false ∷ false ∷ true ∷ true ∷ [])
      ≡ item_of true bye ∷ item_of false add ∷ item_of false total ∷ []
  -- on what may be null, moved away or at its end no method may always be called
  pub null : items_of states (true ∷ false ∷ false ∷ true ∷ false ∷ []) ≡ item_of false add ∷ item_of false bye ∷ []
  pub moved : items_of states (false ∷ true ∷ false ∷ true ∷ false ∷ []) ≡ item_of false add ∷ item_of false bye ∷ []
  pub ended : items_of states (false ∷ false ∷ true ∷ false ∷ true ∷ []) ≡ item_of false total ∷ item_of false bye ∷ []
  pub nowhere : items_of states (true ∷ true ∷ true ∷ false ∷ false ∷ []) ≡ []
