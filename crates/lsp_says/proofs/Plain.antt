-- No message has a float, and none nests deep.
use Rattle.std.proofs.Common.{◌≡◌, ℕ, ◌≤◌, ℤ, pos, negsuc, List, [], ◌∷◌, map, Bool, true, false, if◌then◌else◌, Option, Some, None, refl, ap, ◌∙◌, arith}
use Rattle.lsp_messages.specs.declared.id.Id.{Id}
use Rattle.lsp_messages.specs.declared.id.Id.TheVariants.{Number, Name}
use Rattle.lsp_messages.specs.declared.outgoing.Answer.{Answer}
use Rattle.lsp_messages.specs.declared.outgoing.Answer.TheVariants as answers
use Rattle.lsp_messages.specs.declared.outgoing.Diagnostic.{Diagnostic}
use Rattle.lsp_messages.specs.declared.outgoing.Item.{Item}
use Rattle.lsp_messages.specs.declared.outgoing.Symbol.{Symbol}
use Rattle.lsp_messages.specs.declared.outgoing.Outgoing.{Outgoing}
use Rattle.lsp_messages.specs.declared.outgoing.Outgoing.TheVariants.{Answered, Refused, Diagnosed}
use Rattle.serde_json.specs.Data.{Data, depth, items_depth}
use Rattle.serde_json.specs.Find.{is_float, of_integer}
use Rattle.serde_json.specs.Read.{read, max_depth}
use Rattle.serde_json.specs.View.{items_of}
use Rattle.serde_json.specs.Written.{has_float, items_have_float, compact_text}
use Rattle.lsp_says.specs.Objects.{object_of}
use Rattle.lsp_says.specs.Parts.{diagnostic_json, item_json, offered, marked, symbol_members, symbol_json, location_json, hint_json}
use Rattle.lsp_says.specs.Answers.{answer_json}
use Rattle.lsp_says.specs.Said.{id_json, refused_id, code_number, published, said}

-- Floats.

integer_plain : (z : ℤ) → is_float (of_integer z) ≡ false
integer_plain (pos n) = refl
integer_plain (negsuc n) = refl

id_plain : (id : Id) → has_float (id_json id) ≡ false
id_plain (Number z) = integer_plain z
id_plain (Name s) = refl

refused_plain : (id : Option Id) → has_float (refused_id id) ≡ false
refused_plain None = refl
refused_plain (Some id) = id_plain id

items_plain : {A : Type 0} (f : A → Data) → ((x : A) → has_float (f x) ≡ false) → (xs : List A) → items_have_float (items_of (map f xs)) ≡ false
items_plain f plain [] = refl
items_plain f plain (x ∷ xs) = rw (plain x) (items_plain f plain xs)

item_plain : (item : Item) → has_float (item_json item) ≡ false
item_plain item = by_case item.always
  where
    by_case : (always : Bool) → has_float (object_of (if always then offered item else marked item)) ≡ false
    by_case true = refl
    by_case false = refl

symbol_plain : (symbol : Symbol) → has_float (symbol_json symbol) ≡ false
symbol_plain symbol = by_case symbol.within
  where
    by_case : (within : Option (List ℕ)) → has_float (object_of (symbol_members symbol within)) ≡ false
    by_case None = refl
    by_case (Some name) = refl

answer_plain : (answer : Answer) → has_float (answer_json answer) ≡ false
answer_plain answers.Nothing = refl
answer_plain (answers.Capabilities encoding) = refl
answer_plain (answers.Hover text range) = refl
answer_plain (answers.Completion items) = items_plain item_json item_plain items.items
answer_plain (answers.Hints hints) = items_plain hint_json (λ x. refl) hints.items
answer_plain (answers.Definition locations) = items_plain location_json (λ x. refl) locations.items
answer_plain (answers.Symbols symbols) = items_plain symbol_json symbol_plain symbols.items
answer_plain (answers.Diagram text) = refl

published_plain : (document : List ℕ) (version : Option ℤ) (ds : List Diagnostic) → has_float (published document version ds) ≡ false
published_plain document None ds = rw (items_plain diagnostic_json (λ x. refl) ds) refl
published_plain document (Some version) ds = rw (items_plain diagnostic_json (λ x. refl) ds) (rw (integer_plain version) refl)

pub plain : (message : Outgoing) → has_float (said message) ≡ false
plain (Answered id answer) = rw (id_plain id) (rw (answer_plain answer) refl)
plain (Refused id code) = rw (integer_plain (code_number code)) (rw (refused_plain id) refl)
plain (Diagnosed document version diagnostics) = rw (published_plain document version diagnostics.items) refl

-- Depth.

items_shallow : {A : Type 0} (n : ℕ) (f : A → Data) → ((x : A) → depth (f x) ≤ n) → (xs : List A) → items_depth (items_of (map f xs)) ≤ n
items_shallow n f low [] = omega arith
items_shallow n f low (x ∷ xs) = omega (arith, low x, items_shallow n f low xs)

item_shallow : (item : Item) → depth (item_json item) ≤ 4
item_shallow item = by_case item.always
  where
    by_case : (always : Bool) → depth (object_of (if always then offered item else marked item)) ≤ 4
    by_case true = omega arith
    by_case false = omega arith

symbol_shallow : (symbol : Symbol) → depth (symbol_json symbol) ≤ 4
symbol_shallow symbol = by_case symbol.within
  where
    by_case : (within : Option (List ℕ)) → depth (object_of (symbol_members symbol within)) ≤ 4
    by_case None = omega arith
    by_case (Some name) = omega arith

answer_shallow : (answer : Answer) → depth (answer_json answer) ≤ 5
answer_shallow answers.Nothing = omega arith
answer_shallow (answers.Capabilities encoding) = omega arith
answer_shallow (answers.Hover text range) = omega arith
answer_shallow (answers.Completion items) = omega (arith, items_shallow 4 item_json item_shallow items.items)
answer_shallow (answers.Hints hints) = omega (arith, items_shallow 4 hint_json (λ x. omega arith) hints.items)
answer_shallow (answers.Definition locations) = omega (arith, items_shallow 4 location_json (λ x. omega arith) locations.items)
answer_shallow (answers.Symbols symbols) = omega (arith, items_shallow 4 symbol_json symbol_shallow symbols.items)
answer_shallow (answers.Diagram text) = omega arith

id_shallow : (id : Id) → depth (id_json id) ≤ 0
id_shallow (Number z) = omega arith
id_shallow (Name s) = omega arith

refused_shallow : (id : Option Id) → depth (refused_id id) ≤ 0
refused_shallow None = omega arith
refused_shallow (Some id) = id_shallow id

published_shallow : (document : List ℕ) (version : Option ℤ) (ds : List Diagnostic) → depth (published document version ds) ≤ 6
published_shallow document None ds = omega (arith, items_shallow 4 diagnostic_json (λ x. omega arith) ds)
published_shallow document (Some version) ds = omega (arith, items_shallow 4 diagnostic_json (λ x. omega arith) ds)

pub shallow : (message : Outgoing) → depth (said message) ≤ max_depth
shallow (Answered id answer) = omega (arith, id_shallow id, answer_shallow answer)
shallow (Refused id code) = omega (arith, refused_shallow id)
shallow (Diagnosed document version diagnostics) = omega (arith, published_shallow document version diagnostics.items)

-- What is written of a value that is a message.

pub written : (message : Outgoing) (d : Data) (t s : List ℕ) → d ≡ said message → (has_float d ≡ false → s ≡ compact_text d) → t ≡ s →
    t ≡ compact_text (said message)
written message d t s is text same = same ∙ text (ap has_float is ∙ plain message) ∙ ap compact_text is

pub read_again : (message : Outgoing) (d : Data) (t s : List ℕ) → d ≡ said message → (depth d ≤ max_depth → read s ≡ Some d) → t ≡ s →
    read t ≡ Some (said message)
read_again message d t s is reads same =
    let low : depth d ≤ max_depth = rw is (shallow message) in
    ap read same ∙ reads low ∙ ap Some is
