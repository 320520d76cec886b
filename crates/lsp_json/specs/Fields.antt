-- What the parts of parameters are, as the protocol writes them.
use Rattle.std.specs.Prelude.{ℕ, List, Option, Some, None, codes, option_and_then}
use Rattle.lsp_text.specs.declared.positions.Position.{Position}
use Rattle.lsp_text.specs.declared.changes.Range.{Range}
use Rattle.lsp_messages.specs.declared.incoming.Point.{Point}
use Rattle.serde_json.specs.Data.{Data}
use Rattle.serde_json.specs.Find.{get, as_str, as_number, as_u64}

-- a text, and a number that isn't below 0, by their names
abbrev pub text_at : List ℕ → Data → Option (List ℕ)
text_at name d = option_and_then as_str (get name d)

abbrev pub count_at : List ℕ → Data → Option ℕ
count_at name d = option_and_then (λ e. option_and_then as_u64 (as_number e)) (get name d)

-- what two make, where both are there
abbrev pub both : {A B C : Type 0} → (A → B → C) → Option A → Option B → Option C
both f (Some a) (Some b) = Some (f a b)
both f (Some a) None = None
both f None b = None

abbrev pub position_of : Data → Option Position
position_of d =
    both (λ line character. record { line = line; character = character }) (count_at (codes "line") d) (count_at (codes "character") d)

abbrev pub position_at : List ℕ → Data → Option Position
position_at name d = option_and_then position_of (get name d)

abbrev pub range_of : Data → Option Range
range_of d = both (λ start «end». record { start = start; «end» = «end» }) (position_at (codes "start") d) (position_at (codes "end") d)

abbrev pub range_at : List ℕ → Data → Option Range
range_at name d = option_and_then range_of (get name d)

-- the name of the document that parameters are about
abbrev pub document_of : Data → Option (List ℕ)
document_of d = option_and_then (text_at (codes "uri")) (get (codes "textDocument") d)

abbrev pub point_of : Data → Option Point
point_of d =
    both (λ document position. record { document = document; position = position }) (document_of d) (position_at (codes "position") d)
