use Rattle.std.proofs.Common.{ℕ, Option, Some, None, ap, sym, ◌∙◌}
use Rattle.std.specs.Map.{update}
use Rattle.std.specs.HashMap.{get_by_text}
use Rattle.std.specs.String.{string_bytes}
use Rattle.std.specs.Str.{bytes_eq}
use Rattle.std.proofs.lemmas.Map.Text.{hash_map_updates_text}
use Rattle.mg_text.specs.Call.{Name}
use Rattle.fit_judge.proofs.code.write_making.Goals as goal

pub returns-in_default : goal.returns-in_default
returns-in_default c = λ q.
    hash_map_updates_text c.as_str.result.now c.args.makes.now c.remove.new.self None c.remove.ensures.updates q
    ∙ ap (λ (z : Name). update bytes_eq (get_by_text c.args.makes.now) z None q) c.as_str.ensures.value
    ∙ ap (λ (o : Option ℕ). update bytes_eq (get_by_text c.args.makes.now) (string_bytes c.args.class) o q) (sym c.in_default.is)

pub returns : goal.returns
returns c = λ q.
    hash_map_updates_text (string_bytes c.args.class) c.args.makes.now c.insert.new.self (Some c.in-Some.number) c.in_ok-insert.ensures.updates q
    ∙ ap (λ (o : Option ℕ). update bytes_eq (get_by_text c.args.makes.now) (string_bytes c.args.class) o q) (sym c.in-Some.is)
