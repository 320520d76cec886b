-- The states of a statement alone, and behind it.
use Rattle.std.proofs.Common.{◌≡◌, ℕ, ◌+◌, ◌<◌, ◌≤◌, get_or, drop, length, Bool, false, if◌then◌else◌, List, refl, sym, ap, ◌∙◌}
use Rattle.std.specs.Str.{bytes_eq}
use Rattle.std.proofs.lemmas.List.{at_drop_more, at_drop_all}
use Rattle.std.proofs.lemmas.Grind.{common_steps}
use Rattle.mg_text.specs.Call.{Name}
use Rattle.mg_text.specs.Row.{Row}
use Rattle.scr_tree.specs.declared.syntax.Message.{Message}
use Rattle.scr_tree.specs.declared.syntax.Statement.{Statement}
use Rattle.scr_tree.specs.declared.syntax.Statement.TheVariants as kinds
use Rattle.scr_tree.specs.declared.written.WrittenPart.{WrittenPart as Part}
use Rattle.scr_tree.specs.Tree.{Statements, Nothing}
use Rattle.scr_tree.specs.View.{front, statements}
use Rattle.scr_tree.proofs.ViewLemmas.{front-Message, front-Choice, front-Rec, front-Continue, front-Do}
use Rattle.scr_judge.specs.inner.Counting.{counted, counted_in, counted_parts, up}
use Rattle.scr_tree.specs.View.{bodies}
use Rattle.scr_tree.proofs.Behind.{each_front, statements-step, statements-past, bodies-step, bodies-past}

module _ (me : Name) (first : Bool) (n : ℕ) where
  counted-front : (s : Statement) (rest : Statements) → counted me first n (front s rest) ≡ counted me false
      (counted me first n (front s Nothing)) rest
  counted-front s rest = each_front (λ f. counted me first n (f rest) ≡ counted me false (counted me first n (f Nothing)) rest) (λ m. refl)
      (λ p at bs. refl) (λ p name body. refl) (λ p name. refl) (λ p name. refl) s

  pub counted-step : (ss : List Statement) (i : ℕ) (x : Statement) → i < length ss → x ≡ get_or ss i x →
      counted me first n (statements (drop i ss)) ≡ counted me false (counted me first n (front x Nothing)) (statements (drop (i + 1) ss))
  counted-step ss i x within is = ap (counted me first n) (statements-step ss i x within is) ∙ counted-front x _

  pub counted-Choice : (p : _) (at : Name) (bs : Row (Row Statement)) → counted me first n (front (kinds.Choice p at bs) Nothing)
      ≡ counted_in me (bytes_eq at me) (up n) (bodies bs.items)
  counted-Choice p at bs = ap (λ f. counted me first n (f Nothing)) (front-Choice p at bs)

  pub counted-Rec : (p : _) (name : Name) (body : Row Statement) → counted me first n (front (kinds.Rec p name body) Nothing)
      ≡ counted me false n (statements body.items)
  counted-Rec p name body = ap (λ f. counted me first n (f Nothing)) (front-Rec p name body)

  pub counted-Message : (m : Message) → counted me first n (front (kinds.Message m) Nothing) ≡ (if first then n else up n)
  counted-Message m = ap (λ f. counted me first n (f Nothing)) (front-Message m)

pub ruleset alone = (common_steps, counted-Message, counted-Choice, counted-Rec, front-Continue, front-Do)

-- the protocol at an index, and those behind it
pub part-step : (n : ℕ) (ps : List Part) (i : ℕ) (x : Part) → i < length ps → x ≡ get_or ps i x →
    counted_parts n (drop i ps) ≡ counted_parts (counted x.me.name false n (statements x.body.items)) (drop (i + 1) ps)
part-step n ps i x within is =
    at_drop_more (counted_parts n) ps i x within ∙ ap (λ (y : Part). counted_parts (counted y.me.name false n (statements y.body.items))
    (drop (i + 1) ps)) (sym is)

pub part-past : (n : ℕ) (ps : List Part) (i : ℕ) → length ps ≤ i → counted_parts n (drop i ps) ≡ n
part-past n ps i h = at_drop_all (counted_parts n) ps i h

pub ruleset part_steps = (common_steps, part-step, part-past)

pub ruleset all_steps = (common_steps, counted-step, statements-past)

pub ruleset in_steps = (common_steps, bodies-step, bodies-past)
