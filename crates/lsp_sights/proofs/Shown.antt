-- What is said over a call begins with what `show` puts of it.
use Rattle.std.proofs.Common.{◌≡◌, Bool, List, [], ◌++◌, Option, Some, None, slice_get, sym, ap, ◌∙◌, append_assoc}
use Rattle.std.specs.Prelude.{IsSome, codes}
use Rattle.std.proofs.lemmas.Bool.{false≢true}
use Rattle.mg_text.specs.Call.{Name}
use Rattle.mg_sets.specs.Sets.{members}
use Rattle.jv_core.specs.Tree.{Method, Program}
use Rattle.jv_core.specs.Lookup.{text_at}
use Rattle.use_rules.specs.declared.key.Context.TheVariants as contexts
use Rattle.use_rules.specs.Keys.{Tables, typestate_of}
use Rattle.use_rules.specs.Flow.{variable_text}
use Rattle.use_sights.specs.declared.site.Site.{Site}
use Rattle.use_sights.specs.Sights.{before}
use Rattle.mg_refusal.specs.declared.refusal.Spot.TheVariants as spots
use Rattle.mg_delivery.specs.Lines.{spot_text}
use Rattle.mg_shown.specs.Shown.{call_line}
use Rattle.lsp_sights.specs.Texts.{path_text, steps_text, state_lines, hover_of}
use Rattle.lsp_sights.specs.Laws.{HoverIsShown}

module _ (names : List Name) (p : Program) (reached : List (List Bool)) (t : Tables) (s : Site) where
  abbrev shown_by : Option Method → Option Method → Name
  shown_by o c = elim o as (λ _. Name) [
    | None ↦ []
    | Some m ↦ elim c as (λ _. Name) [ None ↦ [] | Some k ↦ call_line names p reached t s m k ]
  ]

  abbrev said_by : Option Method → Option Method → Name
  said_by o c = elim o as (λ _. Name) [
    | None ↦ []
    | Some m ↦ elim c as (λ _. Name) [ None ↦ [] | Some k ↦ hover_of p s m k (before p reached t s.place) ]
  ]

  -- what is shown and said, where the methods are looked up so
  pub record AreSame (shown said : Name) : Type 0 where
    pub line : Name
    pub more : Name
    pub shown_is : shown ≡ spot_text names (spots.Text s.place) ++ (codes ": " ++ line)
    pub said_is : said ≡ line ++ more

  parted : (a b c : Name) → a ++ (codes "." ++ (b ++ c)) ≡ (a ++ (codes "." ++ b)) ++ c
  parted a b c = ap (λ r. a ++ r) (sym (append_assoc (codes ".") b c)) ∙ sym (append_assoc a (codes "." ++ b) c)

  go : (o c : Option Method) → IsSome o → IsSome c → AreSame (shown_by o c) (said_by o c)
  go None c so sc = absurd (false≢true so)
  go (Some m) None so sc = absurd (false≢true sc)
  go (Some m) (Some k) so sc =
      let b = before p reached t s.place in
      let lines = state_lines (typestate_of p k.class) (members b) in
      record {
        line = path_text p s m k ++ steps_text p k b;
        more = lines;
        shown_is = ap (λ r. spot_text names (spots.Text s.place) ++ (codes ": " ++ r))
            (parted (variable_text p [] (contexts.Plain s.within) m s.variable) (text_at p k.name) (steps_text p k b));
        said_is = sym (append_assoc (path_text p s m k) (steps_text p k b) lines);
      }

pub hover_shown : HoverIsShown
hover_shown names p reached t s so sc =
    let same = go names p reached t s (slice_get p.methods s.within) (slice_get p.methods s.method) so sc in
    record { line = same.line; more = same.more; shown = same.shown_is; said = same.said_is }
