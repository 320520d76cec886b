-- What is said over a call is what `show` puts of it.
use Rattle.std.specs.Prelude.{◌≡◌, Bool, List, ◌++◌, IsSome, codes, slice_get}
use Rattle.mg_text.specs.Call.{Name}
use Rattle.jv_core.specs.Tree.{Program}
use Rattle.use_rules.specs.Keys.{Tables}
use Rattle.use_sights.specs.declared.site.Site.{Site}
use Rattle.mg_refusal.specs.declared.refusal.Spot.TheVariants as spots
use Rattle.mg_delivery.specs.Lines.{spot_text}
use Rattle.mg_shown.specs.Shown.{site_line}
use Rattle.lsp_sights.specs.Texts.{hover_text}

-- the line of `show` behind its place is the first that is said
pub record IsSameLine (names : List Name) (p : Program) (reached : List (List Bool)) (t : Tables) (s : Site) : Type 0 where
  pub line : Name
  pub more : Name
  pub shown : site_line names p reached t s ≡ spot_text names (spots.Text s.place) ++ (codes ": " ++ line)
  pub said : hover_text p reached t s ≡ line ++ more

-- So it is under all tables, and at each call whose methods the program has.
abbrev pub HoverIsShown : Type 0
HoverIsShown = (names : List Name) (p : Program) (reached : List (List Bool)) (t : Tables) (s : Site) →
    IsSome (slice_get p.methods s.within) → IsSome (slice_get p.methods s.method) → IsSameLine names p reached t s
