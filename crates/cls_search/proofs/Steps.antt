-- Steps of the search, one after another.
use Rattle.std.proofs.Common.{◌≡◌, ℕ, ◌<◌, List, length, refl, ap, ◌∙◌, arith}
use Rattle.mg_text.specs.Call.{Name}
use Rattle.cls_verify.specs.Kinds as model
use Rattle.cls_verify.specs.Typing.{Kinds}
use Rattle.cls_kinds.specs.declared.kind.Kind.{Kind}
use Rattle.cls_kinds.specs.Stacks.{Grows}
use Rattle.cls_kinds.specs.Named.{kinds_of}
use Rattle.cls_kinds.proofs.Stacking.{grows_on, grows_none, grows_keeps}
use Rattle.cls_rows.proofs.Alike.{kinds_with}
use Rattle.cls_rows.specs.declared.frame.Frame.{Frame}
use Rattle.cls_rows.specs.Frames.{kinds_at}
use Rattle.cls_search.specs.declared.leading.Found.{Found}
use Rattle.cls_search.specs.Setting.{Setting}
use Rattle.cls_search.specs.Kept.{IsRight}
use Rattle.cls_search.specs.Going.{Goes, Leads}

-- what a frame says stays where lists are added
pub kinds_grown : (names : List Name) (rest : List model.Kind) (old new : List (List Kind)) (g : Frame) → Grows old new →
    g.operands < length old →
    kinds_at names rest new g ≡ kinds_at names rest old g
kinds_grown names rest old new g grows h =
    ap (λ ks. kinds_with (kinds_at names rest old g).locals (kinds_of names ks)) (grows_keeps old new g.operands grows h)

module _ (s : Setting) where
  -- nothing changes
  pub goes_nowhere : (f : Found) → IsRight s f → Goes s f f
  goes_nowhere f r = record {
    right = r;
    grows = grows_none f.stacks;
    keeps = λ k place l. l;
    same = λ place w. (refl, w);
    less = omega arith;
  }

  pub goes_on : (a b c : Found) → Goes s a b → Goes s b c → Goes s a c
  goes_on a b c f g = record {
    right = g.right;
    grows = grows_on a.stacks b.stacks c.stacks f.grows g.grows;
    keeps = λ k place l. g.keeps k place (f.keeps k place l);
    same = λ place w. let h = g.same place w in let i = f.same place h.1 in (h.0 ∙ i.0, i.1);
    less = (let x = f.less in let y = g.less in omega (arith, x, y));
  }

  pub leads_on : (a b c : Found) (k : Kinds) (place : ℕ) → Leads s a b k place → Goes s b c → Leads s a c k place
  leads_on a b c k place f g = record { goes = goes_on a b c f.goes g; leads = g.keeps k place f.leads }
