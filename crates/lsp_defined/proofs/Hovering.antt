-- What is shown over a file, put together.
use Rattle.std.proofs.Common.{◌≡◌, ℕ, List, Some, None, Option, option_map, sym, ap, ◌∙◌, subst}
use Rattle.ts_tree.specs.Typestate.{Typestate}
use Rattle.ts_parse.specs.declared.written.WrittenTypestate.{WrittenTypestate}
use Rattle.ts_parse.specs.Written.{WFile, wfile_of}
use Rattle.ts_read.specs.Outcome.{Spells, Outcome}
use Rattle.ts_read.specs.Outcome as typestates
use Rattle.mg_sources.specs.Files.{Source, source_of}
use Rattle.mg_sources.specs.Parts.{part_of}
use Rattle.mg_sources.specs.declared.part.Part.{Part as KeptPart}
use Rattle.mg_sources.specs.Reading.{States, Reads}
use Rattle.mg_sources.specs.Reading as reading
use Rattle.lsp_text.specs.declared.encoding.Encoding.{Encoding}
use Rattle.lsp_text.specs.declared.positions.Position.{Position}
use Rattle.lsp_messages.specs.declared.outgoing.Answer.{Answer}
use Rattle.lsp_messages.specs.declared.outgoing.Answer.TheVariants as answers
use Rattle.lsp_defined.specs.declared.spots.Spot.{Spot}
use Rattle.lsp_defined.specs.Files.{IsPartOf, reads}
use Rattle.lsp_defined.specs.Spots.{method_spots}
use Rattle.lsp_defined.specs.Shown.{IsSaidAt}
use Rattle.lsp_defined.specs.Hovers.{IsOfStates, IsHoverOf, IsSpelledHover}

-- what is written in a typestate file that its reader lets pass
outcome_written : (file : ℕ) (bytes : List ℕ) (t : Typestate) → Outcome file bytes (typestates.Read t) → (w : WFile) × Spells file bytes w
outcome_written file bytes t (typestates.read {w} spells few faultless) = (w, spells)

reads_written : (source : Source) (t : Typestate) → Reads source (States t) → (w : WFile) × Spells source.number source.bytes w
reads_written source t (reading.states kind outcome) = outcome_written source.number source.bytes t outcome

pub part_written : (source : Source) (t : Typestate) → IsPartOf source (Some (States t)) → (w : WFile) × Spells source.number source.bytes w
part_written source t (reads h) = reads_written source t h

-- what is written is found
pub none_written : (w : WFile) (o : Option WrittenTypestate) → o ≡ None → option_map wfile_of o ≡ Some w → ⊥
none_written w o is same =
    let f : None ≡ Some w = ap (λ (x : Option WrittenTypestate). option_map wfile_of x) (sym is) ∙ same in
    cc

module _ (encoding : Encoding) (at : Position) where
  -- the same by equal things
  pub said_by : (text : List ℕ) (t u : Typestate) (spots slice : List Spot) (a : Answer) → t ≡ u → slice ≡ spots →
      IsSaidAt encoding text at t slice a → IsSaidAt encoding text at u spots a
  said_by text t u spots slice a e s h =
      subst (λ (x : Typestate). IsSaidAt encoding text at x spots a) e
      (subst (λ (ss : List Spot). IsSaidAt encoding text at t ss a) s h)

  pub states_by : (file : ℕ) (text : List ℕ) (t : Typestate) (w : WFile) (o : Option WrittenTypestate) (v : WrittenTypestate)
      (spots slice : List Spot) (a : Answer) → Spells file text w → o ≡ Some v → option_map wfile_of o ≡ Some w →
      spots ≡ method_spots (wfile_of v) → slice ≡ spots → IsSaidAt encoding text at t slice a → IsOfStates encoding file text t at a
  states_by file text t w o v spots slice a spells is same are all h =
      let f : Some (wfile_of v) ≡ Some w = ap (λ (x : Option WrittenTypestate). option_map wfile_of x) (sym is) ∙ same in
      let e : wfile_of v ≡ w = cc in
      record {
        written = w;
        spells = spells;
        says = said_by text t t (method_spots w) slice a (λ i. t) (all ∙ are ∙ ap method_spots e) h;
      }

  -- what a file spells, under the names of the code
  pub spelled_by : (number : ℕ) (name bytes text : List ℕ) (o : Option KeptPart) (p : KeptPart) → text ≡ bytes → o ≡ Some p →
      IsPartOf (source_of number name bytes) (option_map part_of o) → IsPartOf (source_of number name text) (Some (part_of p))
  spelled_by number name bytes text o p e is h =
      subst (λ (bs : List ℕ). IsPartOf (source_of number name bs) (Some (part_of p))) (sym e)
      (subst (λ (x : Option KeptPart). IsPartOf (source_of number name bytes) (option_map part_of x)) is h)

  pub part_by : (number : ℕ) (name bytes text : List ℕ) (o : Option KeptPart) (p : KeptPart) (a : Answer) → text ≡ bytes → o ≡ Some p →
      IsPartOf (source_of number name bytes) (option_map part_of o) → IsHoverOf encoding number text (Some (part_of p)) at a →
      IsSpelledHover encoding (source_of number name bytes) at a
  part_by number name bytes text o p a e is h says = record {
    part = Some (part_of p);
    spells = subst (λ (x : Option KeptPart). IsPartOf (source_of number name bytes) (option_map part_of x)) is h;
    says = subst (λ (bs : List ℕ). IsHoverOf encoding number bs (Some (part_of p)) at a) e says;
  }

  pub none_by : (source : Source) (o : Option KeptPart) → o ≡ None → IsPartOf source (option_map part_of o) →
      IsSpelledHover encoding source at answers.Nothing
  none_by source o is h = record {
    part = None;
    spells = subst (λ (x : Option KeptPart). IsPartOf source (option_map part_of x)) is h;
    says = λ i. answers.Nothing;
  }
