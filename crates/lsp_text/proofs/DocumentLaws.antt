-- Documents after a change of their map.
use Rattle.std.proofs.Common.{◌≡◌, ℕ, List, Bool, true, false, cond, refl, ap, ◌∙◌}
use Rattle.std.specs.Prelude.{Option}
use Rattle.std.specs.Option.{option_map}
use Rattle.std.specs.Str.{bytes_eq}
use Rattle.std.specs.Map.{update}
use Rattle.std.specs.BTreeMap.{get_by_text}
use Rattle.lsp_text.specs.declared.documents.Document.{Document}
use Rattle.lsp_text.specs.declared.documents.Documents.{Documents}
use Rattle.lsp_text.specs.Documents.{Standing, shown, document_at, Puts, KeepsOthers}

shown_cond : (b : Bool) (v u : Option Document) → option_map shown (cond b v u) ≡ cond b (option_map shown v) (option_map shown u)
shown_cond true v u = refl
shown_cond false v u = refl

-- what a look-up by bytes gives after a change at one name
pub put_at : (old new : Documents) (name : List ℕ) (w : Option Document) →
    ((q : List ℕ) → get_by_text new.by_name q ≡ update bytes_eq (get_by_text old.by_name) name w q) →
    Puts old new name (option_map shown w)
put_at old new name w h = λ q. ap (λ (z : Option Document). option_map shown z) (h q)
    ∙ shown_cond (bytes_eq name q) w (get_by_text old.by_name q)

-- other names keep what they had
pub others_stay : (old new : Documents) (name : List ℕ) (w : Option Standing) → Puts old new name w → KeepsOthers old new name
others_stay old new name w put = λ q other. put q ∙ ap (λ (b : Bool). cond b w (document_at old q)) other
