-- The diagnostics of all files.
use Rattle.std.proofs.Common.{◌≡◌, ℕ, suc, ◌+◌, ◌<◌, ◌≤◌, List, [], ◌∷◌, ◌++◌, length, take, get_or, sym, ap, ◌∙◌, arith, subst}
use Rattle.std.proofs.Common.{length-take-le}
use Rattle.std.proofs.lemmas.List.{take_more, take_all}
use Rattle.std.specs.declared.vec.Vec.{Vec}
use Rattle.std.specs.declared.alloc.Global.{Global}
use Rattle.mg_refusal.specs.Refusals.{Refusal}
use Rattle.lsp_text.specs.declared.encoding.Encoding.{Encoding}
use Rattle.lsp_messages.specs.declared.outgoing.Diagnostic.{Diagnostic}
use Rattle.lsp_notes.specs.Homes.{told_in}
use Rattle.lsp_notes.specs.Told.{text_of, AreDiagnostics, AreToldFrom}

module _ (encoding : Encoding) (count : ℕ) (rs : List Refusal) where
  -- one file more
  told_push : (file : ℕ) (contents : List (List ℕ)) (lists : List (Vec Diagnostic Global)) (bytes : List ℕ) (ds : Vec Diagnostic Global) →
      AreToldFrom encoding count file rs contents lists →
      AreDiagnostics encoding count (text_of bytes) (told_in count (file + length contents) rs) ds.items →
      AreToldFrom encoding count file rs (contents ++ bytes ∷ []) (lists ++ ds ∷ [])
  told_push file [] [] bytes ds h d = (
    subst (λ (n : ℕ). AreDiagnostics encoding count (text_of bytes) (told_in count n rs) ds.items)
        (let same : file + 0 ≡ file = omega arith in same) d,
    tt,
  )
  told_push file [] (l ∷ lists) bytes ds h d = absurd h
  told_push file (c ∷ contents) [] bytes ds h d = absurd h
  told_push file (c ∷ contents) (l ∷ lists) bytes ds h d = (
    h.0,
    told_push (suc file) contents lists bytes ds h.1
        (subst (λ (n : ℕ). AreDiagnostics encoding count (text_of bytes) (told_in count n rs) ds.items)
        (let same : file + suc (length contents) ≡ suc file + length contents = omega arith in same) d),
  )

  -- the next file
  pub told_next : (contents : List (List ℕ)) (lists more : List (Vec Diagnostic Global)) (i : ℕ) (bytes b2 : List ℕ) (group : List Refusal)
      (ds : Vec Diagnostic Global) → i < length contents → bytes ≡ get_or contents i bytes → b2 ≡ bytes → group ≡ told_in count i rs →
      AreToldFrom encoding count 0 rs (take i contents) lists → AreDiagnostics encoding count (text_of b2) group ds.items →
      more ≡ lists ++ ds ∷ [] → AreToldFrom encoding count 0 rs (take (i + 1) contents) more
  told_next contents lists more i bytes b2 group ds lt at same is h d e =
      let long : i ≡ 0 + length (take i contents) = sym (length-take-le i contents (omega (arith, lt))) ∙ (omega arith) in
      let here = subst (λ (n : ℕ). AreDiagnostics encoding count (text_of bytes) (told_in count n rs) ds.items) long
      (subst (λ (g : List Refusal). AreDiagnostics encoding count (text_of bytes) g ds.items) is
      (subst (λ (bs : List ℕ). AreDiagnostics encoding count (text_of bs) group ds.items) same d)) in
      subst (AreToldFrom encoding count 0 rs (take (i + 1) contents)) (sym e)
      (subst (λ (cs : List (List ℕ)). AreToldFrom encoding count 0 rs cs (lists ++ ds ∷ []))
      (sym (take_more contents i bytes lt ∙ ap (λ (x : List ℕ). take i contents ++ x ∷ []) (sym at)))
      (told_push 0 (take i contents) lists bytes ds h here))

  -- all files
  pub told_all : (contents : List (List ℕ)) (lists : List (Vec Diagnostic Global)) (i : ℕ) → length contents ≤ i →
      AreToldFrom encoding count 0 rs (take i contents) lists → AreToldFrom encoding count 0 rs contents lists
  told_all contents lists i past h =
      subst (λ (cs : List (List ℕ)). AreToldFrom encoding count 0 rs cs lists) (take_all i contents past) h
