-- Bytes have one row, and it has one first fault or none.
use Rattle.std.proofs.Common.{◌≡◌, ℕ, ◌+◌, List, [], ◌∷◌, ◌++◌, refl, sym, ap, subst, ◌∙◌, Bool, true, Option, Some, None}
use Rattle.cls_tree.specs.Tree.{Instr}
use Rattle.cls_code.specs.declared.CodeFault.{CodeFault}
use Rattle.cls_code.specs.Code.{Decodes, Decoding, Instrs, Fault}
use Rattle.cls_code.proofs.Once.{decodes_once}
use Rattle.cls_layout.specs.declared.format.Part.{Part}
use Rattle.cls_layout.specs.declared.format.Part.TheVariants as parts
use Rattle.cls_layout.specs.declared.format.Field.{Field}
use Rattle.cls_layout.specs.declared.ClassFault.{ClassFault}
use Rattle.cls_layout.specs.declared.ClassFault.TheVariants as faults
use Rattle.cls_layout.specs.Parts.{size}
use Rattle.cls_layout.specs.Row.{Lays, complete, stopped, next, stops, entered, due_behind}
use Rattle.cls_layout.specs.Faults.{first_misnamed, JudgesText, spelled, unspelled, JudgesCode, faulty, misnamed, right, Judges}
use Rattle.cls_layout.specs.Faults.{JudgesField, cut, whole, First, clean, here, behind, moved, Fails, IsRight}

pub record SameRow (a b : List Field) (p q : List ℕ) : Type 0 where
  pub row : a ≡ b
  pub places : p ≡ q

pub one_row : (bytes places : List ℕ) (at : ℕ) (due : List Part) (a b : List Field) (p q : List ℕ) → Lays bytes places at due a p →
    Lays bytes places at due b q → SameRow a b p q
one_row bytes places at due a b p q complete complete = record { row = refl; places = refl }
one_row bytes places at (part ∷ due) (f ∷ []) [] p q (stopped e s) x = elim x [ ]
one_row bytes places at (part ∷ due) (f ∷ a) [] p q (next e s more) x = elim x [ ]
one_row bytes places at (part ∷ due) (f ∷ []) (g ∷ []) p q (stopped e s) (stopped d t) =
    record { row = ap (λ (x : Field). x ∷ []) (e ∙ sym d); places = refl }
one_row bytes places at (part ∷ due) (f ∷ []) (g ∷ b) p q (stopped e s) (next d t more) =
    let k : stops bytes places g ≡ true = subst (λ (x : Field). stops bytes places x ≡ true) (e ∙ sym d) s in absurd (cc)
one_row bytes places at (part ∷ due) (f ∷ a) (g ∷ []) p q (next e s more) (stopped d t) =
    let k : stops bytes places f ≡ true = subst (λ (x : Field). stops bytes places x ≡ true) (d ∙ sym e) t in absurd (cc)
one_row bytes places at (part ∷ due) (f ∷ a) (g ∷ b) p q (next e s more) (next d t rest) =
    let same : f ≡ g = e ∙ sym d in
    let r = one_row bytes (entered part at places) _ _ a b p q more
    (subst (λ (x : Field). Lays bytes (entered part at places) (at + size part) (due_behind bytes places x ++ due) b q) (sym same)
    rest) in
    record { row = subst (λ (x : Field). f ∷ a ≡ x ∷ b) same (ap (λ (x : List Field). f ∷ x) r.row); places = r.places }

one_text : (bytes : List ℕ) (at : ℕ) (r s : Option ClassFault) → JudgesText bytes at r → JudgesText bytes at s → r ≡ s
one_text bytes at r s (spelled t ok e) (spelled u ko d) = refl
one_text bytes at r s (spelled t ok e) (unspelled n) = absurd (n t ok e)
one_text bytes at r s (unspelled n) (spelled t ok e) = absurd (n t ok e)
one_text bytes at r s (unspelled n) (unspelled m) = refl

module _ (bad : ℕ → ℕ → Bool) (code : List ℕ) (at : ℕ) where
  same_fault : (f g : CodeFault) → Decodes code (Fault f) → Decodes code (Fault g) → f ≡ g
  same_fault f g a b = let k : ◌≡◌ {A = Decoding} (Fault f) (Fault g) = decodes_once code (Fault f) (Fault g) a b in cc

  same_instrs : (is js : List Instr) → Decodes code (Instrs is) → Decodes code (Instrs js) → is ≡ js
  same_instrs is js a b = let k : ◌≡◌ {A = Decoding} (Instrs is) (Instrs js) = decodes_once code (Instrs is) (Instrs js) a b in cc

  never : (f : CodeFault) (is : List Instr) → Decodes code (Fault f) → Decodes code (Instrs is) → ⊥
  never f is a b = let k : ◌≡◌ {A = Decoding} (Fault f) (Instrs is) = decodes_once code (Fault f) (Instrs is) a b in absurd (cc)

  one_code : (r s : Option ClassFault) → JudgesCode bad code at r → JudgesCode bad code at s → r ≡ s
  one_code r s (faulty {fault = f} a) (faulty {fault = g} b) = ap (λ (x : CodeFault). Some (faults.Code (moved at x))) (same_fault f g a b)
  one_code r s (faulty {fault = f} a) (misnamed {is = is} b e) = absurd (never f is a b)
  one_code r s (faulty {fault = f} a) (right {is = is} b e) = absurd (never f is a b)
  one_code r s (misnamed {is = is} a d) (faulty {fault = f} b) = absurd (never f is b a)
  one_code r s (misnamed {is = is} {place = p} a d) (misnamed {is = js} {place = q} b e) =
      let k : ◌≡◌ {A = Option ℕ} (Some p) (Some q) = sym d ∙ (ap (first_misnamed bad 0) (same_instrs is js a b) ∙ e) in
      let same : p ≡ q = cc in
      ap (λ (x : ℕ). Some (faults.BadIndex (at + x))) same
  one_code r s (misnamed {is = is} {place = p} a d) (right {is = js} b e) =
      let k : ◌≡◌ {A = Option ℕ} (Some p) None = sym d ∙ (ap (first_misnamed bad 0) (same_instrs is js a b) ∙ e) in absurd (cc)
  one_code r s (right {is = is} a d) (faulty {fault = f} b) = absurd (never f is b a)
  one_code r s (right {is = is} a d) (misnamed {is = js} {place = p} b e) =
      let k : ◌≡◌ {A = Option ℕ} None (Some p) = sym d ∙ (ap (first_misnamed bad 0) (same_instrs is js a b) ∙ e) in absurd (cc)
  one_code r s (right {is = is} a d) (right {is = js} b e) = refl

module _ (bytes places : List ℕ) where
  one_part : (later : List Field) (p : Part) (at n : ℕ) (rest : List ℕ) (r s : Option ClassFault) → Judges bytes places later p at n rest r
      → Judges bytes places later p at n rest s → r ≡ s
  one_part later (parts.Letters len) at n rest r s a b = one_text _ at r s a b
  one_part later (parts.Code len) at n rest r s a b = one_code _ _ at r s a b
  one_part later parts.End at n rest r s a b = a ∙ sym b
  one_part later p at n rest r s a b = a ∙ sym b

  one_field : (f : Field) (later : List Field) (r s : Option ClassFault) → JudgesField bytes places f later r →
      JudgesField bytes places f later s → r ≡ s
  one_field f later r s (cut e) (cut d) = refl
  one_field f later r s (cut e) (whole d j) = absurd (cc)
  one_field f later r s (whole e j) (cut d) = absurd (cc)
  one_field f later r s (whole e j) (whole d k) = one_part later f.part f.at _ _ r s j k

  pub one_first : (row : List Field) (r s : Option ClassFault) → First bytes places row r → First bytes places row s → r ≡ s
  one_first [] r s clean clean = refl
  one_first (f ∷ row) r s (here {fault = x} a) (here {fault = y} b) = one_field f row (Some x) (Some y) a b
  one_first (f ∷ row) r s (here {fault = x} a) (behind b more) = absurd (let k = one_field f row (Some x) None a b in cc)
  one_first (f ∷ row) r s (behind a more) (here {fault = x} b) = absurd (let k = one_field f row None (Some x) a b in cc)
  one_first (f ∷ row) r s (behind a more) (behind b rest) = one_first row r s more rest

pub one_fault : (bytes : List ℕ) (a b : ClassFault) → Fails bytes a → Fails bytes b → a ≡ b
one_fault bytes a b f g =
    let e = one_row bytes [] 0 _ f.row g.row f.places g.places f.lays g.lays in
    let h : First bytes f.places f.row (Some b) = subst (λ (p : List ℕ). First bytes p f.row (Some b)) (sym e.places)
    (subst (λ (r : List Field). First bytes g.places r (Some b)) (sym e.row) g.first) in
    let k : ◌≡◌ {A = Option ClassFault} (Some a) (Some b) = one_first bytes f.places f.row (Some a) (Some b) f.first h in
    cc

pub no_fault : (bytes : List ℕ) (b : ClassFault) → IsRight bytes → Fails bytes b → ⊥
no_fault bytes b f g =
    let e = one_row bytes [] 0 _ f.row g.row f.places g.places f.lays g.lays in
    let h : First bytes f.places f.row (Some b) = subst (λ (p : List ℕ). First bytes p f.row (Some b)) (sym e.places)
    (subst (λ (r : List Field). First bytes g.places r (Some b)) (sym e.row) g.first) in
    let k : ◌≡◌ {A = Option ClassFault} None (Some b) = one_first bytes f.places f.row None (Some b) f.first h in
    absurd (cc)
