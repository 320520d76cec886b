use Rattle.std.proofs.Common.{◌≡◌, ℕ, List, ◌∷◌, [], ◌++◌, length, codes, decimal, Result, Ok, Err, OnOk, ap, ◌∙◌, append_assoc}
use Rattle.lsp_frames.specs.Frames.{written}
use Rattle.lsp_frames.proofs.writing.put_frame.Goals as goal

-- the head and then the body
joined : {A B : Type 0} (r : Result A B) (out head bytes between after body : List ℕ) →
    head ≡ codes "Content-Length: " ++ (decimal (length body) ++ (13 ∷ 10 ∷ 13 ∷ 10 ∷ [])) → bytes ≡ head → between ≡ out ++ bytes →
    OnOk r (after ≡ between ++ body) → OnOk r (after ≡ out ++ written body)
joined (Err e) out head bytes between after body is same first second = tt
joined (Ok x) out head bytes between after body is same first second =
    second ∙ ap (λ (zs : List ℕ). zs ++ body) (first ∙ ap (λ (zs : List ℕ). out ++ zs) (same ∙ is))
    ∙ append_assoc out (codes "Content-Length: " ++ (decimal (length body) ++ (13 ∷ 10 ∷ 13 ∷ 10 ∷ []))) body
    ∙ ap (λ (zs : List ℕ). out ++ (codes "Content-Length: " ++ zs)) (append_assoc (decimal (length body)) (13 ∷ 10 ∷ 13 ∷ 10 ∷ []) body)

pub returns : goal.returns
returns c =
    joined c.extend-2.result c.args.out.now _ c.as_bytes.result.now c.extend.new.self c.extend-2.new.self c.args.body.now c.in_ok-head.ensures.ok
    c.as_bytes.ensures.value c.in_ok-extend.ensures.ok c.extend-2.ensures.ok
