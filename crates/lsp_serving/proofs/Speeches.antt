-- Frames of more messages.
use Rattle.std.proofs.Common.{◌≡◌, ℕ, ◌+◌, ◌<◌, List, [], ◌∷◌, ◌++◌, length, take, get_or, sym, ap, ◌∙◌}
use Rattle.std.proofs.lemmas.List.{append-nil}
use Rattle.std.proofs.lemmas.List.{take_more}
use Rattle.std.proofs.lemmas.Grind.{flat_map-append}
use Rattle.lsp_messages.specs.declared.outgoing.Outgoing.{Outgoing}
use Rattle.lsp_serving.specs.Speaking.{frame_of, spoken}

pub one_more : (told : List Outgoing) (i : ℕ) (m d : Outgoing) (out new : List ℕ) → i < length told → m ≡ get_or told i d →
    out ≡ spoken (take i told) → new ≡ out ++ frame_of m → new ≡ spoken (take (i + 1) told)
one_more told i m d out new lt is before now =
    now ∙ (ap (λ (bs : List ℕ). bs ++ frame_of m) before
    ∙ (ap (λ (x : Outgoing). spoken (take i told) ++ frame_of x) is
    ∙ (ap (λ (bs : List ℕ). spoken (take i told) ++ bs) (sym (append-nil (frame_of (get_or told i d))))
    ∙ (sym (flat_map-append frame_of (take i told) (get_or told i d ∷ []))
    ∙ ap spoken (sym (take_more told i d lt))))))
